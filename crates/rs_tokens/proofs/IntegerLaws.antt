-- Integers: their values, and the longest at the front of a text.
use Rattle.std.proofs.Common.{◌≡◌, ◌≢◌, ℕ, zero, suc, ◌+◌, ◌-◌, ◌*◌, ◌<◌, ◌≤◌, Bool, true, false, ◌&&◌, ◌||◌, ◌==◌, not, cond, List, [], ◌∷◌, ◌++◌, length, take, drop, get_or, map, min, Some, None, refl, sym, ap, subst, ◌∙◌, append_assoc, arith, inl, inr, ◌⊎◌}
use Rattle.std.specs.Prelude.{filter, nat_lt}
use Rattle.std.specs.Char.{digit_value}
use Rattle.std.specs.List.{list_all, list_any, prefix_len}
use Rattle.std.proofs.lemmas.Bool.Decides.{eqb_tells, nat_tests}
use Rattle.std.specs.Str.{bytes_eq}
use Rattle.std.proofs.lemmas.Slice.Eq.{bytes_eq-Decides}
use Rattle.std.proofs.Math.Seq.{take-add, drop-append_seam}
use Rattle.std.specs.Int.Digits.{number_from_digits}
use Rattle.std.specs.Str.Parse.{digits_value}
use Rattle.std.proofs.lemmas.Bool.{false≢true, cases_lt, eqb-true, ltb-true, lt-ltb, le-ltb}
use Rattle.std.proofs.lemmas.List.{length-append, take-append-drop, map-append, append-nil, length-drop}
use Rattle.std.proofs.lemmas.List.Elements.{filter-append, filter_more}
use Rattle.std.proofs.lemmas.Int.Digits.{digits_value_is, digits_value_push, number_after_append, number_after_ge}
use Rattle.std.proofs.lemmas.List.Sums.{prefix_len-le-length}
use Rattle.rs_tokens.specs.Tokens.{is_digit, continues_digits, base_named, base_of, base_at, after_base, suffixes, is_suffix, IsInteger, HasLongest}
use Rattle.rs_tokens.proofs.ListLaws.{eqb_unlike, same_head, same_tail, same_second, no_cons, rest_of, and_true, or_true, run_at_least, run_passes}

-- ---- values

abbrev pub is_no_low : ℕ → Bool
is_no_low b = not (b == 95)

-- more digits stand for no smaller number
value_front : (base : ℕ) (xs ys : List ℕ) → 0 < base → digits_value base xs ≤ digits_value base (xs ++ ys)
value_front base xs ys some =
    let a = digits_value_is base xs in
    let b = digits_value_is base (xs ++ ys) in
    let m : number_from_digits base (map digit_value (xs ++ ys)) ≡ number_from_digits base (map digit_value xs ++ map digit_value ys) = ap (number_from_digits base) (map-append digit_value xs ys) in
    omega (arith, a, b, m, number_after_append base 0 (map digit_value xs) (map digit_value ys), number_after_ge base (number_from_digits base (map digit_value xs)) (map digit_value ys) some)

pub value_take_le : (base : ℕ) (ds : List ℕ) (k : ℕ) → 0 < base → digits_value base (filter is_no_low (take k ds)) ≤ digits_value base (filter is_no_low ds)
value_take_le base ds k some =
    let e : filter is_no_low ds ≡ filter is_no_low (take k ds) ++ filter is_no_low (drop k ds) =
    ap (filter is_no_low) (sym (take-append-drop k ds)) ∙ filter-append is_no_low (take k ds) (drop k ds) in
    omega (arith, ap (digits_value base) e, value_front base (filter is_no_low (take k ds)) (filter is_no_low (drop k ds)) some)

-- one digit more
pub value_digit : (base : ℕ) (ds : List ℕ) (k b : ℕ) → k < length ds → b ≡ get_or ds k 0 → is_no_low b ≡ true
    → digits_value base (filter is_no_low (take (k + 1) ds)) ≡ digits_value base (filter is_no_low (take k ds)) * base + digit_value b
value_digit base ds k b within is passes =
    let step : filter is_no_low (take (k + 1) ds) ≡ filter is_no_low (take k ds) ++ b ∷ [] =
    filter_more is_no_low ds k 0 within ∙ ap (λ (x : ℕ). filter is_no_low (take k ds) ++ cond (is_no_low x) (x ∷ []) []) (sym is) ∙ ap (λ (q : Bool). filter is_no_low (take k ds) ++ cond q (b ∷ []) []) passes in
    ap (digits_value base) step ∙ digits_value_push base (filter is_no_low (take k ds)) b

-- one `_` more
pub value_low : (base : ℕ) (ds : List ℕ) (k b : ℕ) → k < length ds → b ≡ get_or ds k 0 → is_no_low b ≡ false
    → digits_value base (filter is_no_low (take (k + 1) ds)) ≡ digits_value base (filter is_no_low (take k ds))
value_low base ds k b within is fails =
    let step : filter is_no_low (take (k + 1) ds) ≡ filter is_no_low (take k ds) ++ [] =
    filter_more is_no_low ds k 0 within ∙ ap (λ (x : ℕ). filter is_no_low (take k ds) ++ cond (is_no_low x) (x ∷ []) []) (sym is) ∙ ap (λ (q : Bool). filter is_no_low (take k ds) ++ cond q (b ∷ []) []) fails in
    ap (digits_value base) (step ∙ append-nil (filter is_no_low (take k ds)))

-- ---- past the largest

none_past : {A : Type 0} (q : Bool) (x : A) → cond q None (Some x) ≡ None → q ≡ true
none_past true x e = refl
none_past false x e = absurd cc

some_within : {A : Type 0} (q : Bool) (x y : A) → cond q None (Some x) ≡ Some y → (q ≡ false) × (x ≡ y)
some_within true x y e = absurd cc
some_within false x y e = (refl, cc)

ltb_false : (a b : ℕ) → nat_lt a b ≡ false → b ≤ a
ltb_false a b h = elim (cases_lt a b) [ inl lt ↦ absurd (false≢true (sym h ∙ lt-ltb a b lt)) | inr ge ↦ ge ]

module _ (base bound : ℕ) (ds : List ℕ) (k value d : ℕ) (some : 0 < base) (within : k < length ds)
    (so_far : value ≡ digits_value base (filter is_no_low (take k ds))) (digit : d ≡ digit_value (get_or ds k 0)) where
  value_next : get_or ds k 0 ≢ 95 → digits_value base (filter is_no_low (take (k + 1) ds)) ≡ value * base + d
  value_next other =
      let e : is_no_low (get_or ds k 0) ≡ true = ap not (eqb_unlike (get_or ds k 0) 95 other) in
      value_digit base ds k (get_or ds k 0) within refl e ∙ ap (λ (v : ℕ). v * base + digit_value (get_or ds k 0)) (sym so_far) ∙ ap (λ (v : ℕ). value * base + v) (sym digit)

  pub past : get_or ds k 0 ≢ 95 → cond (nat_lt bound (value * base + d)) None (Some (value * base + d)) ≡ None
      → true ≡ nat_lt bound (digits_value base (filter is_no_low ds))
  past other none =
      let lt = ltb-true bound (value * base + d) (none_past (nat_lt bound (value * base + d)) (value * base + d) none) in
      sym (lt-ltb bound (digits_value base (filter is_no_low ds)) (omega (arith, lt, value_next other, value_take_le base ds (k + 1) some)))

  pub next_digit : (next : ℕ) → get_or ds k 0 ≢ 95 → cond (nat_lt bound (value * base + d)) None (Some (value * base + d)) ≡ Some next
      → (next ≡ digits_value base (filter is_no_low (take (k + 1) ds))) × (next ≤ bound)
  next_digit next other found =
      let parts = some_within (nat_lt bound (value * base + d)) (value * base + d) next found in
      (omega (arith, parts.1, value_next other), omega (arith, ltb_false bound (value * base + d) parts.0, parts.1))

module _ (base : ℕ) (ds : List ℕ) (k value : ℕ) (within : k < length ds) (so_far : value ≡ digits_value base (filter is_no_low (take k ds))) where
  pub next_low : get_or ds k 0 ≡ 95 → value ≡ digits_value base (filter is_no_low (take (k + 1) ds))
  next_low low = so_far ∙ sym (value_low base ds k (get_or ds k 0) within refl (ap is_no_low low))

-- ---- the longest integer

-- a suffix begins with `i` or `u`
begins_suffix : List ℕ → Bool
begins_suffix [] = true
begins_suffix (b ∷ rest) = (b == 105) || (b == 117)

text_passes : (p : List ℕ → Bool) (texts : List (List ℕ)) (text : List ℕ) → list_all p texts ≡ true → list_any (λ t. bytes_eq text t) texts ≡ true → p text ≡ true
text_passes p [] text all h = absurd (false≢true h)
text_passes p (t ∷ texts) text all h =
    let both = and_true (p t) (list_all p texts) all in
    elim (or_true (bytes_eq text t) (list_any (λ t. bytes_eq text t) texts) h) [
      | inl e ↦ ap p ((bytes_eq-Decides text t).0 e) ∙ both.0
      | inr later ↦ text_passes p texts text both.1 later
    ]

suffix_begins : (text : List ℕ) → is_suffix text ≡ true → begins_suffix text ≡ true
unfolding begins_suffix
suffix_begins text h = text_passes begins_suffix suffixes text refl h

-- no base has `i` or `u` as a digit
IsBase : ℕ → Type 0
IsBase base = (2 ≤ base) × (base ≤ 16)

suffix_no_digit : (base b : ℕ) (rest : List ℕ) → base ≤ 16 → is_suffix (b ∷ rest) ≡ true → continues_digits base b ≡ false
unfolding begins_suffix
suffix_no_digit base b rest small h =
    elim (or_true (b == 105) (b == 117) (suffix_begins (b ∷ rest) h)) [
      | inl e ↦ ap (continues_digits base) (eqb-true b 105 e) ∙ ap (λ (q : Bool). q || false) (le-ltb 18 base (omega arith))
      | inr e ↦ ap (continues_digits base) (eqb-true b 117 e) ∙ ap (λ (q : Bool). q || false) (le-ltb 30 base (omega arith))
    ]

-- a run ends where an element fails
run_stops : (p : ℕ → Bool) (xs : List ℕ) (b : ℕ) (rest : List ℕ) → list_all p xs ≡ true → p b ≡ false → prefix_len p (xs ++ b ∷ rest) ≡ length xs
run_stops p [] b rest all fails = rw fails refl
run_stops p (x ∷ xs) b rest all fails =
    let both = and_true (p x) (list_all p xs) all in
    rw both.0 (omega (arith, run_stops p xs b rest both.1 fails))

-- digits and a suffix in front of the text are no longer than the run of digits and the longest suffix behind it
body_longest : (base : ℕ) (body digits suffix back : List ℕ) (n m : ℕ) → base ≤ 16 → (digits ++ suffix) ++ back ≡ body → list_all (continues_digits base) digits ≡ true → is_suffix suffix ≡ true
    → n ≡ prefix_len (continues_digits base) body → HasLongest (λ s. is_suffix s ≡ true) (drop n body) m → length (digits ++ suffix) ≤ n + m
body_longest base body digits [] back n m small whole all ends count longest =
    let e : digits ++ back ≡ body = ap (λ (x : List ℕ). x ++ back) (sym (append-nil digits)) ∙ whole in
    omega (arith, length-append digits [], run_at_least (continues_digits base) digits back all, ap (prefix_len (continues_digits base)) e, count)
body_longest base body digits (b ∷ suffix) back n m small whole all ends count longest =
    let e : digits ++ (b ∷ (suffix ++ back)) ≡ body = sym (append_assoc digits (b ∷ suffix) back) ∙ whole in
    let run : n ≡ length digits =
    count ∙ ap (prefix_len (continues_digits base)) (sym e) ∙ run_stops (continues_digits base) digits b (suffix ++ back) all (suffix_no_digit base b suffix small ends) in
    let after : (b ∷ suffix) ++ back ≡ drop n body = sym (ap (λ (k : ℕ). drop k body) run ∙ ap (drop (length digits)) (sym e) ∙ drop-append_seam digits (b ∷ (suffix ++ back))) in
    omega (arith, length-append digits (b ∷ suffix), longest.longest (b ∷ suffix) back after ends)

-- the digits and the suffix at the front
pub record IsBody (base : ℕ) (text : List ℕ) : Type 0 where
  pub first : ℕ
  pub others : List ℕ
  pub suffix : List ℕ
  pub parts : text ≡ first ∷ (others ++ suffix)
  pub digit : is_digit base first ≡ true
  pub digits : list_all (continues_digits base) others ≡ true
  pub ends : is_suffix suffix ≡ true

digit_continues : (base b : ℕ) → is_digit base b ≡ true → continues_digits base b ≡ true
digit_continues base b h = ap (λ (q : Bool). q || (b == 95)) h

body_form : (base d : ℕ) (rest : List ℕ) (n m : ℕ) → is_digit base d ≡ true → n ≡ prefix_len (continues_digits base) (d ∷ rest) → HasLongest (λ s. is_suffix s ≡ true) (drop n (d ∷ rest)) m
    → IsBody base (take (n + m) (d ∷ rest))
body_form base d rest n m digit count longest =
    let run : n ≡ suc (prefix_len (continues_digits base) rest) = count ∙ rw (digit_continues base d digit) (omega arith) in
    record {
      first = d;
      others = take (prefix_len (continues_digits base) rest) rest;
      suffix = take m (drop n (d ∷ rest));
      parts = take-add n m (d ∷ rest) ∙ ap (λ (k : ℕ). take k (d ∷ rest) ++ take m (drop n (d ∷ rest))) run;
      digit = digit;
      digits = run_passes (continues_digits base) rest;
      ends = longest.form;
    }

base_small : (b : ℕ) → base_named b ≤ 16
base_small b =
    elim (b == 120) as (λ q. cond q 16 (cond (b == 111) 8 (cond (b == 98) 2 10)) ≤ 16) [
      | true ↦ omega arith
      | false ↦ elim (b == 111) as (λ q. cond q 8 (cond (b == 98) 2 10) ≤ 16) [
        | true ↦ omega arith
        | false ↦ elim (b == 98) as (λ q. cond q 2 10 ≤ 16) [ true ↦ omega arith | false ↦ omega arith ]
      ]
    ]

-- ---- integers by their bodies

base_of_other : (a b : ℕ) (rest : List ℕ) → (a == 48) ≡ false → base_of (a ∷ b ∷ rest) ≡ 10
base_of_other a b rest h = ap (λ (q : Bool). cond q (base_named b) 10) h

-- an integer without a named base is its body
plain_integer : (text : List ℕ) → base_of text ≡ 10 → IsBody 10 text → IsInteger text
plain_integer text ten body =
    let after : after_base text ≡ text = ap (λ (n : ℕ). cond (n == 10) text (drop 2 text)) ten in
    record {
      first = body.first;
      others = body.others;
      suffix = body.suffix;
      parts = after ∙ body.parts;
      digit = ap (λ (n : ℕ). is_digit n body.first) ten ∙ body.digit;
      digits = ap (λ (n : ℕ). list_all (continues_digits n) body.others) ten ∙ body.digits;
      ends = body.ends;
    }

named_integer : (base b : ℕ) (rest : List ℕ) → base ≡ base_named b → (base == 10) ≡ false → IsBody base rest → IsInteger (48 ∷ b ∷ rest)
named_integer base b rest is not_ten body =
    let after : after_base (48 ∷ b ∷ rest) ≡ rest = ap (λ (n : ℕ). cond (n == 10) (48 ∷ b ∷ rest) rest) (sym is) ∙ ap (λ (q : Bool). cond q (48 ∷ b ∷ rest) rest) not_ten in
    record {
      first = body.first;
      others = body.others;
      suffix = body.suffix;
      parts = after ∙ body.parts;
      digit = ap (λ (n : ℕ). is_digit n body.first) (sym is) ∙ body.digit;
      digits = ap (λ (n : ℕ). list_all (continues_digits n) body.others) (sym is) ∙ body.digits;
      ends = body.ends;
    }

-- an integer is a body of base ten, or `0`, the name of a base and a body of that base
plain_by : (text : List ℕ) (q : Bool) → (base_of text == 10) ≡ q → q ≡ true → IsInteger text → IsBody 10 text
plain_by text true e h n =
    let ten : base_of text ≡ 10 = eqb-true (base_of text) 10 e in
    record {
      first = n.first;
      others = n.others;
      suffix = n.suffix;
      parts = sym (ap (λ (q : Bool). cond q text (drop 2 text)) e) ∙ n.parts;
      digit = ap (λ (b : ℕ). is_digit b n.first) (sym ten) ∙ n.digit;
      digits = ap (λ (b : ℕ). list_all (continues_digits b) n.others) (sym ten) ∙ n.digits;
      ends = n.ends;
    }
plain_by text false e h n = absurd (false≢true h)

record IsNamed (text : List ℕ) : Type 0 where
  name : ℕ
  body : List ℕ
  is : text ≡ 48 ∷ (name ∷ body)
  other : (base_named name == 10) ≡ false
  form : IsBody (base_named name) body

named_by : (text : List ℕ) → (base_of text == 10) ≡ false → IsInteger text → IsNamed text
named_by [] e n = absurd (false≢true (sym e))
named_by (a ∷ []) e n = absurd (false≢true (sym e))
named_by (a ∷ b ∷ rest) e n =
    let zero_first : (q : Bool) → (a == 48) ≡ q → (cond q (base_named b) 10 == 10) ≡ false → (a == 48) ≡ true =
    λ q. elim q as (λ q. (a == 48) ≡ q → (cond q (base_named b) 10 == 10) ≡ false → (a == 48) ≡ true) [
      | true ↦ λ h f. h
      | false ↦ λ h f. absurd (false≢true (sym f))
    ] in
    let yes_zero = zero_first (a == 48) refl e in
    let base : base_of (a ∷ b ∷ rest) ≡ base_named b = ap (λ (q : Bool). cond q (base_named b) 10) yes_zero in
    let after : after_base (a ∷ b ∷ rest) ≡ rest = ap (λ (q : Bool). cond q (a ∷ b ∷ rest) rest) e in
    record {
      name = b;
      body = rest;
      is = ap (λ (x : ℕ). x ∷ b ∷ rest) (eqb-true a 48 yes_zero);
      other = ap (λ (x : ℕ). x == 10) (sym base) ∙ e;
      form = record {
        first = n.first;
        others = n.others;
        suffix = n.suffix;
        parts = sym after ∙ n.parts;
        digit = ap (λ (x : ℕ). is_digit x n.first) (sym base) ∙ n.digit;
        digits = ap (λ (x : ℕ). list_all (continues_digits x) n.others) (sym base) ∙ n.digits;
        ends = n.ends;
      };
    }

name_by : (b : ℕ) (p q r : Bool) → (b == 120) ≡ p → (b == 111) ≡ q → (b == 98) ≡ r → (cond p 16 (cond q 8 (cond r 2 10)) == 10) ≡ false → (b ≡ 120) ⊎ ((b ≡ 111) ⊎ (b ≡ 98))
name_by b true q r e f g h = inl (eqb-true b 120 e)
name_by b false true r e f g h = inr (inl (eqb-true b 111 f))
name_by b false false true e f g h = inr (inr (eqb-true b 98 g))
name_by b false false false e f g h = absurd (false≢true (sym h))

name_cases : (b : ℕ) → (base_named b == 10) ≡ false → (b ≡ 120) ⊎ ((b ≡ 111) ⊎ (b ≡ 98))
name_cases b h = name_by b (b == 120) (b == 111) (b == 98) refl refl refl h

-- the name of a base is no digit of base ten
name_no_digit : (b : ℕ) → (base_named b == 10) ≡ false → continues_digits 10 b ≡ false
name_no_digit b h =
    elim (name_cases b h) [
      | inl e ↦ ap (continues_digits 10) e
      | inr others ↦ elim others [ inl e ↦ ap (continues_digits 10) e | inr e ↦ ap (continues_digits 10) e ]
    ]

-- what names a base begins no suffix
name_no_suffix : (b : ℕ) (rest : List ℕ) → (base_named b == 10) ≡ false → is_suffix (b ∷ rest) ≡ true → ⊥
unfolding begins_suffix
name_no_suffix b rest h suffix =
    elim (name_cases b h) [
      | inl e ↦ elim (or_true (b == 105) (b == 117) (suffix_begins (b ∷ rest) suffix)) [ inl f ↦ omega (arith, eqb-true b 105 f) | inr f ↦ omega (arith, eqb-true b 117 f) ]
      | inr others ↦ elim others [
        | inl e ↦ elim (or_true (b == 105) (b == 117) (suffix_begins (b ∷ rest) suffix)) [ inl f ↦ omega (arith, eqb-true b 105 f) | inr f ↦ omega (arith, eqb-true b 117 f) ]
        | inr e ↦ elim (or_true (b == 105) (b == 117) (suffix_begins (b ∷ rest) suffix)) [ inl f ↦ omega (arith, eqb-true b 105 f) | inr f ↦ omega (arith, eqb-true b 117 f) ]
      ]
    ]

-- the front of a front that has two bytes
two_front : (k a b : ℕ) (text more : List ℕ) → take k text ≡ a ∷ (b ∷ more) → (rest : List ℕ) × (text ≡ a ∷ (b ∷ rest)) × (2 ≤ k)
two_front zero a b text more e = absurd (no_cons a (b ∷ more) e)
two_front (suc k) a b [] more e = absurd (no_cons a (b ∷ more) e)
two_front (suc zero) a b (x ∷ text) more e = absurd (no_cons b more (same_tail (take 1 (x ∷ text)) [] (b ∷ more) x a refl e))
two_front (suc (suc k)) a b (x ∷ []) more e = absurd (no_cons b more (same_tail (take (suc (suc k)) (x ∷ [])) [] (b ∷ more) x a refl e))
two_front (suc (suc k)) a b (x ∷ y ∷ text) more e =
    let first : x ≡ a = same_head (take (suc (suc k)) (x ∷ y ∷ text)) (y ∷ take k text) (b ∷ more) x a refl e in
    let second : y ≡ b = same_head (y ∷ take k text) (take k text) more y b refl (same_tail (take (suc (suc k)) (x ∷ y ∷ text)) (y ∷ take k text) (b ∷ more) x a refl e) in
    (text, ap (λ (v : ℕ). v ∷ (y ∷ text)) first ∙ ap (λ (v : ℕ). a ∷ (v ∷ text)) second, omega arith)

-- ---- no base is named at the front

name_stops : (b : ℕ) (rest : List ℕ) → (base_named b == 10) ≡ false → prefix_len (continues_digits 10) (48 ∷ (b ∷ rest)) ≡ 1
name_stops b rest h = ap (λ (q : Bool). 1 + cond q (1 + prefix_len (continues_digits 10) rest) 0) (name_no_digit b h)

no_suffix_by : (m b : ℕ) (rest : List ℕ) → (base_named b == 10) ≡ false → is_suffix (take m (b ∷ rest)) ≡ true → m ≡ 0
no_suffix_by zero b rest h suffix = refl
no_suffix_by (suc m) b rest h suffix = absurd (name_no_suffix b (take m rest) h suffix)

module _ (text rest : List ℕ) (a n m : ℕ) (is : text ≡ a ∷ rest) (digit : is_digit 10 a ≡ true) (base : base_at text ≡ 10)
    (count : n ≡ prefix_len (continues_digits 10) text) (suffix : HasLongest (λ s. is_suffix s ≡ true) (drop n text) m) where
  plain_body : IsBody 10 (take (n + m) text)
  plain_body =
      subst (λ (t : List ℕ). IsBody 10 (take (n + m) t)) (sym is)
      (body_form 10 a rest n m digit (subst (λ (t : List ℕ). n ≡ prefix_len (continues_digits 10) t) is count) (subst (λ (t : List ℕ). HasLongest (λ s. is_suffix s ≡ true) (drop n t) m) is suffix))

  -- were a base named in what is taken, nothing but `0` would be taken
  not_named : (t : List ℕ) → t ≡ take (n + m) text → (base_of t == 10) ≡ false → ⊥
  not_named [] e h = false≢true (sym h)
  not_named (x ∷ []) e h = false≢true (sym h)
  not_named (x ∷ y ∷ t) e h =
      let zero_first : (q : Bool) → (x == 48) ≡ q → (cond q (base_named y) 10 == 10) ≡ false → ((x == 48) ≡ true) × ((base_named y == 10) ≡ false) =
      λ q. elim q as (λ q. (x == 48) ≡ q → (cond q (base_named y) 10 == 10) ≡ false → ((x == 48) ≡ true) × ((base_named y == 10) ≡ false)) [
        | true ↦ λ h f. (h, f)
        | false ↦ λ h f. absurd (false≢true (sym f))
      ] in
      let both = zero_first (x == 48) refl h in
      let front = two_front (n + m) x y text t (sym e) in
      let whole : text ≡ 48 ∷ (y ∷ front.0) = front.1 ∙ ap (λ (v : ℕ). v ∷ (y ∷ front.0)) (eqb-true x 48 both.0) in
      let one : n ≡ 1 = count ∙ ap (prefix_len (continues_digits 10)) whole ∙ name_stops y front.0 both.1 in
      let left : drop n text ≡ y ∷ front.0 = ap (λ (k : ℕ). drop k text) one ∙ ap (drop 1) whole in
      let none : m ≡ 0 = no_suffix_by m y front.0 both.1 (ap (λ (t : List ℕ). is_suffix (take m t)) (sym left) ∙ suffix.form) in
      omega (arith, front.2)

  plain_ten : base_of (take (n + m) text) ≡ 10
  plain_ten = elim (eqb_tells (base_of (take (n + m) text)) 10) [ inl same ↦ same.1 | inr other ↦ absurd (not_named (take (n + m) text) refl other.0) ]

  plain_longest : (front back : List ℕ) → front ++ back ≡ text → IsInteger front → length front ≤ n + m
  plain_longest front back whole integer =
      elim (eqb_tells (base_of front) 10) [
        | inl same ↦ let body = plain_by front (base_of front == 10) refl same.0 integer in
            let parts : (body.first ∷ body.others) ++ body.suffix ≡ front = sym body.parts in
            let all : list_all (continues_digits 10) (body.first ∷ body.others) ≡ true = rw (digit_continues 10 body.first body.digit) body.digits in
            let le = body_longest 10 text (body.first ∷ body.others) body.suffix back n m (omega arith) (ap (λ (x : List ℕ). x ++ back) parts ∙ whole) all body.ends count suffix in
            omega (arith, le, ap length parts)
        | inr other ↦ absurd (let named = named_by front other.0 integer in
            let at : text ≡ 48 ∷ (named.name ∷ (named.form.first ∷ ((named.form.others ++ named.form.suffix) ++ back))) =
            sym whole ∙ ap (λ (x : List ℕ). x ++ back) (named.is ∙ ap (λ (x : List ℕ). 48 ∷ (named.name ∷ x)) named.form.parts) in
            let ten : base_named named.name ≡ 10 = ap (λ (q : Bool). cond q (base_named named.name) 10) (sym named.form.digit) ∙ sym (ap base_at at) ∙ base in
            false≢true (sym named.other ∙ ap (λ (x : ℕ). x == 10) ten))
      ]

  pub plain_integer_longest : HasLongest IsInteger text (0 + n + m)
  plain_integer_longest =
      subst (λ (k : ℕ). HasLongest IsInteger text k) (let e : n + m ≡ 0 + n + m = omega arith in e)
      record {
        within = omega (arith, suffix.within, length-drop n text, prefix_len-le-length (continues_digits 10) text, count);
        form = plain_integer (take (n + m) text) plain_ten plain_body;
        longest = plain_longest;
      }

-- ---- a base is named at the front

pub record NamesBase (text : List ℕ) (base : ℕ) : Type 0 where
  pub name : ℕ
  pub first : ℕ
  pub rest : List ℕ
  pub is : text ≡ 48 ∷ (name ∷ (first ∷ rest))
  pub base_is : base ≡ base_named name
  pub digit : is_digit base first ≡ true

pub names_base : (text : List ℕ) (base : ℕ) → base ≡ base_at text → (base == 10) ≡ false → NamesBase text base
names_base [] base e h = absurd (false≢true (sym h ∙ ap (λ (x : ℕ). x == 10) e))
names_base (a ∷ []) base e h = absurd (false≢true (sym h ∙ ap (λ (x : ℕ). x == 10) e))
names_base (a ∷ b ∷ []) base e h = absurd (false≢true (sym h ∙ ap (λ (x : ℕ). x == 10) e))
names_base (a ∷ b ∷ d ∷ rest) base e h =
    let by : (q : Bool) → ((a == 48) && is_digit (base_named b) d) ≡ q → base ≡ cond q (base_named b) 10 → (((a == 48) && is_digit (base_named b) d) ≡ true) × (base ≡ base_named b) =
    λ q. elim q as (λ q. ((a == 48) && is_digit (base_named b) d) ≡ q → base ≡ cond q (base_named b) 10 → (((a == 48) && is_digit (base_named b) d) ≡ true) × (base ≡ base_named b)) [
      | true ↦ λ t f. (t, f)
      | false ↦ λ t f. absurd (false≢true (sym h ∙ ap (λ (x : ℕ). x == 10) f))
    ] in
    let found = by ((a == 48) && is_digit (base_named b) d) refl e in
    let both = and_true (a == 48) (is_digit (base_named b) d) found.0 in
    record {
      name = b;
      first = d;
      rest = rest;
      is = ap (λ (x : ℕ). x ∷ (b ∷ (d ∷ rest))) (eqb-true a 48 both.0);
      base_is = found.1;
      digit = ap (λ (x : ℕ). is_digit x d) found.1 ∙ both.1;
    }

-- an integer without a named base has one byte where a base is named
one_byte : (front back more : List ℕ) (name : ℕ) → front ++ back ≡ 48 ∷ (name ∷ more) → (base_named name == 10) ≡ false → (body : IsBody 10 front) → length front ≤ 1
one_byte front back more name whole other body = go body.others body.suffix body.parts body.digits body.ends where
  go : (others suffix : List ℕ) → front ≡ body.first ∷ (others ++ suffix) → list_all (continues_digits 10) others ≡ true → is_suffix suffix ≡ true → length front ≤ 1
  go [] [] e d s = omega (arith, ap length e)
  go [] (b ∷ suffix) e d s =
      let same : b ≡ name = same_head (b ∷ (suffix ++ back)) (suffix ++ back) more b name refl (same_tail (front ++ back) (b ∷ (suffix ++ back)) (name ∷ more) body.first 48 (ap (λ (x : List ℕ). x ++ back) e) whole) in
      absurd (name_no_suffix b suffix (ap (λ (x : ℕ). base_named x == 10) same ∙ other) s)
  go (o ∷ others) suffix e d s =
      let same : o ≡ name = same_head (o ∷ ((others ++ suffix) ++ back)) ((others ++ suffix) ++ back) more o name refl (same_tail (front ++ back) (o ∷ ((others ++ suffix) ++ back)) (name ∷ more) body.first 48 (ap (λ (x : List ℕ). x ++ back) e) whole) in
      absurd (false≢true (sym (ap (continues_digits 10) same ∙ name_no_digit name other) ∙ (and_true (continues_digits 10 o) (list_all (continues_digits 10) others) d).0))

module _ (text : List ℕ) (base n m : ℕ) (names : NamesBase text base) (not_ten : (base == 10) ≡ false)
    (count : n ≡ prefix_len (continues_digits base) (names.first ∷ names.rest)) (suffix : HasLongest (λ s. is_suffix s ≡ true) (drop n (names.first ∷ names.rest)) m) where
  name_other : (base_named names.name == 10) ≡ false
  name_other = ap (λ (x : ℕ). x == 10) (sym names.base_is) ∙ not_ten

  base_fits : base ≤ 16
  base_fits = omega (arith, base_small names.name, names.base_is)

  named_form : IsInteger (take (2 + n + m) text)
  named_form =
      let body = body_form base names.first names.rest n m names.digit count suffix in
      let integer = named_integer base names.name (take (n + m) (names.first ∷ names.rest)) names.base_is not_ten body in
      let e : 48 ∷ (names.name ∷ take (n + m) (names.first ∷ names.rest)) ≡ take (2 + n + m) text =
      sym (ap (λ (k : ℕ). take k text) (let two : 2 + n + m ≡ suc (suc (n + m)) = omega arith in two) ∙ ap (take (suc (suc (n + m)))) names.is) in
      subst IsInteger e integer

  named_longest : (front back : List ℕ) → front ++ back ≡ text → IsInteger front → length front ≤ 2 + n + m
  named_longest front back whole integer =
      elim (eqb_tells (base_of front) 10) [
        | inl same ↦ omega (arith, one_byte front back (names.first ∷ names.rest) names.name (whole ∙ names.is) name_other (plain_by front (base_of front == 10) refl same.0 integer))
        | inr other ↦ let named = named_by front other.0 integer in
            let at : 48 ∷ (named.name ∷ (named.body ++ back)) ≡ 48 ∷ (names.name ∷ (names.first ∷ names.rest)) = sym (ap (λ (x : List ℕ). x ++ back) named.is) ∙ whole ∙ names.is in
            let same_name : named.name ≡ names.name = same_head (named.name ∷ (named.body ++ back)) (named.body ++ back) (names.first ∷ names.rest) named.name names.name refl (same_tail (48 ∷ (named.name ∷ (named.body ++ back))) _ _ 48 48 refl at) in
            let same_body : named.body ++ back ≡ names.first ∷ names.rest = same_second (48 ∷ (named.name ∷ (named.body ++ back))) _ _ 48 48 named.name names.name refl at in
            let same_base : base_named named.name ≡ base = ap base_named same_name ∙ sym names.base_is in
            let body : IsBody base named.body = subst (λ (x : ℕ). IsBody x named.body) same_base named.form in
            let parts : (body.first ∷ body.others) ++ body.suffix ≡ named.body = sym body.parts in
            let all : list_all (continues_digits base) (body.first ∷ body.others) ≡ true = rw (digit_continues base body.first body.digit) body.digits in
            let le = body_longest base (names.first ∷ names.rest) (body.first ∷ body.others) body.suffix back n m base_fits (ap (λ (x : List ℕ). x ++ back) parts ∙ same_body) all body.ends count suffix in
            omega (arith, le, ap length parts, ap length named.is)
      ]

  pub named_integer_longest : HasLongest IsInteger text (2 + n + m)
  named_integer_longest = record {
    within = omega (arith, ap length names.is, suffix.within, length-drop n (names.first ∷ names.rest), prefix_len-le-length (continues_digits base) (names.first ∷ names.rest), count);
    form = named_form;
    longest = named_longest;
  }

-- ---- in the code's terms

first_digit : (text : List ℕ) → is_digit 10 (get_or text 0 0) ≡ true → (a : ℕ) × (rest : List ℕ) × (text ≡ a ∷ rest) × (is_digit 10 a ≡ true)
first_digit [] h = absurd (false≢true h)
first_digit (a ∷ rest) h = (a, rest, refl, h)

module _ (text body : List ℕ) (base named n m : ℕ) (at : base ≡ base_at text) (body_is : body ≡ drop named text)
    (count : n ≡ prefix_len (continues_digits base) body) (suffix : HasLongest (λ s. is_suffix s ≡ true) (take (length body - n) (drop n body)) m) where
  suffix_at : (b : List ℕ) → body ≡ b → HasLongest (λ s. is_suffix s ≡ true) (drop n b) m
  suffix_at b e =
      subst (λ (t : List ℕ). HasLongest (λ s. is_suffix s ≡ true) (drop n t) m) e (subst (λ (t : List ℕ). HasLongest (λ s. is_suffix s ≡ true) t m) (rest_of n body) suffix)

  pub integer_plain : is_digit 10 (get_or text 0 0) ≡ true → base ≡ 10 → named ≡ 0 → HasLongest IsInteger text (named + n + m)
  integer_plain digit ten none =
      let first = first_digit text digit in
      let whole : body ≡ text = body_is ∙ ap (λ (k : ℕ). drop k text) none in
      subst (λ (k : ℕ). HasLongest IsInteger text (k + n + m)) (sym none)
      (plain_integer_longest text first.1 first.0 n m first.2 first.3 (sym at ∙ ten)
      (count ∙ ap (λ (b : ℕ). prefix_len (continues_digits b) body) ten ∙ ap (prefix_len (continues_digits 10)) whole) (suffix_at text whole))

  pub integer_named : (base ≡ 10 → ⊥) → named ≡ min (length text) 2 → HasLongest IsInteger text (named + n + m)
  integer_named other two =
      let not_ten = eqb_unlike base 10 other in
      let names = names_base text base at not_ten in
      let named_two : named ≡ 2 = omega (arith, two, ap length names.is) in
      let whole : body ≡ names.first ∷ names.rest = body_is ∙ ap (λ (k : ℕ). drop k text) named_two ∙ ap (drop 2) names.is in
      subst (λ (k : ℕ). HasLongest IsInteger text (k + n + m)) (sym named_two)
      (named_integer_longest text base n m names not_ten (count ∙ ap (prefix_len (continues_digits base)) whole) (suffix_at (names.first ∷ names.rest) whole))

-- an integer begins with a decimal digit
pub integer_head : (text : List ℕ) → IsInteger text → (b : ℕ) × (rest : List ℕ) × (text ≡ b ∷ rest) × (is_digit 10 b ≡ true)
integer_head text integer =
    elim (eqb_tells (base_of text) 10) [
      | inl same ↦ let body = plain_by text (base_of text == 10) refl same.0 integer in (body.first, body.others ++ body.suffix, body.parts, body.digit)
      | inr other ↦ let named = named_by text other.0 integer in (48, named.name ∷ named.body, named.is, refl)
    ]

-- ---- integers are ASCII

digit_ascii : (base b : ℕ) → base ≤ 16 → continues_digits base b ≡ true → b < 128
digit_ascii base b small h =
    elim (or_true (is_digit base b) (b == 95) h) [
      | inl digit ↦ grind (arith, nat_tests)
      | inr low ↦ omega (arith, eqb-true b 95 low)
    ]

list_ascii : List ℕ → Bool
list_ascii text = list_all (λ (b : ℕ). nat_lt b 128) text

suffix_ascii : (text : List ℕ) → is_suffix text ≡ true → list_all (λ (b : ℕ). nat_lt b 128) text ≡ true
unfolding list_ascii
suffix_ascii text h = text_passes list_ascii suffixes text refl h

ascii_append : (xs ys : List ℕ) → list_all (λ (b : ℕ). nat_lt b 128) xs ≡ true → list_all (λ (b : ℕ). nat_lt b 128) ys ≡ true → list_all (λ (b : ℕ). nat_lt b 128) (xs ++ ys) ≡ true
ascii_append [] ys a b = b
ascii_append (x ∷ xs) ys a b =
    let both = and_true (nat_lt x 128) (list_all (λ (b : ℕ). nat_lt b 128) xs) a in
    ap (λ (q : Bool). q && list_all (λ (b : ℕ). nat_lt b 128) (xs ++ ys)) both.0 ∙ ascii_append xs ys both.1 b

digits_ascii : (base : ℕ) (xs : List ℕ) → base ≤ 16 → list_all (continues_digits base) xs ≡ true → list_all (λ (b : ℕ). nat_lt b 128) xs ≡ true
digits_ascii base [] small h = refl
digits_ascii base (x ∷ xs) small h =
    let both = and_true (continues_digits base x) (list_all (continues_digits base) xs) h in
    ap (λ (q : Bool). q && list_all (λ (b : ℕ). nat_lt b 128) xs) (lt-ltb x 128 (digit_ascii base x small both.0)) ∙ digits_ascii base xs small both.1

body_ascii : (base : ℕ) (text : List ℕ) → base ≤ 16 → IsBody base text → list_all (λ (b : ℕ). nat_lt b 128) text ≡ true
body_ascii base text small body =
    let all : list_all (continues_digits base) (body.first ∷ body.others) ≡ true = rw (digit_continues base body.first body.digit) body.digits in
    ap (list_all (λ (b : ℕ). nat_lt b 128)) body.parts ∙ ascii_append (body.first ∷ body.others) body.suffix (digits_ascii base (body.first ∷ body.others) small all) (suffix_ascii body.suffix body.ends)

name_ascii : (b : ℕ) → (base_named b == 10) ≡ false → nat_lt b 128 ≡ true
name_ascii b h =
    elim (name_cases b h) [
      | inl e ↦ lt-ltb b 128 (omega arith)
      | inr others ↦ elim others [ inl e ↦ lt-ltb b 128 (omega arith) | inr e ↦ lt-ltb b 128 (omega arith) ]
    ]

pub integer_ascii : (text : List ℕ) → IsInteger text → list_all (λ (b : ℕ). nat_lt b 128) text ≡ true
integer_ascii text integer =
    elim (eqb_tells (base_of text) 10) [
      | inl same ↦ body_ascii 10 text (omega arith) (plain_by text (base_of text == 10) refl same.0 integer)
      | inr other ↦ let named = named_by text other.0 integer in
          ap (list_all (λ (b : ℕ). nat_lt b 128)) named.is ∙ ap (λ (q : Bool). q && list_all (λ (b : ℕ). nat_lt b 128) named.body) (name_ascii named.name named.other)
          ∙ body_ascii (base_named named.name) named.body (base_small named.name) named.form
    ]
