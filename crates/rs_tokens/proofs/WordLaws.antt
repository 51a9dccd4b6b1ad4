-- The longest word at the front of a text.
use Rattle.std.proofs.Common.{◌≡◌, ℕ, zero, suc, ◌+◌, ◌<◌, ◌≤◌, Bool, true, false, ◌==◌, ◌||◌, cond, List, [], ◌∷◌, ◌++◌, length, take, drop, get_or, refl, sym, ap, subst, ◌∙◌, append_assoc, arith, inl, inr}
use Rattle.std.proofs.lemmas.List.{length-append, take-append-drop, take_more, append-nil}
use Rattle.std.proofs.Math.Seq.{take-append_seam}
use Rattle.std.specs.Prelude.{encode_utf8, encode_utf8_all, take_while}
use lib.Utf8.{scalars}
use Rattle.std.specs.List.{list_all, prefix_len}
use Rattle.std.specs.Str.{chars, IsUtf8, IsCharBoundary}
use Rattle.std.proofs.lemmas.Str.{encodes-append, encodes-chars, cons_from_encodes, encode_same, length-encode, len_utf8_bounds, chars_past_char, IsCharBoundary-at_seam, scalars-chars}
use Rattle.std.proofs.lemmas.Bool.{eqb-true, ltb-true, false≢true}
use Rattle.std.specs.Char.{is_ascii, is_ascii_alphabetic, is_ascii_alphanumeric}
use Rattle.unicode_ident.proofs.IdentLemmas.{is_xid_start-is_xid_continue, is_xid_start-ascii, is_xid_continue-ascii}
use Rattle.unicode_ident.specs.Ident.{is_xid_start, is_xid_continue}
use Rattle.rs_tokens.specs.Tokens.{begins_word, IsWord, IsQuotedWord, HasLongest, HasNone}
use Rattle.rs_tokens.proofs.ListLaws.{same_tail, and_true, or_true, front_le, run_at_least, run_passes}

-- ---- ASCII characters

small : (c : ℕ) → is_ascii c ≡ true → c < 128
small c h = ltb-true c 128 h

pub ascii_begins : (c : ℕ) → is_ascii c ≡ true → (is_ascii_alphabetic c || (c == 95)) ≡ begins_word c
ascii_begins c h = ap (λ (p : Bool). p || (c == 95)) (sym (is_xid_start-ascii c (small c h)))

pub ascii_continues : (c : ℕ) → is_ascii c ≡ true → (is_ascii_alphanumeric c || (c == 95)) ≡ is_xid_continue c
ascii_continues c h = sym (is_xid_continue-ascii c (small c h))

-- ---- words

pub encode_some : (c : ℕ) → 1 ≤ length (encode_utf8 c)
encode_some c = omega (arith, length-encode c, len_utf8_bounds c)

-- one character more
pub length-encodes_more : (cs : List ℕ) (k c : ℕ) → k < length cs → c ≡ get_or cs k c → length (encode_utf8_all (take (k + 1) cs)) ≡ length (encode_utf8_all (take k cs)) + length (encode_utf8 c)
length-encodes_more cs k c within is =
    rw (take_more cs k c within, encodes-append (take k cs) (get_or cs k c ∷ []), ← is) (rw (append-nil (encode_utf8 c)) (length-append (encode_utf8_all (take k cs)) (encode_utf8 c)))

-- a longer front of the characters has no fewer bytes
pub encodes_take_le : (cs : List ℕ) (i j : ℕ) → i ≤ j → length (encode_utf8_all (take i cs)) ≤ length (encode_utf8_all (take j cs))
encodes_take_le cs zero j le = omega arith
encodes_take_le [] (suc i) zero le = absurd (omega arith)
encodes_take_le [] (suc i) (suc j) le = omega arith
encodes_take_le (c ∷ cs) (suc i) zero le = absurd (omega arith)
encodes_take_le (c ∷ cs) (suc i) (suc j) le =
    omega (arith, encodes_take_le cs i j (omega arith), length-append (encode_utf8 c) (encode_utf8_all (take i cs)), length-append (encode_utf8 c) (encode_utf8_all (take j cs)))

pub encodes_take_within : (cs : List ℕ) (i : ℕ) → length (encode_utf8_all (take i cs)) ≤ length (encode_utf8_all cs)
encodes_take_within cs i =
    omega (arith, ap (λ (xs : List ℕ). length (encode_utf8_all xs)) (take-append-drop i cs), ap length (encodes-append (take i cs) (drop i cs)), length-append (encode_utf8_all (take i cs)) (encode_utf8_all (drop i cs)))

-- the bytes of a front of the characters are a front of the bytes
pub take-encodes : (cs : List ℕ) (i : ℕ) → take (length (encode_utf8_all (take i cs))) (encode_utf8_all cs) ≡ encode_utf8_all (take i cs)
take-encodes cs i =
    let whole : encode_utf8_all cs ≡ encode_utf8_all (take i cs) ++ encode_utf8_all (drop i cs) =
    ap encode_utf8_all (sym (take-append-drop i cs)) ∙ encodes-append (take i cs) (drop i cs) in
    ap (take (length (encode_utf8_all (take i cs)))) whole ∙ take-append_seam (encode_utf8_all (take i cs)) (encode_utf8_all (drop i cs))

-- characters whose bytes are a front of the bytes are a front of the characters
pub chars_front : (fs cs back : List ℕ) → encode_utf8_all cs ≡ encode_utf8_all fs ++ back → (es : List ℕ) × (cs ≡ fs ++ es)
chars_front [] cs back e = (cs, refl)
chars_front (f ∷ fs) cs back e =
    let first = cons_from_encodes cs (encode_utf8_all fs ++ back) f (e ∙ append_assoc (encode_utf8 f) (encode_utf8_all fs) back) in
    let others = chars_front fs first.0 back first.2 in
    (others.0, first.1 ∙ ap (λ (xs : List ℕ). f ∷ xs) others.1)

-- ---- the longest word

pub begins_continues : (c : ℕ) → begins_word c ≡ true → is_xid_continue c ≡ true
begins_continues c h =
    elim (or_true (is_xid_start c) (c == 95) h) [
      | inl starts ↦ is_xid_start-is_xid_continue c starts
      | inr low ↦ ap is_xid_continue (eqb-true c 95 low) ∙ is_xid_continue-ascii 95 (omega arith)
    ]

-- what a word at the front of a text begins with is what the text begins with
pub word_head : (text front back rest : List ℕ) (c : ℕ) (word : IsWord front) → front ++ back ≡ text → text ≡ encode_utf8 c ++ rest → word.first ≡ c
word_head text front back rest c word whole is =
    (encode_same word.first c (encode_utf8_all word.others ++ back) rest
    (sym (append_assoc (encode_utf8 word.first) (encode_utf8_all word.others) back) ∙ ap (λ (x : List ℕ). x ++ back) word.spells ∙ whole ∙ is)).0

-- a word is not empty
pub word_some : (front : List ℕ) → IsWord front → 1 ≤ length front
word_some front word = omega (arith, ap length word.spells, length-append (encode_utf8 word.first) (encode_utf8_all word.others), encode_some word.first)

pub no_word : (text rest : List ℕ) (c : ℕ) → text ≡ encode_utf8 c ++ rest → begins_word c ≡ false → HasNone IsWord text
no_word text rest c is fails front back whole word =
    false≢true (sym fails ∙ ap begins_word (sym (word_head text front back rest c word whole is)) ∙ word.begins)

module _ (text rest : List ℕ) (c len : ℕ) (utf8 : IsUtf8 text) (is : text ≡ encode_utf8 c ++ rest) (begins : begins_word c ≡ true)
    (count : len ≡ length (encode_utf8_all (take_while is_xid_continue (chars text)))) where
  others : List ℕ
  others = chars rest

  all : chars text ≡ c ∷ chars rest
  all = chars_past_char text rest c utf8 is

  run : ℕ
  run = prefix_len is_xid_continue (chars text)

  bytes_are : encode_utf8_all (chars text) ≡ text
  bytes_are = encodes-chars text utf8

  run_is : run ≡ suc (prefix_len is_xid_continue (chars rest))
  unfolding run
  run_is = rw (all, begins_continues c begins) (omega arith)

  spelled : take len text ≡ encode_utf8_all (take run (chars text))
  unfolding run
  spelled =
      subst (λ (t : List ℕ). take len t ≡ encode_utf8_all (take (prefix_len is_xid_continue (chars text)) (chars text))) bytes_are
      (ap (λ (n : ℕ). take n (encode_utf8_all (chars text))) count ∙ take-encodes (chars text) (prefix_len is_xid_continue (chars text)))

  form : IsWord (take len text)
  unfolding run
  form = record {
    first = c;
    others = take (prefix_len is_xid_continue (chars rest)) (chars rest);
    spells = sym (spelled ∙ ap encode_utf8_all (ap (λ (n : ℕ). take n (chars text)) run_is ∙ ap (take (suc (prefix_len is_xid_continue (chars rest)))) all));
    begins = begins;
    continues = run_passes is_xid_continue (chars rest);
  }

  longest : (front back : List ℕ) → front ++ back ≡ text → IsWord front → length front ≤ len
  unfolding run
  longest front back whole word =
      let fs : List ℕ = word.first ∷ word.others in
      let e : encode_utf8_all (chars text) ≡ encode_utf8_all fs ++ back = bytes_are ∙ sym whole ∙ ap (λ (x : List ℕ). x ++ back) (sym word.spells) in
      let parts = chars_front fs (chars text) back e in
      let first : word.first ≡ c = word_head text front back rest c word whole is in
      let passes : list_all is_xid_continue fs ≡ true = rw (first, begins_continues c begins) word.continues in
      let short : length fs ≤ prefix_len is_xid_continue (chars text) = subst (λ (xs : List ℕ). length fs ≤ prefix_len is_xid_continue xs) (sym parts.1) (run_at_least is_xid_continue fs parts.0 passes) in
      let here : take (length fs) (chars text) ≡ fs = ap (take (length fs)) parts.1 ∙ take-append_seam fs parts.0 in
      omega (arith, encodes_take_le (chars text) (length fs) (prefix_len is_xid_continue (chars text)) short, ap (λ (xs : List ℕ). length (encode_utf8_all xs)) here, ap length word.spells, count)

  pub word_longest : HasLongest IsWord text len
  unfolding run
  word_longest = record {
    within = omega (arith, count, encodes_take_within (chars text) (prefix_len is_xid_continue (chars text)), ap length bytes_are);
    form = form;
    longest = longest;
  }

-- ---- the run of characters that may continue a word

-- the run goes on over a character that passes
pub run_goes_on : (cs : List ℕ) (k c : ℕ) → k < length cs → c ≡ get_or cs k c → is_xid_continue c ≡ true → k ≤ prefix_len is_xid_continue cs → k + 1 ≤ prefix_len is_xid_continue cs
run_goes_on [] k c within is passes le = absurd (omega arith)
run_goes_on (d ∷ cs) zero c within is passes le = rw (← is, passes) (omega arith)
run_goes_on (d ∷ cs) (suc k) c within is passes le =
    let by : (q : Bool) → is_xid_continue d ≡ q → suc k ≤ cond q (1 + prefix_len is_xid_continue cs) 0 → suc k + 1 ≤ cond q (1 + prefix_len is_xid_continue cs) 0 =
    λ q. elim q as (λ q. is_xid_continue d ≡ q → suc k ≤ cond q (1 + prefix_len is_xid_continue cs) 0 → suc k + 1 ≤ cond q (1 + prefix_len is_xid_continue cs) 0) [
      | true ↦ λ e le. omega (arith, run_goes_on cs k c (omega arith) is passes (omega arith))
      | false ↦ λ e le. absurd (omega arith)
    ] in
    by (is_xid_continue d) refl le

-- the run ends before a character that does not pass
pub run_ends : (cs : List ℕ) (k c : ℕ) → k < length cs → c ≡ get_or cs k c → is_xid_continue c ≡ false → k ≤ prefix_len is_xid_continue cs → prefix_len is_xid_continue cs ≡ k
run_ends [] k c within is fails le = absurd (omega arith)
run_ends (d ∷ cs) zero c within is fails le = rw (← is, fails) refl
run_ends (d ∷ cs) (suc k) c within is fails le =
    let by : (q : Bool) → is_xid_continue d ≡ q → suc k ≤ cond q (1 + prefix_len is_xid_continue cs) 0 → cond q (1 + prefix_len is_xid_continue cs) 0 ≡ suc k =
    λ q. elim q as (λ q. is_xid_continue d ≡ q → suc k ≤ cond q (1 + prefix_len is_xid_continue cs) 0 → cond q (1 + prefix_len is_xid_continue cs) 0 ≡ suc k) [
      | true ↦ λ e le. omega (arith, run_ends cs k c (omega arith) is fails (omega arith))
      | false ↦ λ e le. absurd (omega arith)
    ] in
    by (is_xid_continue d) refl le

pub chars_length : (text : List ℕ) → IsUtf8 text → length (encode_utf8_all (chars text)) ≡ length text
chars_length text utf8 = ap length (encodes-chars text utf8)

-- where there is no character there is no word
pub no_word_empty : (text : List ℕ) → length text ≡ 0 → HasNone IsWord text
no_word_empty text empty front back whole word = omega (arith, word_some front word, front_le front back text whole)

scalars_drop : (cs : List ℕ) (k : ℕ) → scalars cs ≡ true → scalars (drop k cs) ≡ true
scalars_drop cs zero h = h
scalars_drop [] (suc k) h = h
scalars_drop (c ∷ cs) (suc k) h = scalars_drop cs k (and_true _ _ h).1

-- a word ends where a character ends
pub word_boundary : (text : List ℕ) (len : ℕ) → IsUtf8 text → len ≡ length (encode_utf8_all (take_while is_xid_continue (chars text))) → IsCharBoundary text len
word_boundary text len utf8 count =
    let p = prefix_len is_xid_continue (chars text) in
    let whole : text ≡ encode_utf8_all (take p (chars text)) ++ encode_utf8_all (drop p (chars text)) =
    sym (encodes-chars text utf8) ∙ ap encode_utf8_all (sym (take-append-drop p (chars text))) ∙ encodes-append (take p (chars text)) (drop p (chars text)) in
    subst (λ (n : ℕ). IsCharBoundary text n) (sym count)
    (IsCharBoundary-at_seam text (encode_utf8_all (take p (chars text))) (encode_utf8_all (drop p (chars text))) whole
    (drop p (chars text), (scalars_drop (chars text) p (scalars-chars text utf8), refl)))

-- ---- lifetimes

module _ (text inside : List ℕ) (opens : text ≡ 39 ∷ inside) where
  pub quoted_longest : (n : ℕ) → HasLongest IsWord inside n → HasLongest IsQuotedWord text (1 + n)
  quoted_longest n longest =
      let one : 1 + n ≡ suc n = omega arith in
      record {
        within = omega (arith, ap length opens, longest.within);
        form = record {
          word = take n inside;
          opens = ap (λ (k : ℕ). take k text) one ∙ ap (take (suc n)) opens;
          is_word = longest.form;
        };
        longest = λ front back whole q.
            let t : q.word ++ back ≡ inside = same_tail text _ _ 39 39 (sym whole ∙ ap (λ (x : List ℕ). x ++ back) q.opens) opens in
            omega (arith, longest.longest q.word back t q.is_word, ap length q.opens);
      }

  pub no_quoted_form : HasNone IsWord inside → HasNone IsQuotedWord text
  no_quoted_form never front back whole q =
      never q.word back (same_tail text _ _ 39 39 (sym whole ∙ ap (λ (x : List ℕ). x ++ back) q.opens) opens) q.is_word
