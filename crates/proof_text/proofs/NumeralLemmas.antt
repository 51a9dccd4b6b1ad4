-- Numerals, what `parse` answers for them, and where a word is cut.
use Rattle.std.proofs.Common.{◌≡◌, ℕ, ℤ, pos, ◌+◌, ◌^◌, ◌<◌, ◌≤◌, List, [], ◌∷◌, ◌++◌, length, drop, Bool, true, false, ◌&&◌, Option, None, Some, Result, Ok, Err, cond, get_or, refl, sym, ◌∙◌, ap, subst, arith, rules, nat_eq, nat_lt, Bor, ◌≢◌}
use Rattle.std.specs.Prelude.{neg_ℤ, unwrap_or}
use Rattle.std.specs.Int.{w128}
use Rattle.std.specs.Char.{is_ascii_digit}
use Rattle.std.specs.List.{list_all, position_or_len, before_first, after_first}
use Rattle.std.specs.Option.{option_map, option_copied, MatchOption}
use Rattle.std.specs.Result.{OkIff, result_ok}
use Rattle.std.specs.Str.Parse.{digits_value, ParsesUnsigned, ParsesSigned}
use Rattle.std.proofs.lemmas.Bool.{lt-ltb, ltb-true, le-ltb}
use Rattle.std.proofs.lemmas.Bool.Decides.{nat_tests}
use Rattle.std.proofs.lemmas.Str.Parse.{IsNumeralModel, IsDigitsTest, numerals_by_value, parse_digits, parse_signed_minus, parse_signed_plain, not_in_digits}
use Rattle.proof_text.specs.ProofTextWords.{is_numeral, numeral_below, number_of, multiplier_of, after_minus, before_space, behind_space, cut}

abbrev pub AreDigits : List ℕ → Type 0
AreDigits ds = list_all is_ascii_digit ds ≡ true

pub tells_digits : IsDigitsTest AreDigits
tells_digits = search rules

pub own : IsNumeralModel AreDigits (digits_value 10)
own = numerals_by_value AreDigits tells_digits

pub false_from : (b : Bool) → (b ≡ true → ⊥) → b ≡ false
false_from true h = absurd (h refl)
false_from false h = refl

unless : (b c d : Bool) → cond b c d ≡ true → c ≡ false → d ≡ true
unless true c d h short = cc
unless false c d h short = h

second : (a b : Bool) → a && b ≡ true → b ≡ true
second true b h = h
second false b h = cc

one_digit : (x : ℕ) → cond (nat_eq x 48) true (is_ascii_digit x && true) ≡ true → (is_ascii_digit x && true) ≡ true
one_digit x h = grind (arith, nat_tests)

pub numeral_digits : (w : List ℕ) → is_numeral w ≡ true → AreDigits w
unfolding is_numeral
numeral_digits [] h = cc
numeral_digits (x ∷ []) h = one_digit x h
numeral_digits (x ∷ y ∷ ws) h = second _ _ (unless (nat_eq x 48) _ _ h (grind (arith, nat_tests)))

pub numeral_nonempty : (w : List ℕ) → is_numeral w ≡ true → 0 < length w
unfolding is_numeral
numeral_nonempty [] h = cc
numeral_nonempty (x ∷ ws) h = omega arith

option_of : {E X : Type 0} (f : ℕ → X) (r : Result X E) (len v bound : ℕ) → 0 < len → OkIff r ((0 < len) × (v < bound)) (f v) → result_ok r ≡ cond (nat_lt v bound) (Some (f v)) None
option_of f (Ok x) len v bound some h = rw (lt-ltb v bound h.0.1) (ap Some h.1)
option_of f (Err e) len v bound some h = rw (false_from (nat_lt v bound) (λ t. h (some, ltb-true v bound t))) refl

pub number_parsed : {E : Type 0} (w : List ℕ) (r : Result ℕ E) → is_numeral w ≡ true → ParsesUnsigned 32 10 w r → result_ok r ≡ number_of w
number_parsed w r h p = rw h (option_of (λ n. n) r (length w) (digits_value 10 w) (2 ^ 32) (numeral_nonempty w h) (parse_digits own 32 w r p (numeral_digits w h)))

pub not_numeral : (bound : ℕ) (w : List ℕ) → is_numeral w ≡ false → numeral_below bound w ≡ None
not_numeral bound w h = rw h refl

-- at the words that follow a minus, and at the others
with_minus : (w : List ℕ) → nat_eq (get_or w 0 0) 45 ≡ true → after_minus w ≡ Some (drop 1 w)
with_minus w h = rw h refl

without_minus : (w : List ℕ) → nat_eq (get_or w 0 0) 45 ≡ false → after_minus w ≡ None
without_minus w h = rw h refl

three : {E : Type 0} (f : ℕ → ℤ) (r : Result ℤ E) (P : Type 0) (len v bound : ℕ) → P → 0 < len → OkIff r (P × (0 < len) × (v < bound)) (f v) → result_ok r ≡ option_map f (cond (nat_lt v bound) (Some v) None)
three f (Ok x) P len v bound p some h = rw (lt-ltb v bound h.0.2) (ap Some h.1)
three f (Err e) P len v bound p some h = rw (false_from (nat_lt v bound) (λ t. h (p, some, ltb-true v bound t))) refl

up_to : {E : Type 0} (z : ℤ) (r : Result ℤ E) (P Q : Type 0) (v bound : ℕ) → OkIff r (P × Q × (v ≤ bound)) z → OkIff r (P × Q × (v < bound + 1)) z
up_to z (Ok x) P Q v bound h = ((h.0.0, h.0.1, omega arith), h.1)
up_to z (Err e) P Q v bound h = λ k. h (k.0, k.1, omega arith)

pub minus_parsed : {E : Type 0} (w : List ℕ) (r : Result ℤ E) → nat_eq (get_or w 0 0) 45 ≡ true → is_numeral (drop 1 w) ≡ true → ParsesSigned w128 10 w r → result_ok r ≡ multiplier_of w
unfolding multiplier_of
minus_parsed w r minus h p =
    let parsed = parse_signed_minus own w128 w r p (grind (arith, nat_tests)) in
    rw (with_minus w minus) (rw h (three (λ n. neg_ℤ (pos n)) r (AreDigits (drop 1 w)) (length (drop 1 w)) (digits_value 10 (drop 1 w)) (2 ^ 127 + 1) (numeral_digits _ h) (numeral_nonempty _ h) (up_to _ r _ _ _ _ parsed)))

pub plain_parsed : {E : Type 0} (w : List ℕ) (r : Result ℤ E) → nat_eq (get_or w 0 0) 45 ≡ false → is_numeral w ≡ true → ParsesSigned w128 10 w r → result_ok r ≡ multiplier_of w
unfolding multiplier_of
plain_parsed w r minus h p =
    let parsed = parse_signed_plain own w128 w r p (not_in_digits own w 43 (numeral_digits w h) (λ k. absurd (omega arith)) 0 (numeral_nonempty w h)) (not_in_digits own w 45 (numeral_digits w h) (λ k. absurd (omega arith)) 0 (numeral_nonempty w h)) in
    rw (without_minus w minus) (rw h (three pos r (AreDigits w) (length w) (digits_value 10 w) (2 ^ 127) (numeral_digits w h) (numeral_nonempty w h) parsed))

pub unwrapped : (o : Option (Bor (List ℕ))) (w : Bor (List ℕ)) (s : Option (List ℕ)) → option_copied o ≡ s → (unwrap_or o w).now ≡ unwrap_or s w.now
unwrapped None w s h = rw (← h) refl
unwrapped (Some x) w s h = rw (← h) refl

by_first : (w digits : List ℕ) (b : Bool) → nat_eq (get_or w 0 0) 45 ≡ b → digits ≡ unwrap_or (after_minus w) w → digits ≡ cond b (drop 1 w) w
by_first w digits true e h = h ∙ ap (λ o. unwrap_or o w) (with_minus w e)
by_first w digits false e h = h ∙ ap (λ o. unwrap_or o w) (without_minus w e)

parsed_by : {E : Type 0} (w digits : List ℕ) (r : Result ℤ E) (b : Bool) → nat_eq (get_or w 0 0) 45 ≡ b → digits ≡ cond b (drop 1 w) w → is_numeral digits ≡ true → ParsesSigned w128 10 w r → result_ok r ≡ multiplier_of w
parsed_by w digits r true e d h p = minus_parsed w r e (ap is_numeral (sym d) ∙ h) p
parsed_by w digits r false e d h p = plain_parsed w r e (ap is_numeral (sym d) ∙ h) p

pub multiplier_parsed : {E : Type 0} (w digits : List ℕ) (r : Result ℤ E) → digits ≡ unwrap_or (after_minus w) w → is_numeral digits ≡ true → ParsesSigned w128 10 w r → result_ok r ≡ multiplier_of w
multiplier_parsed w digits r d h p = parsed_by w digits r _ refl (by_first w digits _ refl d) h p

refused_by : (w digits : List ℕ) (b : Bool) → nat_eq (get_or w 0 0) 45 ≡ b → digits ≡ cond b (drop 1 w) w → is_numeral digits ≡ false → multiplier_of w ≡ None
unfolding multiplier_of
refused_by w digits true e d h = rw (with_minus w e) (ap (option_map (λ n. neg_ℤ (pos n))) (not_numeral (2 ^ 127 + 1) (drop 1 w) (ap is_numeral (sym d) ∙ h)))
refused_by w digits false e d h = rw (without_minus w e) (ap (option_map pos) (not_numeral (2 ^ 127) w (ap is_numeral (sym d) ∙ h)))

pub multiplier_refused : (w digits : List ℕ) → digits ≡ unwrap_or (after_minus w) w → is_numeral digits ≡ false → multiplier_of w ≡ None
multiplier_refused w digits d h = refused_by w digits _ refl (by_first w digits _ refl d) h

abbrev pair_of : List ℕ → List ℕ → List ℕ × List ℕ
pair_of a b = (a, b)

pub pairs : (a b u v : List ℕ) → a ≡ u → b ≡ v → pair_of a b ≡ pair_of u v
pairs a b u v e f = ap (λ x. pair_of x b) e ∙ ap (pair_of u) f

pub cut_is : (c : ℕ) (bs : List ℕ) (r : Option (Bor (List ℕ) × Bor (List ℕ))) →
    MatchOption r (position_or_len (λ b. nat_eq b c) bs ≡ length bs) (λ x. (position_or_len (λ b. nat_eq b c) bs < length bs) × (x.0.now ≡ before_first (λ b. nat_eq b c) bs) × (x.1.now ≡ after_first (λ b. nat_eq b c) bs)) →
    option_map (λ parts. (parts.0.now, parts.1.now)) r ≡ cut c bs
cut_is c bs None h = rw (le-ltb (position_or_len (λ b. nat_eq b c) bs) (length bs) (omega arith)) refl
cut_is c bs (Some x) h = rw (lt-ltb (position_or_len (λ b. nat_eq b c) bs) (length bs) h.0) (ap (λ (p : List ℕ × List ℕ). Some p) (pairs _ _ _ _ h.1 h.2))

no_minus : (bs : List ℕ) → ((rest : List ℕ) → bs ≢ 45 ∷ rest) → nat_eq (get_or bs 0 0) 45 ≡ false
no_minus [] h = refl
no_minus (x ∷ xs) h = false_from (nat_eq x 45) (λ t. h xs (ap (λ y. y ∷ xs) (grind (arith, nat_tests))))

pub minus_is : (bs : List ℕ) (r : Option (Bor (List ℕ))) → MatchOption r ((rest : List ℕ) → bs ≢ 45 ∷ rest) (λ x. bs ≡ 45 ∷ x.now) → option_copied r ≡ after_minus bs
minus_is bs None h = sym (without_minus bs (no_minus bs h))
minus_is bs (Some x) h = rw h refl

-- ---- spaces at the ends

with_space : (front : List ℕ) → before_space (front ++ 32 ∷ []) ≡ Some front
with_space [] = refl
with_space (b ∷ []) = refl
with_space (b ∷ c ∷ bs) = ap (option_map (λ (front : List ℕ). b ∷ front)) (with_space (c ∷ bs))

pub space_there : (bs front : List ℕ) → before_space bs ≡ Some front → bs ≡ front ++ 32 ∷ []
space_there [] front e = absurd (cc)
space_there (b ∷ []) front e = at (nat_eq b 32) refl e
  where
    at : (t : Bool) → nat_eq b 32 ≡ t → cond t (Some []) None ≡ Some front → b ∷ [] ≡ front ++ 32 ∷ []
    at true is f = let empty : [] ≡ front = cc in subst (λ (fs : List ℕ). b ∷ [] ≡ fs ++ 32 ∷ []) empty (ap (λ (y : ℕ). y ∷ []) (grind (arith, nat_tests, is)))
    at false is f = absurd (cc)
space_there (b ∷ c ∷ bs) front e = at (before_space (c ∷ bs)) (λ fs is. space_there (c ∷ bs) fs is) e
  where
    at : (o : Option (List ℕ)) → ((fs : List ℕ) → o ≡ Some fs → c ∷ bs ≡ fs ++ 32 ∷ []) → option_map (λ (fs : List ℕ). b ∷ fs) o ≡ Some front → b ∷ c ∷ bs ≡ front ++ 32 ∷ []
    at None there f = absurd (cc)
    at (Some fs) there f = let same : b ∷ fs ≡ front = cc in subst (λ (gs : List ℕ). b ∷ c ∷ bs ≡ gs ++ 32 ∷ []) same (ap (λ (gs : List ℕ). b ∷ gs) (there fs refl))

pub before_is : (bs : List ℕ) (r : Option (Bor (List ℕ))) → MatchOption r ((front : List ℕ) → bs ≢ front ++ 32 ∷ []) (λ x. bs ≡ x.now ++ 32 ∷ []) → option_copied r ≡ before_space bs
before_is bs None h = at (before_space bs) refl
  where
    at : (o : Option (List ℕ)) → before_space bs ≡ o → None ≡ before_space bs
    at None e = sym e
    at (Some front) e = absurd (h front (space_there bs front e))
before_is bs (Some x) h = sym (ap before_space h ∙ with_space x.now)

pub behind_is : (bs : List ℕ) (r : Option (Bor (List ℕ))) → MatchOption r ((rest : List ℕ) → bs ≢ 32 ∷ rest) (λ x. bs ≡ 32 ∷ x.now) → option_copied r ≡ behind_space bs
behind_is [] None h = refl
behind_is (b ∷ bs) None h = at (nat_eq b 32) refl
  where
    at : (t : Bool) → nat_eq b 32 ≡ t → None ≡ cond t (Some bs) None
    at true is = absurd (h bs (ap (λ (y : ℕ). y ∷ bs) (grind (arith, nat_tests, is))))
    at false is = refl
behind_is bs (Some x) h = sym (ap behind_space h)
