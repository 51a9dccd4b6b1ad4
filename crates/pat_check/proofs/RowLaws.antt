-- What the first remaining row says of the values of which this is known.
use Rattle.std.proofs.Common.{◌≡◌, refl, sym, ◌∙◌, subst, ℕ, suc, Bool, true, false, cond, ◌||◌, Some, List, [], ◌∷◌}
use Rattle.logic_term.specs.Matches.{matches, bindings}
use Rattle.logic_term.specs.Pattern.{Pat}
use Rattle.logic_term.specs.Sort.{Declarations}
use Rattle.logic_term.specs.Ty.{Ty}
use Rattle.logic_term.specs.Value.{Value}
use Rattle.logic_term.specs.declared.pattern.PatStep.{PatStep}
use Rattle.pat_check.proofs.Sound.{sure_matches, fails_match}
use Rattle.pat_check.proofs.Spots.{Spot, spot}
use Rattle.pat_check.specs.Decision.{first_match}
use Rattle.pat_check.specs.Known.{Known, agrees}
use Rattle.pat_check.specs.KnownTypes.{IsKnown}
use Rattle.pat_check.specs.Rows.{no_row, row, test, by_status, next}
use Rattle.pat_check.specs.Status.{Status, fails, sure, asks, status}
use Rattle.pat_check.specs.Typed.{AllPats, some_match}
use Rattle.pat_check.specs.declared.test.Test.{Test}

pub row_first : (n : ℕ) (ps : List Pat) (k : Known) (m : ℕ) (p : Pat) (v : Value) → next n ps k ≡ row m p → agrees k v ≡ true → first_match n ps v ≡ Some (record { arm = m; binds = bindings p })
row_first n [] k m p v e a = absurd (cc)
row_first n (q ∷ qs) k m p v e a = by_case (λ f. row_first (suc n) qs k m p v f a) (status q k) refl e
  where
    by_case : (next (suc n) qs k ≡ row m p → first_match (suc n) qs v ≡ Some (record { arm = m; binds = bindings p })) → (s : Status) → status q k ≡ s → by_status s n q (next (suc n) qs k) ≡ row m p
        → first_match n (q ∷ qs) v ≡ Some (record { arm = m; binds = bindings p })
    by_case more fails s f = subst (λ b. cond b (Some (record { arm = n; binds = bindings q })) (first_match (suc n) qs v) ≡ Some (record { arm = m; binds = bindings p })) (sym (fails_match q k v s a)) (more f)
    by_case more sure s f =
        let x : n ≡ m = cc in
        let y : q ≡ p = cc in
        subst (λ b. cond b (Some (record { arm = n; binds = bindings q })) (first_match (suc n) qs v) ≡ Some (record { arm = m; binds = bindings p })) (sym (sure_matches q k v s a)) (λ i. Some (record { arm = x i; binds = bindings (y i) }))
    by_case more (asks r w) s f = absurd (cc)

-- where no row is left, no pattern matches
pub none_matches : (n : ℕ) (ps : List Pat) (k : Known) (v : Value) → next n ps k ≡ no_row → agrees k v ≡ true → some_match ps v ≡ false
none_matches n [] k v e a = refl
none_matches n (q ∷ qs) k v e a = by_case (λ f. none_matches (suc n) qs k v f a) (status q k) refl e
  where
    by_case : (next (suc n) qs k ≡ no_row → some_match qs v ≡ false) → (s : Status) → status q k ≡ s → by_status s n q (next (suc n) qs k) ≡ no_row → some_match (q ∷ qs) v ≡ false
    by_case more fails s f = subst (λ b. b || some_match qs v ≡ false) (sym (fails_match q k v s a)) (more f)
    by_case more sure s f = absurd (cc)
    by_case more (asks r w) s f = absurd (cc)

-- where a row is reached, a pattern matches
pub one_matches : (n : ℕ) (ps : List Pat) (k : Known) (m : ℕ) (p : Pat) (v : Value) → next n ps k ≡ row m p → agrees k v ≡ true → some_match ps v ≡ true
one_matches n [] k m p v e a = absurd (cc)
one_matches n (q ∷ qs) k m p v e a = by_case (λ f. one_matches (suc n) qs k m p v f a) (status q k) refl e
  where
    or_true : (b : Bool) → b || true ≡ true
    or_true true = refl
    or_true false = refl

    by_case : (next (suc n) qs k ≡ row m p → some_match qs v ≡ true) → (s : Status) → status q k ≡ s → by_status s n q (next (suc n) qs k) ≡ row m p → some_match (q ∷ qs) v ≡ true
    by_case more fails s f = subst (λ b. matches q v || b ≡ true) (sym (more f)) (or_true (matches q v))
    by_case more sure s f = subst (λ b. b || some_match qs v ≡ true) (sym (sure_matches q k v s a)) refl
    by_case more (asks r w) s f = absurd (cc)

-- where a test is asked, a pattern of the type asks it
pub test_spot : (Δ : Declarations) (n : ℕ) (ps : List Pat) (k : Known) (t : Ty) (p : List PatStep) (w : Test) → AllPats Δ ps t → IsKnown Δ k t → next n ps k ≡ test p w → Spot Δ k t p w
test_spot Δ n [] k t p w h g e = absurd (cc)
test_spot Δ n (q ∷ qs) k t p w (hq, hs) g e = by_case (λ f. test_spot Δ (suc n) qs k t p w hs g f) (status q k) refl e
  where
    by_case : (next (suc n) qs k ≡ test p w → Spot Δ k t p w) → (s : Status) → status q k ≡ s → by_status s n q (next (suc n) qs k) ≡ test p w → Spot Δ k t p w
    by_case more fails s f = more f
    by_case more sure s f = absurd (cc)
    by_case more (asks r x) s f =
        let a : r ≡ p = cc in
        let b : x ≡ w = cc in
        spot Δ q k t p w hq g (s ∙ (λ i. asks (a i) (b i)))
