-- One summand more in the loops of polynomials.
use Rattle.std.proofs.Common.{◌≡◌, ℕ, suc, ◌+◌, ◌<◌, ◌≤◌, Bool, true, false, cond, List, [], ◌∷◌, ◌++◌, length, drop, get_or, refl, sym, ◌∙◌, ap, subst, arith, add-one, append_assoc}
use Rattle.std.specs.Prelude.{slice_set}
use Rattle.std.proofs.Math.Seq.{drop-cons}
use Rattle.std.proofs.lemmas.List.{drop_all}
use Rattle.proof_kernel.specs.declared.polynomial.Summand.{Summand}
use Rattle.proof_kernel.specs.Polynomial.{Polynomial, same_monomial, with_summand, next_coefficient, plus, added, opposite_of, opposite, times_of, multiplied, products, IsNarrowNumber, AddsNarrowly, AreNarrowSummands}
use Rattle.proof_kernel.specs.PolynomialCode.{place}

-- what is left of a list, one item at a time
pub left_is : {A : Type 0} (xs : List A) (i : ℕ) (x : A) → i < length xs → x ≡ get_or xs i x → drop i xs ≡ x ∷ drop (i + 1) xs
left_is xs i x l e = rw add-one (drop-cons xs i x l ∙ ap (λ y. y ∷ drop (suc i) xs) (sym e))

-- ---- the place of a monomial

put_here : (s : Summand) (p : Polynomial) → place s.monomial p < length p → slice_set p (place s.monomial p) s ≡ with_summand s p
put_here s [] l = absurd (omega arith)
put_here s (r ∷ p) l = choose (same_monomial r.monomial s.monomial) (λ h. put_here s p h) l
  where
    choose : (b : Bool) → (place s.monomial p < length p → slice_set p (place s.monomial p) s ≡ with_summand s p) → cond b 0 (suc (place s.monomial p)) < suc (length p) → slice_set (r ∷ p) (cond b 0 (suc (place s.monomial p))) s ≡ cond b (s ∷ p) (r ∷ with_summand s p)
    choose true later k = refl
    choose false later k = ap (λ (q : Polynomial). r ∷ q) (later (omega arith))

pub put_at : (s : Summand) (p : Polynomial) (at : ℕ) → at ≡ place s.monomial p → at < length p → slice_set p at s ≡ with_summand s p
put_at s p at e l = ap (λ k. slice_set p k s) e ∙ put_here s p (omega arith)

put_there : (s : Summand) (p : Polynomial) → length p ≤ place s.monomial p → p ++ s ∷ [] ≡ with_summand s p
put_there s [] l = refl
put_there s (r ∷ p) l = choose (same_monomial r.monomial s.monomial) (λ h. put_there s p h) l
  where
    choose : (b : Bool) → (length p ≤ place s.monomial p → p ++ s ∷ [] ≡ with_summand s p) → suc (length p) ≤ cond b 0 (suc (place s.monomial p)) → r ∷ (p ++ s ∷ []) ≡ cond b (s ∷ p) (r ∷ with_summand s p)
    choose true later k = absurd (omega arith)
    choose false later k = ap (λ (q : Polynomial). r ∷ q) (later (omega arith))

pub put_last : (s : Summand) (p : Polynomial) (at : ℕ) → at ≡ place s.monomial p → length p ≤ at → p ++ s ∷ [] ≡ with_summand s p
put_last s p at e l = put_there s p (omega arith)

-- ---- sums

-- what is left to add leads to the same, as narrowly
abbrev pub AddsAs : Polynomial → List Summand → Polynomial → List Summand → Type 0
AddsAs p ss sum rest = (added p ss ≡ added sum rest) × ((AddsNarrowly p ss → AddsNarrowly sum rest) × (AddsNarrowly sum rest → AddsNarrowly p ss))

pub adds_start : (p : Polynomial) (ss : List Summand) → AddsAs p ss p ss
adds_start p ss = (refl, ((λ h. h), (λ h. h)))

more : (p : Polynomial) (ss : List Summand) (sum : Polynomial) (s : Summand) (rest : List Summand) → AddsAs p ss sum (s ∷ rest) → IsNarrowNumber (next_coefficient sum s) → AddsAs p ss (plus sum s) rest
more p ss sum s rest h n = (h.0, ((λ x. (h.1.0 x).1), (λ y. h.1.1 (n, y))))

pub adds_more : (p sum new : Polynomial) (ss : List Summand) (i : ℕ) (s : Summand) → i < length ss → s ≡ get_or ss i s → IsNarrowNumber (next_coefficient sum s) × (new ≡ plus sum s) → AddsAs p ss sum (drop i ss) → AddsAs p ss new (drop (i + 1) ss)
adds_more p sum new ss i s l e n h =
    subst (λ (q : Polynomial). AddsAs p ss q (drop (i + 1) ss)) (sym n.1)
    (more p ss sum s (drop (i + 1) ss) (subst (λ rest. AddsAs p ss sum rest) (left_is ss i s l e) h) n.0)

pub adds_too_wide : (p sum : Polynomial) (ss : List Summand) (i : ℕ) (s : Summand) → i < length ss → s ≡ get_or ss i s → (IsNarrowNumber (next_coefficient sum s) → ⊥) → AddsAs p ss sum (drop i ss) → AddsNarrowly p ss → ⊥
adds_too_wide p sum ss i s l e n h g =
    let rest : AddsNarrowly sum (s ∷ drop (i + 1) ss) = subst (AddsNarrowly sum) (left_is ss i s l e) (h.1.0 g) in n rest.0

pub adds_all : (p sum : Polynomial) (ss : List Summand) (i : ℕ) → length ss ≤ i → AddsAs p ss sum (drop i ss) → AddsNarrowly p ss × (sum ≡ added p ss)
adds_all p sum ss i l h =
    let all : AddsAs p ss sum [] = subst (λ rest. AddsAs p ss sum rest) (drop_all i ss l) h in (all.1.1 tt, sym all.0)

-- the same with summands that are taken off
pub takes_more : (p sum new : Polynomial) (ss : List Summand) (i : ℕ) (s : Summand) → i < length ss → s ≡ get_or ss i s
    → IsNarrowNumber (next_coefficient sum (opposite_of s)) × (new ≡ plus sum (opposite_of s)) → AddsAs p (opposite ss) sum (opposite (drop i ss)) → AddsAs p (opposite ss) new (opposite (drop (i + 1) ss))
takes_more p sum new ss i s l e n h =
    subst (λ (q : Polynomial). AddsAs p (opposite ss) q (opposite (drop (i + 1) ss))) (sym n.1)
    (more p (opposite ss) sum (opposite_of s) (opposite (drop (i + 1) ss)) (subst (λ rest. AddsAs p (opposite ss) sum (opposite rest)) (left_is ss i s l e) h) n.0)

pub takes_too_wide : (p sum : Polynomial) (ss : List Summand) (i : ℕ) (s : Summand) → i < length ss → s ≡ get_or ss i s → (IsNarrowNumber (next_coefficient sum (opposite_of s)) → ⊥) → AddsAs p (opposite ss) sum (opposite (drop i ss)) → AddsNarrowly p (opposite ss) → ⊥
takes_too_wide p sum ss i s l e n h g =
    let rest : AddsNarrowly sum (opposite (s ∷ drop (i + 1) ss)) = subst (λ rest. AddsNarrowly sum (opposite rest)) (left_is ss i s l e) (h.1.0 g) in n rest.0

pub takes_all : (p sum : Polynomial) (ss : List Summand) (i : ℕ) → length ss ≤ i → AddsAs p (opposite ss) sum (opposite (drop i ss)) → AddsNarrowly p (opposite ss) × (sum ≡ added p (opposite ss))
takes_all p sum ss i l h =
    let all : AddsAs p (opposite ss) sum [] = subst (λ rest. AddsAs p (opposite ss) sum (opposite rest)) (drop_all i ss l) h in (all.1.1 tt, sym all.0)

-- ---- products

-- what is made and what is left make the whole, as narrowly
abbrev pub MakesAs : List Summand → List Summand → List Summand → List Summand → Type 0
MakesAs whole narrow made rest = (whole ≡ made ++ rest) × ((AreNarrowSummands narrow → AreNarrowSummands rest) × (AreNarrowSummands rest → AreNarrowSummands narrow))

narrow_both : (xs ys : List Summand) → AreNarrowSummands (xs ++ ys) → AreNarrowSummands xs × AreNarrowSummands ys
narrow_both [] ys h = (tt, h)
narrow_both (x ∷ xs) ys h = let r = narrow_both xs ys h.1 in ((h.0, r.0), r.1)

narrow_append : (xs ys : List Summand) → AreNarrowSummands xs → AreNarrowSummands ys → AreNarrowSummands (xs ++ ys)
narrow_append [] ys h g = g
narrow_append (x ∷ xs) ys h g = (h.0, narrow_append xs ys h.1 g)

makes : (whole narrow made xs rest : List Summand) → MakesAs whole narrow made (xs ++ rest) → AreNarrowSummands xs → MakesAs whole narrow (made ++ xs) rest
makes whole narrow made xs rest h n =
    (h.0 ∙ sym (append_assoc made xs rest), ((λ g. (narrow_both xs rest (h.1.0 g)).1), (λ g. h.1.1 (narrow_append xs rest n g))))

pub times_more : (whole : List Summand) (s : Summand) (os : List Summand) (made new : List Summand) (i : ℕ) (o product : Summand) → i < length os → o ≡ get_or os i o → IsNarrowNumber (times_of s o).coefficient × (product ≡ times_of s o) → new ≡ made ++ product ∷ []
    → MakesAs whole (multiplied s os) made (multiplied s (drop i os)) → MakesAs whole (multiplied s os) new (multiplied s (drop (i + 1) os))
times_more whole s os made new i o product l e n f h =
    subst (λ (m : List Summand). MakesAs whole (multiplied s os) m (multiplied s (drop (i + 1) os))) (sym (f ∙ ap (λ (x : Summand). made ++ x ∷ []) n.1))
    (makes whole (multiplied s os) made (times_of s o ∷ []) (multiplied s (drop (i + 1) os)) (subst (λ rest. MakesAs whole (multiplied s os) made (multiplied s rest)) (left_is os i o l e) h) (n.0, tt))

pub times_too_wide : (whole : List Summand) (s : Summand) (os : List Summand) (made : List Summand) (i : ℕ) (o : Summand) → i < length os → o ≡ get_or os i o
    → (IsNarrowNumber (times_of s o).coefficient → ⊥) → MakesAs whole (multiplied s os) made (multiplied s (drop i os)) → AreNarrowSummands (multiplied s os) → ⊥
times_too_wide whole s os made i o l e n h g =
    let rest : AreNarrowSummands (multiplied s (o ∷ drop (i + 1) os)) = subst (λ rest. AreNarrowSummands (multiplied s rest)) (left_is os i o l e) (h.1.0 g) in n rest.0

append_none : (xs : List Summand) → xs ++ [] ≡ xs
append_none [] = refl
append_none (x ∷ xs) = ap (λ (ys : List Summand). x ∷ ys) (append_none xs)

pub times_all : (whole : List Summand) (s : Summand) (os : List Summand) (made : List Summand) (i : ℕ) → length os ≤ i → MakesAs whole (multiplied s os) made (multiplied s (drop i os)) → AreNarrowSummands (multiplied s os) × (made ≡ whole)
times_all whole s os made i l h =
    let all : MakesAs whole (multiplied s os) made [] = subst (λ rest. MakesAs whole (multiplied s os) made (multiplied s rest)) (drop_all i os l) h in
    (all.1.1 tt, sym (all.0 ∙ append_none made))

pub products_more : (ss rs made new : List Summand) (i : ℕ) (s : Summand) → i < length ss → s ≡ get_or ss i s → AreNarrowSummands (multiplied s rs) × (new ≡ made ++ multiplied s rs)
    → MakesAs (products ss rs) (products ss rs) made (products (drop i ss) rs) → MakesAs (products ss rs) (products ss rs) new (products (drop (i + 1) ss) rs)
products_more ss rs made new i s l e n h =
    subst (λ (m : List Summand). MakesAs (products ss rs) (products ss rs) m (products (drop (i + 1) ss) rs)) (sym n.1)
    (makes (products ss rs) (products ss rs) made (multiplied s rs) (products (drop (i + 1) ss) rs) (subst (λ rest. MakesAs (products ss rs) (products ss rs) made (products rest rs)) (left_is ss i s l e) h) n.0)

pub products_too_wide : (ss rs made : List Summand) (i : ℕ) (s : Summand) → i < length ss → s ≡ get_or ss i s → (AreNarrowSummands (multiplied s rs) → ⊥) → MakesAs (products ss rs) (products ss rs) made (products (drop i ss) rs) → AreNarrowSummands (products ss rs) → ⊥
products_too_wide ss rs made i s l e n h g =
    let rest : AreNarrowSummands (multiplied s rs ++ products (drop (i + 1) ss) rs) = subst (λ rest. AreNarrowSummands (products rest rs)) (left_is ss i s l e) (h.1.0 g) in
    n (narrow_both (multiplied s rs) (products (drop (i + 1) ss) rs) rest).0

pub products_all : (ss rs made : List Summand) (i : ℕ) → length ss ≤ i → MakesAs (products ss rs) (products ss rs) made (products (drop i ss) rs) → AreNarrowSummands (products ss rs) × (made ≡ products ss rs)
products_all ss rs made i l h =
    let all : MakesAs (products ss rs) (products ss rs) made [] = subst (λ rest. MakesAs (products ss rs) (products ss rs) made (products rest rs)) (drop_all i ss l) h in
    (all.1.1 tt, sym (all.0 ∙ append_none made))
