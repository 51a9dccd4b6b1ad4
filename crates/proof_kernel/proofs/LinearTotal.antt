-- Where the multiples of rows leave no monomial but 1, their sum is that of the constants, whatever the integers of atoms.
use Rattle.std.proofs.Common.{◌≡◌, ◌≢◌, Bool, true, false, cond, List, [], ◌∷◌, ◌++◌, refl, sym, ◌∙◌, ap, ap₂, arith}
use Rattle.std.specs.Prelude.{ℤ, pos, neg_ℤ, ◌+ℤ◌, ◌-ℤ◌, ◌*ℤ◌}
use Rattle.std.proofs.lemmas.Int.{ints}
use Rattle.std.proofs.Math.IntN.{+ℤ_idl, +ℤ_idr, zero-*ℤ, *ℤ-zero}
use Rattle.source_kinds.specs.declared.kinds.ArithOp.TheVariants.{Add, Sub, Mul}
use Rattle.logic_term.specs.Canonical.{canonical}
use Rattle.logic_term.specs.Term.{negated, arith as by_op, Term, lit, apply, no_terms, and_term}
use Rattle.proof_kernel.specs.declared.polynomial.Summand.{Summand}
use Rattle.proof_kernel.specs.declared.step.Multiple.{Multiple}
use Rattle.lin_arith.specs.Certificate.{int_sum}
use Rattle.proof_kernel.specs.Polynomial.{Monomial, same_monomial, coefficient, opposite, products, polynomial}
use Rattle.proof_kernel.specs.Linear.{Difference, row_polynomial, row_factor, row_constant, multiples}
use Rattle.proof_kernel.proofs.IntRing.{plus_times, one_times, times_one, times_swap, add_step}
use Rattle.proof_kernel.proofs.Monomials.{same_refl}
use Rattle.proof_kernel.proofs.PolynomialValue.{monomial_at, monomial_at-append, monomial_at-same, Respects, value_at, value_at-opposite, value_at-products, value_at-added, IsDistinct, distinct-added, polynomial-distinct, changed, changed-respects, value_at-changed}

-- ---- terms and rows at integers for the atoms

abbrev pub sum_at : (Term → ℤ) → Term → ℤ
sum_at ν (apply (by_op Add) (and_term a (and_term b no_terms))) = sum_at ν a +ℤ sum_at ν b
sum_at ν (apply (by_op Sub) (and_term a (and_term b no_terms))) = sum_at ν a -ℤ sum_at ν b
sum_at ν (apply (by_op Mul) (and_term a (and_term b no_terms))) = sum_at ν a *ℤ sum_at ν b
sum_at ν (apply negated (and_term a no_terms)) = neg_ℤ (sum_at ν a)
sum_at ν (lit z s) = z
sum_at ν t = ν (canonical t)

abbrev pub row_at : (Term → ℤ) → Difference → ℤ
row_at ν d = (sum_at ν d.upper -ℤ sum_at ν d.lower) -ℤ d.gap

one_atom : (z : ℤ) → pos 1 *ℤ (z *ℤ pos 1) +ℤ pos 0 ≡ z
one_atom z = +ℤ_idr (pos 1 *ℤ (z *ℤ pos 1)) ∙ one_times (z *ℤ pos 1) ∙ times_one z

polynomial_is : (ν : Term → ℤ) (t : Term) → value_at (monomial_at ν) (polynomial t) ≡ sum_at ν t
polynomial_is ν (apply (by_op Add) (and_term a (and_term b no_terms))) =
    value_at-added (monomial_at ν) (monomial_at-same ν) (polynomial b) (polynomial a) ∙ ap₂ (λ x y. x +ℤ y) (polynomial_is ν a) (polynomial_is ν b)
polynomial_is ν (apply (by_op Sub) (and_term a (and_term b no_terms))) =
    value_at-added (monomial_at ν) (monomial_at-same ν) (opposite (polynomial b)) (polynomial a)
    ∙ ap₂ (λ x y. x +ℤ y) (polynomial_is ν a) (value_at-opposite (monomial_at ν) (polynomial b) ∙ ap neg_ℤ (polynomial_is ν b))
polynomial_is ν (apply (by_op Mul) (and_term a (and_term b no_terms))) =
    value_at-added (monomial_at ν) (monomial_at-same ν) (products (polynomial a) (polynomial b)) []
    ∙ +ℤ_idl (value_at (monomial_at ν) (products (polynomial a) (polynomial b)))
    ∙ value_at-products (monomial_at ν) (monomial_at-append ν) (polynomial a) (polynomial b)
    ∙ ap₂ (λ x y. x *ℤ y) (polynomial_is ν a) (polynomial_is ν b)
polynomial_is ν (apply negated (and_term a no_terms)) =
    value_at-added (monomial_at ν) (monomial_at-same ν) (opposite (polynomial a)) []
    ∙ +ℤ_idl (value_at (monomial_at ν) (opposite (polynomial a)))
    ∙ value_at-opposite (monomial_at ν) (polynomial a)
    ∙ ap neg_ℤ (polynomial_is ν a)
polynomial_is ν (lit z s) = +ℤ_idr (z *ℤ pos 1) ∙ times_one z
polynomial_is ν t = one_atom (ν (canonical t))

-- ---- rows at integers for the monomials

abbrev weight : (Monomial → ℤ) → Difference → ℤ
weight W d = value_at W (row_polynomial d) -ℤ d.gap

weight_is : (ν : Term → ℤ) (d : Difference) → weight (monomial_at ν) d ≡ row_at ν d
weight_is ν d =
    ap (λ x. x -ℤ d.gap)
    (value_at-added (monomial_at ν) (monomial_at-same ν) (opposite (polynomial d.lower)) (polynomial d.upper)
    ∙ ap₂ (λ x y. x +ℤ y) (polynomial_is ν d.upper) (value_at-opposite (monomial_at ν) (polynomial d.lower) ∙ ap neg_ℤ (polynomial_is ν d.lower)))

row-distinct : (d : Difference) → IsDistinct (row_polynomial d)
row-distinct d = distinct-added (opposite (polynomial d.lower)) (polynomial d.upper) (polynomial-distinct d.upper)

weight-changed : (W : Monomial → ℤ) (u : Monomial) (z : ℤ) → Respects W → (d : Difference) → weight (changed W u z) d ≡ weight W d +ℤ row_factor u d *ℤ (z -ℤ W u)
weight-changed W u z r d =
    ap (λ x. x -ℤ d.gap) (value_at-changed W u z r (row_polynomial d) (row-distinct d)) ∙ swap (value_at W (row_polynomial d)) (row_factor u d *ℤ (z -ℤ W u)) d.gap
  where
    swap : (x p g : ℤ) → (x +ℤ p) -ℤ g ≡ (x -ℤ g) +ℤ p
    swap x p g = omega (arith, ints)

-- 1 at the monomial 1, and 0 at all others
abbrev none : Monomial → ℤ
none m = pos 0

abbrev only_one : Monomial → ℤ
only_one = changed none [] (pos 1)

value_at-none : (ss : List Summand) → value_at none ss ≡ pos 0
value_at-none [] = refl
value_at-none (s ∷ ss) = ap₂ (λ x y. x +ℤ y) (*ℤ-zero s.coefficient) (value_at-none ss)

weight-only_one : (d : Difference) → weight only_one d ≡ row_constant d
weight-only_one d =
    ap (λ x. x -ℤ d.gap)
    (value_at-changed none [] (pos 1) (λ m n e. refl) (row_polynomial d) (row-distinct d)
    ∙ ap₂ (λ x y. x +ℤ y) (value_at-none (row_polynomial d)) (times_one (coefficient [] (row_polynomial d)))
    ∙ +ℤ_idl (coefficient [] (row_polynomial d)))

-- ---- the combination of the rows

abbrev pub total : (Difference → ℤ) → List Difference → List Multiple → ℤ
total f ds ms = int_sum (multiples f ds ms)

pub total-same : (f g : Difference → ℤ) → ((d : Difference) → f d ≡ g d) → (ds : List Difference) (ms : List Multiple) → total f ds ms ≡ total g ds ms
total-same f g e [] ms = refl
total-same f g e (d ∷ ds) [] = refl
total-same f g e (d ∷ ds) (m ∷ ms) = ap₂ (λ x y. x *ℤ m.by +ℤ y) (e d) (total-same f g e ds ms)

total-changed : (f g : Difference → ℤ) (v : ℤ) (ds : List Difference) (ms : List Multiple) → total (λ d. f d +ℤ g d *ℤ v) ds ms ≡ total f ds ms +ℤ total g ds ms *ℤ v
total-changed f g v [] ms = sym (ap (λ x. pos 0 +ℤ x) (zero-*ℤ v))
total-changed f g v (d ∷ ds) [] = sym (ap (λ x. pos 0 +ℤ x) (zero-*ℤ v))
total-changed f g v (d ∷ ds) (m ∷ ms) =
    ap₂ (λ x y. x +ℤ y) (plus_times (f d) (g d *ℤ v) m.by ∙ ap (λ x. f d *ℤ m.by +ℤ x) (times_swap (g d) v m.by)) (total-changed f g v ds ms)
    ∙ add_step (f d *ℤ m.by) (total f ds ms) (g d *ℤ m.by) (total g ds ms) v

-- where the factors of a monomial add up to 0, its integer does not matter
total-vanish : (W : Monomial → ℤ) (u : Monomial) (z : ℤ) → Respects W → (ds : List Difference) (ms : List Multiple) → total (row_factor u) ds ms ≡ pos 0 → total (weight (changed W u z)) ds ms ≡ total (weight W) ds ms
total-vanish W u z r ds ms e =
    total-same (weight (changed W u z)) (λ d. weight W d +ℤ row_factor u d *ℤ (z -ℤ W u)) (weight-changed W u z r) ds ms
    ∙ total-changed (weight W) (row_factor u) (z -ℤ W u) ds ms
    ∙ ap (λ x. total (weight W) ds ms +ℤ x) (ap (λ x. x *ℤ (z -ℤ W u)) e ∙ zero-*ℤ (z -ℤ W u))
    ∙ +ℤ_idr (total (weight W) ds ms)

-- ---- from one choice of integers to another

-- the integers are the same at these monomials
abbrev Agree : (Monomial → ℤ) → (Monomial → ℤ) → List Monomial → Type 0
Agree W V [] = Unit {0}
Agree W V (m ∷ ms) = (W m ≡ V m) × Agree W V ms

agree_both : (W V : Monomial → ℤ) (xs ys : List Monomial) → Agree W V (xs ++ ys) → Agree W V xs × Agree W V ys
agree_both W V [] ys h = (tt, h)
agree_both W V (x ∷ xs) ys h = let r = agree_both W V xs ys h.1 in ((h.0, r.0), r.1)

abbrev monomials_of : List Summand → List Monomial
monomials_of [] = []
monomials_of (s ∷ ss) = s.monomial ∷ monomials_of ss

abbrev all_monomials : List Difference → List Monomial
all_monomials [] = []
all_monomials (d ∷ ds) = monomials_of (row_polynomial d) ++ all_monomials ds

value_at-agree : (W V : Monomial → ℤ) (ss : List Summand) → Agree W V (monomials_of ss) → value_at W ss ≡ value_at V ss
value_at-agree W V [] h = refl
value_at-agree W V (s ∷ ss) h = ap₂ (λ x y. s.coefficient *ℤ x +ℤ y) h.0 (value_at-agree W V ss h.1)

total-agree : (W V : Monomial → ℤ) (ds : List Difference) (ms : List Multiple) → Agree W V (all_monomials ds) → total (weight W) ds ms ≡ total (weight V) ds ms
total-agree W V [] ms h = refl
total-agree W V (d ∷ ds) [] h = refl
total-agree W V (d ∷ ds) (m ∷ ms) h =
    let p = agree_both W V (monomials_of (row_polynomial d)) (all_monomials ds) h in
    ap₂ (λ x y. (x -ℤ d.gap) *ℤ m.by +ℤ y) (value_at-agree W V (row_polynomial d) p.0) (total-agree W V ds ms p.1)

module _ (V : Monomial → ℤ) (respects : Respects V) (at_one : V [] ≡ pos 1) (ds : List Difference) (ms : List Multiple) (vanish : (m : Monomial) → m ≢ [] → total (row_factor m) ds ms ≡ pos 0) where
  -- integers that agree with V at these monomials, at which the combination comes to its constant
  abbrev Reached : List Monomial → Type 0
  Reached us = (W : Monomial → ℤ) × Respects W × (W [] ≡ pos 1) × Agree W V us × (total (weight W) ds ms ≡ total row_constant ds ms)

  changed_agrees : (W : Monomial → ℤ) (u m : Monomial) → W m ≡ V m → changed W u (V u) m ≡ V m
  changed_agrees W u m e = choose (same_monomial m u) refl
    where
      choose : (b : Bool) → same_monomial m u ≡ b → cond b (V u) (W m) ≡ V m
      choose true s = sym (respects m u s)
      choose false s = e

  changed_here : (W : Monomial → ℤ) (u : Monomial) → changed W u (V u) u ≡ V u
  changed_here W u = ap (λ b. cond b (V u) (W u)) (same_refl u)

  agree_on : (W : Monomial → ℤ) (u : Monomial) (us : List Monomial) → Agree W V us → Agree (changed W u (V u)) V us
  agree_on W u [] h = tt
  agree_on W u (m ∷ us) h = (changed_agrees W u m h.0, agree_on W u us h.1)

  one_more : (u : Monomial) (us : List Monomial) → Reached us → Reached (u ∷ us)
  one_more [] us r = (r.0, r.1, r.2, (r.2 ∙ sym at_one, r.3), r.4)
  one_more (t ∷ u) us r = (
    changed r.0 (t ∷ u) (V (t ∷ u)),
    changed-respects r.0 (t ∷ u) (V (t ∷ u)) r.1,
    changed_agrees r.0 (t ∷ u) [] (r.2 ∙ sym at_one) ∙ at_one,
    (changed_here r.0 (t ∷ u), agree_on r.0 (t ∷ u) us r.3),
    total-vanish r.0 (t ∷ u) (V (t ∷ u)) r.1 ds ms (vanish (t ∷ u) (λ e. absurd (cc))) ∙ r.4,
  )

  reached : (us : List Monomial) → Reached us
  reached [] = (only_one, changed-respects none [] (pos 1) (λ m n e. refl), refl, tt, total-same (weight only_one) row_constant weight-only_one ds ms)
  reached (u ∷ us) = one_more u us (reached us)

  is_constant : total (weight V) ds ms ≡ total row_constant ds ms
  is_constant = let r : Reached (all_monomials ds) = reached (all_monomials ds) in sym (total-agree r.0 V ds ms r.3) ∙ r.4

pub total_is_constant : (ν : Term → ℤ) (ds : List Difference) (ms : List Multiple) → ((m : Monomial) → m ≢ [] → total (row_factor m) ds ms ≡ pos 0) → total (row_at ν) ds ms ≡ total row_constant ds ms
total_is_constant ν ds ms vanish =
    sym (total-same (weight (monomial_at ν)) (row_at ν) (weight_is ν) ds ms) ∙ is_constant (monomial_at ν) (monomial_at-same ν) refl ds ms vanish
