-- The step of linear arithmetic: rows of the hypotheses and of the negated goal that no integers meet together, by a Farkas
-- certificate. The sides of a row are polynomials, and a row is linear in their monomials.
use Rattle.std.specs.Prelude.{◌≡◌, ◌≢◌, ℕ, ◌<◌, Bool, true, false, List, [], ◌∷◌, length, Option, Some, None, ℤ, pos, ◌-ℤ◌, ◌*ℤ◌, ◌<ℤ◌, ◌≤ℤ◌, if◌then◌else◌, All}
use Rattle.text_core.specs.declared.name.Name.{Name}
use Rattle.logic_term.specs.Ty.{Ty, math_int}
use Rattle.logic_term.specs.Term.{modeled, negated, denied, arith, less, at_most, equal, Term, var, lit, apply, no_terms, and_term}
use Rattle.proof_kernel.specs.Sequent.{Sequent}
use Rattle.proof_kernel.specs.declared.step.Multiple.{Multiple}
use Rattle.proof_kernel.specs.declared.step.Reference.{Reference}
use Rattle.proof_kernel.specs.declared.step.Reference.TheVariants.{Goal, Hyp, Back}
use Rattle.lin_arith.specs.Certificate.{int_sum, IsNarrowAt}
use Rattle.proof_kernel.specs.Polynomial.{Monomial, Polynomial, coefficient, added, opposite, polynomial, IsNarrowNumber, AddsNarrowly, IsNarrowTerm}
use Rattle.proof_kernel.specs.Rules.{hypothesis, sort_of}

-- ---- rows

-- upper - lower - gap is at least 0
pub record Difference : Type 0 where
  pub upper : Term
  pub lower : Term
  pub gap : ℤ

abbrev pub at_least : Term → Term → Difference
at_least upper lower = record { upper = upper; lower = lower; gap = pos 0 }

abbrev pub greater : Term → Term → Difference
greater upper lower = record { upper = upper; lower = lower; gap = pos 1 }

abbrev pub is_math_int : Ty → Bool
is_math_int math_int = true
is_math_int t = false

abbrev pub is_math_int_var : Option Ty → Bool
is_math_int_var None = false
is_math_int_var (Some t) = is_math_int t

-- the term has the sort Int, by the variables' sorts
abbrev pub is_integer : List (Name × Ty) → Term → Bool
is_integer vars (var x) = is_math_int_var (sort_of x vars)
is_integer vars (lit z s) = is_math_int s
is_integer vars (apply modeled ts) = true
is_integer vars (apply negated ts) = true
is_integer vars (apply (arith op) ts) = true
is_integer vars t = false

-- the row of a hypothesis, if its form gives one; an equality gives one of integers alone
abbrev pub row_of : List (Name × Ty) → Term → Option Difference
row_of vars (apply at_most (and_term a (and_term b no_terms))) = Some (at_least b a)
row_of vars (apply less (and_term a (and_term b no_terms))) = Some (greater b a)
row_of vars (apply equal (and_term a (and_term b no_terms))) = if is_integer vars a then Some (at_least b a) else None
row_of vars (apply denied (and_term (apply at_most (and_term a (and_term b no_terms))) no_terms)) = Some (greater a b)
row_of vars (apply denied (and_term (apply less (and_term a (and_term b no_terms))) no_terms)) = Some (at_least a b)
row_of vars t = None

-- the row of an equality the other way round
abbrev pub row_back : List (Name × Ty) → Term → Option Difference
row_back vars (apply equal (and_term a (and_term b no_terms))) = if is_integer vars a then Some (at_least a b) else None
row_back vars t = None

-- the row of the negation of the goal
abbrev pub row_of_goal : Term → Option Difference
row_of_goal (apply at_most (and_term a (and_term b no_terms))) = Some (greater a b)
row_of_goal (apply less (and_term a (and_term b no_terms))) = Some (at_least a b)
row_of_goal t = None

abbrev pub row_if_found : (Term → Option Difference) → Option Term → Option Difference
row_if_found row None = None
row_if_found row (Some t) = row t

abbrev pub referred : Sequent → Reference → Option Difference
referred q Goal = row_of_goal q.goal
referred q (Hyp l) = row_if_found (row_of q.vars) (hypothesis l q.hyps)
referred q (Back l) = row_if_found (row_back q.vars) (hypothesis l q.hyps)

-- the references give these rows
abbrev pub AreRows : Sequent → List Multiple → List Difference → Type 0
AreRows q [] [] = Unit {0}
AreRows q (m ∷ ms) (d ∷ ds) = (referred q m.of ≡ Some d) × AreRows q ms ds
AreRows q [] (d ∷ ds) = ⊥
AreRows q (m ∷ ms) [] = ⊥

-- upper - lower
abbrev pub row_polynomial : Difference → Polynomial
row_polynomial d = added (polynomial d.upper) (opposite (polynomial d.lower))

abbrev pub row_factor : Monomial → Difference → ℤ
row_factor m d = coefficient m (row_polynomial d)

-- upper - lower - gap at the monomial 1
abbrev pub row_constant : Difference → ℤ
row_constant d = coefficient [] (row_polynomial d) -ℤ d.gap

-- ---- the certificate

-- the number of each row, times the row's multiplier
abbrev pub multiples : (Difference → ℤ) → List Difference → List Multiple → List ℤ
multiples f [] ms = []
multiples f (d ∷ ds) [] = []
multiples f (d ∷ ds) (m ∷ ms) = (f d *ℤ m.by) ∷ multiples f ds ms

-- all numbers met in making the rows are within 128 bits
abbrev pub IsNarrowDifference : Difference → Type 0
IsNarrowDifference d =
    IsNarrowTerm d.upper × IsNarrowTerm d.lower × AddsNarrowly (polynomial d.upper) (opposite (polynomial d.lower)) × IsNarrowNumber (row_constant d)

-- each product and each running sum is within 128 bits
abbrev pub AreNarrowSums : List ℤ → Type 0
AreNarrowSums zs = (k : ℕ) → k < length zs → IsNarrowAt zs k

pub record AreNarrow (ds : List Difference) (ms : List Multiple) : Type 0 where
  pub rows : All IsNarrowDifference ds
  pub factors : (m : Monomial) → m ≢ [] → AreNarrowSums (multiples (row_factor m) ds ms)
  pub constants : AreNarrowSums (multiples row_constant ds ms)

-- no multiplier is negative, no monomial but 1 is left, and the constant is negative
pub record Refutes (ds : List Difference) (ms : List Multiple) : Type 0 where
  pub none_negative : All (λ m. pos 0 ≤ℤ m.by) ms
  pub factors_vanish : (m : Monomial) → m ≢ [] → int_sum (multiples (row_factor m) ds ms) ≡ pos 0
  pub constant_negative : int_sum (multiples row_constant ds ms) <ℤ pos 0

-- the multiples close the sequent
pub record Certifies (q : Sequent) (ms : List Multiple) : Type 0 where
  pub rows : List Difference
  pub are_rows : AreRows q ms rows
  pub narrow : AreNarrow rows ms
  pub refutes : Refutes rows ms

-- they give rows, and some number passes 128 bits
pub record PassesWidth (q : Sequent) (ms : List Multiple) : Type 0 where
  pub rows : List Difference
  pub are_rows : AreRows q ms rows
  pub wide : ¬ AreNarrow rows ms
