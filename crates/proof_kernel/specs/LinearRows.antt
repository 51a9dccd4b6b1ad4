-- The rows of the step of linear arithmetic over a table of monomials.
use Rattle.std.specs.Prelude.{◌≡◌, ◌↔◌, ℕ, suc, ◌||◌, Bool, true, false, List, [], ◌∷◌, ◌++◌, Option, Some, if◌then◌else◌}
use Rattle.lin_arith.specs.declared.certificate.Part.{Part}
use Rattle.lin_arith.specs.declared.certificate.Row.{Row}
use Rattle.proof_kernel.specs.declared.linear.Form.{Form}
use Rattle.proof_kernel.specs.declared.linear.LinAnswer.{LinAnswer}
use Rattle.proof_kernel.specs.declared.linear.LinAnswer.TheVariants.{Closes, TooWide}
use Rattle.proof_kernel.specs.declared.linear.Sides.{Sides}
use Rattle.proof_kernel.specs.declared.polynomial.Summand.{Summand}
use Rattle.logic_term.specs.Term.{Term}
use Rattle.proof_kernel.specs.declared.step.Multiple.{Multiple}
use Rattle.proof_kernel.specs.declared.step.Reference.{Reference}
use Rattle.proof_kernel.specs.declared.step.Reference.TheVariants.{Goal, Hyp, Back}
use Rattle.proof_kernel.specs.Rules.{hypothesis}
use Rattle.proof_kernel.specs.Sequent.{Sequent}
use Rattle.proof_kernel.specs.Polynomial.{Monomial, coefficient, opposite, polynomial, same_monomial, AddsNarrowly, IsNarrowTerm}
use Rattle.proof_kernel.specs.Linear.{Difference, row_polynomial, row_constant, AreNarrow, Refutes}

-- the difference of two borrowed terms
abbrev pub difference : Sides → Difference
difference s = record { upper = s.upper.now; lower = s.lower.now; gap = s.gap }

-- the formula that is referred to
abbrev pub cited : Sequent → Reference → Option Term
cited q Goal = Some q.goal
cited q (Hyp l) = hypothesis l q.hyps
cited q (Back l) = hypothesis l q.hyps

-- what is at least 0
abbrev pub form_of : Difference → Form
form_of d = record { polynomial = row_polynomial d; constant = row_constant d }

-- all numbers met in making the difference are within 128 bits
abbrev pub IsNarrowGap : Difference → Type 0
IsNarrowGap d = IsNarrowTerm d.upper × IsNarrowTerm d.lower × AddsNarrowly (polynomial d.upper) (opposite (polynomial d.lower))

-- ---- the table of monomials

abbrev pub is_one : Monomial → Bool
is_one [] = true
is_one (t ∷ m) = false

abbrev pub is_in : List Monomial → Monomial → Bool
is_in [] m = false
is_in (n ∷ ns) m = same_monomial n m || is_in ns m

-- the table with one more monomial, unless it is 1 or in the table
abbrev pub with_monomial : List Monomial → Monomial → List Monomial
with_monomial table m = if is_one m || is_in table m then table else table ++ m ∷ []

-- the table with the monomials of the summands
abbrev pub with_monomials : List Monomial → List Summand → List Monomial
with_monomials table [] = table
with_monomials table (s ∷ ss) = with_monomials (with_monomial table s.monomial) ss

-- the table with the monomials of the forms
abbrev pub with_all_monomials : List Monomial → List Form → List Monomial
with_all_monomials table [] = table
with_all_monomials table (f ∷ fs) = with_all_monomials (with_monomials table f.polynomial) fs

-- ---- rows

-- a part for each monomial, numbered from k on
abbrev pub parts_from : ℕ → List Monomial → Form → List Part
parts_from k [] f = []
parts_from k (m ∷ ms) f = record { atom = k; factor = coefficient m f.polynomial } ∷ parts_from (suc k) ms f

abbrev pub row_over : List Monomial → Form → Row
row_over table f = record { parts = parts_from 0 table f; constant = f.constant }

-- ---- the answer

-- the answer where these are the rows
abbrev pub IsOutcomeOf : LinAnswer → List Difference → List Multiple → Type 0
IsOutcomeOf answer ds ms =
    ((answer ≡ Closes) ↔ (AreNarrow ds ms × Refutes ds ms)) × ((answer ≡ TooWide) ↔ (¬ AreNarrow ds ms))
