-- What the code of polynomials computes on the way.
use Rattle.std.specs.Prelude.{◌≡◌, ℕ, suc, List, [], ◌∷◌, Option, Some, None, if◌then◌else◌}
use Rattle.std.specs.Borrow.{Bor}
use Rattle.source_kinds.specs.declared.kinds.ArithOp.TheVariants.{Add, Sub, Mul}
use Rattle.logic_term.specs.Term.{negated, arith, Term, apply, no_terms, and_term}
use Rattle.proof_kernel.specs.Polynomial.{Monomial, Polynomial, same_monomial, added, opposite, products, polynomial, AddsNarrowly, AreNarrowSummands, IsNarrowTerm}

-- where the monomial stands in the polynomial, from 0; its length where it does not
abbrev pub place : Monomial → Polynomial → ℕ
place m [] = 0
place m (s ∷ p) = if same_monomial s.monomial m then 0 else suc (place m p)

-- all numbers met in multiplying the polynomials are within 128 bits
abbrev pub IsNarrowProduct : Polynomial → Polynomial → Type 0
IsNarrowProduct p q = AreNarrowSummands (products p q) × AddsNarrowly [] (products p q)

-- ---- first operands

abbrev pub left_operand : Term → Option Term
left_operand (apply (arith Add) (and_term a (and_term b no_terms))) = Some a
left_operand (apply (arith Sub) (and_term a (and_term b no_terms))) = Some a
left_operand (apply (arith Mul) (and_term a (and_term b no_terms))) = Some a
left_operand (apply negated (and_term a no_terms)) = Some a
left_operand t = None

-- t is the first operand of the first of these, that of the next one, and so on up to the whole
abbrev pub IsWithin : List (Bor Term) → Term → Term → Type 0
IsWithin [] t whole = t ≡ whole
IsWithin (u ∷ us) t whole = (left_operand u.now ≡ Some t) × IsWithin us u.now whole

-- the polynomial of a term whose first operand has the polynomial p
abbrev pub joined_in : Term → Polynomial → Polynomial
joined_in (apply (arith Add) (and_term a (and_term b no_terms))) p = added p (polynomial b)
joined_in (apply (arith Sub) (and_term a (and_term b no_terms))) p = added p (opposite (polynomial b))
joined_in (apply (arith Mul) (and_term a (and_term b no_terms))) p = added [] (products p (polynomial b))
joined_in (apply negated (and_term a no_terms)) p = added [] (opposite p)
joined_in t p = p

-- all numbers that are met in making it are within 128 bits
abbrev pub JoinsNarrowly : Term → Polynomial → Type 0
JoinsNarrowly (apply (arith Add) (and_term a (and_term b no_terms))) p = IsNarrowTerm b × AddsNarrowly p (polynomial b)
JoinsNarrowly (apply (arith Sub) (and_term a (and_term b no_terms))) p = IsNarrowTerm b × AddsNarrowly p (opposite (polynomial b))
JoinsNarrowly (apply (arith Mul) (and_term a (and_term b no_terms))) p = IsNarrowTerm b × IsNarrowProduct p (polynomial b)
JoinsNarrowly (apply negated (and_term a no_terms)) p = AddsNarrowly [] (opposite p)
JoinsNarrowly t p = Unit {0}

-- the polynomial of what is within all of these is made
abbrev pub IsMadeWithin : List (Bor Term) → Polynomial → Term → Type 0
IsMadeWithin us p whole = (t : Term) × IsWithin us t whole × IsNarrowTerm t × (p ≡ polynomial t)
