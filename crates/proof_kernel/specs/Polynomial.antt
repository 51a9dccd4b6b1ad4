-- Integer terms as polynomials. Sums, differences, negatives and products are multiplied out, a literal is a constant, and
-- every other term is an atom, up to the names that it binds.
use Rattle.std.specs.Prelude.{ℕ, suc, ◌==◌, ◌&&◌, Bool, List, [], ◌∷◌, ◌++◌, map, ℤ, pos, neg_ℤ, ◌+ℤ◌, ◌*ℤ◌, if◌then◌else◌, FitsSigned}
use Rattle.std.specs.Int.{w128}
use Rattle.std.specs.List.{list_all}
use Rattle.source_kinds.specs.declared.kinds.ArithOp.TheVariants.{Add, Sub, Mul}
use Rattle.logic_term.specs.Canonical.{canonical}
use Rattle.logic_term.specs.Same.{same_term}
use Rattle.logic_term.specs.Term.{negated, arith, Term, lit, apply, no_terms, and_term}
use Rattle.proof_kernel.specs.declared.polynomial.Summand.{Summand}

-- ---- monomials

-- the atoms that are multiplied, in any order; [] is 1
abbrev pub Monomial : Type 0
Monomial = List Term

-- how often the atom stands in the monomial
abbrev pub times : Term → Monomial → ℕ
times u [] = 0
times u (t ∷ m) = if same_term t u then suc (times u m) else times u m

-- each atom of the first stands as often in the second
abbrev pub stands_in : Monomial → Monomial → Bool
stands_in m n = list_all (λ u. times u m == times u n) m

-- the monomials have the same atoms, each as often
abbrev pub same_monomial : Monomial → Monomial → Bool
same_monomial m n = stands_in m n && stands_in n m

-- ---- polynomials

-- a sum of monomials, each with its coefficient and no two the same
abbrev pub Polynomial : Type 0
Polynomial = List Summand

abbrev pub summand : ℤ → Monomial → Summand
summand z m = record { coefficient = z; monomial = m }

-- the coefficient of the monomial
abbrev pub coefficient : Monomial → Polynomial → ℤ
coefficient m [] = pos 0
coefficient m (s ∷ p) = if same_monomial s.monomial m then s.coefficient else coefficient m p

-- the polynomial with this summand in the place of that with the same monomial
abbrev pub with_summand : Summand → Polynomial → Polynomial
with_summand s [] = s ∷ []
with_summand s (r ∷ p) = if same_monomial r.monomial s.monomial then s ∷ p else r ∷ with_summand s p

-- what the summand's monomial has in p + s
abbrev pub next_coefficient : Polynomial → Summand → ℤ
next_coefficient p s = coefficient s.monomial p +ℤ s.coefficient

-- p + s
abbrev pub plus : Polynomial → Summand → Polynomial
plus p s = with_summand (summand (next_coefficient p s) s.monomial) p

-- p and all these summands, like terms added from the left
abbrev pub added : Polynomial → List Summand → Polynomial
added p [] = p
added p (s ∷ ss) = added (plus p s) ss

abbrev pub opposite_of : Summand → Summand
opposite_of s = summand (neg_ℤ s.coefficient) s.monomial

abbrev pub opposite : List Summand → List Summand
opposite ss = map opposite_of ss

-- the product of two summands
abbrev pub times_of : Summand → Summand → Summand
times_of s r = summand (s.coefficient *ℤ r.coefficient) (s.monomial ++ r.monomial)

-- the summand times each of these
abbrev pub multiplied : Summand → List Summand → List Summand
multiplied s rs = map (times_of s) rs

-- each summand of the first times each of the second
abbrev pub products : List Summand → List Summand → List Summand
products [] rs = []
products (s ∷ ss) rs = multiplied s rs ++ products ss rs

abbrev pub polynomial : Term → Polynomial
polynomial (apply (arith Add) (and_term a (and_term b no_terms))) = added (polynomial a) (polynomial b)
polynomial (apply (arith Sub) (and_term a (and_term b no_terms))) = added (polynomial a) (opposite (polynomial b))
polynomial (apply (arith Mul) (and_term a (and_term b no_terms))) = added [] (products (polynomial a) (polynomial b))
polynomial (apply negated (and_term a no_terms)) = added [] (opposite (polynomial a))
polynomial (lit z s) = summand z [] ∷ []
polynomial t = summand (pos 1) (canonical t ∷ []) ∷ []

-- ---- widths

-- the number is within 128 bits signed
abbrev pub IsNarrowNumber : ℤ → Type 0
IsNarrowNumber z = FitsSigned w128 z

-- so is each running sum of a coefficient where these summands are added to p
abbrev pub AddsNarrowly : Polynomial → List Summand → Type 0
AddsNarrowly p [] = Unit {0}
AddsNarrowly p (s ∷ ss) = IsNarrowNumber (next_coefficient p s) × AddsNarrowly (plus p s) ss

-- so is each coefficient
abbrev pub AreNarrowSummands : List Summand → Type 0
AreNarrowSummands [] = Unit {0}
AreNarrowSummands (s ∷ ss) = IsNarrowNumber s.coefficient × AreNarrowSummands ss

-- so are all numbers met where the term is made a polynomial, parts before the whole
abbrev pub IsNarrowTerm : Term → Type 0
IsNarrowTerm (apply (arith Add) (and_term a (and_term b no_terms))) = IsNarrowTerm a × IsNarrowTerm b × AddsNarrowly (polynomial a) (polynomial b)
IsNarrowTerm (apply (arith Sub) (and_term a (and_term b no_terms))) = IsNarrowTerm a × IsNarrowTerm b × AddsNarrowly (polynomial a) (opposite (polynomial b))
IsNarrowTerm (apply (arith Mul) (and_term a (and_term b no_terms))) =
    IsNarrowTerm a × IsNarrowTerm b × AreNarrowSummands (products (polynomial a) (polynomial b)) × AddsNarrowly [] (products (polynomial a) (polynomial b))
IsNarrowTerm (apply negated (and_term a no_terms)) = IsNarrowTerm a × AddsNarrowly [] (opposite (polynomial a))
IsNarrowTerm (lit z s) = IsNarrowNumber z
IsNarrowTerm t = Unit {0}
