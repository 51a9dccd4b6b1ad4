-- The parts of a term are smaller than it.
use Rattle.std.specs.Prelude.{◌≡◌, ℕ, zero, suc, ◌+◌, ◌≤◌, ◌<◌, length, get_or, max, List, [], ◌∷◌}
use Rattle.std.proofs.Common.{arith, refl, sym, ap, ◌∙◌}
use denote.Param.Weighed.{most}
use Rattle.logic_term.specs.Term.{Term, Terms, no_terms, and_term}
use Rattle.logic_term.specs.TermView.{term_of, term_size, terms_size, terms_of}
use Rattle.logic_term.specs.declared.term.TermNode.{TermNode}
use Rattle.logic_term.specs.declared.term.TermNode.TheVariants as node
use Rattle.logic_term.specs.declared.term.Term.TheDeep.{deep-TermNode}

most_terms : (ts : List Term) → most (λ t. term_size t + 1) ts ≤ terms_size (terms_of ts)
most_terms [] = omega arith
most_terms (t ∷ ts) = omega (arith, most_terms ts)

smaller : (ts : List Term) (i : ℕ) (d : Term) → i < length ts → term_size (get_or ts i d) < terms_size (terms_of ts)
smaller [] i d h = absurd (omega arith)
smaller (t ∷ ts) zero d h = omega arith
smaller (t ∷ ts) (suc i) d h = omega (arith, smaller ts i d (omega arith))

list_of : Terms → List Term
list_of no_terms = []
list_of (and_term t ts) = t ∷ list_of ts

listed : (ts : List Term) → list_of (terms_of ts) ≡ ts
unfolding list_of
listed [] = refl
listed (t ∷ ts) = ap (λ us. t ∷ us) (listed ts)

pub each_smaller : (ts : List Term) (i : ℕ) (t : Term) → t ≡ get_or ts i t → i < length ts → term_size t < terms_size (terms_of ts)
each_smaller ts i t e h = rw e (smaller ts i t h)

pub terms_of_injective : (a b : List Term) → terms_of a ≡ terms_of b → a ≡ b
terms_of_injective a b p = sym (listed a) ∙ ap list_of p ∙ listed b

pub falls : (n : TermNode) → max (deep-TermNode n) 0 ≤ term_size (term_of n)
falls (node.Var x) = omega arith
falls (node.Lit z s) = omega arith
falls (node.Truth b) = omega arith
falls (node.Make c ts) = omega (arith, most_terms ts.items)
falls (node.Unary op a) = omega arith
falls (node.Binary op a b) = omega arith
falls (node.Choice c a b) = omega arith
falls (node.Quantified q x s a) = omega arith
