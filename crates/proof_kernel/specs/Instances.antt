-- Instances of a universal hypothesis, at terms by the types that are declared (adts).
use Rattle.std.specs.Prelude.{ℕ, List, [], ◌∷◌, Option, Some, None, if◌then◌else◌}
use Rattle.std.specs.Option.{option_map}
use Rattle.logic_term.specs.declared.declaration.AdtDecl.{AdtDecl}
use Rattle.logic_term.specs.declared.kinds.Label2.{Label2}
use Rattle.logic_term.specs.declared.subst.Replacement.{Replacement}
use Rattle.logic_term.specs.Subst.{with_terms}
use Rattle.logic_term.specs.Term.{every, Term, bind}
use Rattle.logic_elab.specs.declared.sorted.SortedTerm.{SortedTerm}
use Rattle.logic_elab.specs.Sorts.{same_ty}
use Rattle.source_trees.specs.Pterm.{Pterm}
use Rattle.proof_kernel.specs.Sequent.{Sequent}
use Rattle.proof_kernel.specs.Rules.{hypothesis}
use Rattle.proof_kernel.specs.TermRules.{term_at, assuming_all}

-- the term for the name of the first quantifier, which is of its sort, and what is quantified
abbrev pub put_first : Option SortedTerm → Term → Option (Replacement × Term)
put_first (Some a) (bind every x s t) = if same_ty a.sort s then Some (record { name = x; by = a.term }, t) else None
put_first _ _ = None

abbrev pub then_with : {A B : Type 0} → (A → Option B) → Option A → Option B
then_with f None = None
then_with f (Some x) = f x

-- the formula without a leading quantifier for each term, with the terms for their names, all at once. σ: the terms for the quantifiers before,
-- the last first, since of two that bind one name the inner one counts
abbrev pub instance_of : List AdtDecl → Sequent → List Replacement → List Pterm → Term → Option Term
instance_of adts q σ [] t = Some (with_terms σ t)
instance_of adts q σ (p ∷ ps) t = then_with (λ r. instance_of adts q (r.0 ∷ σ) ps r.1) (put_first (term_at adts q p) t)

-- at least one term is put
abbrev pub instance : List AdtDecl → Sequent → List Pterm → Term → Option Term
instance adts q [] t = None
instance adts q (p ∷ ps) t = instance_of adts q [] (p ∷ ps) t

abbrev pub instance_if : List AdtDecl → Sequent → List Pterm → Option Term → Option (List Term)
instance_if adts q ps None = None
instance_if adts q ps (Some h) = option_map (λ t. t ∷ []) (instance adts q ps h)

-- the instance of the hypothesis, in normal form
abbrev pub instance_rule : List AdtDecl → ℕ → Sequent → Label2 → List Pterm → Option (List Sequent)
instance_rule adts s q l ps = assuming_all s q (instance_if adts q ps (hypothesis l q.hyps))
