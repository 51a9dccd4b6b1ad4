-- The variables and the hypotheses of a local context, of which the last entry stands first, in the order in which they came.
use Rattle.std.specs.Prelude.{Bool, false, ◌==◌, List, [], ◌∷◌, ◌++◌}
use Rattle.text_core.specs.declared.name.Name.{Name}
use Rattle.logic_term.specs.declared.kinds.Label2.{Label2}
use Rattle.logic_term.specs.Ty.{Ty}
use Rattle.logic_term.specs.Term.{Term}
use Rattle.proof_kernel.specs.Opened.{opened_hypotheses}
use Rattle.proof_kernel.specs.Rules.{same_label, without, without_variable}
use Rattle.proof_kernel.specs.declared.local_context.LocalEntry.{LocalEntry}
use Rattle.proof_kernel.specs.declared.local_context.LocalEntry.TheVariants.{Variable, Hypothesis, Opened, Dropped, Removed}

abbrev pub variables_in : List LocalEntry → List (Name × Ty)
variables_in [] = []
variables_in (Variable x s ∷ es) = variables_in es ++ (x, s) ∷ []
variables_in (Hypothesis l h ∷ es) = variables_in es
variables_in (Opened o ∷ es) = variables_in es
variables_in (Dropped l ∷ es) = variables_in es
variables_in (Removed x ∷ es) = without_variable x (variables_in es)

abbrev pub hypotheses_in : List LocalEntry → List (Label2 × Term)
hypotheses_in [] = []
hypotheses_in (Variable x s ∷ es) = hypotheses_in es
hypotheses_in (Hypothesis l h ∷ es) = hypotheses_in es ++ (l, h) ∷ []
hypotheses_in (Opened o ∷ es) = hypotheses_in es ++ opened_hypotheses o.step o.names o.context
hypotheses_in (Dropped l ∷ es) = without l (hypotheses_in es)
hypotheses_in (Removed x ∷ es) = hypotheses_in es

-- the entry drops the hypothesis of the label
abbrev pub drops : LocalEntry → Label2 → Bool
drops (Dropped l) m = same_label m l
drops e m = false

-- the entry takes out the variables of the name
abbrev pub removes : LocalEntry → Name → Bool
removes (Removed x) y = x.0 == y.0
removes e y = false

-- the dropped labels, and that of the entry where it drops one
abbrev pub with_dropped : LocalEntry → List Label2 → List Label2
with_dropped (Dropped l) dropped = dropped ++ l ∷ []
with_dropped e dropped = dropped
