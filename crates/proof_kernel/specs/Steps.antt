-- What a step names: a list each of labels and of names, whatever the kind of the step.
use Rattle.std.specs.Prelude.{◌≡◌, ◌⊎◌, ℕ, List, [], ◌∷◌, Some, flat_map}
use Rattle.std.specs.List.{Contains}
use Rattle.text_core.specs.declared.name.Name.{Name}
use Rattle.logic_term.specs.declared.kinds.Label2.{Label2}
use Rattle.logic_term.specs.Ty.{Ty}
use Rattle.logic_term.specs.Term.{Term}
use Rattle.proof_kernel.specs.Sequent.{Sequent}
use Rattle.proof_kernel.specs.declared.step.Reference.{Reference}
use Rattle.proof_kernel.specs.declared.step.Reference.TheVariants.{Goal, Hyp as Of, Back}
use Rattle.proof_kernel.specs.declared.step.Step.{Step}
use Rattle.proof_kernel.specs.declared.step.Target.{Target}
use Rattle.proof_kernel.specs.declared.step.Target.TheVariants as targets
use Rattle.proof_kernel.specs.declared.step.Step.TheVariants.{Intro, Hyp, Split, Lin, OnGoal, OnHypothesis, OnTwo, Rewrite, Decide, OnTerm, Divide, Instantiate, Unpack, ByVariants, Induct}
use Rattle.proof_kernel.specs.Rules.{hypothesis, sort_of}

abbrev pub labels_in : Reference → List Label2
labels_in Goal = []
labels_in (Of l) = l ∷ []
labels_in (Back l) = l ∷ []

abbrev pub label_of_target : Target → List Label2
label_of_target targets.Goal = []
label_of_target (targets.Hyp l) = l ∷ []

-- the labels of the hypotheses that the step cites
abbrev pub labels_of : Step → List Label2
labels_of (Intro names) = []
labels_of (Hyp l) = l ∷ []
labels_of Split = []
labels_of (Lin ms) = flat_map (λ m. labels_in m.of) ms
labels_of (OnGoal r) = []
labels_of (OnHypothesis r l) = l ∷ []
labels_of (OnTwo r l m) = l ∷ m ∷ []
labels_of (Rewrite r) = r.equation ∷ label_of_target r.target
labels_of (Decide l to) = l ∷ label_of_target to
labels_of (OnTerm r t) = []
labels_of (Divide t u) = []
labels_of (Instantiate l ts) = l ∷ []
labels_of (Unpack l x) = l ∷ []
labels_of (ByVariants t names) = []
labels_of (Induct x names) = []

-- the names that the step gives to variables of its premises
abbrev pub new_names : Step → List Name
new_names (Intro names) = names
new_names (Hyp l) = []
new_names Split = []
new_names (Lin ms) = []
new_names (OnGoal r) = []
new_names (OnHypothesis r l) = []
new_names (OnTwo r l m) = []
new_names (Rewrite r) = []
new_names (Decide l to) = []
new_names (OnTerm r t) = []
new_names (Divide t u) = []
new_names (Instantiate l ts) = []
new_names (Unpack l x) = x ∷ []
new_names (ByVariants t names) = flat_map (λ xs. xs) names
new_names (Induct x names) = flat_map (λ xs. xs) names

-- ---- what is there, and what is added

-- a hypothesis of the sequent has the label
abbrev pub IsLabelOf : Sequent → Label2 → Type 0
IsLabelOf q l = (h : Term) × (hypothesis l q.hyps ≡ Some h)

-- the name is that of a variable of the sequent
abbrev pub IsVariableOf : Sequent → Name → Type 0
IsVariableOf q x = (t : Ty) × (sort_of x q.vars ≡ Some t)

-- what the premise has beside the labels and variables of the sequent is labelled as of step s, or has a new name of the step
pub record AddsItsOwn (s : ℕ) (q : Sequent) (step : Step) (premise : Sequent) : Type 0 where
  pub labels : (h : Label2 × Term) → Contains premise.hyps h → IsLabelOf q h.0 ⊎ (h.0.step ≡ s)
  pub names : (v : Name × Ty) → Contains premise.vars v → IsVariableOf q v.0 ⊎ Contains (new_names step) v.0
