-- Free names of hypotheses but for those that are dropped.
use Rattle.std.specs.Prelude.{Bool, false, ◌||◌, List, [], ◌∷◌, if◌then◌else◌}
use Rattle.std.specs.List.{list_any}
use Rattle.text_core.specs.declared.name.Name.{Name}
use Rattle.logic_term.specs.declared.kinds.Label2.{Label2}
use Rattle.logic_term.specs.Free.{free}
use Rattle.logic_term.specs.Term.{Term}
use Rattle.proof_kernel.specs.Rules.{same_label}

-- the label is one of these
abbrev pub is_dropped : Label2 → List Label2 → Bool
is_dropped l dropped = list_any (λ m. same_label m l) dropped

-- the name is free in a hypothesis that has none of these labels
abbrev pub free_but_in : Name → List Label2 → List (Label2 × Term) → Bool
free_but_in x dropped [] = false
free_but_in x dropped (h ∷ hs) = (if is_dropped h.0 dropped then false else free x h.1) || free_but_in x dropped hs
