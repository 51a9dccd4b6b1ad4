-- The labels of multiples, one multiple after the other.
use Rattle.std.proofs.Common.{◌≡◌, ◌∙◌, ◌&&◌, ℕ, Bool, List, [], ◌∷◌, flat_map, refl, sym, ap}
use Rattle.std.specs.List.{list_all}
use Rattle.std.proofs.lemmas.List.Folds.{list_all-append}
use Rattle.logic_term.specs.declared.kinds.Label2.{Label2}
use Rattle.proof_kernel.specs.declared.step.Multiple.{Multiple}
use Rattle.proof_kernel.specs.declared.step.Step.{Step}
use Rattle.proof_kernel.specs.declared.step.Step.TheVariants.{Lin}
use Rattle.proof_kernel.specs.Kernel.{is_above, cites_above}
use Rattle.proof_kernel.specs.Steps.{labels_in}

all_labels : (p : Label2 → Bool) (ms : List Multiple) → list_all (λ m. list_all p (labels_in m.of)) ms ≡ list_all p (flat_map (λ m. labels_in m.of) ms)
all_labels p [] = refl
all_labels p (m ∷ ms) =
    ap (λ b. list_all p (labels_in m.of) && b) (all_labels p ms) ∙ sym (list_all-append p (labels_in m.of) (flat_map (λ m. labels_in m.of) ms))

pub multiples_above : (s : ℕ) (ns ms : List Multiple) (step : Step) → ns ≡ ms → step ≡ Lin ms → list_all (λ m. list_all (is_above s) (labels_in m.of)) ns ≡ cites_above s step
multiples_above s ns ms step n e = ap (λ (l : List Multiple). list_all (λ m. list_all (is_above s) (labels_in m.of)) l) n ∙ all_labels (is_above s) ms ∙ ap (cites_above s) (sym e)
