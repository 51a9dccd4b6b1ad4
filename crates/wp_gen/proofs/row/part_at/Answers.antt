use Rattle.std.proofs.Common.{◌≡◌, ◌∙◌, refl, sym, ap, ℕ, ◌+◌, ◌<◌, List, [], ◌∷◌, length, get_or, drop}
use Rattle.std.proofs.lemmas.List.{at_drop_more}
use Rattle.logic_term.specs.Term.{Term}
use Rattle.mir_ir.specs.declared.place.Proj.{Proj}
use Rattle.mir_ir.specs.declared.place.Proj.TheVariants.{Field, Variant, Deref}
use Rattle.prophecy_logic.specs.Row.{part_at}
use Rattle.wp_gen.proofs.row.part_at.Goals as goal

one_step : (t : Term) (step : Proj) (path : List Proj) → part_at t (step ∷ path) ≡ part_at (part_at t (step ∷ [])) path
one_step t (Field n) path = refl
one_step t (Variant n) path = refl
one_step t Deref path = refl

-- one step on
goes_on : (whole part next : Term) (path : List Proj) (i : ℕ) (d : Proj) → i < length path → part_at whole path ≡ part_at part (drop i path) → next ≡ part_at part (get_or path i d ∷ []) →
    part_at whole path ≡ part_at next (drop (i + 1) path)
goes_on whole part next path i d within so_far is =
    so_far ∙ at_drop_more (part_at part) path i d within ∙ one_step part (get_or path i d) (drop (i + 1) path) ∙ ap (λ t. part_at t (drop (i + 1) path)) (sym is)

pub loop-step-preserved : goal.loop-step-preserved
loop-step-preserved c = goes_on c.args.whole c.loop-step.part c.in_ok-part.part c.args.path.now c.loop-step.step-index _ c.loop-step-test.true c.loop-step.invariant c.in_ok-part.ensures
