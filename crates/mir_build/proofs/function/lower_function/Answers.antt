use Rattle.type_check.specs.WellTyped.{signatures}
use Rattle.mir_build.proofs.Whole.{answered, few_blocks}
use Rattle.mir_build.proofs.function.lower_function.Goals as goal

pub returns-in_ok-finish-in-Ok-clause-lowered : goal.returns-in_ok-finish-in-Ok-clause-lowered
returns-in_ok-finish-in-Ok-clause-lowered c =
    let done = c.in_ok-finish-in-Ok in
    λ w. answered c.args.types.now (signatures c.args.functions.now) c.args.id c.in_ok-owner.owner c.args.f.now c.in-Ok.text done.field-0.0 done.field-0.1 c.in-Ok.ensures.text done.ensures.body done.ensures.gone done.ensures.few w c.requires.good

pub returns-in_ok-finish-in-Ok-clause-few : goal.returns-in_ok-finish-in-Ok-clause-few
returns-in_ok-finish-in-Ok-clause-few c =
    let done = c.in_ok-finish-in-Ok in
    few_blocks c.args.types.now (signatures c.args.functions.now) c.args.id c.in_ok-owner.owner c.args.f.now c.in-Ok.text done.field-0.0 c.in-Ok.ensures.text done.ensures.body c.in-Ok.ensures.few
