use Rattle.std.proofs.lemmas.Result.{IfOk-weaker}
use Rattle.wp_gen.specs.Setting.{setting}
use Rattle.wp_gen.proofs.WalkLaws.{entered}
use Rattle.wp_gen.proofs.oblige.goals.Goals as goal

pub returns : goal.returns
returns c =
    IfOk-weaker c.goals_from_entry.result _ _
    (λ v h. entered (setting c.args.walk.now) c.in_ok-new.field-0 _ c.in_ok-commands.commands.items c.as_slice.result.now v.items
    c.in_ok-new.ensures c.new-goals.ensures.items c.as_slice.ensures.value c.in_ok-commands.ensures c.in_ok-state.ensures h)
    c.goals_from_entry.ensures
