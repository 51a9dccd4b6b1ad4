use Rattle.std.proofs.lemmas.Result.{IfOk-weaker}
use Rattle.wp_gen.specs.Setting.{setting}
use Rattle.wp_gen.proofs.WalkLaws.{met_obligations}
use Rattle.wp_gen.proofs.oblige.counted_obligations.Goals as goal

pub returns : goal.returns
returns c =
    IfOk-weaker c.listed.result _ _
    (λ v e. met_obligations (setting c.args.walk.now) c.args.first c.in_ok-goals.goals.items v.items c.in_ok-goals.ensures e)
    c.listed.ensures
