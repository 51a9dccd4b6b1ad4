use Rattle.wp_gen.specs.Limits.{IsPastWalk}
use Rattle.wp_gen.specs.Setting.{setting}
use Rattle.wp_gen.proofs.CountLaws.{few_obligations}
use Rattle.wp_gen.proofs.oblige.obligations.Goals as goal

pub returns-in-Err-clause-refused : goal.returns-in-Err-clause-refused
returns-in-Err-clause-refused c = rw c.in-Err.ensures.err.1 (IsPastWalk.by_paths c.in-Err.ensures.err.0)

pub returns-in-None-clause-refused : goal.returns-in-None-clause-refused
returns-in-None-clause-refused c = IsPastWalk.by_obligations c.in-None.ensures

pub returns-in_ok-counted_obligations-in-Some-clause-ok : goal.returns-in_ok-counted_obligations-in-Some-clause-ok
returns-in_ok-counted_obligations-in-Some-clause-ok c =
    few_obligations (setting c.args.walk.now) c.args.first _ c.in-Ok.field-0 c.in-Some.field-0 c.in-Ok.ensures.ok.0 c.in-Ok.ensures.ok.1
    c.in-Some.ensures c.in_ok-counted_obligations-in-Some.ensures
