use Rattle.std.proofs.Common.{arith}
use Rattle.wp_gen.specs.Setting.{setting}
use Rattle.wp_gen.proofs.WalkLaws.{passes_none, passes_one}
use Rattle.wp_gen.proofs.reached.over_statements.Goals as goal

pub loop-statement-init : goal.loop-statement-init
loop-statement-init c = record { so_far = passes_none _ _ _; within = omega arith }

pub loop-statement-preserved : goal.loop-statement-preserved
loop-statement-preserved c = record {
  so_far = passes_one (setting c.args.walk.now) c.args.label c.args.statements.now c.loop-statement.statement-index c.statement-item.result c.args.reached c.loop-statement.here c.in_ok-here.here
      c.requires c.loop-statement-test.true c.statement-item.is c.loop-statement.invariant.so_far c.in_ok-here.ensures;
  within = omega (arith, c.loop-statement-test.true);
}
