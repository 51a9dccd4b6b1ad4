use Rattle.std.proofs.Common.{◌≤◌, length}
use Rattle.wp_gen.specs.Reached.{Passes}
use Rattle.wp_gen.specs.Setting.{setting}
use Rattle.wp_gen.proofs.reached.over_statements.Given as goal

abbrev pub invariant-loop-statement : goal.invariant-loop-statement
invariant-loop-statement l = record {
  so_far : Passes (setting l.walk) l.fn.label l.statement-index l.fn.reached l.here;
  within : l.statement-index ≤ length l.statements;
}
