use Rattle.std.proofs.Common.{◌≡◌, ◌+◌, drop}
use Rattle.wp_gen.specs.Count.{goals_within}
use Rattle.wp_gen.proofs.count.after_statements.Given as goal

abbrev pub invariant-loop-statement : goal.invariant-loop-statement
invariant-loop-statement l = l.left + goals_within l.body l.statements ≡ l.room + goals_within l.body (drop l.statement-index l.statements)
