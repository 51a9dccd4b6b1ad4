use Rattle.rs_types.specs.Weighing.{ComesOf}
use Rattle.rs_types.proofs.settling.settled_for.Given as goal

abbrev pub invariant-loop : goal.invariant-loop
invariant-loop l = ComesOf l.question l.decls l.cases.items
