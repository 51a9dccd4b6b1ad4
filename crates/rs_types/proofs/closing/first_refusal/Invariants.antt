use Rattle.rs_types.proofs.Refusals.{GoodBefore}
use Rattle.rs_types.proofs.closing.first_refusal.Given as goal

abbrev pub invariant-loop-d : goal.invariant-loop-d
invariant-loop-d l = GoodBefore l.decls l.d
