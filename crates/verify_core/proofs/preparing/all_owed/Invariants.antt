use Rattle.verify_core.specs.Prepared.{FunctionsOwe}
use Rattle.verify_core.proofs.preparing.all_owed.Given as goal

abbrev pub invariant-loop-place : goal.invariant-loop-place
invariant-loop-place l = FunctionsOwe l.fn.lowered.bodies l.fn.lowered.contracts l.fn.lowered.gone l.place l.owed.items
