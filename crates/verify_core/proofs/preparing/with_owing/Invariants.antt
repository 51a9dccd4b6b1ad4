use Rattle.std.proofs.Common.{◌≡◌, ◌++◌}
use Rattle.verify_core.specs.Owed.{owing}
use Rattle.verify_core.proofs.preparing.with_owing.Given as goal

abbrev pub invariant-loop-obligation : goal.invariant-loop-obligation
invariant-loop-obligation l = l.owed.items ≡ l.initial.owed.items ++ owing l.by l.yielded
