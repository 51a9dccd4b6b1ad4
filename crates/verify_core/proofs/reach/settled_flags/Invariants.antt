use Rattle.std.proofs.Common.{◌≡◌, length}
use Rattle.verify_core.specs.Flags.{AreJustified, set_count}
use Rattle.verify_core.proofs.reach.settled_flags.Given as goal

abbrev pub invariant-loop : goal.invariant-loop
invariant-loop l = record {
  justified : AreJustified l.bodies l.fn.proved.items l.flags.items;
  as_many : length l.flags.items ≡ length l.bodies.bodies;
}

abbrev pub decreases-loop : goal.decreases-loop
decreases-loop l = set_count l.flags.items
