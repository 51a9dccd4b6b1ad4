use Rattle.std.proofs.Common.{◌≡◌, length}
use Rattle.rs_types.specs.Growing.{declared_by, left_in}
use Rattle.rs_types.proofs.Fields.{AreBounded}
use Rattle.rs_types.proofs.bounded.bounded_types.Given as goal

abbrev pub decreases-loop-set : goal.decreases-loop-set
decreases-loop-set l = left_in l.set.items

abbrev pub invariant-loop-set : goal.invariant-loop-set
invariant-loop-set l = (length l.set.items ≡ length l.decls) × AreBounded (declared_by l.decls) l.rows.items l.set.items
