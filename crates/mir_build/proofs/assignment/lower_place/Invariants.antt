use Rattle.std.proofs.Common.{◌≡◌, ◌≤◌, length}
use Rattle.type_check.specs.TypedExprView.{typed_size}
use Rattle.mir_build.specs.Numbered.{place_of}
use Rattle.mir_build.specs.Reach.{reach}
use Rattle.mir_build.specs.Tasks.{parts_of_place}
use Rattle.mir_build.proofs.assignment.lower_place.Given as goal

abbrev pub invariant-loop-value : goal.invariant-loop-value
invariant-loop-value l = record {
  place : parts_of_place (place_of l.scope l.t l.here) l.numbers.items ≡ place_of l.scope l.t l.e;
  reach : reach l.here ≤ length l.scope;
}

abbrev pub decreases-loop-value : goal.decreases-loop-value
decreases-loop-value l = typed_size l.here

abbrev pub invariant-loop-number : goal.invariant-loop-number
invariant-loop-number l = parts_of_place l.place l.numbers.items ≡ place_of l.scope l.t l.e

abbrev pub decreases-loop-number : goal.decreases-loop-number
decreases-loop-number l = length l.numbers.items
