use Rattle.std.proofs.Common.{◌≡◌, ◌≤◌, ◌-◌, drop, take, length}
use Rattle.mir_build.specs.Built.{written}
use Rattle.mir_build.proofs.Jumps.{deaths}
use Rattle.mir_build.proofs.jump.end_inside.Given as goal

-- what is still to end stands before the place `left`
abbrev pub invariant-loop-left : goal.invariant-loop-left
invariant-loop-left l = record {
  text : written (deaths l.span (drop l.depth (take l.left l.c.scope.items))) l.b.text ≡ written (deaths l.span (drop l.depth l.c.scope.items)) l.initial.b.text;
  labels : l.b.labels ≡ l.initial.b.labels;
  locals : length l.b.text.locals ≡ length l.initial.b.text.locals;
  within : l.left ≤ length l.c.scope.items;
}

abbrev pub decreases-loop-left : goal.decreases-loop-left
decreases-loop-left l = l.left - l.depth
