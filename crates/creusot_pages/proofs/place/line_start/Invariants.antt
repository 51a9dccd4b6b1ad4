use Rattle.std.proofs.Common.{◌≤◌, ◌<◌, ◌≢◌, ℕ, get_or, length}
use Rattle.creusot_pages.proofs.place.line_start.Given as goal

abbrev pub invariant-loop-start : goal.invariant-loop-start
invariant-loop-start l = record {
  within : l.start ≤ length l.bytes;
  last : (i : ℕ) → l.start ≤ i → i < length l.bytes → get_or l.bytes i 0 ≢ 10;
}

abbrev pub decreases-loop-start : goal.decreases-loop-start
decreases-loop-start l = l.start
