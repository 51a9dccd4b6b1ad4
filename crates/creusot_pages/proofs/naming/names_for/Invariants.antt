use Rattle.std.proofs.Common.{◌≤◌, length}
use Rattle.creusot_pages.proofs.naming.names_for.Given as goal

abbrev pub invariant-loop-place : goal.invariant-loop-place
invariant-loop-place l = length l.names ≤ l.place
