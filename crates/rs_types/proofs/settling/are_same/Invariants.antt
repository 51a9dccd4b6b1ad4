use Rattle.std.proofs.Common.{◌≡◌, take, length}
use Rattle.rs_types.proofs.settling.are_same.Given as goal

abbrev pub invariant-loop-i : goal.invariant-loop-i
invariant-loop-i l = (length l.one ≡ length l.other) × (take l.i l.one ≡ take l.i l.other)
