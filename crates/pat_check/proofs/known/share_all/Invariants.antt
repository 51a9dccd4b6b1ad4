use Rattle.std.proofs.Common.{◌≡◌, take}
use Rattle.pat_check.proofs.known.share_all.Given as goal

abbrev pub invariant-loop-i : goal.invariant-loop-i
invariant-loop-i l = l.shared.items ≡ take l.i l.parts
