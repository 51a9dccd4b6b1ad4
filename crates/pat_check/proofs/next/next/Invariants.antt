use Rattle.std.proofs.Common.{take}
use Rattle.pat_check.specs.Rows.{AllFail}
use Rattle.pat_check.proofs.next.next.Given as goal

abbrev pub invariant-loop-i : goal.invariant-loop-i
invariant-loop-i l = AllFail (take l.i l.arms) l.known
