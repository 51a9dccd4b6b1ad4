use Rattle.std.proofs.Common.{pos, ◌+ℤ◌}
use Rattle.pat_check.specs.Settled.{first_integer}
use Rattle.pat_check.proofs.Integers.{BelowAmong}
use Rattle.pat_check.proofs.unnamed.unnamed.Given as goal

abbrev pub invariant-loop-i : goal.invariant-loop-i
invariant-loop-i l = BelowAmong (first_integer l.fn.kind) (first_integer l.fn.kind +ℤ pos l.i) l.others
