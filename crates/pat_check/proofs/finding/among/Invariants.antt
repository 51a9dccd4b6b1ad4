use Rattle.std.proofs.Common.{◌≡◌, drop}
use Rattle.pat_check.specs.Known.{among}
use Rattle.pat_check.proofs.finding.among.Given as goal

abbrev pub invariant-loop-i : goal.invariant-loop-i
invariant-loop-i l = among l.z l.others ≡ among l.z (drop l.i l.others)
