use Rattle.std.proofs.Common.{◌≡◌}
use Rattle.pat_check.specs.Known.{all_anything}
use Rattle.pat_check.specs.KnownView.{knowns_of}
use Rattle.pat_check.proofs.put.all_anything.Given as goal

abbrev pub invariant-loop-i : goal.invariant-loop-i
invariant-loop-i l = knowns_of l.all.items ≡ all_anything l.i
