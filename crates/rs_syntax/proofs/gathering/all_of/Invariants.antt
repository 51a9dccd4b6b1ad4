use Rattle.std.proofs.Common.{◌≡◌, ◌++◌, reverse, vec_len}
use Rattle.rs_syntax.specs.Gathered.{all_of}
use Rattle.rs_syntax.proofs.gathering.all_of.Given as goal

abbrev pub invariant-loop-part : goal.invariant-loop-part
invariant-loop-part g l = l.all ++ all_of g.F.Family.seen (reverse l.parts.items) ≡ all_of g.F.Family.seen (reverse l.fn.parts.items)

abbrev pub decreases-loop-part : goal.decreases-loop-part
decreases-loop-part g l = vec_len l.parts
