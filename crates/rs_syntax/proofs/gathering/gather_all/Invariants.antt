use Rattle.std.proofs.Common.{◌≡◌, reverse, fold, vec_len}
use Rattle.rs_syntax.proofs.gathering.gather_all.Given as goal

abbrev pub invariant-loop-part : goal.invariant-loop-part
invariant-loop-part g l = fold (g.G.Gather.with l.words) l.gathered (reverse l.parts.items) ≡ fold (g.G.Gather.with l.words) l.fn.bare (reverse l.fn.parts.items)

abbrev pub decreases-loop-part : goal.decreases-loop-part
decreases-loop-part g l = vec_len l.parts
