use Rattle.std.proofs.Common.{◌≡◌, ◌++◌, length, reverse}
use Rattle.pearlite.specs.Parts.{all_of}
use Rattle.pearlite.proofs.families.take_all.Given as goal

abbrev pub invariant-loop-part : goal.invariant-loop-part
invariant-loop-part g l = l.items ++ all_of g.F.Family.seen (reverse l.parts.items) ≡ all_of g.F.Family.seen (reverse l.initial.parts.items)

abbrev pub decreases-loop-part : goal.decreases-loop-part
decreases-loop-part g l = length l.parts.items
