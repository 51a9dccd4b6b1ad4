use Rattle.std.proofs.Common.{◌≡◌, length, reverse}
use Rattle.pearlite.specs.Parts.{behind, first_of}
use Rattle.pearlite.proofs.families.next_of.Given as goal

abbrev pub invariant-loop-part : goal.invariant-loop-part
invariant-loop-part g l = record {
  found : first_of g.F.Family.seen (reverse l.initial.parts.items) ≡ first_of g.F.Family.seen (reverse l.parts.items);
  rest : behind g.F.Family.seen (reverse l.initial.parts.items) ≡ behind g.F.Family.seen (reverse l.parts.items);
}

abbrev pub decreases-loop-part : goal.decreases-loop-part
decreases-loop-part g l = length l.parts.items
