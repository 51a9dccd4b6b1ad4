use Rattle.std.proofs.Common.{◌≡◌, ◌++◌, length, reverse}
use Rattle.pearlite.specs.Parts.{all_of, as_type, names_in}
use Rattle.pearlite.proofs.parts.names_and_types.Given as goal

abbrev pub invariant-loop-part : goal.invariant-loop-part
invariant-loop-part l = record {
  named : l.names ++ names_in l.words (reverse l.parts.items) ≡ names_in l.words (reverse l.initial.parts.items);
  typed : l.types ++ all_of as_type (reverse l.parts.items) ≡ all_of as_type (reverse l.initial.parts.items);
}

abbrev pub decreases-loop-part : goal.decreases-loop-part
decreases-loop-part l = length l.parts.items
