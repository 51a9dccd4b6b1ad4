use Rattle.std.proofs.Common.{◌≡◌, ◌++◌, length, reverse}
use Rattle.pearlite.specs.MakeTypes.{type_arguments_in}
use Rattle.pearlite.proofs.make_types.type_arguments.Given as goal

abbrev pub invariant-loop-part : goal.invariant-loop-part
invariant-loop-part l = l.arguments ++ type_arguments_in l.words (reverse l.parts.items) ≡ type_arguments_in l.words (reverse l.initial.parts.items)

abbrev pub decreases-loop-part : goal.decreases-loop-part
decreases-loop-part l = length l.parts.items
