use Rattle.std.proofs.Common.{◌≡◌, length, reverse}
use Rattle.pearlite.specs.MakeTerms.{operation}
use Rattle.pearlite.proofs.make_operations.operation.Given as goal

abbrev pub invariant-loop-part : goal.invariant-loop-part
invariant-loop-part l = operation l.words l.from l.left (reverse l.parts.items) ≡ operation l.words l.from l.fn.first (reverse l.initial.parts.items)

abbrev pub decreases-loop-part : goal.decreases-loop-part
decreases-loop-part l = length l.parts.items
