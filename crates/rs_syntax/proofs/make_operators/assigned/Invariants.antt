use Rattle.std.proofs.Common.{◌≡◌, length}
use Rattle.std.specs.Prelude.{reverse}
use Rattle.rs_syntax.specs.MakeOperators.{assigned}
use Rattle.rs_syntax.proofs.make_operators.assigned.Given as goal

abbrev pub invariant-loop-part : goal.invariant-loop-part
invariant-loop-part l = assigned l.words l.to l.whole (reverse l.parts.items) ≡ assigned l.words l.to l.fn.value (reverse l.fn.parts.items)

abbrev pub decreases-loop-part : goal.decreases-loop-part
decreases-loop-part l = length (reverse l.parts.items)
