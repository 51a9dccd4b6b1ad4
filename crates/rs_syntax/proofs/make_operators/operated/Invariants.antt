use Rattle.std.proofs.Common.{◌≡◌, length}
use Rattle.std.specs.Prelude.{reverse}
use Rattle.rs_syntax.specs.MakeOperators.{operated}
use Rattle.rs_syntax.proofs.make_operators.operated.Given as goal

abbrev pub invariant-loop-part : goal.invariant-loop-part
invariant-loop-part l = operated l.words l.from l.whole (reverse l.parts.items) ≡ operated l.words l.from l.fn.operand (reverse l.fn.parts.items)

abbrev pub decreases-loop-part : goal.decreases-loop-part
decreases-loop-part l = length (reverse l.parts.items)
