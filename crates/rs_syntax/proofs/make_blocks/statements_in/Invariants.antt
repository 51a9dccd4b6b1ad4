use Rattle.std.proofs.Common.{◌≡◌, length}
use Rattle.std.specs.Prelude.{reverse}
use Rattle.rs_syntax.specs.MakeStatements.{statements_in, no_statements}
use Rattle.rs_syntax.proofs.make_blocks.statements_in.Given as goal

abbrev pub invariant-loop-part : goal.invariant-loop-part
invariant-loop-part l = statements_in l.words l.statements (reverse l.parts.items) ≡ statements_in l.words no_statements (reverse l.fn.parts.items)

abbrev pub decreases-loop-part : goal.decreases-loop-part
decreases-loop-part l = length (reverse l.parts.items)
