use Rattle.std.proofs.Common.{◌≡◌, length}
use Rattle.std.specs.Prelude.{reverse}
use Rattle.rs_syntax.specs.MakeStatements.{arms_in, no_arms}
use Rattle.rs_syntax.proofs.make_matches.arms_in.Given as goal

abbrev pub invariant-loop-part : goal.invariant-loop-part
invariant-loop-part l = arms_in l.words l.matching (reverse l.parts.items) ≡ arms_in l.words no_arms (reverse l.fn.parts.items)

abbrev pub decreases-loop-part : goal.decreases-loop-part
decreases-loop-part l = length (reverse l.parts.items)
