use Rattle.std.proofs.Common.{◌≡◌, length}
use Rattle.std.specs.Prelude.{reverse}
use Rattle.rs_syntax.specs.Parts.{found_in, joined}
use Rattle.rs_syntax.proofs.found.found_in.Given as goal

abbrev pub invariant-loop-part : goal.invariant-loop-part
invariant-loop-part l = joined l.found (found_in (reverse l.parts.items)) ≡ found_in (reverse l.fn.parts.items)

abbrev pub decreases-loop-part : goal.decreases-loop-part
decreases-loop-part l = length (reverse l.parts.items)
