use Rattle.std.proofs.Common.{◌≡◌, ◌++◌, reverse, vec_len}
use Rattle.rs_syntax.specs.MakeFunctions.{shape_parts}
use Rattle.rs_syntax.proofs.make_functions.shape_parts.Given as goal

abbrev pub invariant-loop-part : goal.invariant-loop-part
invariant-loop-part l = l.shapes.items ++ shape_parts (reverse l.parts.items) ≡ shape_parts (reverse l.fn.parts.items)

abbrev pub decreases-loop-part : goal.decreases-loop-part
decreases-loop-part l = vec_len l.parts
