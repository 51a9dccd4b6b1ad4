use Rattle.std.proofs.Common.{◌≡◌, map, take, All}
use Rattle.proof_kernel.specs.Linear.{IsNarrowDifference}
use Rattle.proof_kernel.specs.LinearRows.{difference, form_of}
use Rattle.proof_kernel.proofs.linear.forms.Given as goal

abbrev pub invariant-loop-sides : goal.invariant-loop-sides
invariant-loop-sides l =
    (l.forms ≡ map form_of (map difference (take l.sides-index l.all))) × All IsNarrowDifference (map difference (take l.sides-index l.all))
