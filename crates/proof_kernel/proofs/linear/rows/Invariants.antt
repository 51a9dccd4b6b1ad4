use Rattle.std.proofs.Common.{◌≡◌, map, take}
use Rattle.proof_kernel.specs.LinearRows.{row_over}
use Rattle.proof_kernel.proofs.linear.rows.Given as goal

abbrev pub invariant-loop-form : goal.invariant-loop-form
invariant-loop-form l = l.rows ≡ map (row_over l.table) (take l.form-index l.forms)
