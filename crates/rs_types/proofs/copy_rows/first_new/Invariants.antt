use Rattle.std.proofs.Common.{◌≡◌, ℕ, ◌<◌, false}
use Rattle.rs_types.specs.CopyRows.{new_at}
use Rattle.rs_types.proofs.copy_rows.first_new.Given as goal

abbrev pub invariant-loop-i : goal.invariant-loop-i
invariant-loop-i l = (d : ℕ) → d < l.i → new_at l.decls l.rows d ≡ false
