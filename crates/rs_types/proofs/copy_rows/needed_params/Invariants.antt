use Rattle.std.proofs.Common.{◌≡◌, ℕ, ◌<◌, not, false, get_or, length}
use Rattle.rs_types.specs.CopyRows.{all_but, variants_copy}
use Rattle.rs_types.proofs.copy_rows.needed_params.Given as goal

abbrev pub invariant-loop-n : goal.invariant-loop-n
invariant-loop-n l = (length l.needed.items ≡ l.n) × ((m : ℕ) → m < l.n → get_or l.needed.items m false ≡ not (variants_copy l.rows (all_but m) l.variants))
