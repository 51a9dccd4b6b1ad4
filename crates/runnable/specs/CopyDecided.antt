-- Whether a type is Copy, decided: a row for each declared type, found one by one until there is nothing new. Contracts of the code alone speak of it.
use Rattle.std.specs.Prelude.{ℕ, zero, suc, ◌+◌, not, Bool, true, List, [], ◌∷◌, length, Option, Some, None, slice_set, replicate, if◌then◌else◌}
use Rattle.logic_term.specs.Ty.{Ty}
use Rattle.logic_term.specs.declared.declaration.AdtDecl.{AdtDecl}
use Rattle.logic_term.specs.declared.declaration.VariantDecl.{VariantDecl}
use Rattle.rs_types.specs.declared.copy_rows.CopyRow.{CopyRow}
use Rattle.rs_types.specs.CopyRows.{all_but, copies, new_at, no_row, variants_copy}
use Rattle.rs_types.specs.Growing.{variant_width}
use Rattle.rs_types.specs.Holding.{none}
use Rattle.rs_types.specs.Weighing.{variants_at}

-- without which of the type parameters from number k on, so many, the fields are not
abbrev pub needed_from : List CopyRow → List VariantDecl → ℕ → ℕ → List Bool
needed_from rows vs k zero = []
needed_from rows vs k (suc m) = not (variants_copy rows (all_but k) vs) ∷ needed_from rows vs (k + 1) m

abbrev pub row_of : List CopyRow → List VariantDecl → CopyRow
row_of rows vs = record { copy = true; needed = needed_from rows vs 0 (variant_width vs) }

-- one of the first n types whose row is new
abbrev pub a_new : List AdtDecl → List CopyRow → ℕ → Option ℕ
a_new ds rows zero = None
a_new ds rows (suc n) = if new_at ds rows n then Some n else a_new ds rows n

abbrev pub with_row : List AdtDecl → List CopyRow → Option ℕ → List CopyRow
with_row ds rows None = rows
with_row ds rows (Some d) = slice_set rows d (row_of rows (variants_at ds d))

-- so many times
abbrev pub settled : ℕ → List AdtDecl → List CopyRow → List CopyRow
settled zero ds rows = rows
settled (suc n) ds rows = settled n ds (with_row ds rows (a_new ds rows (length ds)))

abbrev pub rows_of : List AdtDecl → List CopyRow
rows_of ds = settled (length ds) ds (replicate (length ds) no_row)

unfoldable pub is_copied : List AdtDecl → Ty → Bool
is_copied ds t = copies (rows_of ds) none t
