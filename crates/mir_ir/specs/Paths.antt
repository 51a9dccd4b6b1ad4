-- The type at the end of a path into a value (Rust Reference, "Tuple indexing expressions", "Field access expressions", "The dereference operator").
-- No path leads into a variant of an enum that has others: which one a value is, its type does not tell.
use Rattle.std.specs.Prelude.{ℕ, List, [], ◌∷◌}
use Rattle.logic_term.specs.Sorted.{FieldSort}
use Rattle.logic_term.specs.Theory.{Theory}
use Rattle.logic_term.specs.Ty.{Ty, boxed}
use Rattle.mir_ir.specs.declared.place.Proj.{Proj}
use Rattle.mir_ir.specs.declared.place.Proj.TheVariants.{Field, Deref}

-- from a value of the first type the path leads to one of the second
pub data LeadsTo (Θ : Theory) : Ty → List Proj → Ty → Type 0 where
  at_end : {t : Ty} → LeadsTo Θ t [] t
  in_field : {u part t : Ty} {n : ℕ} {path : List Proj} → FieldSort Θ u n part → LeadsTo Θ part path t → LeadsTo Θ u (Field n ∷ path) t
  in_box : {u t : Ty} {path : List Proj} → LeadsTo Θ u path t → LeadsTo Θ (boxed u) (Deref ∷ path) t
