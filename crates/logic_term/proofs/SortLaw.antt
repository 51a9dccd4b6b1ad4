-- What the values of a sort are.
use Rattle.std.proofs.Common.{◌≡◌, ℤ, true, subst}
use Rattle.source_kinds.specs.declared.kinds.IntKind.{IntKind}
use Rattle.logic_term.specs.Ty.{Ty, int}
use Rattle.source_kinds.specs.Range.{fits}
use Rattle.logic_term.specs.Value.{Value, Number}
use Rattle.logic_term.specs.Sort.{Declarations, HasSort}
use Rattle.logic_term.proofs.SortParts.{parts}

-- a machine integer is an integer in its type's range
pub int_value : (Δ : Declarations) (v : Value) (t : Ty) (k : IntKind) → HasSort Δ v t → t ≡ int k → (z : ℤ) × (v ≡ Number z) × (fits k z ≡ true)
int_value Δ v t k h e = parts Δ v (int k) (subst (HasSort Δ v) e h)
