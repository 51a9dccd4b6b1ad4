-- The signature of a closure as a sort has it.
use Rattle.std.specs.Prelude.{◌≡◌}
use Rattle.logic_term.specs.Erased.{erased, all_erased}
use Rattle.logic_term.specs.TyView.{tys_of}
use Rattle.logic_term.specs.declared.ty.FnBound.{FnBound}

-- the second says what the first says, in sorts
abbrev pub IsErasedBound : FnBound → FnBound → Type 0
IsErasedBound a b = (b.kind ≡ a.kind) × (tys_of b.params.items ≡ all_erased (tys_of a.params.items)) × (b.result ≡ erased a.result)
