-- Types at types for their parameters.
use Rattle.std.specs.Prelude.{◌≡◌}
use Rattle.logic_term.specs.Sort.{instance, instances}
use Rattle.logic_term.specs.Ty.{Tys}
use Rattle.logic_term.specs.TyView.{tys_of}
use Rattle.logic_term.specs.declared.ty.FnBound.{FnBound}

-- the second says what the first says, at types for its type parameters
abbrev pub IsBoundAt : Tys → FnBound → FnBound → Type 0
IsBoundAt θ a b = (b.kind ≡ a.kind) × (tys_of b.params.items ≡ instances θ (tys_of a.params.items)) × (b.result ≡ instance θ a.result)
