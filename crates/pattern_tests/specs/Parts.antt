-- The types that are found for the parts of a value.
use Rattle.std.specs.Prelude.{◌≡◌, Option, Some, None}
use Rattle.logic_term.specs.declared.kinds.Ctor.{Ctor}
use Rattle.logic_term.specs.Sort.{Declarations, instances}
use Rattle.logic_term.specs.Ty.{Ty, Tys}
use Rattle.logic_term.specs.TyView.{tys_of}
use Rattle.std.specs.Global.{Vec}
use Rattle.pat_check.specs.Typed.{PartsOf}

abbrev pub HasFields : Option Tys → Tys → Option (Vec Ty) → Type 0
HasFields o θ None = Unit {0}
HasFields o θ (Some v) = (gs : Tys) × (o ≡ Some gs) × (instances θ gs ≡ tys_of v.items)

abbrev pub HasParts : Declarations → Ty → Ctor → Option (Vec Ty) → Type 0
HasParts Δ t c None = Unit {0}
HasParts Δ t c (Some v) = PartsOf Δ t c (tys_of v.items)
