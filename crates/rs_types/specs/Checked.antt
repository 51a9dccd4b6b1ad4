-- What has to hold of a source's declared types and of the types in its signatures, one thing after another: the first that does not hold
-- refuses the source.
use Rattle.std.specs.Prelude.{◌≡◌, List, [], ◌∷◌, Some, None, ◌⊎◌}
use Rattle.text_core.specs.declared.refusal.SourceError.{SourceError}
use Rattle.logic_term.specs.declared.declaration.AdtDecl.{AdtDecl}
use Rattle.rs_types.specs.declared.checks.Check.{Check}
use Rattle.rs_types.specs.declared.checks.Check.TheVariants as check
use Rattle.rs_types.specs.Accepted.{nested_reference, recursive}
use Rattle.rs_types.specs.Endless.{IsBounded, IsEndless}
use Rattle.rs_types.specs.Growing.{declared_by}
use Rattle.rs_types.specs.Inhabited.{IsInhabited, IsEmpty}
use Rattle.rs_types.specs.Nesting.{IsFlat, IsNested}

-- it holds
abbrev pub Passes : List AdtDecl → Check → Type 0
Passes ds (check.Plain None) = Unit {0}
Passes ds (check.Plain (Some e)) = ⊥
Passes ds (check.Flat s t) = IsFlat (declared_by ds) t
Passes ds (check.Finite d s) = IsBounded ds d × IsInhabited ds d

-- it does not, and this is the refusal: E09 at the type, E10 at the name
abbrev pub IsRefusedBy : List AdtDecl → Check → SourceError → Type 0
IsRefusedBy ds (check.Plain None) e = ⊥
IsRefusedBy ds (check.Plain (Some r)) e = e ≡ r
IsRefusedBy ds (check.Flat s t) e = IsNested (declared_by ds) t × (e ≡ nested_reference s)
IsRefusedBy ds (check.Finite d s) e = (IsEndless ds d ⊎ IsEmpty ds d) × (e ≡ recursive s)

abbrev pub AllPass : List AdtDecl → List Check → Type 0
AllPass ds [] = Unit {0}
AllPass ds (c ∷ cs) = Passes ds c × AllPass ds cs

-- what the first is refused for that does not hold
pub data IsFirst (ds : List AdtDecl) : List Check → SourceError → Type 0 where
  at_once : {c : Check} {cs : List Check} {e : SourceError} → IsRefusedBy ds c e → IsFirst ds (c ∷ cs) e
  later : {c : Check} {cs : List Check} {e : SourceError} → Passes ds c → IsFirst ds cs e → IsFirst ds (c ∷ cs) e
