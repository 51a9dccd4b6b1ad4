-- What may be known of a value of a type.
use Rattle.std.specs.Prelude.{◌≡◌, ℤ, true, false, Option, List}
use Rattle.source_kinds.specs.declared.kinds.IntKind.{IntKind}
use Rattle.logic_term.specs.Ty.{Ty, Tys, bool, no_tys, and_ty}
use Rattle.logic_term.specs.Sort.{Declarations}
use Rattle.pat_check.specs.Known.{Known, Knowns, anything, other, number, flag, built, no_knowns, and_known, among}
use Rattle.pat_check.specs.Typed.{core, integers, is_integer, PartsOf}

-- some integer of the kind is not among these
abbrev pub SomeLeft : Option IntKind → List ℤ → Type 0
SomeLeft k zs = (y : ℤ) × (is_integer k y ≡ true) × (among y zs ≡ false)

-- each integer of the kind is among these
abbrev pub AllAmong : Option IntKind → List ℤ → Type 0
AllAmong k zs = (y : ℤ) → is_integer k y ≡ true → among y zs ≡ true

abbrev mutual
  pub IsKnown : Declarations → Known → Ty → Type 0
  IsKnown Δ anything t = Unit {0}
  IsKnown Δ (other k zs) t = (core t ≡ integers k) × SomeLeft k zs
  IsKnown Δ (number z) t = (k : Option IntKind) × (core t ≡ integers k) × (is_integer k z ≡ true)
  IsKnown Δ (flag b) t = core t ≡ bool
  IsKnown Δ (built c ks) t = (fs : Tys) × PartsOf Δ (core t) c fs × AreKnown Δ ks fs

  pub AreKnown : Declarations → Knowns → Tys → Type 0
  AreKnown Δ no_knowns no_tys = Unit {0}
  AreKnown Δ (and_known k ks) (and_ty t ts) = IsKnown Δ k t × AreKnown Δ ks ts
  AreKnown Δ _ _ = ⊥
