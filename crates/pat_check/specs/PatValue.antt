-- Pattern values: values of which some parts are left open.
use Rattle.std.specs.Prelude.{◌≡◌, ℤ, Bool, true, false, ◌&&◌, Option, Some, None, List}
use Rattle.source_kinds.specs.declared.kinds.IntKind.{IntKind}
use Rattle.logic_term.specs.declared.kinds.Ctor.{Ctor}
use Rattle.logic_term.specs.Ty.{Ty, Tys, bool, no_tys, and_ty}
use Rattle.logic_term.specs.Value.{Value, Values, no_values, and_value, parts_of}
use Rattle.logic_term.specs.Sort.{Declarations, HasSort, instance}
use Rattle.logic_term.specs.Pattern.{Pat}
use Rattle.logic_term.specs.Matches.{seen, is_number, is_flag, is_made}
use Rattle.pat_check.specs.Typed.{core, integers, is_integer, PartsOf, some_match, Covers}

mutual
  pub data PatValue : Type 0 where
    any : PatValue
    integer : ℤ → PatValue
    truth : Bool → PatValue
    made : Ctor → PatValues → PatValue

  pub data PatValues : Type 0 where
    no_parts : PatValues
    and_part : PatValue → PatValues → PatValues

-- the value is one of those that this stands for
abbrev mutual
  pub stands_for : PatValue → Value → Bool
  stands_for any v = true
  stands_for (integer z) v = is_number z (seen v)
  stands_for (truth b) v = is_flag b (seen v)
  stands_for (made c ws) v = is_made c (seen v) && stand_for_all ws (parts_of (seen v))

  pub stand_for_all : PatValues → Values → Bool
  stand_for_all no_parts no_values = true
  stand_for_all (and_part w ws) (and_value v vs) = stands_for w v && stand_for_all ws vs
  stand_for_all _ _ = false

-- a pattern value of the type
abbrev mutual
  pub IsPatValue : Declarations → PatValue → Ty → Type 0
  IsPatValue Δ any t = Unit {0}
  IsPatValue Δ (integer z) t = (k : Option IntKind) × (core t ≡ integers k) × (is_integer k z ≡ true)
  IsPatValue Δ (truth b) t = core t ≡ bool
  IsPatValue Δ (made c ws) t = (fs : Tys) × PartsOf Δ (core t) c fs × ArePatValues Δ ws fs

  pub ArePatValues : Declarations → PatValues → Tys → Type 0
  ArePatValues Δ no_parts no_tys = Unit {0}
  ArePatValues Δ (and_part w ws) (and_ty t ts) = IsPatValue Δ w t × ArePatValues Δ ws ts
  ArePatValues Δ _ _ = ⊥

-- at θ, each part that is left open has a value of its type
abbrev mutual
  pub Fillable : Declarations → Tys → PatValue → Ty → Type 0
  Fillable Δ θ any t = (v : Value) × HasSort Δ v (instance θ t)
  Fillable Δ θ (integer z) t = Unit {0}
  Fillable Δ θ (truth b) t = Unit {0}
  Fillable Δ θ (made c ws) t = (fs : Tys) × PartsOf Δ (core t) c fs × AreFillable Δ θ ws fs

  pub AreFillable : Declarations → Tys → PatValues → Tys → Type 0
  AreFillable Δ θ no_parts ts = ts ≡ no_tys
  AreFillable Δ θ (and_part w ws) no_tys = ⊥
  AreFillable Δ θ (and_part w ws) (and_ty t ts) = Fillable Δ θ w t × AreFillable Δ θ ws ts

-- Some: a pattern value of the type, such that no pattern matches a value that it stands for; None: each value of the type
-- is matched
abbrev pub Missing : Declarations → List Pat → Ty → Option PatValue → Type 0
Missing Δ ps t None = Covers Δ ps t
Missing Δ ps t (Some w) = IsPatValue Δ w t × ((v : Value) → stands_for w v ≡ true → some_match ps v ≡ false)
