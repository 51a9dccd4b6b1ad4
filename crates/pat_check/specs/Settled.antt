-- What is known as a pattern value, with an integer chosen wherever one of several is left.
use Rattle.std.specs.Prelude.{◌≡◌, ℤ, pos, int_le, Bool, true, false, not, Option, Some, None, List}
use Rattle.source_kinds.specs.declared.kinds.IntKind.{IntKind}
use Rattle.source_kinds.specs.Range.{lowest, highest}
use Rattle.pat_check.specs.Known.{Known, Knowns, anything, other, number, flag, built, no_knowns, and_known, among}
use Rattle.pat_check.specs.KnownTypes.{AllAmong}
use Rattle.pat_check.specs.PatValue.{PatValue, PatValues, any, integer, truth, made, no_parts, and_part}
use Rattle.pat_check.specs.Typed.{is_integer}

-- an integer of the kind that the list leaves out; None where it leaves none out
abbrev pub IsUnnamed : Option IntKind → List ℤ → Option ℤ → Type 0
IsUnnamed k zs None = AllAmong k zs
IsUnnamed k zs (Some z) = (is_integer k z ≡ true) × (among z zs ≡ false)

abbrev mutual
  pub Settles : Known → PatValue → Type 0
  Settles anything w = w ≡ any
  Settles (other k zs) w = (z : ℤ) × (w ≡ integer z) × (is_integer k z ≡ true) × (among z zs ≡ false)
  Settles (number z) w = w ≡ integer z
  Settles (flag b) w = w ≡ truth b
  Settles (built c ks) w = (ws : PatValues) × (w ≡ made c ws) × SettleAll ks ws

  pub SettleAll : Knowns → PatValues → Type 0
  SettleAll no_knowns ws = ws ≡ no_parts
  SettleAll (and_known k ks) ws = (x : PatValue) × (xs : PatValues) × (ws ≡ and_part x xs) × Settles k x × SettleAll ks xs

-- the least integer of a machine type; of all integers, 0
abbrev pub first_integer : Option IntKind → ℤ
first_integer None = pos 0
first_integer (Some k) = lowest k

-- past the greatest integer of the kind
abbrev pub is_past : Option IntKind → ℤ → Bool
is_past None z = false
is_past (Some k) z = not (int_le z (highest k))
