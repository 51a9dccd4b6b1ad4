-- What is known of a value while it is tested.
use Rattle.std.specs.Prelude.{ℕ, zero, suc, ℤ, Bool, true, false, ◌&&◌, ◌||◌, not, Option, List, [], ◌∷◌}
use Rattle.std.specs.Ordering.{int_eq}
use Rattle.source_kinds.specs.declared.kinds.IntKind.{IntKind}
use Rattle.logic_term.specs.declared.kinds.Ctor.{Ctor}
use Rattle.logic_term.specs.declared.pattern.PatStep.{PatStep}
use Rattle.logic_term.specs.Value.{Value, Values, Number, no_values, and_value, parts_of}
use Rattle.logic_term.specs.Matches.{seen, is_number, is_flag, is_made}

mutual
  pub data Known : Type 0 where
    anything : Known
    -- an integer of the type other than these
    other : Option IntKind → List ℤ → Known
    number : ℤ → Known
    flag : Bool → Known
    built : Ctor → Knowns → Known

  pub data Knowns : Type 0 where
    no_knowns : Knowns
    and_known : Known → Knowns → Knowns

-- this many parts of which nothing is known
abbrev pub all_anything : ℕ → Knowns
all_anything zero = no_knowns
all_anything (suc n) = and_known anything (all_anything n)

-- ---- the values of which this is known

abbrev pub among : ℤ → List ℤ → Bool
among z [] = false
among z (y ∷ ys) = int_eq z y || among z ys

abbrev pub is_other : List ℤ → Value → Bool
is_other zs (Number y) = not (among y zs)
is_other zs _ = false

abbrev mutual
  pub agrees : Known → Value → Bool
  agrees anything v = true
  agrees (other k zs) v = is_other zs (seen v)
  agrees (number z) v = is_number z (seen v)
  agrees (flag b) v = is_flag b (seen v)
  agrees (built c ks) v = is_made c (seen v) && agree_all ks (parts_of (seen v))

  pub agree_all : Knowns → Values → Bool
  agree_all no_knowns no_values = true
  agree_all (and_known k ks) (and_value v vs) = agrees k v && agree_all ks vs
  agree_all _ _ = false

-- ---- the place of a part

abbrev pub nth_known : Knowns → ℕ → Known
nth_known no_knowns n = anything
nth_known (and_known k ks) zero = k
nth_known (and_known k ks) (suc n) = nth_known ks n

abbrev pub set_known : Knowns → ℕ → Known → Knowns
set_known no_knowns n w = no_knowns
set_known (and_known k ks) zero w = and_known w ks
set_known (and_known k ks) (suc n) w = and_known k (set_known ks n w)

abbrev pub part_known : Known → ℕ → Known
part_known anything n = anything
part_known (other k zs) n = anything
part_known (number z) n = anything
part_known (flag b) n = anything
part_known (built c ks) n = nth_known ks n

abbrev pub with_part : Known → ℕ → Known → Known
with_part anything n w = anything
with_part (other k zs) n w = other k zs
with_part (number z) n w = number z
with_part (flag b) n w = flag b
with_part (built c ks) n w = built c (set_known ks n w)

abbrev pub known_at : Known → List PatStep → Known
known_at k [] = k
known_at k (s ∷ p) = known_at (part_known k s.field) p

-- what is known, with w at this place
abbrev pub put : Known → List PatStep → Known → Known
put k [] w = w
put k (s ∷ p) w = with_part k s.field (put (part_known k s.field) p w)

-- the integers that are known not to stand there
abbrev pub excluded : Known → List ℤ
excluded (other j zs) = zs
excluded _ = []
