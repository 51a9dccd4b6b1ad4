-- Flat matches: the value is an integer, a truth value or unit, and each pattern is a literal, a name or a wildcard. Their trees, row by row
-- (Rust Reference, "Match expressions": the arms are tried from above; "Literal patterns").
use Rattle.std.specs.Prelude.{◌≡◌, ℕ, zero, suc, ℤ, pos, ◌+ℤ◌, Bool, true, false, cond, ◌&&◌, ◌^◌, Option, Some, None, List, [], ◌∷◌, slice_get}
use Rattle.std.specs.Option.{option_map}
use Rattle.source_kinds.specs.declared.kinds.IntKind.{IntKind}
use Rattle.source_kinds.specs.declared.kinds.IntKind.TheVariants.{I8, I16, I32, I64, Isize, U8, U16, U32, U64, Usize}
use Rattle.source_kinds.specs.Range.{fits, lowest}
use Rattle.logic_term.specs.declared.pattern.BindingKind.{BindingKind}
use Rattle.logic_term.specs.declared.pattern.BindingKind.TheVariants.{Value, Shared, Unique}
use Rattle.logic_term.specs.Matches.{bindings}
use Rattle.logic_term.specs.Pattern.{Pat, wild, bound, literal, truth, shape}
use Rattle.logic_term.specs.Ty.{Ty, int, bool}
use Rattle.pat_check.specs.Decision.{Decision, leaf, if_truth, if_literal}
use Rattle.pat_check.specs.Kinds.{is_kind}
use Rattle.pat_check.specs.Known.{among}

-- ---- flat patterns

abbrev pub is_by_value : BindingKind → Bool
is_by_value Value = true
is_by_value Shared = false
is_by_value Unique = false

-- the integer is a literal of the type
abbrev pub has_literal : Ty → Option IntKind → ℤ → Bool
has_literal (int k) i z = is_kind k i && fits k z
has_literal _ i z = false

abbrev pub is_bool : Ty → Bool
is_bool bool = true
is_bool _ = false

-- the pattern has no parts and binds by value, and if it is a literal, it is one of the type
abbrev pub is_flat : Ty → Pat → Bool
is_flat t (wild s) = true
is_flat t (bound s x m) = is_by_value m
is_flat t (literal s i z) = has_literal t i z
is_flat t (truth s b) = is_bool t
is_flat t (shape s c ps) = false

abbrev pub all_flat : Ty → List Pat → Bool
all_flat t [] = true
all_flat t (p ∷ ps) = is_flat t p && all_flat t ps

-- ---- integers

-- how many integers a type has
unfoldable pub kind_size : IntKind → ℕ
kind_size I8 = 2 ^ 8
kind_size I16 = 2 ^ 16
kind_size I32 = 2 ^ 32
kind_size I64 = 2 ^ 64
kind_size Isize = 2 ^ 64
kind_size U8 = 2 ^ 8
kind_size U16 = 2 ^ 16
kind_size U32 = 2 ^ 32
kind_size U64 = 2 ^ 64
kind_size Usize = 2 ^ 64

-- this many integers, from y on, are among these
unfoldable pub run_among : ℕ → ℤ → List ℤ → Bool
run_among zero y zs = true
run_among (suc n) y zs = among y zs && run_among n (y +ℤ pos 1) zs

-- each integer of the type is among these
unfoldable pub all_among : IntKind → List ℤ → Bool
all_among k zs = run_among (kind_size k) (lowest k) zs

-- ---- trees; None where some value is matched by no pattern

-- the rows from number n on, where the integer is none of zs. A literal that is one of them is passed over; behind the last one that was
-- left no other is tested
abbrev pub integer_rows : IntKind → List ℤ → ℕ → List Pat → Option Decision
integer_rows k zs n [] = None
integer_rows k zs n (wild s ∷ ps) = Some (leaf n [])
integer_rows k zs n (bound s x m ∷ ps) = Some (leaf n (bindings (bound s x m)))
integer_rows k zs n (literal s i z ∷ ps) =
    cond (among z zs)
    (integer_rows k zs (suc n) ps)
    (cond (all_among k (z ∷ zs)) (Some (leaf n [])) (option_map (if_literal [] z (leaf n [])) (integer_rows k (z ∷ zs) (suc n) ps)))
integer_rows k zs n (truth s b ∷ ps) = None
integer_rows k zs n (shape s c us ∷ ps) = None

-- the rows from number n on, for a value that is b
abbrev pub truth_rows : Bool → ℕ → List Pat → Option Decision
truth_rows b n [] = None
truth_rows b n (wild s ∷ ps) = Some (leaf n [])
truth_rows b n (bound s x m ∷ ps) = Some (leaf n (bindings (bound s x m)))
truth_rows true n (truth s true ∷ ps) = Some (leaf n [])
truth_rows true n (truth s false ∷ ps) = truth_rows true (suc n) ps
truth_rows false n (truth s true ∷ ps) = truth_rows false (suc n) ps
truth_rows false n (truth s false ∷ ps) = Some (leaf n [])
truth_rows b n (literal s i z ∷ ps) = None
truth_rows b n (shape s c us ∷ ps) = None

-- a value is tested where both sides have a tree
abbrev pub both_sides : Option Decision → Option Decision → Option Decision
both_sides (Some D) (Some E) = Some (if_truth [] D E)
both_sides (Some D) None = None
both_sides None m = None

-- the first pattern matches each value
abbrev pub first_row : List Pat → Option Decision
first_row [] = None
first_row (p ∷ ps) = Some (leaf 0 (bindings p))

-- a truth value is not tested where the first pattern matches both
abbrev pub truth_tree : List Pat → Option Decision
truth_tree [] = None
truth_tree (wild s ∷ ps) = Some (leaf 0 [])
truth_tree (bound s x m ∷ ps) = Some (leaf 0 (bindings (bound s x m)))
truth_tree (truth s b ∷ ps) = both_sides (truth_rows true 0 (truth s b ∷ ps)) (truth_rows false 0 (truth s b ∷ ps))
truth_tree (literal s i z ∷ ps) = None
truth_tree (shape s c us ∷ ps) = None

-- the tree of flat patterns of the type
abbrev pub flat_tree : Ty → List Pat → Option Decision
flat_tree (int k) ps = integer_rows k [] 0 ps
flat_tree bool ps = truth_tree ps
flat_tree _ ps = first_row ps

-- ---- what such a tree is made of

-- each leaf is a row with what it binds, a truth value is tested at bool, a literal at its integer type; all tests are of the value itself
pub data FlatDecision (t : Ty) (ps : List Pat) : Decision → Type 0 where
  at_leaf : {n : ℕ} (p : Pat) → slice_get ps n ≡ Some p → FlatDecision t ps (leaf n (bindings p))
  on_truth : {D E : Decision} → t ≡ bool → FlatDecision t ps D → FlatDecision t ps E → FlatDecision t ps (if_truth [] D E)
  on_literal : {D E : Decision} (k : IntKind) {z : ℤ} → t ≡ int k → fits k z ≡ true → FlatDecision t ps D → FlatDecision t ps E → FlatDecision t ps (if_literal [] z D E)
