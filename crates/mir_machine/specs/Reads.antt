-- What a tree reads as: the value that contracts see. A mutable reference reads as the pair of what it refers to and of what
-- that is when the borrow ends (RustHorn: Matsushita, Tsukada and Kobayashi 2020, section 2).
use Rattle.std.specs.Prelude.{◌≡◌, ℕ, suc, ℤ, Bool, true, Option, Some, None}
use Rattle.logic_term.specs.declared.kinds.Ctor.{Ctor}
use Rattle.logic_term.specs.Value.{Value, Values, Number, Flag, Pair, no_values, and_value}
use Rattle.logic_term.specs.Value as value
use Rattle.mir_machine.specs.declared.spot.Spot.{Spot}
use Rattle.mir_machine.specs.Try.{Yields}
use Rattle.mir_machine.specs.Tree.{Tree, Trees, Int, Truth, Made, Boxed, Shared, Unique, Gone, no_trees, and_tree}
use Rattle.mir_machine.specs.Frame.{State}
use Rattle.mir_machine.specs.Memory.{tree_at, down}

-- through what a place is read: its owner, a mutable reference, or as it stands
pub data View (K : Type 0) : Type 0 where
  Owner Plain : View K
  Through : K → View K

-- gaps: whether what is gone reads as any value. final: the last value of what a mutable reference refers to. lent: what a
-- place that is lent out reads as, in the place of the tree that stands there
mutual
  pub data Reads {K : Type 0} (gaps : Bool) (s : State K) (final : K → Spot → Value) (lent : View K → Spot → Option Value) : View K → Spot → Tree K → Value → Type 0 where
    of_lent : {w : View K} {at : Spot} {t : Tree K} {v : Value} → lent w at ≡ Some v → Reads gaps s final lent w at t v
    of_gone : {w : View K} {at : Spot} {v : Value} → gaps ≡ true → lent w at ≡ None → Reads gaps s final lent w at Gone v
    of_int : {w : View K} {at : Spot} {z : ℤ} → lent w at ≡ None → Reads gaps s final lent w at (Int z) (Number z)
    of_truth : {w : View K} {at : Spot} {b : Bool} → lent w at ≡ None → Reads gaps s final lent w at (Truth b) (Flag b)
    of_made : {w : View K} {at : Spot} {c : Ctor} {ts : Trees K} {vs : Values} → lent w at ≡ None → ReadsAll gaps s final lent w at 0 ts vs → Reads gaps s final lent w at (Made c ts) (value.Made c vs)
    of_boxed : {w : View K} {at : Spot} {t : Tree K} {v : Value} → lent w at ≡ None → Reads gaps s final lent w (down at 0) t v → Reads gaps s final lent w at (Boxed t) v
    of_shared : {w : View K} {at to : Spot} {t : Tree K} {v : Value} → lent w at ≡ None → tree_at s to ≡ Yields t → Reads gaps s final lent Plain to t v → Reads gaps s final lent w at (Shared to) v
    of_unique : {w : View K} {at to : Spot} {k : K} {t : Tree K} {v : Value} → lent w at ≡ None → tree_at s to ≡ Yields t → Reads gaps s final lent (Through k) to t v → Reads gaps s final lent w at (Unique k to) (Pair v (final k to))

  -- the children from number n on
  pub data ReadsAll {K : Type 0} (gaps : Bool) (s : State K) (final : K → Spot → Value) (lent : View K → Spot → Option Value) : View K → Spot → ℕ → Trees K → Values → Type 0 where
    of_none : {w : View K} {at : Spot} {n : ℕ} → ReadsAll gaps s final lent w at n no_trees no_values
    of_more : {w : View K} {at : Spot} {n : ℕ} {t : Tree K} {ts : Trees K} {v : Value} {vs : Values} → Reads gaps s final lent w (down at n) t v → ReadsAll gaps s final lent w at (suc n) ts vs
        → ReadsAll gaps s final lent w at n (and_tree t ts) (and_value v vs)
