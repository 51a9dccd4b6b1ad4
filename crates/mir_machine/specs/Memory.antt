-- Reading and writing the places of a state.
use Rattle.std.specs.Prelude.{ℕ, zero, ◌==◌, cond, List, [], ◌∷◌, ◌++◌, length, slice_get, slice_set}
use Rattle.logic_term.specs.declared.kinds.Ctor.TheVariants.{Variant as OfVariant}
use Rattle.mir_machine.specs.declared.spot.Spot.{Spot}
use Rattle.mir_ir.specs.declared.place.Proj.{Proj}
use Rattle.mir_ir.specs.declared.place.Proj.TheVariants.{Field, Variant, Deref}
use Rattle.mir_ir.specs.declared.place.Place.{Place}
use Rattle.mir_machine.specs.Try.{Try, Yields, Sticks, ◌>>=◌, need}
use Rattle.mir_machine.specs.Tree.{Tree, Made, Boxed, Shared, Unique, Gone, nth_tree, set_nth}
use Rattle.mir_machine.specs.Frame.{Frame, State}

-- ---- the parts of a tree

-- child n
abbrev pub child : {K : Type 0} → Tree K → ℕ → Try (Tree K)
child (Made c ts) n = need (nth_tree ts n)
child (Boxed t) zero = Yields t
child _ _ = Sticks

abbrev pub with_child : {K : Type 0} → Tree K → ℕ → Tree K → Tree K
with_child (Made c ts) n u = Made c (set_nth ts n u)
with_child (Boxed t) n u = Boxed u
with_child t n u = t

-- the tree at the end of a path of child numbers
abbrev pub tree_in : {K : Type 0} → List ℕ → Tree K → Try (Tree K)
tree_in [] t = Yields t
tree_in (n ∷ path) t = child t n >>= tree_in path

-- the tree with u there
abbrev pub put_in : {K : Type 0} → List ℕ → Tree K → Tree K → Try (Tree K)
put_in [] u t = Yields u
put_in (n ∷ path) u t = do
  c ← child t n
  d ← put_in path u c
  Yields (with_child t n d)

-- ---- spots

abbrev pub frame_at : {K : Type 0} → State K → ℕ → Try (Frame K)
frame_at [] n = Sticks
frame_at (f ∷ fs) n = cond (n == length fs) (Yields f) (frame_at fs n)

abbrev pub set_frame : {K : Type 0} → State K → ℕ → Frame K → State K
set_frame [] n g = []
set_frame (f ∷ fs) n g = cond (n == length fs) (g ∷ fs) (f ∷ set_frame fs n g)

abbrev pub tree_at : {K : Type 0} → State K → Spot → Try (Tree K)
tree_at s at = do
  f ← frame_at s at.frame
  t ← need (slice_get f.locals at.local)
  tree_in at.path t

abbrev pub put_at : {K : Type 0} → State K → Spot → Tree K → Try (State K)
put_at s at u = do
  f ← frame_at s at.frame
  t ← need (slice_get f.locals at.local)
  t' ← put_in at.path u t
  Yields (set_frame s at.frame (record f { locals = slice_set f.locals at.local t' }))

-- ---- places

-- child n of the spot
abbrev pub down : Spot → ℕ → Spot
down at n = record at { path = at.path ++ n ∷ [] }

-- where the next part of a place is, from a tree at a spot: at a reference it goes on at the reference's spot
abbrev pub onward : {K : Type 0} → Tree K → Spot → Proj → Try Spot
onward (Made c ts) at (Field n) = Yields (down at n)
onward (Made (OfVariant d v) ts) at (Variant n) = cond (v == n) (Yields at) Sticks
onward (Boxed t) at Deref = Yields (down at 0)
onward (Shared to) at Deref = Yields to
onward (Unique k to) at Deref = Yields to
onward _ at _ = Sticks

abbrev pub walk : {K : Type 0} → State K → Spot → List Proj → Try Spot
walk s at [] = Yields at
walk s at (p ∷ ps) = do
  t ← tree_at s at
  next ← onward t at p
  walk s next ps

-- the number of the running frame
abbrev pub running : {K : Type 0} → State K → ℕ
running [] = 0
running (f ∷ fs) = length fs

abbrev pub spot_of : {K : Type 0} → State K → Place → Try Spot
spot_of s p = walk s (record { frame = running s; local = p.local; path = [] }) p.path

abbrev pub is_there : {K : Type 0} → Tree K → Try (Tree K)
is_there Gone = Sticks
is_there t = Yields t

abbrev pub read : {K : Type 0} → State K → Place → Try (Tree K)
read s p = do
  at ← spot_of s p
  t ← tree_at s at
  is_there t

abbrev pub write : {K : Type 0} → State K → Place → Tree K → Try (State K)
write s p t = do
  at ← spot_of s p
  put_at s at t
