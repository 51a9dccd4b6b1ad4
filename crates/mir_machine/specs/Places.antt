-- The parts of reading and writing a spot, as the functions of src/memory.rt do them: from one tree of a list, then in a frame.
use Rattle.std.specs.Prelude.{ℕ, ◌==◌, cond, List, slice_get, slice_set}
use Rattle.logic_term.specs.declared.kinds.Ctor.{Ctor}
use Rattle.logic_term.specs.declared.kinds.Ctor.TheVariants.{Variant}
use Rattle.mir_machine.specs.declared.spot.Spot.{Spot}
use Rattle.mir_machine.specs.Try.{Try, Yields, Sticks, ◌>>=◌, need}
use Rattle.mir_machine.specs.Tree.{Tree}
use Rattle.mir_machine.specs.Frame.{Frame}
use Rattle.mir_machine.specs.Memory.{tree_in, put_in}

-- the tree at the end of a path from tree n of the list
abbrev pub tree_in_list : {K : Type 0} → List (Tree K) → ℕ → List ℕ → Try (Tree K)
tree_in_list ts n path = need (slice_get ts n) >>= tree_in path

-- the list with u there
abbrev pub put_in_list : {K : Type 0} → List (Tree K) → ℕ → List ℕ → Tree K → Try (List (Tree K))
put_in_list ts n path u = do
  t ← need (slice_get ts n)
  d ← put_in path u t
  Yields (slice_set ts n d)

abbrev pub put_in_frame : {K : Type 0} → Frame K → Spot → Tree K → Try (Frame K)
put_in_frame f at u = put_in_list f.locals at.local at.path u >>= λ ls. Yields (record f { locals = ls })

-- the spot itself, where the constructor is this variant
abbrev pub in_variant : Ctor → Spot → ℕ → Try Spot
in_variant (Variant d v) at n = cond (v == n) (Yields at) Sticks
in_variant _ at n = Sticks
