-- The machine's values, as contracts see them: one constructor for each form of `TreeNode` and `PointerTree`. K: what a mutable reference is
-- marked with, which no row of the machine reads; the machine's own states mark with nothing.
use Rattle.std.specs.Prelude.{ℕ, zero, suc, ℤ, Bool, List, [], ◌∷◌, Option, Some, None}
use Rattle.logic_term.specs.declared.kinds.Ctor.{Ctor}
use Rattle.mir_machine.specs.declared.spot.Spot.{Spot}

mutual
  pub data Tree (K : Type 0) : Type 0 where
    Int : ℤ → Tree K
    Truth : Bool → Tree K
    Made : Ctor → Trees K → Tree K
    Boxed : Tree K → Tree K
    Shared : Spot → Tree K
    Unique : K → Spot → Tree K
    -- what a move leaves
    Gone : Tree K

  pub data Trees (K : Type 0) : Type 0 where
    no_trees : Trees K
    and_tree : Tree K → Trees K → Trees K

abbrev pub trees_of : {K : Type 0} → List (Tree K) → Trees K
trees_of [] = no_trees
trees_of (t ∷ ts) = and_tree t (trees_of ts)

-- the tree of this number, from 0
abbrev pub nth_tree : {K : Type 0} → Trees K → ℕ → Option (Tree K)
nth_tree no_trees n = None
nth_tree (and_tree t ts) zero = Some t
nth_tree (and_tree t ts) (suc n) = nth_tree ts n

abbrev pub set_nth : {K : Type 0} → Trees K → ℕ → Tree K → Trees K
set_nth no_trees n u = no_trees
set_nth (and_tree t ts) zero u = and_tree u ts
set_nth (and_tree t ts) (suc n) u = and_tree t (set_nth ts n u)
