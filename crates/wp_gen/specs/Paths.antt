-- The complete paths of a body, as the walk takes them: each ends at a return, at a panic, or at a second arrival at a head.
use Rattle.std.specs.Prelude.{◌≡◌, ◌⊎◌, ℕ, ◌+◌, ◌≤◌, Bool, true, false, List, [], ◌∷◌, Option, Some, None}
use Rattle.text_core.specs.declared.refusal.Cause.{Cause}
use Rattle.logic_term.specs.declared.kinds.Label.{Label}
use Rattle.logic_term.specs.Ty.{Ty}
use Rattle.mir_ir.specs.declared.place.Operand.{Operand}
use Rattle.mir_ir.specs.declared.place.Place.{Place}
use Rattle.mir_ir.specs.declared.terminator.Callee.{Callee}
use Rattle.mir_ir.specs.declared.terminator.TerminatorKind.{TerminatorKind}
use Rattle.mir_ir.specs.declared.terminator.TerminatorKind.TheVariants.{Goto, If, Switch, Call, Return, Panic}
use Rattle.mir_ir.specs.declared.body.Block.{Block}
use Rattle.mir_ir.specs.declared.body.Body.{Body}
use Rattle.mir_ir.specs.declared.body.Head.{Head}
use Rattle.mir_ir.specs.Body.{block_in}
use Rattle.mir_ir.specs.Layout.{among, targets, place_of}
use Rattle.prophecy_logic.specs.Graph.{Setting, Arrives}
use Rattle.prophecy_logic.specs.Walk.{Walk, paths}
use Rattle.prophecy_logic.specs.Walkable.{AllAmong}

-- the block is no head that was passed
abbrev pub IsEntered : Option Head → Label → List Label → Type 0
IsEntered None l heads = Unit {0}
IsEntered (Some h) l heads = among l heads ≡ false

-- the heads that were passed, once it is entered
abbrev pub passed : Option Head → Label → List Label → List Label
passed None l heads = heads
passed (Some h) l heads = l ∷ heads

-- n paths from the arrival at the block of the label on, where these heads were passed. early: whether the count may stop short
-- of a path's end, so that there may be more paths
mutual
  pub data Paths (early : Bool) (b : Body) : List Label → Label → ℕ → Type 0 where
    stopped : {heads : List Label} {l : Label} → early ≡ true → Paths early b heads l 0
    again : {heads : List Label} {l : Label} (k : Block) (h : Head) → block_in b.blocks l ≡ Some k → k.head ≡ Some h → among l heads ≡ true → Paths early b heads l 1
    return : {heads : List Label} {l : Label} (k : Block) → block_in b.blocks l ≡ Some k → IsEntered k.head l heads → k.end.kind ≡ Return → Paths early b heads l 1
    panic : {heads : List Label} {l : Label} (k : Block) (cause : Cause) → block_in b.blocks l ≡ Some k → IsEntered k.head l heads → k.end.kind ≡ Panic cause → Paths early b heads l 1
    goto : {heads : List Label} {l : Label} {n : ℕ} (k : Block) (m : Label) → block_in b.blocks l ≡ Some k → IsEntered k.head l heads → k.end.kind ≡ Goto m → Paths early b (passed k.head l heads) m n → Paths early b heads l n
    call : {heads : List Label} {l : Label} {n : ℕ} (k : Block) (p : Place) (callee : Callee) (types : List Ty) (args : List Operand) (m : Label) → block_in b.blocks l ≡ Some k → IsEntered k.head l heads → k.end.kind ≡ Call p callee types args m
        → Paths early b (passed k.head l heads) m n → Paths early b heads l n
    branch : {heads : List Label} {l : Label} {n n' : ℕ} (k : Block) (o : Operand) (on_true on_false : Label) → block_in b.blocks l ≡ Some k → IsEntered k.head l heads → k.end.kind ≡ If o on_true on_false
        → Paths early b (passed k.head l heads) on_true n → Paths early b (passed k.head l heads) on_false n' → Paths early b heads l (n + n')
    switch : {heads : List Label} {l : Label} {n : ℕ} (k : Block) (p : Place) (ls : List Label) → block_in b.blocks l ≡ Some k → IsEntered k.head l heads → k.end.kind ≡ Switch p ls → SidePaths early b (passed k.head l heads) ls n → Paths early b heads l n

  -- n paths along the sides of a switch to these labels; where there are none, the one path ends
  pub data SidePaths (early : Bool) (b : Body) : List Label → List Label → ℕ → Type 0 where
    no_side : {heads : List Label} → SidePaths early b heads [] 1
    last_side : {heads : List Label} {l : Label} {n : ℕ} → Paths early b heads l n → SidePaths early b heads (l ∷ []) n
    one_side : {heads : List Label} {l m : Label} {ms : List Label} {n n' : ℕ} → Paths early b heads l n → SidePaths early b heads (m ∷ ms) n' → SidePaths early b heads (l ∷ m ∷ ms) (n + n')

-- exactly n paths
abbrev pub HasPaths : Body → List Label → Label → ℕ → Type 0
HasPaths = Paths false

-- at least n paths
abbrev pub HasMorePaths : Body → List Label → Label → ℕ → Type 0
HasMorePaths = Paths true

-- no count is both, so that an answer that is either is exact
abbrev pub CountsAgree : Type 0
CountsAgree = (b : Body) (heads : List Label) (l : Label) (m n : ℕ) → HasPaths b heads l m → HasMorePaths b heads l n → n ≤ m

-- the walk that makes the obligations has as many ends as are counted
abbrev pub WalksAreCounted : Type 0
WalksAreCounted = (w : Setting) (v : Walk) → Arrives w [] w.body.entry v → HasPaths w.body [] w.body.entry (paths v)

-- ---- counting from a block on, along whatever way it was reached

-- a walk may stand in the block of the label, where these heads were passed: those of the loops around it, and no later block
pub record MayStand (b : Body) (heads : List Label) (l : Label) (k : Block) : Type 0 where
  pub is_block : block_in b.blocks l ≡ Some k
  pub nest : AllAmong k.nest heads
  pub not_later : (m : Label) → among m heads ≡ true → place_of b.blocks m ≤ place_of b.blocks l

-- n paths along the edge from the block of l to m
abbrev pub CountsAlong : Body → Label → Label → Bool → ℕ → Type 0
CountsAlong b l m early n = (heads : List Label) (k : Block) → MayStand b heads l k → Paths early b heads m n

-- the last of these labels, and those before it
abbrev pub last_of : List Label → Option Label
last_of [] = None
last_of (l ∷ []) = Some l
last_of (l ∷ m ∷ ms) = last_of (m ∷ ms)

abbrev pub before_last : List Label → List Label
before_last [] = []
before_last (l ∷ []) = []
before_last (l ∷ m ∷ ms) = l ∷ before_last (m ∷ ms)

-- the block's end names each of these labels
abbrev pub AreTargets : List Label → TerminatorKind → Type 0
AreTargets ls kind = (l : Label) → among l ls ≡ true → among l (targets kind) ≡ true

-- where the last edge from a block's end leads, the second side of a branch, or the last one of a switch
abbrev pub last_target : TerminatorKind → Option Label
last_target (Goto m) = Some m
last_target (If o on_true on_false) = Some on_false
last_target (Switch p ls) = last_of ls
last_target (Call p callee types args m) = Some m
last_target Return = None
last_target (Panic cause) = None

-- the last edge leads to a later block, or the path ends: no edge leads on, or it leads back to the head of a loop around the block
abbrev pub IsLater : Block → Option Label → Type 0
IsLater k (Some m) = (last_target k.end.kind ≡ Some m) × (among m k.nest ≡ false)
IsLater k None = (last_target k.end.kind ≡ None) ⊎ ((m : Label) × (last_target k.end.kind ≡ Some m) × (among m k.nest ≡ true))

-- n paths along the edges to these labels
abbrev pub CountsEach : Body → Label → List Label → Bool → ℕ → Type 0
CountsEach b l [] early n = n ≡ 0
CountsEach b l (m ∷ ms) early n = (i : ℕ) × (j : ℕ) × CountsAlong b l m early i × CountsEach b l ms early j × (n ≡ i + j)

-- n paths on the first side of a branch, or on all sides of a switch but the last, none at another end
abbrev pub CountsFirst : Body → Label → TerminatorKind → Bool → ℕ → Type 0
CountsFirst b l (Goto m) early n = n ≡ 0
CountsFirst b l (If o on_true on_false) early n = CountsAlong b l on_true early n
CountsFirst b l (Switch p ls) early n = CountsEach b l (before_last ls) early n
CountsFirst b l (Call p callee types args m) early n = n ≡ 0
CountsFirst b l Return early n = n ≡ 0
CountsFirst b l (Panic cause) early n = n ≡ 0

-- n paths from the end of a block on
abbrev pub EndPaths : Bool → Body → List Label → TerminatorKind → ℕ → Type 0
EndPaths early b heads (Goto m) n = Paths early b heads m n
EndPaths early b heads (If o on_true on_false) n = (i : ℕ) × (j : ℕ) × Paths early b heads on_true i × Paths early b heads on_false j × (n ≡ i + j)
EndPaths early b heads (Switch p ls) n = SidePaths early b heads ls n
EndPaths early b heads (Call p callee types args m) n = Paths early b heads m n
EndPaths early b heads Return n = n ≡ 1
EndPaths early b heads (Panic cause) n = n ≡ 1

abbrev pub CountsFrom : Body → Label → Bool → ℕ → Type 0
CountsFrom b l early n = (heads : List Label) (k : Block) → MayStand b heads l k → EndPaths early b heads k.end.kind n

abbrev pub IsOne : Bool → ℕ → Type 0
IsOne early n = n ≡ 1

-- the count, or none where there are more than `room`
abbrev pub IsCount : (Bool → ℕ → Type 0) → ℕ → Option ℕ → Type 0
IsCount P room (Some n) = (n ≤ room) × P false n
IsCount P room None = P true (room + 1)
