-- How many goals a body has, found before one is made, against a bound: what is left of the room for them.
use Rattle.std.specs.Prelude.{◌≡◌, ℕ, ◌+◌, ◌<◌, List, [], ◌∷◌, length, Option, Some, None}
use Rattle.logic_term.specs.declared.kinds.Label.{Label}
use Rattle.logic_term.specs.declared.obligation.Obligation.{Obligation}
use Rattle.mir_ir.specs.declared.statement.Statement.{Statement}
use Rattle.mir_ir.specs.declared.body.Block.{Block}
use Rattle.mir_ir.specs.declared.body.Body.{Body}
use Rattle.mir_ir.specs.declared.body.Head.{Head}
use Rattle.prophecy_logic.specs.Graph.{Setting, start_of, Within, Ends, Arrives, AreObligations}
use Rattle.prophecy_logic.specs.Row.{goals_of}
use Rattle.prophecy_logic.specs.Walk.{Walk, stop, row, fork}
use Rattle.prophecy_logic.specs.Walkable.{CanWalk}
use Rattle.wp_gen.specs.Paths.{MayStand}

-- so much is left of the room after so many; none where there are more
abbrev pub IsRoomLeft : ℕ → ℕ → Option ℕ → Type 0
IsRoomLeft room many (Some left) = left + many ≡ room
IsRoomLeft room many None = room < many

-- what is left after any such list
abbrev pub LeavesRoom : {A : Type 0} → (List A → Type 0) → ℕ → Option ℕ → Type 0
LeavesRoom Is room left = (xs : List _) → Is xs → IsRoomLeft room (length xs) left

-- how many goals a walk has
abbrev pub count : Walk → ℕ
count stop = 0
count (row gs cs v) = length gs + count v
count (fork a b) = count a + count b

-- what is left after the goals of any such walk
abbrev pub LeavesRoomBehind : (Walk → Type 0) → ℕ → Option ℕ → Type 0
LeavesRoomBehind Is room left = (v : Walk) → Is v → IsRoomLeft room (count v) left

-- how many goals these statements have
abbrev pub goals_within : Body → List Statement → ℕ
goals_within b [] = 0
goals_within b (st ∷ sts) = length (goals_of b st.span st.kind) + goals_within b sts

-- how many goals an arrival at a head has, first or again; none at a block that is no head
abbrev pub goals_of_head : Option Head → ℕ
goals_of_head None = 0
goals_of_head (Some h) = length h.invariants

-- what is left of a walk from a block's first statement on, along whatever way it was reached
abbrev pub IsFrom : Setting → Label → Walk → Type 0
IsFrom w l v = (heads : List Label) × (k : Block) × MayStand w.body heads l k × Within w heads (start_of l) v

-- what is left of it along the edge from the block of l to m
abbrev pub IsAlong : Setting → Label → Label → Walk → Type 0
IsAlong w l m v = (heads : List Label) × (k : Block) × MayStand w.body heads l k × Arrives w heads m v

-- what is left of it at the end of the block
abbrev pub IsAtEnd : Setting → Label → Block → Walk → Type 0
IsAtEnd w l k v = (heads : List Label) × MayStand w.body heads l k × Ends w heads k.end v

-- so many goals along the edges to these labels
abbrev pub CountsSides : Setting → List Label → List Label → ℕ → Type 0
CountsSides w heads [] n = n ≡ 0
CountsSides w heads (m ∷ ms) n = (u : Walk) × (j : ℕ) × Arrives w heads m u × CountsSides w heads ms j × (n ≡ count u + j)

-- what is left of the room after the goals along the edges from the block of l to these labels
abbrev pub LeavesRoomAlong : Setting → Label → List Label → ℕ → Option ℕ → Type 0
LeavesRoomAlong w l ms room left = (heads : List Label) (k : Block) (n : ℕ) → MayStand w.body heads l k → CountsSides w heads ms n → IsRoomLeft room n left

-- the goals are so many, and behind them those along the last edge from the block of l, if there is one
abbrev pub AreSplit : Setting → Label → Option Label → ℕ → Walk → Type 0
AreSplit w l None many v = count v ≡ many
AreSplit w l (Some m) many v = (u : Walk) × IsAlong w l m u × (count v ≡ many + count u)

-- what is left of the room after the goals of any such walk but those along the last edge; none where it has more than there is room for
abbrev pub LeavesRoomBefore : Setting → Label → Option Label → (Walk → Type 0) → ℕ → Option ℕ → Type 0
LeavesRoomBefore w l last Is room (Some left) = (v : Walk) → Is v → (many : ℕ) × IsRoomLeft room many (Some left) × AreSplit w l last many v
LeavesRoomBefore w l last Is room None = LeavesRoomBehind Is room None

-- the obligations of the body, from some number on
abbrev pub AreSomeObligations : Setting → List Obligation → Type 0
AreSomeObligations w os = (m : ℕ) × AreObligations w m os

-- each body that can be walked has obligations
abbrev pub HaveObligations : Type 0
HaveObligations = (w : Setting) (m : ℕ) → CanWalk w → (os : List Obligation) × AreObligations w m os
