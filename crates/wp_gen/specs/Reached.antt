-- Where a walk stands, and what it does from there.
use Rattle.std.specs.Prelude.{◌≡◌, ℕ, ◌+◌, ◌-◌, ◌<◌, cond, false, List, [], ◌∷◌, ◌++◌, length, Some, None, slice_get}
use Rattle.text_core.specs.declared.span.Span.{Span}
use Rattle.logic_term.specs.declared.kinds.Label.{Label}
use Rattle.logic_term.specs.declared.obligation.Contract.{Contract}
use Rattle.logic_term.specs.Ty.{Ty}
use Rattle.mir_ir.specs.declared.place.Operand.{Operand}
use Rattle.mir_ir.specs.declared.place.Place.{Place}
use Rattle.mir_ir.specs.declared.statement.Statement.{Statement}
use Rattle.mir_ir.specs.declared.terminator.Callee.{Callee}
use Rattle.mir_ir.specs.declared.body.Block.{Block}
use Rattle.mir_ir.specs.declared.body.Body.{Body}
use Rattle.mir_ir.specs.Body.{block_in}
use Rattle.mir_ir.specs.Callees.{contract_at}
use Rattle.prophecy_logic.specs.declared.command.Command.{Command}
use Rattle.prophecy_logic.specs.declared.goal.Goal.{Goal}
use Rattle.mir_ir.specs.Layout.{among, place_of}
use Rattle.prophecy_logic.specs.Graph.{Setting, start_of, Within, Ends, Arrives, goals_of_walk}
use Rattle.prophecy_logic.specs.State.{Adds, Leads, closed_goals}
use Rattle.prophecy_logic.specs.Walk.{seen_before, where_variant, goals_of_call, call_commands, Walk, met}
use Rattle.prophecy_logic.specs.Walkable.{MayArrive, MayWalk}
use Rattle.wp_gen.specs.Paths.{last_of, before_last}
use Rattle.wp_gen.specs.declared.reached.Reached.{Reached}
use Rattle.wp_gen.specs.declared.reached.Spot.{Spot}
use Rattle.wp_gen.specs.declared.reached.Next.{Next}
use Rattle.wp_gen.specs.declared.reached.Next.TheVariants.{On, Done}

-- the walk comes from the first place to the second over a row with these goals and commands
pub record IsOver (gs : List Goal) (cs : List Command) (from to : Reached) : Type 0 where
  pub goals : Adds from.state from.goals.items gs to.goals.items
  pub state : Leads from.state cs to.state

-- all goals are those that were met, and behind them those of what is left of the walk
pub record GoesOn (IsLeft : Walk → Type 0) (from : Reached) (all : List Goal) : Type 0 where
  pub left : Walk
  pub is_left : IsLeft left
  pub adds : Adds from.state from.goals.items (met left) all

-- the statements are those of the block of the label
pub record AreStatements (b : Body) (l : Label) (sts : List Statement) : Type 0 where
  pub block : Block
  pub is_block : block_in b.blocks l ≡ Some block
  pub are : block.statements ≡ sts

-- over the first n statements of the block of the label, from the first place to the second
pub record Passes (w : Setting) (l : Label) (n : ℕ) (from to : Reached) : Type 0 where
  pub walks : (heads : List Label) (all : List Goal) → GoesOn (Within w heads (record { label = l; statement = n })) to all → GoesOn (Within w heads (start_of l)) from all

-- over a call
pub record IsOverCall (w : Setting) (at : Span) (p : Place) (callee : Callee) (args : List Operand) (from to : Reached) : Type 0 where
  pub contract : Contract
  pub is_contract : contract_at w.contracts callee ≡ Some contract
  pub answer : Ty
  pub is_answer : slice_get w.body.locals p.local ≡ Some answer
  pub over : IsOver (goals_of_call w.body contract at args) (call_commands w.body contract p.local answer args) from to

-- the goals of the body with its contract, in normal form
pub record AreMet (w : Setting) (all : List Goal) : Type 0 where
  pub walk : Walk
  pub arrives : Arrives w [] w.body.entry walk
  pub are_met : all ≡ closed_goals [] (goals_of_walk w walk)

-- ---- from one arrival on a path to the next

-- how many blocks stand from the label's on
abbrev pub blocks_from : List (Label × Block) → Label → ℕ
blocks_from bs l = length bs - place_of bs l

-- how many may be ahead of the arrival at the block of the label: none at a head that was passed
abbrev pub ahead : List (Label × Block) → List Label → Label → ℕ
ahead bs heads l = cond (among l heads) 0 (blocks_from bs l)

-- the walk stands at the end of the block of the label, and what it goes on with there is what was left
pub record StandsAtEnd (w : Setting) (IsLeft : Walk → Type 0) (from : Reached) (l : Label) (k : Block) (to : Spot) : Type 0 where
  pub is_label : to.label ≡ l
  pub may : MayWalk w to.heads.items l k
  pub walks : (all : List Goal) → GoesOn (Ends w to.heads.items k.end) to.reached all → GoesOn IsLeft from all

-- from an arrival to the end of the block, or all goals are made
abbrev pub ComesToEnd : Setting → Spot → Block → Next → Type 0
ComesToEnd w from k (On to) = (among from.label from.heads.items ≡ false) × StandsAtEnd w (Arrives w from.heads.items from.label) from.reached from.label k to
ComesToEnd w from k (Done all) = GoesOn (Arrives w from.heads.items from.label) from.reached all.items

-- goals that are met on the sides of a switch to these labels, for the variants from k on
abbrev pub AreSideGoals : Setting → List Label → Place → ℕ → List Label → List Goal → Type 0
AreSideGoals w heads p k [] gs = gs ≡ []
AreSideGoals w heads p k (l ∷ ls) gs = (u : Walk) × (rest : List Goal) × Arrives w heads l u × AreSideGoals w heads p (k + 1) ls rest × (gs ≡ seen_before (where_variant w.body w.decls p k) (met u) ++ rest)

-- over these sides of a switch, and back with their goals
pub record IsOverSides (w : Setting) (heads : List Label) (p : Place) (ls : List Label) (from to : Reached) : Type 0 where
  pub goals : List Goal
  pub are : AreSideGoals w heads p 0 ls goals
  pub adds : Adds from.state from.goals.items goals to.goals.items
  pub state : to.state ≡ from.state

-- back where the walk stood
abbrev pub IsBack : Setting → Place → List Label → Spot → Spot → Type 0
IsBack w p ls from to = (to.heads.items ≡ from.heads.items) × (to.label ≡ from.label) × IsOverSides w from.heads.items p ls from.reached to.reached

-- at the last side of a switch, or with all goals, where it has none
abbrev pub IsAtLastSide : Setting → Place → List Label → Spot → Next → Type 0
IsAtLastSide w p ls from (On to) =
    (to.heads.items ≡ from.heads.items) × (last_of ls ≡ Some to.label) × IsOver [] (where_variant w.body w.decls p (length (before_last ls))) from.reached to.reached
IsAtLastSide w p ls from (Done all) = (last_of ls ≡ None) × (all.items ≡ from.reached.goals.items)

-- the walk arrives at a block, with fewer blocks ahead, and what it goes on with there is what was left
pub record LeadsTo (w : Setting) (IsLeft : Walk → Type 0) (from : Reached) (most : ℕ) (to : Spot) : Type 0 where
  pub may : MayArrive w to.heads.items to.label
  pub nearer : ahead w.body.blocks to.heads.items to.label < most
  pub walks : (all : List Goal) → GoesOn (Arrives w to.heads.items to.label) to.reached all → GoesOn IsLeft from all

-- to another arrival, or all goals are made
abbrev pub GoesTo : Setting → (Walk → Type 0) → Reached → ℕ → Next → Type 0
GoesTo w IsLeft from most (On to) = LeadsTo w IsLeft from most to
GoesTo w IsLeft from most (Done all) = GoesOn IsLeft from all.items
