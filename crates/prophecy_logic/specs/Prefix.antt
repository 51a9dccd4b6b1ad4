-- Prefixes of a body's paths: each runs from the entry along edges, passes a loop head at most once, and may end with a second arrival at
-- a head. The goals of a body are those that are met where a prefix ends, each made from the prefix's end backwards.
use Rattle.std.specs.Prelude.{◌≡◌, ℕ, true, false, List, [], ◌∷◌, ◌++◌, Contains, Some, None, slice_get}
use Rattle.text_core.specs.declared.refusal.Cause.{Cause}
use Rattle.logic_term.specs.declared.kinds.Label.{Label}
use Rattle.logic_term.specs.declared.obligation.Contract.{Contract}
use Rattle.logic_term.specs.Ty.{Ty}
use Rattle.mir_ir.specs.declared.place.Operand.{Operand}
use Rattle.mir_ir.specs.declared.place.Place.{Place}
use Rattle.mir_ir.specs.declared.statement.Statement.{Statement}
use Rattle.mir_ir.specs.declared.terminator.Callee.{Callee}
use Rattle.mir_ir.specs.declared.terminator.Terminator.{Terminator}
use Rattle.mir_ir.specs.declared.terminator.TerminatorKind.TheVariants.{Goto, If, Switch, Call, Return, Panic}
use Rattle.mir_ir.specs.declared.body.Block.{Block}
use Rattle.mir_ir.specs.declared.body.Head.{Head}
use Rattle.mir_ir.specs.declared.body.Point.{Point}
use Rattle.mir_ir.specs.Body.{block_in}
use Rattle.mir_ir.specs.Callees.{contract_at}
use Rattle.mir_ir.specs.Layout.{among}
use Rattle.prophecy_logic.specs.declared.command.Command.{Command}
use Rattle.prophecy_logic.specs.declared.goal.Goal.{Goal}
use Rattle.prophecy_logic.specs.Graph.{Setting, start_of, behind, IsBefore, IsAtEnd, goals_of_walk}
use Rattle.prophecy_logic.specs.Loop.{head_commands}
use Rattle.prophecy_logic.specs.Row.{goals_of, commands_of}
use Rattle.prophecy_logic.specs.Walk.{Walk, goal_before, goals_at_return, goals_at_panic, where_true, where_false, where_variant, goals_at_entry, goals_after_turn, goals_of_call, call_commands, entry_commands}

-- where a prefix ends: at the arrival at a block, or at a point within one
pub data At : Type 0 where
  arrival : Label → At
  within : Point → At

-- a prefix that has passed these heads, with its commands from the entry on
pub data Prefix (w : Setting) : List Label → At → List Command → Type 0 where
  entry : Prefix w [] (arrival w.body.entry) (entry_commands w.body w.contract)
  into_block : {heads : List Label} {l : Label} {cs : List Command} (k : Block) → Prefix w heads (arrival l) cs → block_in w.body.blocks l ≡ Some k → k.head ≡ None → Prefix w heads (within (start_of l)) cs
  into_head : {heads : List Label} {l : Label} {cs : List Command} (k : Block) (h : Head) → Prefix w heads (arrival l) cs → block_in w.body.blocks l ≡ Some k → k.head ≡ Some h → among l heads ≡ false
      → Prefix w (l ∷ heads) (within (start_of l)) (cs ++ head_commands w.body w.init l h)
  over_statement : {heads : List Label} {p : Point} {cs : List Command} (st : Statement) → Prefix w heads (within p) cs → IsBefore w.body p st → Prefix w heads (within (behind p)) (cs ++ commands_of w.body st.kind)
  along_goto : {heads : List Label} {p : Point} {cs : List Command} (end : Terminator) (l : Label) → Prefix w heads (within p) cs → IsAtEnd w.body p end → end.kind ≡ Goto l → Prefix w heads (arrival l) cs
  to_true_side : {heads : List Label} {p : Point} {cs : List Command} (end : Terminator) (o : Operand) (yes no : Label) → Prefix w heads (within p) cs → IsAtEnd w.body p end → end.kind ≡ If o yes no
      → Prefix w heads (arrival yes) (cs ++ where_true w.body o)
  to_false_side : {heads : List Label} {p : Point} {cs : List Command} (end : Terminator) (o : Operand) (yes no : Label) → Prefix w heads (within p) cs → IsAtEnd w.body p end → end.kind ≡ If o yes no
      → Prefix w heads (arrival no) (cs ++ where_false w.body o)
  to_variant : {heads : List Label} {p : Point} {cs : List Command} (end : Terminator) (q : Place) (ls : List Label) (k : ℕ) (l : Label) → Prefix w heads (within p) cs → IsAtEnd w.body p end → end.kind ≡ Switch q ls → slice_get ls k ≡ Some l
      → Prefix w heads (arrival l) (cs ++ where_variant w.body w.decls q k)
  over_call : {heads : List Label} {p : Point} {cs : List Command} (end : Terminator) (q : Place) (callee : Callee) (types : List Ty) (args : List Operand) (l : Label) (d : Contract) (t : Ty)
      → Prefix w heads (within p) cs → IsAtEnd w.body p end → end.kind ≡ Call q callee types args l → contract_at w.contracts callee ≡ Some d → slice_get w.body.locals q.local ≡ Some t
      → Prefix w heads (arrival l) (cs ++ call_commands w.body d q.local t args)

-- a goal that is met where a prefix ends that has passed these heads
pub data IsMet (w : Setting) : List Label → At → Goal → Type 0 where
  at_entry : {heads : List Label} {l : Label} {g : Goal} (k : Block) (h : Head) → block_in w.body.blocks l ≡ Some k → k.head ≡ Some h → among l heads ≡ false → Contains (goals_at_entry h) g → IsMet w heads (arrival l) g
  after_turn : {heads : List Label} {l : Label} {g : Goal} (k : Block) (h : Head) → block_in w.body.blocks l ≡ Some k → k.head ≡ Some h → among l heads ≡ true → Contains (goals_after_turn h) g → IsMet w heads (arrival l) g
  at_statement : {heads : List Label} {p : Point} {g : Goal} (st : Statement) → IsBefore w.body p st → Contains (goals_of w.body st.span st.kind) g → IsMet w heads (within p) g
  at_call : {heads : List Label} {p : Point} {g : Goal} (end : Terminator) (q : Place) (callee : Callee) (types : List Ty) (args : List Operand) (l : Label) (d : Contract) → IsAtEnd w.body p end
      → end.kind ≡ Call q callee types args l → contract_at w.contracts callee ≡ Some d → Contains (goals_of_call w.body d end.span args) g → IsMet w heads (within p) g
  at_return : {heads : List Label} {p : Point} {g : Goal} (end : Terminator) → IsAtEnd w.body p end → end.kind ≡ Return → Contains (goals_at_return w.body w.contract) g → IsMet w heads (within p) g
  at_panic : {heads : List Label} {p : Point} {g : Goal} (end : Terminator) (cause : Cause) → IsAtEnd w.body p end → end.kind ≡ Panic cause → Contains (goals_at_panic end.span) g → IsMet w heads (within p) g

-- a goal that is met where a prefix ends, closed by the prefix
pub data IsGoalOfPrefix (w : Setting) : Goal → Type 0 where
  of_prefix : {heads : List Label} {at : At} {cs : List Command} {g : Goal} → Prefix w heads at cs → IsMet w heads at g → IsGoalOfPrefix w (goal_before cs g)

-- the goals of the body's walk are those of the body's prefixes
pub record HasGoalsOfPrefixes (w : Setting) (v : Walk) : Type 0 where
  pub none_is_lost : (g : Goal) → IsGoalOfPrefix w g → Contains (goals_of_walk w v) g
  pub none_is_added : (g : Goal) → Contains (goals_of_walk w v) g → IsGoalOfPrefix w g
