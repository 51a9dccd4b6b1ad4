-- The walk of a body, as a relation between the points of its graph of blocks and trees of rows. A loop head is passed once: at a second
-- arrival on a path its invariants are goals and the path ends (Floyd 1967; Creusot).
use Rattle.std.specs.Prelude.{◌≡◌, ℕ, ◌+◌, true, false, List, [], ◌∷◌, length, Some, None, slice_get}
use Rattle.text_core.specs.declared.refusal.Cause.{Cause}
use Rattle.logic_term.specs.declared.declaration.AdtDecl.{AdtDecl}
use Rattle.logic_term.specs.declared.kinds.Label.{Label}
use Rattle.logic_term.specs.declared.obligation.Contract.{Contract}
use Rattle.logic_term.specs.declared.obligation.Obligation.{Obligation}
use Rattle.logic_term.specs.Normal.{reduced}
use Rattle.logic_term.specs.Ty.{Ty}
use Rattle.mir_ir.specs.declared.place.Operand.{Operand}
use Rattle.mir_ir.specs.declared.place.Place.{Place}
use Rattle.mir_ir.specs.declared.statement.Statement.{Statement}
use Rattle.mir_ir.specs.declared.terminator.Callee.{Callee}
use Rattle.mir_ir.specs.declared.terminator.Terminator.{Terminator}
use Rattle.mir_ir.specs.declared.terminator.TerminatorKind.TheVariants.{Goto, If, Switch, Call, Return, Panic}
use Rattle.mir_ir.specs.declared.body.Block.{Block}
use Rattle.mir_ir.specs.declared.body.Body.{Body}
use Rattle.mir_ir.specs.declared.body.Contracts.{Contracts}
use Rattle.mir_ir.specs.declared.body.Head.{Head}
use Rattle.mir_ir.specs.declared.body.Initialised.{Initialised}
use Rattle.mir_ir.specs.declared.body.Point.{Point}
use Rattle.mir_ir.specs.declared.body.Resolves.{Resolves}
use Rattle.mir_ir.specs.Body.{block_in}
use Rattle.mir_ir.specs.Callees.{contract_at}
use Rattle.mir_ir.specs.Layout.{among}
use Rattle.prophecy_logic.specs.declared.goal.Goal.{Goal}
use Rattle.prophecy_logic.specs.Loop.{head_commands}
use Rattle.prophecy_logic.specs.Row.{goals_of, commands_of}
use Rattle.prophecy_logic.specs.Walk.{goals_at_return, goals_at_panic, where_true, where_false, where_variant, goals_at_entry, goals_after_turn, goals_of_call, call_commands, entry_commands, Walk, stop, row, fork, owed}

-- what the walk of a body looks up: the contracts of all functions, its own, what may be gone where, which references end where, and the
-- declared types. So far no row asks which references end
pub record Setting : Type 0 where
  pub body : Body
  pub contracts : Contracts
  pub contract : Contract
  pub init : Initialised
  pub resolves : Resolves
  pub decls : List AdtDecl

-- ---- points

-- where the block of the label begins
abbrev pub start_of : Label → Point
start_of l = record { label = l; statement = 0 }

-- behind the statement at the point
abbrev pub behind : Point → Point
behind p = record { label = p.label; statement = p.statement + 1 }

-- the point is before a statement of a block
pub record IsBefore (b : Body) (p : Point) (st : Statement) : Type 0 where
  pub block : Block
  pub is_block : block_in b.blocks p.label ≡ Some block
  pub is_statement : slice_get block.statements p.statement ≡ Some st

-- the point is before the end of a block
pub record IsAtEnd (b : Body) (p : Point) (end : Terminator) : Type 0 where
  pub block : Block
  pub is_block : block_in b.blocks p.label ≡ Some block
  pub is_last : p.statement ≡ length block.statements
  pub is_end : block.end ≡ end

-- ---- the walk

mutual
  -- from a point of a block on, where these heads were passed
  pub data Within (w : Setting) : List Label → Point → Walk → Type 0 where
    by_statement : {heads : List Label} {p : Point} {v : Walk} (st : Statement) → IsBefore w.body p st → Within w heads (behind p) v
        → Within w heads p (row (goals_of w.body st.span st.kind) (commands_of w.body st.kind) v)
    by_end : {heads : List Label} {p : Point} {v : Walk} (end : Terminator) → IsAtEnd w.body p end → Ends w heads end v → Within w heads p v

  -- from a block's end on
  pub data Ends (w : Setting) : List Label → Terminator → Walk → Type 0 where
    goto : {heads : List Label} {end : Terminator} {v : Walk} (l : Label) → end.kind ≡ Goto l → Arrives w heads l v → Ends w heads end v
    branch : {heads : List Label} {end : Terminator} {u v : Walk} (o : Operand) (yes no : Label) → end.kind ≡ If o yes no → Arrives w heads yes u → Arrives w heads no v
        → Ends w heads end (fork (row [] (where_true w.body o) u) (row [] (where_false w.body o) v))
    switch : {heads : List Label} {end : Terminator} {v : Walk} (p : Place) (ls : List Label) → end.kind ≡ Switch p ls → Sides w heads p 0 ls v → Ends w heads end v
    call : {heads : List Label} {end : Terminator} {v : Walk} (p : Place) (callee : Callee) (types : List Ty) (args : List Operand) (l : Label) (d : Contract) (t : Ty)
        → end.kind ≡ Call p callee types args l → contract_at w.contracts callee ≡ Some d → slice_get w.body.locals p.local ≡ Some t → Arrives w heads l v
        → Ends w heads end (row (goals_of_call w.body d end.span args) (call_commands w.body d p.local t args) v)
    return : {heads : List Label} {end : Terminator} → end.kind ≡ Return → Ends w heads end (row (goals_at_return w.body w.contract) [] stop)
    panic : {heads : List Label} {end : Terminator} (cause : Cause) → end.kind ≡ Panic cause → Ends w heads end (row (goals_at_panic end.span) [] stop)

  -- from a switch on, for the variants from k on; where there is none, the path ends
  pub data Sides (w : Setting) : List Label → Place → ℕ → List Label → Walk → Type 0 where
    no_side : {heads : List Label} {p : Place} {k : ℕ} → Sides w heads p k [] stop
    last_side : {heads : List Label} {p : Place} {k : ℕ} {l : Label} {u : Walk} → Arrives w heads l u → Sides w heads p k (l ∷ []) (row [] (where_variant w.body w.decls p k) u)
    one_side : {heads : List Label} {p : Place} {k : ℕ} {l m : Label} {ms : List Label} {u v : Walk} → Arrives w heads l u → Sides w heads p (k + 1) (m ∷ ms) v
        → Sides w heads p k (l ∷ m ∷ ms) (fork (row [] (where_variant w.body w.decls p k) u) v)

  -- from the arrival at a block on
  pub data Arrives (w : Setting) : List Label → Label → Walk → Type 0 where
    plain : {heads : List Label} {l : Label} {v : Walk} (k : Block) → block_in w.body.blocks l ≡ Some k → k.head ≡ None → Within w heads (start_of l) v → Arrives w heads l v
    first : {heads : List Label} {l : Label} {v : Walk} (k : Block) (h : Head) → block_in w.body.blocks l ≡ Some k → k.head ≡ Some h → among l heads ≡ false → Within w (l ∷ heads) (start_of l) v
        → Arrives w heads l (row (goals_at_entry h) (head_commands w.body w.init l h) v)
    again : {heads : List Label} {l : Label} (k : Block) (h : Head) → block_in w.body.blocks l ≡ Some k → k.head ≡ Some h → among l heads ≡ true → Arrives w heads l (row (goals_after_turn h) [] stop)

-- ---- obligations

-- numbered from n on
abbrev pub numbered : List ℕ → ℕ → List Goal → List Obligation
numbered owner n [] = []
numbered owner n (g ∷ gs) = record {
  owner = owner;
  number = n;
  kind = g.kind;
  span = g.span;
  from = None;
  params = [];
  goal = reduced g.formula;
} ∷ numbered owner (n + 1) gs

-- the goals of the body's walk, closed at its entry
abbrev pub goals_of_walk : Setting → Walk → List Goal
goals_of_walk w v = owed (entry_commands w.body w.contract) v

-- the obligations of the body, from number m on
pub record AreObligations (w : Setting) (m : ℕ) (os : List Obligation) : Type 0 where
  pub walk : Walk
  pub arrives : Arrives w [] w.body.entry walk
  pub are_numbered : os ≡ numbered w.body.owner m (goals_of_walk w walk)
