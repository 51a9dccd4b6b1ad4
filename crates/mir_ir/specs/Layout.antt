-- Blocks in an order in which each edge leads on, or back to the head of a loop around it (reducible flow graphs: Aho, Lam, Sethi
-- and Ullman 2006, 9.6). A block's nest has the heads of the loops around it, the outermost first, and its own label if it is a head.
use Rattle.std.specs.Prelude.{◌≡◌, ℕ, suc, ◌<◌, ◌==◌, cond, Bool, true, List, [], ◌∷◌, ◌++◌, Option, Some, None}
use Rattle.std.specs.List.{list_any}
use Rattle.logic_term.specs.declared.kinds.Label.{Label}
use Rattle.mir_ir.specs.declared.terminator.TerminatorKind.{TerminatorKind}
use Rattle.mir_ir.specs.declared.terminator.TerminatorKind.TheVariants.{Goto, If, Switch, Call, Return, Panic}
use Rattle.mir_ir.specs.declared.body.Block.{Block}
use Rattle.mir_ir.specs.declared.body.Head.{Head}
use Rattle.mir_ir.specs.declared.body.Body.{Body}
use Rattle.mir_ir.specs.Body.{block_in}

-- the label is one of these
abbrev pub among : Label → List Label → Bool
among l ls = list_any (λ m. m.0 == l.0) ls

-- the labels to which a block's end leads
abbrev pub targets : TerminatorKind → List Label
targets (Goto l) = l ∷ []
targets (If o l m) = l ∷ m ∷ []
targets (Switch p ls) = ls
targets (Call p callee types args l) = l ∷ []
targets Return = []
targets (Panic cause) = []

-- the place of the first block of the label
abbrev pub place_of : List (Label × Block) → Label → ℕ
place_of [] l = 0
place_of (b ∷ bs) l = cond (b.0.0 == l.0) 0 (suc (place_of bs l))

-- the heads around the block, without its own label
abbrev pub around_of : Option Head → List Label → Label → List Label → Type 0
around_of None nest l outer = nest ≡ outer
around_of (Some h) nest l outer = nest ≡ outer ++ l ∷ []

abbrev pub around : Label → Block → List Label → Type 0
around l k outer = around_of k.head k.nest l outer

-- a loop is entered at its head alone: what is around the target is around the block from which the edge comes
pub record Enters (nest : List Label) (m : Label) (to : Block) : Type 0 where
  pub outer : List Label
  pub inner : List Label
  pub is_around : around m to outer
  pub within : nest ≡ outer ++ inner

pub data Leads (b : Body) (l : Label) (k : Block) (m : Label) : Type 0 where
  on : (to : Block) → block_in b.blocks m ≡ Some to → place_of b.blocks l < place_of b.blocks m → Enters k.nest m to → Leads b l k m
  back : (to : Block) (h : Head) → block_in b.blocks m ≡ Some to → to.head ≡ Some h → among m k.nest ≡ true → Leads b l k m

pub record IsLaidOut (b : Body) : Type 0 where
  pub entry : Block
  pub is_entry : block_in b.blocks b.entry ≡ Some entry
  pub at_entry : around b.entry entry []
  pub edges : (l m : Label) (k : Block) → block_in b.blocks l ≡ Some k → among m (targets k.end.kind) ≡ true → Leads b l k m
