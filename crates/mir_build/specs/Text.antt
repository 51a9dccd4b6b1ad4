-- The text of a body that is being lowered: lines, which stand in basic blocks (Aho, Lam, Sethi and Ullman 2006, 8.4).
use Rattle.std.specs.Prelude.{ℕ, List, [], ◌∷◌, ◌++◌, Option}
use Rattle.logic_term.specs.declared.kinds.Label.{Label}
use Rattle.logic_term.specs.Ty.{Ty}
use Rattle.mir_ir.specs.declared.statement.Statement.{Statement}
use Rattle.mir_ir.specs.declared.terminator.Terminator.{Terminator}
use Rattle.mir_ir.specs.declared.body.Block.{Block}
use Rattle.mir_ir.specs.declared.body.Head.{Head}

-- what a block begins with: its label, the heads of the loops around it (the outermost first, its own if it is one), and its
-- invariants if it is a head
pub record Title : Type 0 where
  pub label : Label
  pub nest : List Label
  pub head : Option Head

pub data Line : Type 0 where
  -- a statement of the open block
  Puts : Statement → Line
  -- a new local of the type
  Makes : ℕ → Ty → Line
  -- the open block's end, and a new block right behind it
  Turns : Terminator → Title → Line
  -- the open block's end, and no block behind it
  Leaves : Terminator → Line
  -- the loop of the head has these locals of its own: they hold nothing where a turn of it begins
  Owns : Label → List ℕ → Line

pub record Open : Type 0 where
  pub title : Title
  pub statements : List Statement

-- the block that is open; behind what leaves there is none, and what stands there is in no block
pub data Front : Type 0 where
  Stands : Open → Front
  Nowhere : Front

abbrev pub begin : Title → Open
begin b = record { title = b; statements = [] }

abbrev pub fresh : Title → Front
fresh b = Stands (begin b)

abbrev pub more_of : Open → Statement → Open
more_of o s = record { title = o.title; statements = o.statements ++ s ∷ [] }

abbrev pub longer : Front → Statement → Front
longer (Stands o) s = Stands (more_of o s)
longer Nowhere s = Nowhere

abbrev pub finished : Open → Terminator → Label × Block
finished o t = (o.title.label, record { head = o.title.head; nest = o.title.nest; statements = o.statements; end = t })

abbrev pub close : Front → Terminator → List (Label × Block)
close (Stands o) t = finished o t ∷ []
close Nowhere t = []

-- the blocks that a text closes
abbrev pub closed : Front → List Line → List (Label × Block)
closed o [] = []
closed o (Puts s ∷ xs) = closed (longer o s) xs
closed o (Makes x t ∷ xs) = closed o xs
closed o (Turns t b ∷ xs) = close o t ++ closed (fresh b) xs
closed o (Leaves t ∷ xs) = close o t ++ closed Nowhere xs
closed o (Owns l ys ∷ xs) = closed o xs

-- the blocks that a text begins
abbrev pub begun : List Line → List Title
begun [] = []
begun (Puts s ∷ xs) = begun xs
begun (Makes x t ∷ xs) = begun xs
begun (Turns t b ∷ xs) = b ∷ begun xs
begun (Leaves t ∷ xs) = begun xs
begun (Owns l ys ∷ xs) = begun xs

-- the locals that it makes, with their types
abbrev pub made : List Line → List (ℕ × Ty)
made [] = []
made (Puts s ∷ xs) = made xs
made (Makes x t ∷ xs) = (x, t) ∷ made xs
made (Turns t b ∷ xs) = made xs
made (Leaves t ∷ xs) = made xs
made (Owns l ys ∷ xs) = made xs

-- the locals that loops have of their own
abbrev pub owned : List Line → List (Label × List ℕ)
owned [] = []
owned (Puts s ∷ xs) = owned xs
owned (Makes x t ∷ xs) = owned xs
owned (Turns t b ∷ xs) = owned xs
owned (Leaves t ∷ xs) = owned xs
owned (Owns l ys ∷ xs) = (l, ys) ∷ owned xs
