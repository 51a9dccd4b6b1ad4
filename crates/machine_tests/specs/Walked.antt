-- The bodies that tests use, with their statements left open.
use Rattle.std.specs.Prelude.{◌≡◌, ℕ, List, [], ◌∷◌, Option, Some, None, codes, slice_get}
use Rattle.text_core.specs.declared.name.Name.{Name}
use Rattle.text_core.specs.declared.refusal.Cause.{Cause}
use Rattle.text_core.specs.declared.span.Span.{Span}
use Rattle.logic_term.specs.declared.kinds.Label.{Label}
use Rattle.logic_term.specs.declared.obligation.Contract.{Contract}
use Rattle.logic_term.specs.Ty.{Ty}
use Rattle.mir_ir.specs.declared.place.Operand.{Operand}
use Rattle.mir_ir.specs.declared.place.Place.{Place}
use Rattle.mir_ir.specs.declared.statement.Statement.{Statement}
use Rattle.mir_ir.specs.declared.terminator.FnId.TheVariants.{Body as OfBody}
use Rattle.mir_ir.specs.declared.terminator.Callee.TheVariants.{Function}
use Rattle.mir_ir.specs.declared.terminator.TerminatorKind.{TerminatorKind}
use Rattle.mir_ir.specs.declared.terminator.TerminatorKind.TheVariants.{Goto, If, Call, Return, Panic, Switch}
use Rattle.mir_ir.specs.declared.body.Block.{Block}
use Rattle.mir_ir.specs.declared.body.Body.{Body}
use Rattle.mir_ir.specs.declared.body.Head.{Head}
use Rattle.prophecy_logic.specs.Graph.{Setting}
use Rattle.prophecy_logic.specs.Walkable.{CanWalk}

abbrev pub label : ℕ → Label
label n = record { 0 = n }

-- the span of each block's end
abbrev pub end_span : Span
end_span = record { start = 90; end = 91 }

abbrev pub block_of : Option Head → List Label → List Statement → TerminatorKind → Block
block_of head nest sts end = record { head = head; nest = nest; statements = sts; end = record { span = end_span; kind = end } }

-- the name of local n is 100 + n
abbrev pub sample_names : List Name
sample_names = record { 0 = 100 } ∷ record { 0 = 101 } ∷ record { 0 = 102 } ∷ []

abbrev pub body_of : List Ty → List (Label × Block) → Body
body_of tys blocks =
    record { id = 0; owner = codes "f"; types = []; params = 1; locals = tys; names = sample_names; outlives = []; calls = []; entry = label 0; blocks = blocks; span = end_span; types_at = [] }

abbrev pub whole : ℕ → Place
whole x = record { local = x; path = [] }

-- one block, which returns
abbrev pub straight : List Ty → List Statement → Body
straight tys sts = body_of tys ((label 0, block_of None [] sts Return) ∷ [])

-- one block, which panics
abbrev pub panicking : List Ty → Cause → Body
panicking tys cause = body_of tys ((label 0, block_of None [] [] (Panic cause)) ∷ [])

-- these statements where the operand is true, those where it is false
abbrev pub branching : List Ty → Operand → List Statement → List Statement → Body
branching tys o first second =
    body_of tys (
    (label 0, block_of None [] [] (If o (label 1) (label 2)))
    ∷ (label 1, block_of None [] first Return)
    ∷ (label 2, block_of None [] second Return)
    ∷ []
    )

-- these statements where the parameter is of the first of two variants, those where it is of the second
abbrev pub switching : List Ty → List Statement → List Statement → Body
switching tys first second =
    body_of tys (
    (label 0, block_of None [] [] (Switch (whole 1) (label 1 ∷ label 2 ∷ [])))
    ∷ (label 1, block_of None [] first Return)
    ∷ (label 2, block_of None [] second Return)
    ∷ []
    )

-- the statements again and again while the operand is true
abbrev pub looping : List Ty → Head → Operand → List Statement → Body
looping tys h o sts =
    body_of tys (
    (label 0, block_of None [] [] (Goto (label 1)))
    ∷ (label 1, block_of (Some h) (label 1 ∷ []) [] (If o (label 2) (label 3)))
    ∷ (label 2, block_of None (label 1 ∷ []) sts (Goto (label 1)))
    ∷ (label 3, block_of None [] [] Return)
    ∷ []
    )

-- what function 0 answers of these operands
abbrev pub calling : Ty → List Ty → List Operand → Body
calling ty tys args =
    body_of (ty ∷ tys) (
    (label 0, block_of None [] [] (Call (whole 0) (Function (OfBody 0)) [] args (label 1)))
    ∷ (label 1, block_of None [] [] Return)
    ∷ []
    )

-- three times both sides of a branch lead to the next block: eight paths
abbrev pub forking : List Ty → Operand → Operand → Operand → Body
forking tys first second third =
    body_of tys (
    (label 0, block_of None [] [] (If first (label 1) (label 1)))
    ∷ (label 1, block_of None [] [] (If second (label 2) (label 2)))
    ∷ (label 2, block_of None [] [] (If third (label 3) (label 3)))
    ∷ (label 3, block_of None [] [] Return)
    ∷ []
    )

pub record IsForking (b : Body) : Type 0 where
  pub locals : List Ty
  pub first : Operand
  pub second : Operand
  pub third : Operand
  pub is : b ≡ forking locals first second third

-- the body can be walked wherever there is a contract of function 0
abbrev pub CanBeWalked : Body → Type 0
CanBeWalked b = (w : Setting) (c : Contract) → w.body ≡ b → slice_get w.contracts.of 0 ≡ Some c → CanWalk w
