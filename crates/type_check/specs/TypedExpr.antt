-- Expressions with types and resolved names: one constructor for each variant of `TypedNode`, after its type and its span.
use Rattle.std.specs.Prelude.{ℕ, ℤ, Bool, List}
use Rattle.text_core.specs.declared.refusal.Cause.{Cause}
use Rattle.text_core.specs.declared.span.Span.{Span}
use Rattle.source_kinds.specs.declared.kinds.BinaryOp.{BinaryOp}
use Rattle.source_kinds.specs.declared.kinds.IntKind.{IntKind}
use Rattle.logic_term.specs.declared.kinds.Ctor.{Ctor}
use Rattle.logic_term.specs.Pattern.{Pat}
use Rattle.logic_term.specs.Ty.{Ty}
use Rattle.source_kinds.specs.declared.kinds.LazyOp.{LazyOp}
use Rattle.pat_types.specs.declared.names.BoundName.{BoundName}
use Rattle.type_check.specs.declared.assertion.Assertion.{Assertion}

mutual
  pub data TypedExpr : Type 0 where
    integer : Ty → Span → ℤ → IntKind → TypedExpr
    truth : Ty → Span → Bool → TypedExpr
    -- a variable is how many are in scope around its declaration
    variable : Ty → Span → ℕ → TypedExpr
    negative : Ty → Span → TypedExpr → TypedExpr
    denied : Ty → Span → TypedExpr → TypedExpr
    -- to its type
    cast : Ty → Span → TypedExpr → TypedExpr
    binary : Ty → Span → BinaryOp → TypedExpr → TypedExpr → TypedExpr
    lazy : Ty → Span → LazyOp → TypedExpr → TypedExpr → TypedExpr
    -- what is assigned to, and the value
    assign : Ty → Span → TypedExpr → TypedExpr → TypedExpr
    update : Ty → Span → BinaryOp → TypedExpr → TypedExpr → TypedExpr
    -- a function of the program, by its place
    call : Ty → Span → ℕ → TypedExprs → TypedExpr
    -- a value that is made of these parts
    make : Ty → Span → Ctor → TypedExprs → TypedExpr
    -- part n of a tuple, from 0
    part : Ty → Span → TypedExpr → ℕ → TypedExpr
    block : Ty → Span → TypedStmts → TypedExpr
    -- `if` without `else`
    branch : Ty → Span → TypedExpr → TypedExpr → TypedExpr
    choice : Ty → Span → TypedExpr → TypedExpr → TypedExpr → TypedExpr
    -- a value, and of its arms the first whose pattern matches it
    matched : Ty → Span → TypedExpr → TypedArms → TypedExpr
    repeat : Ty → Span → List Assertion → TypedExpr → TypedExpr → TypedExpr
    -- what always panics
    panics : Ty → Span → Cause → TypedExpr
    -- `return` with the answer
    returned : Ty → Span → TypedExpr → TypedExpr
    -- `loop` with its invariants, which no `break` leaves, and which one leaves
    endless : Ty → Span → List Assertion → TypedExpr → TypedExpr
    until_break : Ty → Span → List Assertion → TypedExpr → TypedExpr
    -- `break`, to behind the loop around it
    break_off : Ty → Span → TypedExpr
    -- `continue`, to the next turn of the loop around it
    go_on : Ty → Span → TypedExpr

  pub data TypedStmts : Type 0 where
    done : TypedStmts
    last : TypedExpr → TypedStmts
    -- the value of the last statement, behind which the run does not go on
    leaving : TypedExpr → TypedStmts
    -- declares the next variable
    bind : TypedExpr → TypedStmts → TypedStmts
    run : TypedExpr → TypedStmts → TypedStmts

  pub data TypedExprs : Type 0 where
    none : TypedExprs
    more : TypedExpr → TypedExprs → TypedExprs

  pub data TypedArms : Type 0 where
    no_arms : TypedArms
    -- the names that the pattern binds are the next variables, in this order
    with_arm : Pat → List BoundName → TypedExpr → TypedArms → TypedArms
