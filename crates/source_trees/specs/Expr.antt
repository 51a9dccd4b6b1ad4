-- Expressions as they are written (Rust Reference, "Expressions", "Statements"): one constructor for each variant of `ExprNode`, after its span.
use Rattle.std.specs.Prelude.{ℤ, Bool, Option, List}
use Rattle.text_core.specs.declared.span.Span.{Span}
use Rattle.source_kinds.specs.declared.kinds.BinaryOp.{BinaryOp}
use Rattle.source_kinds.specs.declared.kinds.IntKind.{IntKind}
use Rattle.source_trees.specs.declared.operator.PanicMacro.{PanicMacro}
use Rattle.source_trees.specs.declared.operator.GhostMacro.{GhostMacro}
use Rattle.source_trees.specs.declared.path.Number.{Number}
use Rattle.source_trees.specs.declared.path.Segment.{Segment}
use Rattle.source_trees.specs.declared.path.Path.{Path}
use Rattle.source_trees.specs.TypeTree.{TypeTree}
use Rattle.source_trees.specs.Pat.{Pat}
use Rattle.source_trees.specs.Pterm.{Pterm}
use Rattle.source_trees.specs.declared.attribute.Attribute.{Attribute}
use Rattle.source_trees.specs.declared.param.Param.{Param}
use Rattle.source_trees.specs.declared.statement.StmtKind.{StmtKind}
use Rattle.source_kinds.specs.declared.kinds.LazyOp.{LazyOp}
use Rattle.source_trees.specs.declared.operator.UnaryOp.{UnaryOp}

mutual
  pub data Expr : Type 0 where
    integer : Span → ℤ → Option IntKind → Expr
    truth : Span → Bool → Expr
    -- `self`
    receiver : Span → Expr
    path : Span → Path → Expr
    literal : Span → Path → FieldExprs → Expr
    tuple : Span → Exprs → Expr
    -- without a last expression
    block : Span → Stmts → Expr
    block_with : Span → Stmts → Expr → Expr
    -- `if` without `else`; the pattern where its condition is a `let`
    branch : Span → Option Pat → Expr → Expr → Expr
    choice : Span → Option Pat → Expr → Expr → Expr → Expr
    matching : Span → Expr → Arms → Expr
    -- the pattern where its condition is a `let`, the condition and the body
    repeat : Span → Option Pat → Expr → Expr → Expr
    endless : Span → Expr → Expr
    -- a loop or a closure with the attributes before it
    attributed : Span → List Attribute → Expr → Expr
    -- the span of its first token, whether `move` stands there, the parameters, the type of the answer, the body
    closure : Span → Span → Bool → List Param → Option TypeTree → Expr → Expr
    bare_return : Span → Expr
    return_with : Span → Expr → Expr
    break_off : Span → Expr
    go_on : Span → Expr
    -- the span of its text
    panic : Span → PanicMacro → Option Span → Expr
    -- `proof_assert!` or `snapshot!`
    logical : Span → GhostMacro → Pterm → Expr
    assign : Span → Expr → Expr → Expr
    -- the span of the operator
    update : Span → BinaryOp → Span → Expr → Expr → Expr
    lazy : Span → LazyOp → Expr → Expr → Expr
    -- the span of the operator
    binary : Span → BinaryOp → Span → Expr → Expr → Expr
    cast : Span → Expr → TypeTree → Expr
    -- the span of the operator
    unary : Span → UnaryOp → Span → Expr → Expr
    -- whether `mut` stands there
    borrow : Span → Bool → Expr → Expr
    -- the types behind `::`
    field : Span → Expr → Segment → List TypeTree → Expr
    part : Span → Expr → Number → Expr
    -- the types behind `::`, the arguments
    method : Span → Expr → Segment → List TypeTree → Exprs → Expr
    call : Span → Expr → Exprs → Expr

  pub data Exprs : Type 0 where
    none : Exprs
    more : Expr → Exprs → Exprs

  pub data Stmts : Type 0 where
    no_stmts : Stmts
    with_stmt : Span → StmtKind → Expr → Stmts → Stmts

  pub data Arms : Type 0 where
    no_arms : Arms
    with_arm : Span → Pat → Expr → Arms → Arms

  pub data FieldExprs : Type 0 where
    no_fields : FieldExprs
    with_field : Span → Segment → Expr → FieldExprs → FieldExprs
