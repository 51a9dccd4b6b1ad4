-- Attributes, parameters, statements and expressions (Rust Reference, "Attributes", "Functions", "Statements", "Expressions"): where the first
-- form begins that is not in the set.
use Rattle.std.specs.Prelude.{ℕ, Bool, true, false, Option, Some, None}
use Rattle.text_core.specs.declared.span.Span.{Span}
use Rattle.source_trees.specs.declared.attribute.Attribute.{Attribute}
use Rattle.source_trees.specs.declared.attribute.AttributeNode.{AttributeNode}
use Rattle.source_trees.specs.declared.attribute.AttributeNode.TheVariants as A
use Rattle.source_trees.specs.declared.attribute.ClauseKind.{ClauseKind}
use Rattle.source_trees.specs.declared.attribute.ClauseKind.TheVariants.{Requires, Ensures, Invariant, Variant}
use Rattle.source_trees.specs.declared.operator.GhostMacro.{GhostMacro}
use Rattle.source_trees.specs.declared.operator.GhostMacro.TheVariants.{ProofAssert, Snapshot}
use Rattle.source_trees.specs.declared.operator.PanicMacro.{PanicMacro}
use Rattle.source_trees.specs.declared.operator.PanicMacro.TheVariants.{Panic, Unreachable}
use Rattle.source_trees.specs.declared.operator.UnaryOp.{UnaryOp}
use Rattle.source_trees.specs.declared.operator.UnaryOp.TheVariants.{Neg, Not, Deref}
use Rattle.source_trees.specs.declared.param.Param.{Param}
use Rattle.source_trees.specs.declared.param.ParamNode.{ParamNode}
use Rattle.source_trees.specs.declared.param.ParamNode.TheVariants.{Named, Receiver, Borrowed}
use Rattle.source_trees.specs.declared.statement.StmtKind.{StmtKind}
use Rattle.source_trees.specs.declared.statement.StmtKind.TheVariants.{Let, Run, Blocklike}
use Rattle.source_trees.specs.Expr as E
use Rattle.source_trees.specs.Expr.{Expr}
use Rattle.source_trees.specs.Pat.{Pat}
use Rattle.source_forms.specs.declared.form.TheConstants.{BEFORE_LOOP, BEFORE_CLOSURE, IN_LET, ELSEWHERE}
use Rattle.source_forms.specs.declared.form.Form.{Form}
use Rattle.source_forms.specs.declared.form.Form.TheVariants as form
use Rattle.source_forms.specs.declared.form.Promises.{Promises}
use Rattle.source_forms.specs.Forms.{◌or_else◌, here, behind, in_some, in_each}
use Rattle.source_forms.specs.TypeForms.{unbuilt_type, path_form, unbuilt_path}
use Rattle.source_forms.specs.PatternForms.{unbuilt_pattern}
use Rattle.source_forms.specs.TermForms.{unbuilt_term}

-- ---- attributes

abbrev pub clause_form : Promises → ClauseKind → Form
clause_form forms Requires = forms.precondition
clause_form forms Ensures = forms.postcondition
clause_form forms Invariant = forms.invariant
clause_form forms Variant = forms.variant

abbrev pub unbuilt_promise : (Form → Bool) → Promises → Span → AttributeNode → Option ℕ
unbuilt_promise F forms span (A.Clause kind t) = here F (clause_form forms kind) span or_else unbuilt_term F t
unbuilt_promise F forms span A.Logic = here F forms.logic span
unbuilt_promise F forms span A.Law = here F forms.law span
unbuilt_promise F forms span (A.Derive names) = here F forms.derive span
unbuilt_promise F forms span A.Skipped = None

unfoldable pub unbuilt_attribute : (Form → Bool) → Promises → Attribute → Option ℕ
unbuilt_attribute F forms attribute = unbuilt_promise F forms attribute.span attribute.node

-- attributes stand before a loop or a closure
unfoldable pub promises_before : Expr → Promises
promises_before (E.closure span first moves parameters ty body) = BEFORE_CLOSURE
promises_before _ = BEFORE_LOOP

-- ---- parameters

abbrev pub borrowed_form : Bool → Form
borrowed_form false = form.SharedSelfParameter
borrowed_form true = form.MutableSelfParameter

abbrev pub unbuilt_param_node : (Form → Bool) → Span → ParamNode → Option ℕ
unbuilt_param_node F span (Named mutable name ty) = here F form.NamedParameter span or_else unbuilt_type F ty
unbuilt_param_node F span (Receiver mutable) = here F form.SelfParameter span
unbuilt_param_node F span (Borrowed lifetime mutable) = here F (borrowed_form mutable) span

unfoldable pub unbuilt_param : (Form → Bool) → Param → Option ℕ
unbuilt_param F param = unbuilt_param_node F param.span param.node

-- ---- statements

-- what stands before the value
abbrev pub unbuilt_kind : (Form → Bool) → StmtKind → Option ℕ
unbuilt_kind F (Let pattern ty) = unbuilt_pattern F IN_LET pattern or_else in_some (unbuilt_type F) ty
unbuilt_kind F Run = None
unbuilt_kind F Blocklike = None

-- ---- expressions

-- a condition with a pattern is a `let`
abbrev pub unbuilt_condition : (Form → Bool) → Form → Form → Span → Option Pat → Option ℕ
unbuilt_condition F plain patterned span None = here F plain span
unbuilt_condition F plain patterned span (Some pattern) = behind F patterned span or_else unbuilt_pattern F ELSEWHERE pattern

abbrev pub panic_form : PanicMacro → Form
panic_form Panic = form.Panic
panic_form Unreachable = form.Unreachable

abbrev pub logical_form : GhostMacro → Form
logical_form ProofAssert = form.ProofAssert
logical_form Snapshot = form.Snapshot

abbrev pub unary_form : UnaryOp → Form
unary_form Neg = form.Negative
unary_form Not = form.Not
unary_form Deref = form.Deref

abbrev pub borrow_form : Bool → Form
borrow_form false = form.SharedBorrow
borrow_form true = form.MutableBorrow

-- a call by what is called
unfoldable pub call_form : Expr → Form
call_form (E.path span path) = path_form form.Call form.OtherCall path.node
call_form _ = form.OtherCall

abbrev mutual
  pub unbuilt_expr : (Form → Bool) → Expr → Option ℕ
  unbuilt_expr F (E.integer span value suffix) = here F form.Integer span
  unbuilt_expr F (E.truth span holds) = here F form.Truth span
  unbuilt_expr F (E.receiver span) = here F form.SelfValue span
  unbuilt_expr F (E.path span path) = here F (path_form form.Name form.Path path.node) span or_else unbuilt_path F path.node
  unbuilt_expr F (E.literal span path fields) = here F form.Literal span or_else unbuilt_path F path.node or_else unbuilt_field_exprs F fields
  unbuilt_expr F (E.tuple span parts) = here F form.Tuple span or_else unbuilt_exprs F parts
  unbuilt_expr F (E.block span statements) = here F form.Block span or_else unbuilt_stmts F statements
  unbuilt_expr F (E.block_with span statements e) = here F form.Block span or_else unbuilt_stmts F statements or_else unbuilt_expr F e
  unbuilt_expr F (E.branch span pattern condition body) = unbuilt_condition F form.If form.IfLet span pattern or_else unbuilt_expr F condition or_else unbuilt_expr F body
  unbuilt_expr F (E.choice span pattern condition one other) =
      unbuilt_condition F form.If form.IfLet span pattern or_else unbuilt_expr F condition or_else unbuilt_expr F one or_else unbuilt_expr F other
  unbuilt_expr F (E.matching span e arms) = here F form.Match span or_else unbuilt_expr F e or_else unbuilt_arms F arms
  unbuilt_expr F (E.repeat span pattern condition body) = unbuilt_condition F form.While form.WhileLet span pattern or_else unbuilt_expr F condition or_else unbuilt_expr F body
  unbuilt_expr F (E.endless span body) = here F form.Loop span or_else unbuilt_expr F body
  unbuilt_expr F (E.attributed span attributes e) = in_each (unbuilt_attribute F (promises_before e)) attributes or_else unbuilt_expr F e
  unbuilt_expr F (E.closure span first moves parameters ty body) =
      here F form.Closure span or_else in_each (unbuilt_param F) parameters or_else in_some (unbuilt_type F) ty or_else unbuilt_expr F body
  unbuilt_expr F (E.bare_return span) = here F form.Return span
  unbuilt_expr F (E.return_with span e) = here F form.Return span or_else unbuilt_expr F e
  unbuilt_expr F (E.break_off span) = here F form.Break span
  unbuilt_expr F (E.go_on span) = here F form.Continue span
  unbuilt_expr F (E.panic span macro text) = here F (panic_form macro) span
  unbuilt_expr F (E.logical span macro t) = here F (logical_form macro) span or_else unbuilt_term F t
  unbuilt_expr F (E.assign span d e) = here F form.Assign span or_else unbuilt_expr F d or_else unbuilt_expr F e
  unbuilt_expr F (E.update span op operator d e) = here F form.Update span or_else unbuilt_expr F d or_else unbuilt_expr F e
  unbuilt_expr F (E.lazy span op d e) = here F form.Lazy span or_else unbuilt_expr F d or_else unbuilt_expr F e
  unbuilt_expr F (E.binary span op operator d e) = here F form.Binary span or_else unbuilt_expr F d or_else unbuilt_expr F e
  unbuilt_expr F (E.cast span e ty) = here F form.Cast span or_else unbuilt_expr F e or_else unbuilt_type F ty
  unbuilt_expr F (E.unary span op operator e) = here F (unary_form op) span or_else unbuilt_expr F e
  unbuilt_expr F (E.borrow span mutable e) = here F (borrow_form mutable) span or_else unbuilt_expr F e
  unbuilt_expr F (E.field span e name types) = here F form.Field span or_else unbuilt_expr F e or_else in_each (unbuilt_type F) types
  unbuilt_expr F (E.part span e number) = here F form.Part span or_else unbuilt_expr F e
  unbuilt_expr F (E.method span e name types arguments) =
      here F form.Method span or_else unbuilt_expr F e or_else in_each (unbuilt_type F) types or_else unbuilt_exprs F arguments
  unbuilt_expr F (E.call span e arguments) = here F (call_form e) span or_else unbuilt_expr F e or_else unbuilt_exprs F arguments

  pub unbuilt_exprs : (Form → Bool) → E.Exprs → Option ℕ
  unbuilt_exprs F E.none = None
  unbuilt_exprs F (E.more e es) = unbuilt_expr F e or_else unbuilt_exprs F es

  pub unbuilt_stmts : (Form → Bool) → E.Stmts → Option ℕ
  unbuilt_stmts F E.no_stmts = None
  unbuilt_stmts F (E.with_stmt span kind e statements) = unbuilt_kind F kind or_else unbuilt_expr F e or_else unbuilt_stmts F statements

  pub unbuilt_arms : (Form → Bool) → E.Arms → Option ℕ
  unbuilt_arms F E.no_arms = None
  unbuilt_arms F (E.with_arm span pattern body arms) = unbuilt_pattern F ELSEWHERE pattern or_else unbuilt_expr F body or_else unbuilt_arms F arms

  pub unbuilt_field_exprs : (Form → Bool) → E.FieldExprs → Option ℕ
  unbuilt_field_exprs F E.no_fields = None
  unbuilt_field_exprs F (E.with_field span name e fields) = unbuilt_expr F e or_else unbuilt_field_exprs F fields
