-- Names and types as they are written (Rust Reference, "Paths", "Types"), and what `let` and parameters declare ("Statements", "Functions").
use Rattle.std.specs.Prelude.{true, false, List, Option, Some, None, Result, Ok, Err, if◌then◌else◌}
use Rattle.text_core.specs.declared.refusal.SourceError.{SourceError}
use Rattle.text_core.specs.declared.span.Span.{Span}
use Rattle.logic_term.specs.declared.declaration.AdtDecl.{AdtDecl}
use Rattle.logic_term.specs.Ty.{Ty, unit_ty}
use Rattle.rs_types.specs.declared.written.Elision.{Elision}
use Rattle.rs_types.specs.declared.written.Elision.TheVariants.{Erased}
use Rattle.rs_types.specs.Meant.{meant}
pub use Rattle.constructors.specs.FunctionScope.{function_scope}
use Rattle.source_trees.specs.declared.param.Param.{Param}
use Rattle.source_trees.specs.declared.param.ParamNode.{ParamNode}
use Rattle.source_trees.specs.declared.param.ParamNode.TheVariants as param
use Rattle.source_trees.specs.declared.path.Segment.{Segment}
use Rattle.source_trees.specs.declared.statement.StmtKind.{StmtKind}
use Rattle.source_trees.specs.declared.statement.StmtKind.TheVariants as kind
use Rattle.source_trees.specs.Expr as E
use Rattle.source_trees.specs.Pat as P
use Rattle.source_trees.specs.PatView.{span_of as pattern_span}
use Rattle.source_trees.specs.TypeTree as W
use Rattle.source_trees.specs.TypeTreeView.{span_of as type_span}
use Rattle.type_check.specs.declared.scope.Declared.{Declared}
use Rattle.type_check.specs.declared.scope.Variable.{Variable}
use Rattle.type_check.specs.declared.statements.Step.{Step}
pub use Rattle.logic_elab.specs.Elaborated.{name_alone}
use Rattle.type_check.specs.Answers.{◌>>=◌, unbuilt}
use Rattle.type_check.specs.Types.{is_built}

-- ---- names

-- the name that the expression is, if it is one alone
unfoldable pub as_name : E.Expr → Option Segment
as_name (E.path s p) = name_alone p.node
as_name _ = None

-- ---- types

abbrev pub type_of_meaning : List AdtDecl → Span → Ty × Elision → Result Ty SourceError
type_of_meaning ds s m = if is_built ds m.0 then Ok m.0 else Err (unbuilt s)

-- what the type means, its lifetimes all being one; so far not each type is built
unfoldable pub written_type : List AdtDecl → W.TypeTree → Result Ty SourceError
written_type ds w = meant (function_scope ds) Erased w >>= type_of_meaning ds (type_span w)

-- the written type, if there is one
abbrev pub written_or_none : List AdtDecl → Option W.TypeTree → Result (Option Ty) SourceError
written_or_none ds None = Ok None
written_or_none ds (Some w) = do
  t ← written_type ds w
  Ok (Some t)

-- the type of an answer, which is unit where none is written
abbrev pub answer_ty : List AdtDecl → Option W.TypeTree → Result Ty SourceError
answer_ty ds None = Ok unit_ty
answer_ty ds (Some w) = written_type ds w

-- ---- parameters

abbrev pub param_by : List AdtDecl → Span → ParamNode → Result Variable SourceError
param_by ds s (param.Named m x w) = do
  t ← written_type ds w
  Ok (record { name = x.name; ty = t; mutable = m })
param_by ds s _ = Err (unbuilt s)

-- the variable that a parameter declares
unfoldable pub param_of : List AdtDecl → Param → Result Variable SourceError
param_of ds p = param_by ds p.span p.node

-- ---- statements

abbrev pub name_or : Span → Option Segment → Result Declared SourceError
name_or s None = Err (unbuilt s)
name_or s (Some x) = Ok (record { name = x.name; mutable = false })

-- what the pattern of a `let` declares
unfoldable pub declared_by : P.Pat → Result Declared SourceError
declared_by (P.mutable s x) = Ok (record { name = x.name; mutable = true })
declared_by (P.path s p) = name_or s (name_alone p.node)
declared_by p = Err (unbuilt (pattern_span p))

-- what a statement declares, and the type that is expected of its value
unfoldable pub step_of : List AdtDecl → StmtKind → Result Step SourceError
step_of ds (kind.Let p w) = do
  x ← declared_by p
  t ← written_or_none ds w
  Ok (record { declares = Some x; expected = t })
step_of ds kind.Run = Ok (record { declares = None; expected = None })
step_of ds kind.Blocklike = Ok (record { declares = None; expected = Some unit_ty })
