-- Structs and variants at types for the parameters of their declared types. These types are so far those of the expected type.
use Rattle.std.specs.Prelude.{ℕ, zero, suc, ◌==◌, ◌&&◌, List, [], Option, Some, None, Result, Ok, Err, if◌then◌else◌}
use Rattle.text_core.specs.declared.refusal.SourceError.{SourceError}
use Rattle.text_core.specs.declared.span.Span.{Span}
use Rattle.logic_term.specs.declared.declaration.AdtDecl.{AdtDecl}
use Rattle.logic_term.specs.declared.declaration.FieldDecl.{FieldDecl}
use Rattle.logic_term.specs.declared.declaration.VariantKind.{VariantKind}
use Rattle.logic_term.specs.declared.kinds.AdtId.{AdtId}
use Rattle.logic_term.specs.Ty.{Ty, Tys, adt, no_tys}
use Rattle.source_trees.specs.declared.path.PathNode.{PathNode}
use Rattle.constructors.specs.Constructors.{Constructor, constructor_of, same_kind}
use Rattle.type_check.specs.Answers.{◌>>=◌, mismatch, unbuilt}
use Rattle.type_check.specs.Types.{is_built}

pub record Maker : Type 0 where
  pub number : AdtId
  pub variant : ℕ
  pub arguments : Tys
  pub fields : List FieldDecl

-- the types for the parameters: so far those of the expected type, where there are parameters
abbrev pub arguments_from : ℕ → Option Ty → Option Tys
arguments_from n (Some (adt d rs ts)) = if d.0 == n then Some ts else None
arguments_from n _ = None

abbrev pub arguments_for : ℕ → ℕ → Option Ty → Option Tys
arguments_for zero n t = Some no_tys
arguments_for (suc k) n t = arguments_from n t

abbrev pub maker_at : Constructor → Tys → Maker
maker_at c ts = record { number = c.number; variant = c.variant; arguments = ts; fields = c.fields }

abbrev pub maker_by : List AdtDecl → Span → Constructor → Option Tys → Result Maker SourceError
maker_by ds s c None = Err (unbuilt s)
maker_by ds s c (Some ts) = if (c.regions == 0) && is_built ds (adt c.number [] ts) then Ok (maker_at c ts) else Err (unbuilt s)

-- where its fields are written so; the span is that of the expression
abbrev pub maker_if : List AdtDecl → VariantKind → Option Ty → Span → Constructor → Result Maker SourceError
maker_if ds k t s c = if same_kind k c.kind then maker_by ds s c (arguments_for c.params c.number.0 t) else Err (mismatch s)

unfoldable pub maker_of : List AdtDecl → VariantKind → Option Ty → Span → PathNode → Result Maker SourceError
maker_of ds k t s p = constructor_of ds s p >>= maker_if ds k t s
