-- What a source that declares these types comes to, whose declarations are in order: passes that each go over all items before the next begins. The functions that items
-- declare, then the bodies and contracts of functions, then the formulas of clauses and invariants (Rust Reference, "Items", "Functions",
-- "Attributes"; Creusot, "Contracts").
use Rattle.std.specs.Prelude.{◌≡◌, false, List, [], ◌∷◌, map, Option, Some, None, Result, Ok, Err}
use Rattle.text_core.specs.declared.refusal.SourceError.{SourceError}
use Rattle.text_core.specs.declared.span.Span.{Span}
use Rattle.logic_term.specs.declared.declaration.AdtDecl.{AdtDecl}
use Rattle.logic_term.specs.Ty.{Ty}
use Rattle.source_trees.specs.declared.attribute.Attribute.{Attribute}
use Rattle.source_trees.specs.declared.attribute.AttributeNode.{AttributeNode}
use Rattle.source_trees.specs.declared.attribute.AttributeNode.TheVariants as A
use Rattle.source_trees.specs.declared.attribute.ClauseKind.TheVariants as clause
use Rattle.source_trees.specs.declared.item.Body.{Body}
use Rattle.source_trees.specs.declared.item.Body.TheVariants as body
use Rattle.source_trees.specs.declared.item.Function.{Function}
use Rattle.source_trees.specs.declared.item.Item.{Item}
use Rattle.source_trees.specs.declared.item.ItemNode.{ItemNode}
use Rattle.source_trees.specs.declared.item.ItemNode.TheVariants as item
use Rattle.source_trees.specs.declared.param.Param.{Param}
use Rattle.source_trees.specs.declared.param.ParamNode.{ParamNode}
use Rattle.source_trees.specs.declared.param.ParamNode.TheVariants as param
use Rattle.source_trees.specs.Pterm.{Pterm}
use Rattle.source_trees.specs.TypeTree.{TypeTree}
use Rattle.source_trees.specs.TypeTreeView.{span_of as type_span}
use Rattle.type_check.specs.declared.heading.Heading.{Heading}
use Rattle.type_check.specs.declared.program.ClauseKind.{ClauseKind}
use Rattle.type_check.specs.declared.program.ClauseKind.TheVariants.{Requires, Ensures}
use Rattle.type_check.specs.declared.program.Signature.{Signature}
use Rattle.type_check.specs.declared.program.TypedClause.{TypedClause}
use Rattle.type_check.specs.declared.program.TypedFunction.{TypedFunction}
use Rattle.type_check.specs.declared.program.TypedProgram.{TypedProgram}
use Rattle.type_check.specs.declared.scope.Variable.{Variable}
use Rattle.type_check.specs.Answers.{◌>>=◌, unbuilt, absent, each, gather}
use Rattle.type_check.specs.FirstBad.{first_bad}
use Rattle.type_check.specs.Setting.{Setting}
use Rattle.type_check.specs.Terms.{assertion}
use Rattle.type_check.specs.Typing.{Typed, typed}
use Rattle.type_check.specs.Written.{answer_ty, param_of}

-- ---- what items declare

abbrev pub type_of : Variable → Ty
type_of v = v.ty

-- of parameters that are these variables
abbrev pub signature_by : List Variable → Ty → Signature
signature_by Γ t = record { params = map type_of Γ; answer = t }

-- without type parameters and without conditions
unfoldable pub heading_of : List AdtDecl → Function → Result Heading SourceError
heading_of ds f = do
  none ← absent f.generics_span
  Γ ← each (param_of ds) f.params
  t ← answer_ty ds f.answer
  none ← absent f.conditions_span
  Ok (record { name = f.name.name; signature = signature_by Γ t })

abbrev pub skipped_by : Span → AttributeNode → Result (Unit {0}) SourceError → Result (Unit {0}) SourceError
skipped_by s A.Skipped rest = rest
skipped_by s _ rest = Err (unbuilt s)

-- attributes that say nothing of what a program does
abbrev pub skipped : List Attribute → Result (Unit {0}) SourceError
skipped [] = Ok tt
skipped (a ∷ as') = skipped_by a.span a.node (skipped as')

-- a `use` line declares nothing, and a declared type no function; traits and impls are not built
abbrev pub declares_by : List AdtDecl → Span → List Attribute → ItemNode → Result (Option Heading) SourceError
declares_by ds own as' (item.Function f) = do
  h ← heading_of ds f
  Ok (Some h)
declares_by ds own as' (item.Struct s) = Ok None
declares_by ds own as' (item.Enum e) = Ok None
declares_by ds own as' item.Use = skipped as' >>= λ nothing. Ok None
declares_by ds own as' item.ExternCrate = skipped as' >>= λ nothing. Ok None
declares_by ds own as' _ = skipped as' >>= λ nothing. Err (unbuilt own)

unfoldable pub declares : List AdtDecl → Item → Result (Option Heading) SourceError
declares ds i = declares_by ds i.own i.attributes i.node

-- ---- contracts

-- an `ensures` alone hears the answer
abbrev pub heard : ClauseKind → Option Ty → Option Ty
heard Requires t = None
heard Ensures t = t

abbrev pub clause_of_kind : List AdtDecl → ClauseKind → Option Ty → List Variable → Pterm → TypedClause
clause_of_kind ds k t Γ p = record { kind = k; formula = assertion ds (heard k t) Γ p }

-- before a function `requires` and `ensures` are built, and no other clause; t is the type of the answer
abbrev pub clause_by : List AdtDecl → Option Ty → List Variable → Span → AttributeNode → Result (Option TypedClause) SourceError
clause_by ds t Γ s (A.Clause clause.Requires p) = Ok (Some (clause_of_kind ds Requires t Γ p))
clause_by ds t Γ s (A.Clause clause.Ensures p) = Ok (Some (clause_of_kind ds Ensures t Γ p))
clause_by ds t Γ s A.Skipped = Ok None
clause_by ds t Γ s _ = Err (unbuilt s)

unfoldable pub clause_of : List AdtDecl → Option Ty → List Variable → Attribute → Result (Option TypedClause) SourceError
clause_of ds t Γ a = clause_by ds t Γ a.span a.node

-- ---- functions

-- where the type of a parameter is written
abbrev pub param_type_at : Span → ParamNode → Span
param_type_at s (param.Named m x w) = type_span w
param_type_at s _ = s

abbrev pub param_at : Param → Span
param_at p = param_type_at p.span p.node

-- where the type of the answer is written: at the name where none is
abbrev pub answer_at : Span → Option TypeTree → Span
answer_at s None = s
answer_at s (Some w) = type_span w

abbrev pub types_at : Function → List Span
types_at f = answer_at f.name.span f.answer ∷ map param_at f.params

-- a body is a block; own: where the function stands
abbrev pub typed_body : Setting → List Variable → Option Ty → Span → Body → Typed
typed_body σ Γ t own (body.Block e) = typed σ Γ e t
typed_body σ Γ t own _ = Err (unbuilt own)

unfoldable pub typed_function : List AdtDecl → List Heading → Span → List Attribute → Function → Result TypedFunction SourceError
typed_function ds σ own as' f = do
  Γ ← each (param_of ds) f.params
  t ← answer_ty ds f.answer
  cs ← gather (clause_of ds (Some t) Γ) as'
  e ← typed_body (record { types = ds; headings = σ; answer = t; in_loop = false }) Γ (Some t) own f.body
  Ok (record { name = f.name.name; span = f.name.span; signature = signature_by Γ t; types_at = types_at f; clauses = cs; body = e })

abbrev pub typed_by : List AdtDecl → List Heading → Span → List Attribute → ItemNode → Result (Option TypedFunction) SourceError
typed_by ds σ own as' (item.Function f) = do
  g ← typed_function ds σ own as' f
  Ok (Some g)
typed_by ds σ own as' _ = Ok None

abbrev pub typed_item : List AdtDecl → List Heading → Item → Result (Option TypedFunction) SourceError
typed_item ds σ i = typed_by ds σ i.own i.attributes i.node

-- ---- the whole

abbrev pub unless : {A : Type 0} → Option SourceError → Result A SourceError → Result A SourceError
unless (Some e) m = Err e
unless None m = m

abbrev pub program_of : List TypedFunction → Result TypedProgram SourceError
program_of gs = unless (first_bad gs) (Ok (record { functions = gs }))

-- the functions of items that declare these
abbrev pub typed_items : List AdtDecl → List Item → List Heading → Result (List TypedFunction) SourceError
typed_items ds is σ = gather (typed_item ds σ) is

unfoldable pub checked : List AdtDecl → List Item → Result TypedProgram SourceError
checked ds is = gather (declares ds) is >>= typed_items ds is >>= program_of

-- no clause and no invariant is refused
abbrev pub AllGood : TypedProgram → Type 0
AllGood p = first_bad p.functions ≡ None
