-- The sort that a written type is in terms (Pearlite, Creusot; Rust Reference, "Types", "Paths in types"): of machine integers, `bool` and `Int`, of tuples,
-- and of declared types without lifetimes. Its name is looked for first, then its parts from the left, and then the type itself: so the first part that is
-- refused refuses the whole. Boxes, references and `Self` are not built.
use Rattle.std.specs.Prelude.{◌==◌, ℕ, List, [], ◌∷◌, length, Option, Some, None, Result, Ok, Err, slice_get, if◌then◌else◌}
use Rattle.text_core.specs.declared.name.Name.{Name}
use Rattle.text_core.specs.declared.refusal.SourceError.{SourceError}
use Rattle.text_core.specs.declared.span.Span.{Span}
use Rattle.logic_term.specs.declared.declaration.AdtDecl.{AdtDecl}
use Rattle.logic_term.specs.declared.kinds.AdtId.{AdtId}
use Rattle.logic_term.specs.Ty.{Ty, Tys, int, bool, math_int, tuple, adt, no_tys, and_ty}
use Rattle.logic_term.specs.TyView.{tys_of}
use Rattle.rs_types.specs.declared.written.TypeName.{TypeName}
use Rattle.rs_types.specs.declared.written.TypeName.TheVariants as name
use Rattle.rs_types.specs.Meant.{name_or, words}
use Rattle.rs_types.specs.Table.{number_of}
use Rattle.source_trees.specs.TypeTree as W
use Rattle.source_trees.specs.TypeTreeView.{span_of as type_span}
use Rattle.logic_elab.specs.Answers.{◌>>=◌, mismatch, unbuilt, wanted}

-- ---- names

abbrev pub or_word : Name → Option ℕ → Option TypeName
or_word x (Some n) = Some (name.Declared (record { 0 = n }))
or_word x None = slice_get words x.0

-- what the name stands for: one of the types that are declared, or a word
unfoldable pub sort_named : List AdtDecl → Name → Option TypeName
sort_named ds x = or_word x (number_of x.0 ds)

-- ---- a name at arguments

-- a type that takes no arguments
abbrev pub alone : Span → Ty → List Ty → Result Ty SourceError
alone s t ts = wanted (length ts == 0) s t

-- a declared type; those with lifetimes are not built
abbrev pub declared_sort : Span → AdtId → Option AdtDecl → List Ty → Result Ty SourceError
declared_sort s i None ts = Err (mismatch s)
declared_sort s i (Some d) ts = if length ts == d.params then (if d.regions == 0 then Ok (adt i [] (tys_of ts)) else Err (unbuilt s)) else Err (mismatch s)

-- E07 at the type where there are not as many arguments as it takes
unfoldable pub sort_at : List AdtDecl → Span → TypeName → List Ty → Result Ty SourceError
sort_at ds s (name.Int k) ts = alone s (int k) ts
sort_at ds s name.Bool ts = alone s bool ts
sort_at ds s name.MathInt ts = alone s math_int ts
sort_at ds s (name.Declared i) ts = declared_sort s i (slice_get ds i.0) ts
sort_at ds s _ ts = Err (unbuilt s)

-- ---- types

abbrev mutual
  pub written_sort : List AdtDecl → W.TypeTree → Result Ty SourceError
  written_sort ds (W.named s x ws) = do
    w ← name_or x.span (sort_named ds x.name)
    ts ← argument_sorts ds s ws
    sort_at ds s w ts
  written_sort ds (W.tuple s ws) = do
    ts ← written_sorts ds ws
    Ok (tuple ts)
  written_sort ds w = Err (unbuilt (type_span w))

  pub written_sorts : List AdtDecl → W.Types → Result Tys SourceError
  written_sorts ds W.none = Ok no_tys
  written_sorts ds (W.more w ws) = do
    t ← written_sort ds w
    ts ← written_sorts ds ws
    Ok (and_ty t ts)

  -- the span is that of the type
  pub argument_sorts : List AdtDecl → Span → W.TypeArguments → Result (List Ty) SourceError
  argument_sorts ds s W.no_arguments = Ok []
  argument_sorts ds s (W.with_lifetime l ws) = Err (unbuilt s)
  argument_sorts ds s (W.with_type w ws) = do
    t ← written_sort ds w
    ts ← argument_sorts ds s ws
    Ok (t ∷ ts)
