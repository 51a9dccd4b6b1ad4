-- What makes a value: a struct, or a variant of an enum, by a name or a path (Rust Reference, "Path expressions", "Call expressions", "Struct expressions",
-- "Enumerations", "Struct patterns", "The Rust Standard Library prelude").
use Rattle.std.specs.Prelude.{ℕ, suc, ◌==◌, Bool, true, false, ◌&&◌, List, [], ◌∷◌, Option, Some, None, Result, Ok, Err, slice_get, if◌then◌else◌}
use Rattle.text_core.specs.declared.name.Name.{Name}
use Rattle.text_core.specs.declared.refusal.SourceError.{SourceError}
use Rattle.text_core.specs.declared.span.Span.{Span}
use Rattle.logic_term.specs.declared.declaration.AdtDecl.{AdtDecl}
use Rattle.logic_term.specs.declared.declaration.FieldDecl.{FieldDecl}
use Rattle.logic_term.specs.declared.declaration.VariantDecl.{VariantDecl}
use Rattle.logic_term.specs.declared.declaration.VariantKind.{VariantKind}
use Rattle.logic_term.specs.declared.declaration.VariantKind.TheVariants.{Named, Numbered, Unit as Alone}
use Rattle.logic_term.specs.declared.kinds.AdtId.{AdtId}
use Rattle.rs_types.specs.Table.{number_of}
use Rattle.source_trees.specs.declared.path.PathNode.{PathNode}
use Rattle.source_trees.specs.declared.path.PathNode.TheVariants.{Names}
use Rattle.source_trees.specs.declared.path.Segment.{Segment}
use Rattle.constructors.specs.declared.finding.Constructor.{Constructor as RustConstructor}
use Rattle.constructors.specs.Answers.{unknown_name, unbuilt}

-- a struct or a variant, with how many lifetimes and types its declared type takes
pub record Constructor : Type 0 where
  pub number : AdtId
  pub variant : ℕ
  pub regions : ℕ
  pub params : ℕ
  pub kind : VariantKind
  pub fields : List FieldDecl

-- variant k of declared type n
abbrev pub variant_at : ℕ → AdtDecl → ℕ → Option VariantDecl → Option Constructor
variant_at n d k None = None
variant_at n d k (Some v) = Some (record { number = record { 0 = n }; variant = k; regions = d.regions; params = d.params; kind = v.kind; fields = v.fields })

-- ---- by a name alone

abbrev pub if_struct : ℕ → AdtDecl → Option Constructor
if_struct n d = if d.is_struct then variant_at n d 0 (slice_get d.variants 0) else None

abbrev pub struct_at : ℕ → Option AdtDecl → Option Constructor
struct_at n None = None
struct_at n (Some d) = if_struct n d

abbrev pub struct_by : List AdtDecl → Option ℕ → Option Constructor
struct_by ds None = None
struct_by ds (Some n) = struct_at n (slice_get ds n)

-- the number of the variant of the name, from k on
abbrev pub variant_from : ℕ → Name → List VariantDecl → Option ℕ
variant_from k x [] = None
variant_from k x (v ∷ vs) = if v.name.0 == x.0 then Some k else variant_from (suc k) x vs

abbrev pub variant_by : ℕ → AdtDecl → Option ℕ → Option Constructor
variant_by n d None = None
variant_by n d (Some k) = variant_at n d k (slice_get d.variants k)

abbrev pub variant_named : ℕ → AdtDecl → Name → Option Constructor
variant_named n d x = variant_by n d (variant_from 0 x d.variants)

-- the `Option` that stands before the items, in no place of the source
abbrev pub is_before_items : AdtDecl → Bool
is_before_items d = (d.name.0 == 14) && (d.span.end == 0)

abbrev pub if_before_items : Name → AdtDecl → Option Constructor
if_before_items x d = if is_before_items d then variant_named 0 d x else None

abbrev pub prelude_at : Name → Option AdtDecl → Option Constructor
prelude_at x None = None
prelude_at x (Some d) = if_before_items x d

abbrev pub or_prelude : List AdtDecl → Name → Option Constructor → Option Constructor
or_prelude ds x (Some c) = Some c
or_prelude ds x None = prelude_at x (slice_get ds 0)

-- a struct, else `None` or `Some`
unfoldable pub constructor_named : List AdtDecl → Name → Option Constructor
constructor_named ds x = or_prelude ds x (struct_by ds (number_of x.0 ds))

abbrev pub known_constructor : Span → Option Constructor → Result Constructor SourceError
known_constructor s None = Err (unknown_name s)
known_constructor s (Some c) = Ok c

-- ---- by the name of an enum and that of a variant

abbrev pub if_enum : ℕ → AdtDecl → Name → Option Constructor
if_enum n d x = if d.is_struct then None else variant_named n d x

abbrev pub in_type : Segment → Segment → ℕ → Option AdtDecl → Result Constructor SourceError
in_type x v n None = Err (unknown_name x.span)
in_type x v n (Some d) = known_constructor v.span (if_enum n d v.name)

abbrev pub in_type_at : List AdtDecl → Segment → Segment → Option ℕ → Result Constructor SourceError
in_type_at ds x v None = Err (unknown_name x.span)
in_type_at ds x v (Some n) = in_type x v n (slice_get ds n)

-- the span is that of the expression
unfoldable pub constructor_of : List AdtDecl → Span → PathNode → Result Constructor SourceError
constructor_of ds s (Names x [] []) = known_constructor x.span (constructor_named ds x.name)
constructor_of ds s (Names x (v ∷ []) []) = in_type_at ds x v (number_of x.name.0 ds)
constructor_of ds s p = Err (unbuilt s)

-- ---- how its fields are written

abbrev pub same_kind : VariantKind → VariantKind → Bool
same_kind Named Named = true
same_kind Numbered Numbered = true
same_kind Alone Alone = true
same_kind _ _ = false

-- ---- what the code answers, as the definition has it

abbrev pub constructor_by : RustConstructor → Constructor
constructor_by c = record { number = c.id; variant = c.variant; regions = c.regions; params = c.params; kind = c.kind; fields = c.fields.now }
