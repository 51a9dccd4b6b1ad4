-- What a written pattern comes to at the type of its value (Rust Reference, "Patterns", with "Identifier patterns", "Binding modes", "Literal patterns",
-- "Tuple patterns", "Struct patterns", "Tuple struct patterns" and "Path patterns"; "Destructuring"): its tree, and the names that it binds, from left to
-- right. Parts come in source order, each before what it stands in; the first that is refused refuses the whole.
use Rattle.std.specs.Prelude.{ℕ, suc, ℤ, ◌==◌, Bool, true, false, ◌&&◌, ◌||◌, not, List, [], ◌∷◌, ◌++◌, length, map, replicate, Option, Some, None, Result, Ok, Err, slice_set, get_or, if◌then◌else◌}
use Rattle.text_core.specs.declared.name.Name.{Name}
use Rattle.text_core.specs.declared.refusal.SourceError.{SourceError}
use Rattle.text_core.specs.declared.span.Span.{Span}
use Rattle.source_kinds.specs.declared.kinds.IntKind.{IntKind}
use Rattle.source_kinds.specs.Range.{fits}
use Rattle.logic_term.specs.declared.declaration.AdtDecl.{AdtDecl}
use Rattle.logic_term.specs.declared.declaration.FieldDecl.{FieldDecl}
use Rattle.logic_term.specs.declared.declaration.VariantKind.{VariantKind}
use Rattle.logic_term.specs.declared.declaration.VariantKind.TheVariants.{Named, Numbered, Unit as Alone}
use Rattle.logic_term.specs.declared.kinds.Ctor.{Ctor}
use Rattle.logic_term.specs.declared.kinds.Ctor.TheVariants.{Tuple, Variant}
use Rattle.logic_term.specs.declared.kinds.Region.{Region}
use Rattle.logic_term.specs.declared.pattern.BindingKind.{BindingKind}
use Rattle.logic_term.specs.declared.pattern.BindingKind.TheVariants.{Value, Shared, Unique}
use Rattle.logic_term.specs.Pattern.{Pat, wild, bound, literal, truth, shape}
use Rattle.logic_term.specs.PatternView.{pats_of}
use Rattle.logic_term.specs.Sort.{instances, nth_ty}
use Rattle.logic_term.specs.Theory.{field_ty}
use Rattle.logic_term.specs.Ty.{Ty, Tys, int, bool, math_int, tuple, adt, shared, unique, no_tys, and_ty}
use Rattle.logic_term.specs.TyView.{tys_of}
use Rattle.source_trees.specs.declared.path.PathNode.{PathNode}
use Rattle.source_trees.specs.declared.path.PathNode.TheVariants.{Names}
use Rattle.source_trees.specs.declared.path.Segment.{Segment}
use Rattle.source_trees.specs.Pat as P
pub use Rattle.pat_check.specs.Kinds.{same_int}
use Rattle.constructors.specs.Constructors.{Constructor, constructor_named, constructor_of, same_kind}
use Rattle.pat_types.specs.declared.names.BoundName.{BoundName}
use Rattle.pat_types.specs.Answers.{◌>>=◌, unbuilt, unknown_name, mismatch, double_name}

-- the tree, with all names that are bound up to the end of the pattern
abbrev pub Typed : Type 0
Typed = Result (Pat × List BoundName) SourceError

-- ---- references

-- how names bind behind a `&mut`: nothing is unique behind a `&`
abbrev pub behind_unique : BindingKind → BindingKind
behind_unique Value = Unique
behind_unique Shared = Shared
behind_unique Unique = Unique

-- a pattern that is no name and no wildcard looks through references: how names bind behind them, and what is there
abbrev pub seen : BindingKind → Ty → BindingKind × Ty
seen m (shared r t) = seen Shared t
seen m (unique r t) = seen (behind_unique m) t
seen m t = (m, t)

-- types of program code have no regions of their own
abbrev pub no_region : Region
no_region = record { 0 = 0 }

-- the type of a name that is bound so to a value of the type
abbrev pub bound_ty : BindingKind → Ty → Ty
bound_ty Value t = t
bound_ty Shared t = shared no_region t
bound_ty Unique t = unique no_region t

-- ---- names

abbrev pub is_bound : Name → List BoundName → Bool
is_bound x [] = false
is_bound x (y ∷ ys) = if y.name.0 == x.0 then true else is_bound x ys

abbrev pub bound_name : BindingKind → Bool → Ty → Segment → BoundName
bound_name m mut t x = record { name = x.name; span = x.span; ty = bound_ty m t; mutable = mut }

-- no name stands twice in a pattern
abbrev pub binds : BindingKind → Bool → Ty → List BoundName → Segment → Typed
binds m mut t xs x = if is_bound x.name xs then Err (double_name x.span) else Ok (bound t x.name m, xs ++ bound_name m mut t x ∷ [])

-- `mut` behind a reference is not built
abbrev pub binds_mutable : BindingKind → Span → Ty → List BoundName → Segment → Typed
binds_mutable Value s t xs x = binds Value true t xs x
binds_mutable m s t xs x = Err (unbuilt s)

-- ---- literals

-- whether an integer with this type at its end, if it has one, may be of the type
abbrev pub may_be : IntKind → Option IntKind → Bool
may_be k None = true
may_be k (Some j) = same_int k j

-- an integer, at what is seen of a value of type t
abbrev pub integer_at : Span → Ty → Ty → ℤ → Option IntKind → Result Pat SourceError
integer_at s t (int k) z j = if may_be k j && fits k z then Ok (literal t (Some k) z) else Err (mismatch s)
integer_at s t math_int z None = Ok (literal t None z)
integer_at s t u z j = Err (mismatch s)

abbrev pub truth_at : Span → Ty → Ty → Bool → Result Pat SourceError
truth_at s t bool b = Ok (truth t b)
truth_at s t u b = Err (mismatch s)

-- what binds no name
abbrev pub plain : List BoundName → Pat → Typed
plain xs p = Ok (p, xs)

-- ---- constructors

-- a constructor with the types of its parts
abbrev pub Maker : Type 0
Maker = Ctor × Tys

abbrev pub tuple_maker : Span → Ty → Result Maker SourceError
tuple_maker s (tuple ts) = Ok (Tuple, ts)
tuple_maker s u = Err (mismatch s)

-- the struct or the variant makes values of this type, and its parts are written so
abbrev pub makes : Span → VariantKind → Ty → Constructor → Result Maker SourceError
makes s k (adt d rs ts) c = if same_kind k c.kind && (d.0 == c.number.0) then Ok (Variant c.number c.variant, instances ts (tys_of (map field_ty c.fields))) else Err (mismatch s)
makes s k u c = Err (mismatch s)

-- the tree of these parts
abbrev pub shaped : Ty → Ctor → List Pat × List BoundName → Typed
shaped t c a = Ok (shape t c (pats_of a.0), a.1)

-- a constructor without parts
abbrev pub alone : Span → Ty → List BoundName → Maker → Typed
alone s t xs (c, no_tys) = shaped t c ([], xs)
alone s t xs (c, and_ty u us) = Err (mismatch s)

-- ---- a path alone

-- a name alone makes a value, and so is not bound, where it is a tuple struct, a unit struct, `None` or `Some`: a struct with named fields has its name among types alone
abbrev pub makes_values : Option Constructor → Bool
makes_values None = false
makes_values (Some c) = not (same_kind Named c.kind)

-- so it stands behind no `mut` either
abbrev pub mutable_at : List AdtDecl → BindingKind → Span → Ty → List BoundName → Segment → Typed
mutable_at ds m s t xs x = if makes_values (constructor_named ds x.name) then Err (mismatch s) else binds_mutable m s t xs x

-- the name that the path binds, if it binds one
abbrev pub name_bound : List AdtDecl → PathNode → Option Segment
name_bound ds (Names x [] []) = if makes_values (constructor_named ds x.name) then None else Some x
name_bound ds p = None

abbrev pub path_at : List AdtDecl → BindingKind → Span → Ty → List BoundName → PathNode → Option Segment → Typed
path_at ds m s t xs p (Some x) = binds m false t xs x
path_at ds m s t xs p None = do
  c ← constructor_of ds s p
  k ← makes s Alone (seen m t).1 c
  alone s t xs k

-- ---- fields

-- what is written for the fields of a constructor, in declared order, and which are written: a wildcard stands for one that is not
pub record Fields : Type 0 where
  pub made : List Pat
  pub given : List Bool

abbrev pub wildcards : Tys → List Pat
wildcards no_tys = []
wildcards (and_ty t ts) = wild t ∷ wildcards ts

abbrev pub no_fields : List FieldDecl → Tys → Fields
no_fields fs ts = record { made = wildcards ts; given = replicate (length fs) false }

abbrev pub with_field : Fields → ℕ → Pat → Fields
with_field f k p = record { made = slice_set f.made k p; given = slice_set f.given k true }

-- the number of the field of the name, from k on
abbrev pub number_from : ℕ → Name → List FieldDecl → Option ℕ
number_from k x [] = None
number_from k x (f ∷ fs) = if f.name.0 == x.0 then Some k else number_from (suc k) x fs

-- no field is written twice
abbrev pub field_if : Segment → List Bool → Option ℕ → Result ℕ SourceError
field_if x given None = Err (unknown_name x.span)
field_if x given (Some k) = if get_or given k true then Err (double_name x.span) else Ok k

abbrev pub field_of : List FieldDecl → Fields → Segment → Result ℕ SourceError
field_of fs f x = field_if x f.given (number_from 0 x.name fs)

abbrev pub all_given : List Bool → Bool
all_given [] = true
all_given (b ∷ bs) = b && all_given bs

-- each field is written, or `..` stands behind those that are
abbrev pub complete : Span → (rest : Bool) → Fields × List BoundName → Result (List Pat × List BoundName) SourceError
complete s rest a = if rest || all_given a.0.given then Ok (a.0.made, a.1) else Err (mismatch s)

-- ---- patterns

abbrev mutual
  -- at a value of the type that is reached so, behind these names
  pub typed : List AdtDecl → BindingKind → List BoundName → P.Pat → Ty → Typed
  typed ds m xs (P.any s) t = Ok (wild t, xs)
  typed ds m xs (P.mutable s x) t = mutable_at ds m s t xs x
  typed ds m xs (P.integer s z k) t = integer_at s t (seen m t).1 z k >>= plain xs
  typed ds m xs (P.truth s b) t = truth_at s t (seen m t).1 b >>= plain xs
  typed ds m xs (P.path s p) t = path_at ds m s t xs p.node (name_bound ds p.node)
  typed ds m xs (P.tuple s ps) t = do
    k ← tuple_maker s (seen m t).1
    a ← typed_parts ds (seen m t).0 s [] xs ps k.1
    shaped t k.0 a
  typed ds m xs (P.parts s p ps) t = do
    c ← constructor_of ds s p.node
    k ← makes s Numbered (seen m t).1 c
    a ← typed_parts ds (seen m t).0 s [] xs ps k.1
    shaped t k.0 a
  typed ds m xs (P.fields s p ps rest) t = do
    c ← constructor_of ds s p.node
    k ← makes s Named (seen m t).1 c
    f ← typed_fields ds (seen m t).0 c.fields k.1 (no_fields c.fields k.1) xs ps
    a ← complete s rest f
    shaped t k.0 a

  -- the parts of the pattern of this span at these types, each behind those that are made; another number of parts is refused where one is missing, or one too many
  pub typed_parts : List AdtDecl → BindingKind → Span → List Pat → List BoundName → P.Pats → Tys → Result (List Pat × List BoundName) SourceError
  typed_parts ds m s made xs P.none no_tys = Ok (made, xs)
  typed_parts ds m s made xs (P.more p ps) (and_ty t ts) = do
    a ← typed ds m xs p t
    typed_parts ds m s (made ++ a.0 ∷ []) a.1 ps ts
  typed_parts ds m s made xs ps ts = Err (mismatch s)

  -- fields that are written by name, behind those that are written already
  pub typed_fields : List AdtDecl → BindingKind → List FieldDecl → Tys → Fields → List BoundName → P.FieldPats → Result (Fields × List BoundName) SourceError
  typed_fields ds m fs ts f xs P.no_fields = Ok (f, xs)
  typed_fields ds m fs ts f xs (P.with_field r x p ps) = do
    k ← field_of fs f x
    a ← typed ds m xs p (nth_ty ts k)
    typed_fields ds m fs ts (with_field f k a.0) a.1 ps

-- a pattern at the type of its value
abbrev pub pattern_typed : List AdtDecl → P.Pat → Ty → Typed
pattern_typed ds p t = typed ds Value [] p t
