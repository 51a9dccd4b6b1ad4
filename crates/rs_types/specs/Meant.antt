-- What a written type means where it stands (Rust Reference, "Types", "Paths in types", "Lifetime elision", "Name resolution"). Its name is
-- looked for among the type parameters, then among the declared types, then among the words of types; its parts are taken from the left, and
-- then the type itself: so the first part that is refused refuses the whole.
use Rattle.std.specs.Prelude.{◌≡◌, ℕ, zero, suc, ◌+◌, ◌==◌, cond, Bool, true, false, List, [], ◌∷◌, length, Option, Some, None, Result, Ok, Err, slice_get}
use Rattle.text_core.specs.declared.name.Name.{Name}
use Rattle.text_core.specs.declared.span.Span.{Span}
use Rattle.text_core.specs.declared.refusal.SourceError.{SourceError}
use Rattle.text_core.specs.declared.refusal.Code.TheVariants.{E05, E07, E08}
use Rattle.text_core.specs.declared.fault.PassError.{PassError}
use Rattle.text_core.specs.declared.fault.PassError.TheVariants as fault
use Rattle.source_kinds.specs.declared.kinds.IntKind.TheVariants.{I8, I16, I32, I64, Isize, U8, U16, U32, U64, Usize}
use Rattle.source_trees.specs.declared.path.Segment.{Segment}
use Rattle.source_trees.specs.TypeTree.{TypeTree, named, tuple, reference, self_type, self_view, Types, none, more, TypeArguments, no_arguments, with_lifetime, with_type}
use Rattle.logic_term.specs.declared.declaration.AdtDecl.{AdtDecl}
use Rattle.logic_term.specs.declared.kinds.AdtId.{AdtId}
use Rattle.logic_term.specs.declared.kinds.Region.{Region}
use Rattle.logic_term.specs.Ty.{Ty, int, bool, math_int, adt, boxed, shared, unique, param}
use Rattle.logic_term.specs.Ty as types
use Rattle.logic_term.specs.TyView.{tys_of}
use Rattle.rs_types.specs.Table.{number_of}
use Rattle.rs_types.specs.declared.written.Elision.{Elision}
use Rattle.rs_types.specs.declared.written.Elision.TheVariants.{Refused, Numbered, Erased, Given}
use Rattle.rs_types.specs.declared.written.TypeName.{TypeName}
use Rattle.rs_types.specs.declared.written.TypeName.TheVariants as name
use Rattle.rs_types.specs.declared.written.ArgumentList.{ArgumentList}
use Rattle.rs_types.specs.declared.written.TypeScope.{TypeScope}

-- ---- what is in scope

pub record Scope : Type 0 where
  -- the declared types, by number
  pub declared : List AdtDecl
  -- the lifetimes of the item, by number
  pub lifetimes : List Name
  -- the type parameters of the item, by number
  pub parameters : List Name
  -- what `Self` is
  pub self_ty : Option Ty
  -- whether `Int` is a type here: it is one in terms alone
  pub has_int : Bool

abbrev pub scope_of : TypeScope → Scope
scope_of s = record { declared = s.declared.now; lifetimes = s.lifetimes.now; parameters = s.parameters.now; self_ty = s.self_ty.now; has_int = s.has_int }

-- ---- refusals

abbrev pub unknown_name : Span → SourceError
unknown_name s = record { code = E05; span = s; other = None }

abbrev pub mismatch : Span → SourceError
mismatch s = record { code = E07; span = s; other = None }

abbrev pub annotation_needed : Span → SourceError
annotation_needed s = record { code = E08; span = s; other = None }

-- ---- one part after another

infixl 10 ◌>>=◌
abbrev pub ◌>>=◌ : {A B : Type 0} → Result A SourceError → (A → Result B SourceError) → Result B SourceError
Ok a >>= k = k a
Err e >>= k = Err e

-- ---- names of types

-- the place of the name in the list, from the number on
abbrev pub place_from : ℕ → ℕ → List Name → Option ℕ
place_from n x [] = None
place_from n x (y ∷ ys) = cond (y.0 == x) (Some n) (place_from (n + 1) x ys)

abbrev pub place_among : Name → List Name → Option ℕ
place_among x ys = place_from 0 x.0 ys

-- the words of types, in the order of their names, which are the first of each table of names
abbrev pub words : List TypeName
words = name.Int I8 ∷ name.Int I16 ∷ name.Int I32 ∷ name.Int I64 ∷ name.Int Isize ∷ name.Int U8 ∷ name.Int U16 ∷ name.Int U32 ∷ name.Int U64 ∷ name.Int Usize ∷ name.Bool ∷ name.MathInt ∷ name.Box ∷ []

-- `Int` is a word of terms
abbrev pub if_known : Bool → Option TypeName → Option TypeName
if_known true w = w
if_known false (Some name.MathInt) = None
if_known false w = w

abbrev pub or_word : Scope → Name → Option ℕ → Option TypeName
or_word Γ x (Some n) = Some (name.Declared (record { 0 = n }))
or_word Γ x None = if_known Γ.has_int (slice_get words x.0)

abbrev pub or_declared : Scope → Name → Option ℕ → Option TypeName
or_declared Γ x (Some n) = Some (name.Parameter n)
or_declared Γ x None = or_word Γ x (number_of x.0 Γ.declared)

-- what the name stands for
unfoldable pub type_named : Scope → Name → Option TypeName
type_named Γ x = or_declared Γ x (place_among x Γ.parameters)

abbrev pub name_or : Span → Option TypeName → Result TypeName SourceError
name_or s (Some w) = Ok w
name_or s None = Err (unknown_name s)

-- ---- lifetimes

abbrev pub region_or : Span → Option ℕ → Result Region SourceError
region_or s (Some n) = Ok (record { 0 = n })
region_or s None = Err (unknown_name s)

-- a lifetime that is written
unfoldable pub lifetime_named : Scope → Segment → Result Region SourceError
lifetime_named Γ l = region_or l.span (place_among l.name Γ.lifetimes)

-- the lifetime that a type leaves out: none may be, or each is one of its own, or all are region 0, or all are this one
abbrev pub elided : Elision → Span → Result (Region × Elision) SourceError
elided Refused s = Err (annotation_needed s)
elided (Numbered n) s = Ok (record { 0 = n }, Numbered (n + 1))
elided Erased s = Ok (record { 0 = 0 }, Erased)
elided (Given r) s = Ok (r, Given r)

-- so many that are left out
abbrev pub all_elided : ℕ → Elision → Span → Result (List Region × Elision) SourceError
all_elided zero m s = Ok ([], m)
all_elided (suc n) m s = do
  r ← elided m s
  rs ← all_elided n r.1 s
  Ok (r.0 ∷ rs.0, rs.1)

abbrev pub lifetime_or : Scope → Elision → Span → Option Segment → Result (Region × Elision) SourceError
lifetime_or Γ m s None = elided m s
lifetime_or Γ m s (Some l) = do
  r ← lifetime_named Γ l
  Ok (r, m)

-- ---- types

-- a type that takes no arguments
abbrev pub alone : Span → Ty → ArgumentList → Result Ty SourceError
alone s t given = cond (length given.regions == 0) (cond (length given.types == 0) (Ok t) (Err (mismatch s))) (Err (mismatch s))

abbrev pub in_box : Span → List Ty → Result Ty SourceError
in_box s (t ∷ []) = Ok (boxed t)
in_box s _ = Err (mismatch s)

-- the lifetimes of a declared type may all be left out
abbrev pub regions_for : AdtDecl → Elision → Span → List Region → Result (List Region × Elision) SourceError
regions_for d m s [] = all_elided d.regions m s
regions_for d m s rs = cond (length rs == d.regions) (Ok (rs, m)) (Err (mismatch s))

abbrev pub declared_at : AdtId → Option AdtDecl → Elision → Span → ArgumentList → Result (Ty × Elision) SourceError
declared_at i None m s given = Err (mismatch s)
declared_at i (Some d) m s given = cond (length given.types == d.params) (regions_for d m s given.regions >>= λ rs. Ok (adt i rs.0 (tys_of given.types), rs.1)) (Err (mismatch s))

abbrev pub unchanged : Elision → Result Ty SourceError → Result (Ty × Elision) SourceError
unchanged m t = t >>= λ u. Ok (u, m)

-- what the name stands for, at the arguments: E07 at the type where their numbers are not those that it takes
unfoldable pub named_at : Scope → Span → Elision → TypeName → ArgumentList → Result (Ty × Elision) SourceError
named_at Γ s m (name.Parameter n) given = unchanged m (alone s (param n) given)
named_at Γ s m (name.Declared i) given = declared_at i (slice_get Γ.declared i.0) m s given
named_at Γ s m (name.Int k) given = unchanged m (alone s (int k) given)
named_at Γ s m name.Bool given = unchanged m (alone s bool given)
named_at Γ s m name.MathInt given = unchanged m (alone s math_int given)
named_at Γ s m name.Box given = cond (length given.regions == 0) (unchanged m (in_box s given.types)) (Err (mismatch s))

abbrev pub self_or : Span → Elision → Option Ty → Result (Ty × Elision) SourceError
self_or s m None = Err (unknown_name s)
self_or s m (Some t) = Ok (t, m)

-- a reference, which may write
abbrev pub referring : Bool → Region → Ty → Ty
referring true r t = unique r t
referring false r t = shared r t

abbrev mutual
  -- the type that is meant, and which lifetime one that is left out is from there on. So far no type has a `Self::ViewTy`
  pub meant : Scope → Elision → TypeTree → Result (Ty × Elision) SourceError
  meant Γ m (named s x ws) = do
    w ← name_or x.span (type_named Γ x.name)
    a ← meant_arguments Γ m ws
    named_at Γ s a.1 w a.0
  meant Γ m (tuple s ws) = do
    ts ← meant_all Γ m ws
    Ok (types.tuple (tys_of ts.0), ts.1)
  meant Γ m (reference s l writes w) = do
    r ← lifetime_or Γ m s l
    t ← meant Γ r.1 w
    Ok (referring writes r.0 t.0, t.1)
  meant Γ m (self_type s) = self_or s m Γ.self_ty
  meant Γ m (self_view s) = Err (unknown_name s)

  pub meant_all : Scope → Elision → Types → Result (List Ty × Elision) SourceError
  meant_all Γ m none = Ok ([], m)
  meant_all Γ m (more w ws) = do
    t ← meant Γ m w
    ts ← meant_all Γ t.1 ws
    Ok (t.0 ∷ ts.0, ts.1)

  pub meant_arguments : Scope → Elision → TypeArguments → Result (ArgumentList × Elision) SourceError
  meant_arguments Γ m no_arguments = Ok (record { regions = []; types = [] }, m)
  meant_arguments Γ m (with_lifetime l ws) = do
    r ← lifetime_named Γ l
    a ← meant_arguments Γ m ws
    Ok (record { regions = r ∷ a.0.regions; types = a.0.types }, a.1)
  meant_arguments Γ m (with_type w ws) = do
    t ← meant Γ m w
    a ← meant_arguments Γ t.1 ws
    Ok (record { regions = a.0.regions; types = t.0 ∷ a.0.types }, a.1)

-- ---- what the code answers

-- for want of memory nothing is known, and no limit is passed
abbrev pub Refuses : {A : Type 0} → PassError → Result A SourceError → Type 0
Refuses (fault.Source e) m = m ≡ Err e
Refuses (fault.Limit l) m = ⊥
Refuses fault.NoMemory m = Unit {0}

abbrev pub Answers : {A : Type 0} → Result A PassError → Result A SourceError → Type 0
Answers (Ok a) m = m ≡ Ok a
Answers (Err f) m = Refuses f m
