-- What makes a value is a struct or a variant of the declared types, with its fields.
use Rattle.std.proofs.Common.{◌≡◌, ◌∙◌, ℕ, Bool, true, false, List, [], ◌∷◌, Option, Some, None, Ok, refl, ap, subst}
use Rattle.std.specs.Prelude.{slice_get, if◌then◌else◌}
use Rattle.text_core.specs.declared.name.Name.{Name}
use Rattle.text_core.specs.declared.span.Span.{Span}
use Rattle.logic_term.specs.declared.declaration.AdtDecl.{AdtDecl}
use Rattle.logic_term.specs.declared.declaration.VariantDecl.{VariantDecl}
use Rattle.logic_term.specs.Theory.{fields_of, variant_of}
use Rattle.rs_types.specs.Table.{number_of}
use Rattle.source_trees.specs.declared.path.PathNode.{PathNode}
use Rattle.source_trees.specs.declared.path.PathNode.TheVariants.{Names}
use Rattle.source_trees.specs.declared.path.Segment.{Segment}
use Rattle.constructors.specs.Constructors.{Constructor, variant_at, struct_at, struct_by, variant_from, variant_by, variant_named, is_before_items, prelude_at, or_prelude, constructor_named, known_constructor, if_enum, in_type, in_type_at, constructor_of}
use Rattle.constructors.specs.Laws.{IsDeclared}
use Rattle.constructors.proofs.Accepted.{same_ok}

-- what is found is one
abbrev SomeConstructor : List AdtDecl → Option Constructor → Type 0
SomeConstructor ds None = Unit {0}
SomeConstructor ds (Some c) = IsDeclared ds c

variant_found : (ds : List AdtDecl) (n : ℕ) (d : AdtDecl) (k : ℕ) (v : Option VariantDecl) → slice_get ds n ≡ Some d → slice_get d.variants k ≡ v → SomeConstructor ds (variant_at n d k v)
variant_found ds n d k None h q = tt
variant_found ds n d k (Some v) h q = ap (λ o. fields_of (variant_of o k)) h ∙ ap fields_of q

if_found : (ds : List AdtDecl) (b : Bool) (c : Option Constructor) → SomeConstructor ds c → SomeConstructor ds (if b then c else None)
if_found ds true c h = h
if_found ds false c h = tt

if_not_found : (ds : List AdtDecl) (b : Bool) (c : Option Constructor) → SomeConstructor ds c → SomeConstructor ds (if b then None else c)
if_not_found ds true c h = tt
if_not_found ds false c h = h

struct_found : (ds : List AdtDecl) (n : ℕ) (o : Option AdtDecl) → slice_get ds n ≡ o → SomeConstructor ds (struct_at n o)
struct_found ds n None h = tt
struct_found ds n (Some d) h = if_found ds d.is_struct (variant_at n d 0 (slice_get d.variants 0)) (variant_found ds n d 0 (slice_get d.variants 0) h refl)

struct_by_found : (ds : List AdtDecl) (n : Option ℕ) → SomeConstructor ds (struct_by ds n)
struct_by_found ds None = tt
struct_by_found ds (Some n) = struct_found ds n (slice_get ds n) refl

variant_by_found : (ds : List AdtDecl) (n : ℕ) (d : AdtDecl) (k : Option ℕ) → slice_get ds n ≡ Some d → SomeConstructor ds (variant_by n d k)
variant_by_found ds n d None h = tt
variant_by_found ds n d (Some k) h = variant_found ds n d k (slice_get d.variants k) h refl

prelude_found : (ds : List AdtDecl) (x : Name) (o : Option AdtDecl) → slice_get ds 0 ≡ o → SomeConstructor ds (prelude_at x o)
prelude_found ds x None h = tt
prelude_found ds x (Some d) h = if_found ds (is_before_items d) (variant_named 0 d x) (variant_by_found ds 0 d (variant_from 0 x d.variants) h)

either_found : (ds : List AdtDecl) (x : Name) (c : Option Constructor) → SomeConstructor ds c → SomeConstructor ds (or_prelude ds x c)
either_found ds x None h = prelude_found ds x (slice_get ds 0) refl
either_found ds x (Some c) h = h

pub named_found : (ds : List AdtDecl) (x : Name) → SomeConstructor ds (constructor_named ds x)
unfolding constructor_named
named_found ds x = either_found ds x (struct_by ds (number_of x.0 ds)) (struct_by_found ds (number_of x.0 ds))

known_found : (ds : List AdtDecl) (s : Span) (o : Option Constructor) (c : Constructor) → SomeConstructor ds o → known_constructor s o ≡ Ok c → IsDeclared ds c
known_found ds s None c h p = absurd (cc)
known_found ds s (Some d) c h p = subst (IsDeclared ds) (same_ok d c p) h

in_type_found : (ds : List AdtDecl) (x v : Segment) (n : ℕ) (o : Option AdtDecl) (c : Constructor) → slice_get ds n ≡ o → in_type x v n o ≡ Ok c → IsDeclared ds c
in_type_found ds x v n None c h p = absurd (cc)
in_type_found ds x v n (Some d) c h p =
    known_found ds v.span (if_enum n d v.name) c (if_not_found ds d.is_struct (variant_named n d v.name) (variant_by_found ds n d (variant_from 0 v.name d.variants) h)) p

in_types_found : (ds : List AdtDecl) (x v : Segment) (n : Option ℕ) (c : Constructor) → in_type_at ds x v n ≡ Ok c → IsDeclared ds c
in_types_found ds x v None c p = absurd (cc)
in_types_found ds x v (Some n) c p = in_type_found ds x v n (slice_get ds n) c refl p

pub constructor_found : (ds : List AdtDecl) (s : Span) (w : PathNode) (c : Constructor) → constructor_of ds s w ≡ Ok c → IsDeclared ds c
unfolding constructor_of
constructor_found ds s (Names x [] []) c p = known_found ds x.span (constructor_named ds x.name) c (named_found ds x.name) p
constructor_found ds s (Names x (v ∷ []) []) c p = in_types_found ds x v (number_of x.name.0 ds) c p
constructor_found ds s w c p = absurd (cc)
