-- What the names pass refuses (Rust Reference, "Namespaces", "Lifetime elision", "Attributes"). Items go in source order; of each its attributes, its name, its
-- parameters, its fields and the types that are written there in order, and then the declared type itself. What each gives is a list of checks; the
-- source is refused for the first that does not hold.
use Rattle.std.specs.Prelude.{ℕ, ◌+◌, ◌==◌, Bool, true, false, List, [], ◌∷◌, ◌++◌, Option, Some, None, Result, Ok, Err, if◌then◌else◌}
use Rattle.text_core.specs.declared.name.Name.{Name}
use Rattle.text_core.specs.declared.refusal.SourceError.{SourceError}
use Rattle.text_core.specs.declared.span.Span.{Span}
use Rattle.logic_term.specs.Ty.{Ty}
use Rattle.logic_term.specs.declared.declaration.AdtDecl.{AdtDecl}
use Rattle.source_trees.specs.declared.attribute.Attribute.{Attribute}
use Rattle.source_trees.specs.declared.attribute.AttributeNode.{AttributeNode}
use Rattle.source_trees.specs.declared.attribute.AttributeNode.TheVariants as A
use Rattle.source_trees.specs.declared.generics.Bound.{Bound}
use Rattle.source_trees.specs.declared.generics.GenericNode.{GenericNode}
use Rattle.source_trees.specs.declared.generics.GenericNode.TheVariants as generic
use Rattle.source_trees.specs.declared.generics.GenericParam.{GenericParam}
use Rattle.source_trees.specs.declared.item.Enum.{Enum}
use Rattle.source_trees.specs.declared.item.Field.{Field}
use Rattle.source_trees.specs.declared.item.Fields.{Fields}
use Rattle.source_trees.specs.declared.item.Fields.TheVariants as fields
use Rattle.source_trees.specs.declared.item.Function.{Function}
use Rattle.source_trees.specs.declared.item.Item.{Item}
use Rattle.source_trees.specs.declared.item.ItemNode.{ItemNode}
use Rattle.source_trees.specs.declared.item.ItemNode.TheVariants as item
use Rattle.source_trees.specs.declared.item.Struct.{Struct}
use Rattle.source_trees.specs.declared.item.Variant.{Variant}
use Rattle.source_trees.specs.declared.item.VariantFields.{VariantFields}
use Rattle.source_trees.specs.declared.item.VariantFields.TheVariants as parts
use Rattle.source_trees.specs.declared.param.Param.{Param}
use Rattle.source_trees.specs.declared.param.ParamNode.{ParamNode}
use Rattle.source_trees.specs.declared.param.ParamNode.TheVariants as param
use Rattle.source_trees.specs.declared.path.Segment.{Segment}
use Rattle.source_trees.specs.TypeTree.{TypeTree}
use Rattle.source_trees.specs.TypeTreeView.{span_of as type_span}
use Rattle.rs_types.specs.Meant.{Scope, meant}
use Rattle.rs_types.specs.declared.checks.Check.{Check}
use Rattle.rs_types.specs.declared.checks.Check.TheVariants as check
use Rattle.rs_types.specs.declared.written.Elision.{Elision}
use Rattle.rs_types.specs.declared.written.Elision.TheVariants as elision
use Rattle.declared_types.specs.Answers.{double_name, unknown_name, unbuilt, with_some}
use Rattle.constructors.specs.FunctionScope.{function_scope}
use Rattle.declared_types.specs.DeclaredTypes.{lifetime_name, parameter_name, lifetimes_of, heads, first_number, item_scope, takes}
use Rattle.declared_types.specs.Answers.{or_else}

-- ---- names

abbrev pub is_among : Name → List Name → Bool
is_among x [] = false
is_among x (y ∷ ys) = if x.0 == y.0 then true else is_among x ys

-- E06 at the name, where it is among these
abbrev pub double_in : List Name → Segment → Option SourceError
double_in names x = if is_among x.name names then Some (double_name x.span) else None

abbrev pub double_of : List Name → Option Segment → Option SourceError
double_of names None = None
double_of names (Some x) = double_in names x

abbrev pub named : Option Segment → Option Name
named None = None
named (Some x) = Some x.name

-- the name that the item has among types and traits
abbrev pub type_name : ItemNode → Option Segment
type_name (item.Struct s) = Some s.name
type_name (item.Enum e) = Some e.name
type_name (item.Trait t) = Some t.name
type_name _ = None

abbrev pub maker_name : Segment → Fields → Option Segment
maker_name x fields.Unit = Some x
maker_name x (fields.Tuple fs) = Some x
maker_name x (fields.Named fs) = None

-- the name that it has among functions, tuple structs and unit structs
abbrev pub value_name : ItemNode → Option Segment
value_name (item.Function f) = Some f.name
value_name (item.Struct s) = maker_name s.name s.fields
value_name _ = None

-- ---- attributes

-- attributes that say nothing of what a program does; before a declared type `derive` stands too
abbrev pub may_stand : Bool → AttributeNode → Bool
may_stand derives A.Skipped = true
may_stand derives (A.Derive xs) = derives
may_stand derives _ = false

abbrev pub stray : Bool → List Attribute → Option SourceError
stray derives [] = None
stray derives (a ∷ as') = if may_stand derives a.node then stray derives as' else Some (unbuilt a.span)

-- those of a function belong to its contract
abbrev pub stray_before : List Attribute → ItemNode → Option SourceError
stray_before as' (item.Function f) = None
stray_before as' (item.Struct s) = stray true as'
stray_before as' (item.Enum e) = stray true as'
stray_before as' _ = stray false as'

-- ---- parameters of declared types

abbrev pub unknown_in : List Name → Option Segment → Option SourceError
unknown_in names None = None
unknown_in names (Some x) = if is_among x.name names then None else Some (unknown_name x.span)

-- no bound is built
abbrev pub bound_among : List Bound → Option SourceError
bound_among [] = None
bound_among (b ∷ bs) = Some (unbuilt b.span)

-- all: the lifetimes of the item; ls and ts: the lifetimes and the type parameters before this one
abbrev pub parameter_refusal : List Name → List Name → List Name → GenericNode → Option SourceError
parameter_refusal all ls ts (generic.Lifetime x b) = or_else (double_in ls x) (unknown_in all b)
parameter_refusal all ls ts (generic.Type x bs) = or_else (double_in ts x) (bound_among bs)

abbrev pub refusal_among : List Name → List Name → List Name → List GenericParam → Option SourceError
refusal_among all ls ts [] = None
refusal_among all ls ts (p ∷ ps) = or_else (parameter_refusal all ls ts p.node) (refusal_among all (ls ++ with_some (lifetime_name p.node) []) (ts ++ with_some (parameter_name p.node) []) ps)

abbrev pub generics_of : ItemNode → List GenericParam
generics_of (item.Struct s) = s.generics
generics_of (item.Enum e) = e.generics
generics_of _ = []

abbrev pub parameters_refusal : List GenericParam → Option SourceError
parameters_refusal gs = refusal_among (lifetimes_of gs) [] [] gs

-- ts, vs: the names before it of types, and of functions and structs that make values
abbrev pub head_refusal : List Name → List Name → Item → Option SourceError
head_refusal ts vs i = or_else (stray_before i.attributes i.node) (or_else (double_of ts (type_name i.node)) (or_else (double_of vs (value_name i.node)) (parameters_refusal (generics_of i.node))))

-- ---- written types

abbrev pub check_by : TypeTree → Elision → Result (Ty × Elision) SourceError → Check × Elision
check_by w m (Ok t) = (check.Flat (type_span w) t.0, t.1)
check_by w m (Err e) = (check.Plain (Some e), m)

-- a type that is written: what it is refused for, else that it is flat; and which lifetime one that is left out is from there on
abbrev pub check_of : Scope → Elision → TypeTree → Check × Elision
check_of Γ m w = check_by w m (meant Γ m w)

-- ---- fields

abbrev pub field_checks : Scope → List Name → Field → List Check
field_checks Γ seen f = check.Plain (double_of seen f.name) ∷ (check_of Γ elision.Refused f.ty).0 ∷ []

abbrev pub fields_checks : Scope → List Name → List Field → List Check
fields_checks Γ seen [] = []
fields_checks Γ seen (f ∷ fs) = field_checks Γ seen f ++ fields_checks Γ (seen ++ with_some (named f.name) []) fs

-- fields without names
abbrev pub parts_checks : Scope → List TypeTree → List Check
parts_checks Γ [] = []
parts_checks Γ (w ∷ ws) = (check_of Γ elision.Refused w).0 ∷ parts_checks Γ ws

abbrev pub struct_fields_checks : Scope → Fields → List Check
struct_fields_checks Γ fields.Unit = []
struct_fields_checks Γ (fields.Tuple fs) = fields_checks Γ [] fs
struct_fields_checks Γ (fields.Named fs) = fields_checks Γ [] fs

abbrev pub variant_fields_checks : Scope → VariantFields → List Check
variant_fields_checks Γ parts.Unit = []
variant_fields_checks Γ (parts.Tuple ws) = parts_checks Γ ws
variant_fields_checks Γ (parts.Named fs) = fields_checks Γ [] fs

abbrev pub variant_checks : Scope → List Name → Variant → List Check
variant_checks Γ seen v = check.Plain (double_in seen v.name) ∷ variant_fields_checks Γ v.fields

abbrev pub variants_checks : Scope → List Name → List Variant → List Check
variants_checks Γ seen [] = []
variants_checks Γ seen (v ∷ vs) = variant_checks Γ seen v ++ variants_checks Γ (seen ++ v.name.name ∷ []) vs

-- ---- functions

-- such a part may not stand
abbrev pub standing : Option Span → Option SourceError
standing None = None
standing (Some s) = Some (unbuilt s)

-- a parameter, and which lifetime one that is left out is behind it
abbrev pub param_checks_by : Scope → List Name → Elision → Span → ParamNode → List Check × Elision
param_checks_by Γ seen m s (param.Named mutable x w) = (check.Plain (double_in seen x) ∷ (check_of Γ m w).0 ∷ [], (check_of Γ m w).1)
param_checks_by Γ seen m s _ = (check.Plain (Some (unbuilt s)) ∷ [], m)

abbrev pub param_checks : Scope → List Name → Elision → Param → List Check × Elision
param_checks Γ seen m p = param_checks_by Γ seen m p.span p.node

abbrev pub param_name : ParamNode → Option Name
param_name (param.Named mutable x w) = Some x.name
param_name _ = None

-- in an answer one that is left out is the only one of the parameters
abbrev pub in_answer : Elision → Elision
in_answer (elision.Numbered n) = if n == 1 then elision.Given (record { 0 = 0 }) else elision.Refused
in_answer m = m

abbrev pub answer_checks : Scope → Elision → Option TypeTree → List Check
answer_checks Γ m None = []
answer_checks Γ m (Some w) = (check_of Γ (in_answer m) w).0 ∷ []

-- parameters, and then the answer
abbrev pub signature_checks : Scope → Option TypeTree → List Name → Elision → List Param → List Check
signature_checks Γ answer seen m [] = answer_checks Γ m answer
signature_checks Γ answer seen m (p ∷ ps) = (param_checks Γ seen m p).0 ++ signature_checks Γ answer (seen ++ with_some (param_name p.node) []) (param_checks Γ seen m p).1 ps

abbrev pub function_checks : List AdtDecl → Function → List Check
function_checks hs f =
    check.Plain (standing f.generics_span) ∷ signature_checks (function_scope hs) f.answer [] (elision.Numbered 0) f.params ++ check.Plain (standing f.conditions_span) ∷ []

-- ---- items

-- n: the number that the declared type has
abbrev pub struct_checks : List AdtDecl → ℕ → Struct → List Check
struct_checks hs n s = struct_fields_checks (item_scope hs n s.generics) s.fields ++ check.Finite n s.name.span ∷ []

abbrev pub enum_checks : List AdtDecl → ℕ → Enum → List Check
enum_checks hs n e = variants_checks (item_scope hs n e.generics) [] e.variants ++ check.Finite n e.name.span ∷ []

-- traits and impls are not built
abbrev pub node_checks : List AdtDecl → ℕ → Span → ItemNode → List Check
node_checks hs n own (item.Function f) = function_checks hs f
node_checks hs n own (item.Struct s) = struct_checks hs n s
node_checks hs n own (item.Enum e) = enum_checks hs n e
node_checks hs n own (item.Trait t) = check.Plain (Some (unbuilt own)) ∷ []
node_checks hs n own (item.Impl m) = check.Plain (Some (unbuilt own)) ∷ []
node_checks hs n own _ = []

abbrev pub item_checks : List AdtDecl → ℕ → List Name → List Name → Item → List Check
item_checks hs n ts vs i = check.Plain (head_refusal ts vs i) ∷ node_checks hs n i.own i.node

abbrev pub checks_from : List AdtDecl → ℕ → List Name → List Name → List Item → List Check
checks_from hs n ts vs [] = []
checks_from hs n ts vs (i ∷ is) = item_checks hs n ts vs i ++ checks_from hs (n + takes i.node) (ts ++ with_some (named (type_name i.node)) []) (vs ++ with_some (named (value_name i.node)) []) is

unfoldable pub checks : List Item → List Check
checks is = checks_from (heads is) (first_number is) [] [] is
