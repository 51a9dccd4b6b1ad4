-- The declared types of a source: its structs and enums in source order, numbered from 0, behind `Option` where no item declares a type of that
-- name (Rust Reference, "Structs", "Enumerations", "The Rust Standard Library prelude"). A field whose type is refused has unit in its place.
use Rattle.std.specs.Prelude.{ℕ, zero, suc, ◌+◌, ◌^◌, ◌==◌, Bool, true, false, List, [], ◌∷◌, ◌++◌, length, Option, Some, None, Result, Ok, Err, if◌then◌else◌}
use Rattle.text_core.specs.declared.name.Name.{Name}
use Rattle.text_core.specs.declared.refusal.SourceError.{SourceError}
use Rattle.text_core.specs.declared.span.Span.{Span}
use Rattle.logic_term.specs.Ty.{Ty, adt, param, unit_ty}
use Rattle.logic_term.specs.declared.declaration.AdtDecl.{AdtDecl}
use Rattle.logic_term.specs.declared.declaration.FieldDecl.{FieldDecl}
use Rattle.logic_term.specs.declared.declaration.VariantDecl.{VariantDecl}
use Rattle.logic_term.specs.declared.declaration.VariantKind.{VariantKind}
use Rattle.logic_term.specs.declared.declaration.VariantKind.TheVariants as kind
use Rattle.logic_term.specs.declared.kinds.Region.{Region}
use Rattle.source_trees.specs.declared.attribute.Attribute.{Attribute}
use Rattle.source_trees.specs.declared.attribute.AttributeNode.{AttributeNode}
use Rattle.source_trees.specs.declared.attribute.AttributeNode.TheVariants as A
use Rattle.source_trees.specs.declared.generics.GenericNode.{GenericNode}
use Rattle.source_trees.specs.declared.generics.GenericNode.TheVariants as generic
use Rattle.source_trees.specs.declared.generics.GenericParam.{GenericParam}
use Rattle.source_trees.specs.declared.item.Field.{Field}
use Rattle.source_trees.specs.declared.item.Fields.{Fields}
use Rattle.source_trees.specs.declared.item.Fields.TheVariants as fields
use Rattle.source_trees.specs.declared.item.Item.{Item}
use Rattle.source_trees.specs.declared.item.ItemNode.{ItemNode}
use Rattle.source_trees.specs.declared.item.ItemNode.TheVariants as item
use Rattle.source_trees.specs.declared.item.Variant.{Variant}
use Rattle.source_trees.specs.declared.item.VariantFields.{VariantFields}
use Rattle.source_trees.specs.declared.item.VariantFields.TheVariants as parts
use Rattle.source_trees.specs.declared.path.Segment.{Segment}
use Rattle.source_trees.specs.TypeTree.{TypeTree}
use Rattle.source_trees.specs.TypeTreeView.{span_of as type_span}
use Rattle.rs_types.specs.Bounded.{params_from}
use Rattle.rs_types.specs.Meant.{Scope, meant}
use Rattle.rs_types.specs.declared.written.Elision.{Elision}
use Rattle.rs_types.specs.declared.written.Elision.TheVariants.{Refused}
use Rattle.constructors.specs.FieldNames.{numbered}
use Rattle.declared_types.specs.Answers.{with_some}

-- ---- parameters

abbrev pub lifetime_name : GenericNode → Option Name
lifetime_name (generic.Lifetime x b) = Some x.name
lifetime_name (generic.Type x bs) = None

abbrev pub parameter_name : GenericNode → Option Name
parameter_name (generic.Lifetime x b) = None
parameter_name (generic.Type x bs) = Some x.name

-- the lifetimes of an item, by number
abbrev pub lifetimes_of : List GenericParam → List Name
lifetimes_of [] = []
lifetimes_of (p ∷ ps) = with_some (lifetime_name p.node) (lifetimes_of ps)

-- its type parameters, by number
abbrev pub parameters_of : List GenericParam → List Name
parameters_of [] = []
parameters_of (p ∷ ps) = with_some (parameter_name p.node) (parameters_of ps)

-- ---- heads

abbrev pub has_copy : List Segment → Bool
has_copy [] = false
has_copy (x ∷ xs) = if x.name.0 == 17 then true else has_copy xs

abbrev pub is_copy : AttributeNode → Bool
is_copy (A.Derive xs) = has_copy xs
is_copy _ = false

-- `Copy` is among the names of a `derive`
abbrev pub derives_copy : List Attribute → Bool
derives_copy [] = false
derives_copy (a ∷ as') = if is_copy a.node then true else derives_copy as'

abbrev pub decl_of : Segment → List GenericParam → Bool → List Attribute → List VariantDecl → AdtDecl
decl_of x gs is_struct as' vs = record {
  name = x.name;
  regions = length (lifetimes_of gs);
  params = length (parameters_of gs);
  variants = vs;
  is_struct = is_struct;
  copy = derives_copy as';
  span = x.span;
}

-- a declared type by its name and its parameters alone
abbrev pub head : List Attribute → ItemNode → Option AdtDecl
head as' (item.Struct s) = Some (decl_of s.name s.generics true as' [])
head as' (item.Enum e) = Some (decl_of e.name e.generics false as' [])
head as' _ = None

abbrev pub heads_from : List Item → List AdtDecl
heads_from [] = []
heads_from (i ∷ is) = with_some (head i.attributes i.node) (heads_from is)

-- ---- `Option`

abbrev pub is_option : ItemNode → Bool
is_option (item.Struct s) = s.name.name.0 == 14
is_option (item.Enum e) = e.name.name.0 == 14
is_option _ = false

abbrev pub declares_option : List Item → Bool
declares_option [] = false
declares_option (i ∷ is) = if is_option i.node then true else declares_option is

abbrev pub nowhere : Span
nowhere = record { start = 0; end = 0 }

-- `enum Option<T> { None, Some(T) }`
abbrev pub option_type : AdtDecl
option_type = record {
  name = record { 0 = 14 };
  regions = 0;
  params = 1;
  variants = record { name = record { 0 = 15 }; kind = kind.Unit; fields = [] } ∷ record { name = record { 0 = 16 }; kind = kind.Numbered; fields = record { name = numbered 0; ty = param 0; span = nowhere } ∷ [] } ∷ [];
  is_struct = false;
  copy = true;
  span = nowhere;
}

-- what is declared before the items
abbrev pub prelude : List Item → List AdtDecl
prelude is = if declares_option is then [] else option_type ∷ []

unfoldable pub heads : List Item → List AdtDecl
heads is = prelude is ++ heads_from is

-- ---- fields

abbrev pub type_or_unit : Result (Ty × Elision) SourceError → Ty
type_or_unit (Ok t) = t.0
type_or_unit (Err e) = unit_ty

abbrev pub field_name : ℕ → Option Segment → Name
field_name k None = numbered k
field_name k (Some x) = x.name

abbrev pub field_decl : Scope → ℕ → Option Segment → TypeTree → FieldDecl
field_decl Γ k x w = record { name = field_name k x; ty = type_or_unit (meant Γ Refused w); span = type_span w }

abbrev pub fields_from : Scope → ℕ → List Field → List FieldDecl
fields_from Γ k [] = []
fields_from Γ k (f ∷ fs) = field_decl Γ k f.name f.ty ∷ fields_from Γ (k + 1) fs

-- fields without names
abbrev pub parts_from : Scope → ℕ → List TypeTree → List FieldDecl
parts_from Γ k [] = []
parts_from Γ k (w ∷ ws) = field_decl Γ k None w ∷ parts_from Γ (k + 1) ws

abbrev pub struct_fields : Scope → Fields → List FieldDecl
struct_fields Γ fields.Unit = []
struct_fields Γ (fields.Tuple fs) = fields_from Γ 0 fs
struct_fields Γ (fields.Named fs) = fields_from Γ 0 fs

abbrev pub variant_fields : Scope → VariantFields → List FieldDecl
variant_fields Γ parts.Unit = []
variant_fields Γ (parts.Tuple ws) = parts_from Γ 0 ws
variant_fields Γ (parts.Named fs) = fields_from Γ 0 fs

-- how they are written
abbrev pub struct_kind : Fields → VariantKind
struct_kind fields.Unit = kind.Unit
struct_kind (fields.Tuple fs) = kind.Numbered
struct_kind (fields.Named fs) = kind.Named

abbrev pub variant_kind : VariantFields → VariantKind
variant_kind parts.Unit = kind.Unit
variant_kind (parts.Tuple ws) = kind.Numbered
variant_kind (parts.Named fs) = kind.Named

abbrev pub variants_of : Scope → List Variant → List VariantDecl
variants_of Γ [] = []
variants_of Γ (v ∷ vs) = record { name = v.name.name; kind = variant_kind v.fields; fields = variant_fields Γ v.fields } ∷ variants_of Γ vs

-- ---- declared types

-- the lifetimes from n on, m of them
abbrev pub regions_from : ℕ → ℕ → List Region
regions_from zero n = []
regions_from (suc m) n = record { 0 = n } ∷ regions_from m (suc n)

-- the declared type of this number at its own parameters
abbrev pub own_type : ℕ → List GenericParam → Ty
own_type n gs = adt (record { 0 = n }) (regions_from (length (lifetimes_of gs)) 0) (params_from (length (parameters_of gs)) 0)

-- where the types of its fields stand
abbrev pub item_scope : List AdtDecl → ℕ → List GenericParam → Scope
item_scope hs n gs = record { declared = hs; lifetimes = lifetimes_of gs; parameters = parameters_of gs; self_ty = Some (own_type n gs); has_int = false }

abbrev pub declared_type : List AdtDecl → ℕ → List Attribute → ItemNode → Option AdtDecl
declared_type hs n as' (item.Struct s) = Some (decl_of s.name s.generics true as' (record { name = s.name.name; kind = struct_kind s.fields; fields = struct_fields (item_scope hs n s.generics) s.fields } ∷ []))
declared_type hs n as' (item.Enum e) = Some (decl_of e.name e.generics false as' (variants_of (item_scope hs n e.generics) e.variants))
declared_type hs n as' _ = None

-- how many numbers an item takes
abbrev pub takes : ItemNode → ℕ
takes (item.Struct s) = 1
takes (item.Enum e) = 1
takes _ = 0

abbrev pub types_from : List AdtDecl → ℕ → List Item → List AdtDecl
types_from hs n [] = []
types_from hs n (i ∷ is) = with_some (declared_type hs n i.attributes i.node) (types_from hs (n + takes i.node) is)

-- the number of the first declared type of the items
abbrev pub first_number : List Item → ℕ
first_number is = length (prelude is)

unfoldable pub declared_types : List Item → List AdtDecl
declared_types is = prelude is ++ types_from (heads is) (first_number is) is
