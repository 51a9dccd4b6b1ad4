-- Items (Rust Reference, "Items"): where the first form begins that is not in the set. `use` lines, `extern crate`, visibility and skipped
-- attributes say nothing, and are in every set.
use Rattle.std.specs.Prelude.{ℕ, Bool, List, Option, Some, None}
use Rattle.text_core.specs.declared.span.Span.{Span}
use Rattle.source_trees.specs.declared.generics.Bound.{Bound}
use Rattle.source_trees.specs.declared.generics.BoundNode.{BoundNode}
use Rattle.source_trees.specs.declared.generics.BoundNode.TheVariants as B
use Rattle.source_trees.specs.declared.generics.Condition.{Condition}
use Rattle.source_trees.specs.declared.generics.ConditionNode.{ConditionNode}
use Rattle.source_trees.specs.declared.generics.ConditionNode.TheVariants as C
use Rattle.source_trees.specs.declared.generics.GenericNode.{GenericNode}
use Rattle.source_trees.specs.declared.generics.GenericNode.TheVariants as G
use Rattle.source_trees.specs.declared.generics.GenericParam.{GenericParam}
use Rattle.source_trees.specs.declared.item.Body.{Body}
use Rattle.source_trees.specs.declared.item.Body.TheVariants as D
use Rattle.source_trees.specs.declared.item.Field.{Field}
use Rattle.source_trees.specs.declared.item.Fields.{Fields}
use Rattle.source_trees.specs.declared.item.Fields.TheVariants as L
use Rattle.source_trees.specs.declared.item.Function.{Function}
use Rattle.source_trees.specs.declared.item.Impl.{Impl}
use Rattle.source_trees.specs.declared.item.ImplItem.{ImplItem}
use Rattle.source_trees.specs.declared.item.ImplItem.TheVariants as M
use Rattle.source_trees.specs.declared.item.Item.{Item}
use Rattle.source_trees.specs.declared.item.ItemNode.{ItemNode}
use Rattle.source_trees.specs.declared.item.ItemNode.TheVariants as I
use Rattle.source_trees.specs.declared.item.Method.{Method}
use Rattle.source_trees.specs.declared.item.Variant.{Variant}
use Rattle.source_trees.specs.declared.item.VariantFields.{VariantFields}
use Rattle.source_trees.specs.declared.item.VariantFields.TheVariants as V
use Rattle.source_trees.specs.declared.path.Segment.{Segment}
use Rattle.source_trees.specs.TypeTree.{TypeTree}
use Rattle.source_trees.specs.TypeTreeView.{span_of}
use Rattle.source_forms.specs.declared.form.TheConstants.{BEFORE_FUNCTION, BEFORE_ITEM}
use Rattle.source_forms.specs.declared.form.Form.{Form}
use Rattle.source_forms.specs.declared.form.Form.TheVariants as form
use Rattle.source_forms.specs.declared.form.Promises.{Promises}
use Rattle.source_forms.specs.Forms.{◌or_else◌, here, in_some, in_each}
use Rattle.source_forms.specs.TypeForms.{unbuilt_type}
use Rattle.source_forms.specs.TermForms.{unbuilt_term}
use Rattle.source_forms.specs.ExprForms.{unbuilt_attribute, unbuilt_param, unbuilt_expr}

-- ---- type parameters and conditions

abbrev pub unbuilt_bound_node : (Form → Bool) → Span → BoundNode → Option ℕ
unbuilt_bound_node F span (B.Trait name) = here F form.TraitBound span
unbuilt_bound_node F span (B.Call of types answer) = here F form.CallBound span or_else in_each (unbuilt_type F) types or_else in_some (unbuilt_type F) answer

unfoldable pub unbuilt_bound : (Form → Bool) → Bound → Option ℕ
unbuilt_bound F bound = unbuilt_bound_node F bound.span bound.node

abbrev pub unbuilt_generic_node : (Form → Bool) → Span → GenericNode → Option ℕ
unbuilt_generic_node F span (G.Lifetime name bound) = here F form.LifetimeParameter span
unbuilt_generic_node F span (G.Type name bounds) = here F form.TypeParameter span or_else in_each (unbuilt_bound F) bounds

unfoldable pub unbuilt_generic : (Form → Bool) → GenericParam → Option ℕ
unbuilt_generic F generic = unbuilt_generic_node F generic.span generic.node

abbrev pub unbuilt_condition_node : (Form → Bool) → Span → ConditionNode → Option ℕ
unbuilt_condition_node F span (C.Lifetime one other) = here F form.LifetimeCondition span
unbuilt_condition_node F span (C.Type name bounds) = here F form.TypeCondition span or_else in_each (unbuilt_bound F) bounds

unfoldable pub unbuilt_condition : (Form → Bool) → Condition → Option ℕ
unbuilt_condition F condition = unbuilt_condition_node F condition.span condition.node

-- ---- functions

-- a body, of a function that stands there
abbrev pub unbuilt_body : (Form → Bool) → Span → Body → Option ℕ
unbuilt_body F own (D.Block e) = here F form.BlockBody own or_else unbuilt_expr F e
unbuilt_body F own (D.Term t) = here F form.TermBody own or_else unbuilt_term F t
unbuilt_body F own D.Missing = here F form.NoBody own

-- what stands behind `fn`
unfoldable pub unbuilt_function : (Form → Bool) → Span → Function → Option ℕ
unbuilt_function F own f =
    in_some (here F form.TypeParameters) f.generics_span or_else in_each (unbuilt_generic F) f.generics
    or_else in_each (unbuilt_param F) f.params or_else in_some (unbuilt_type F) f.answer
    or_else in_some (here F form.Conditions) f.conditions_span or_else in_each (unbuilt_condition F) f.conditions
    or_else unbuilt_body F own f.body

-- a function of a trait or an impl, with its attributes
unfoldable pub unbuilt_method : (Form → Bool) → Form → Method → Option ℕ
unbuilt_method F form method =
    here F form method.span or_else in_each (unbuilt_attribute F BEFORE_FUNCTION) method.attributes or_else unbuilt_function F method.span method.function

-- ---- structs and enums

-- the type of a field is one form, whatever stands in it
unfoldable pub unbuilt_field_type : (Form → Bool) → TypeTree → Option ℕ
unbuilt_field_type F ty = here F form.FieldType (span_of ty)

unfoldable pub unbuilt_field : (Form → Bool) → Field → Option ℕ
unbuilt_field F field = unbuilt_field_type F field.ty

abbrev pub unbuilt_fields : (Form → Bool) → Fields → Option ℕ
unbuilt_fields F L.Unit = None
unbuilt_fields F (L.Tuple fields) = in_each (unbuilt_field F) fields
unbuilt_fields F (L.Named fields) = in_each (unbuilt_field F) fields

abbrev pub unbuilt_variant_fields : (Form → Bool) → VariantFields → Option ℕ
unbuilt_variant_fields F V.Unit = None
unbuilt_variant_fields F (V.Tuple types) = in_each (unbuilt_field_type F) types
unbuilt_variant_fields F (V.Named fields) = in_each (unbuilt_field F) fields

unfoldable pub unbuilt_variant : (Form → Bool) → Variant → Option ℕ
unbuilt_variant F variant = unbuilt_variant_fields F variant.fields

-- ---- impls

abbrev pub impl_form : Option Segment → Form
impl_form None = form.Impl
impl_form (Some of) = form.TraitImpl

abbrev pub unbuilt_impl_item : (Form → Bool) → ImplItem → Option ℕ
unbuilt_impl_item F (M.ViewType span name ty) = here F form.ViewType span or_else unbuilt_type F ty
unbuilt_impl_item F (M.Method method) = unbuilt_method F form.ImplFunction method

unfoldable pub unbuilt_impl : (Form → Bool) → Impl → Option ℕ
unbuilt_impl F i =
    in_each (unbuilt_generic F) i.generics or_else unbuilt_type F i.target or_else in_each (unbuilt_condition F) i.conditions
    or_else in_each (unbuilt_impl_item F) i.items

-- ---- items

-- the forms of the attributes before an item
abbrev pub promises_of : ItemNode → Promises
promises_of (I.Function f) = BEFORE_FUNCTION
promises_of (I.Struct of) = BEFORE_ITEM
promises_of (I.Enum of) = BEFORE_ITEM
promises_of (I.Trait of) = BEFORE_ITEM
promises_of (I.Impl of) = BEFORE_ITEM
promises_of I.Use = BEFORE_ITEM
promises_of I.ExternCrate = BEFORE_ITEM

-- an item that stands there
abbrev pub unbuilt_node : (Form → Bool) → Span → ItemNode → Option ℕ
unbuilt_node F own (I.Function f) = here F form.Function own or_else unbuilt_function F own f
unbuilt_node F own (I.Struct s) = here F form.Struct own or_else in_each (unbuilt_generic F) s.generics or_else unbuilt_fields F s.fields
unbuilt_node F own (I.Enum e) = here F form.Enum own or_else in_each (unbuilt_generic F) e.generics or_else in_each (unbuilt_variant F) e.variants
unbuilt_node F own (I.Trait t) = here F form.Trait own or_else in_each (unbuilt_method F form.TraitFunction) t.methods
unbuilt_node F own (I.Impl i) = here F (impl_form i.of) own or_else unbuilt_impl F i
unbuilt_node F own I.Use = None
unbuilt_node F own I.ExternCrate = None

unfoldable pub unbuilt_item : (Form → Bool) → Item → Option ℕ
unbuilt_item F item = in_each (unbuilt_attribute F (promises_of item.node)) item.attributes or_else unbuilt_node F item.own item.node

-- where the first form of these items begins that is not in the set
unfoldable pub first_unbuilt : (Form → Bool) → List Item → Option ℕ
first_unbuilt F items = in_each (unbuilt_item F) items
