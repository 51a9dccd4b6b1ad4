-- What the lines of functions, traits and impls make (Rust Reference, "Functions", "Traits", "Implementations").
use Rattle.std.specs.Prelude.{ℕ, ◌+◌, Bool, true, false, if◌then◌else◌, List, [], ◌∷◌, ◌++◌, Option, None, Some, fold, reverse}
use Rattle.source_grammar.specs.declared.action.ShapeAction.TheVariants.{NamedType}
use Rattle.source_words.specs.declared.word.Word.{Word}
use Rattle.pearlite.specs.declared.part.Part.{Part as ShapePart}
use Rattle.pearlite.specs.declared.part.Value.TheVariants as S
use Rattle.pearlite.specs.Parts.{as_type, segment_at, span_from}
use Rattle.pearlite.specs.Shapes.{shape_made}
use Rattle.source_trees.specs.TypeTree.{TypeTree}
use Rattle.source_trees.specs.declared.item.Body.TheVariants.{Missing}
use Rattle.source_trees.specs.declared.item.Function.{Function}
use Rattle.source_trees.specs.declared.item.ImplItem.TheVariants as M
use Rattle.source_trees.specs.declared.item.ItemNode.TheVariants as I
use Rattle.rs_syntax.specs.declared.make_functions.ImplOf.{ImplOf}
use Rattle.rs_syntax.specs.declared.make_functions.ImplParts.{ImplParts}
use Rattle.rs_syntax.specs.declared.part.Part.{Part}
use Rattle.rs_syntax.specs.declared.part.Value.{Value}
use Rattle.rs_syntax.specs.declared.part.Value.TheVariants as V
use Rattle.rs_syntax.specs.Gathered.{all_of, first_of, made_of, type_of, method_of}

-- ---- functions

abbrev pub with_answer : Function → Option TypeTree → Function
with_answer f None = f
with_answer f (Some ty) = record f { answer = Some ty }

abbrev pub function_with_value : List Word → ℕ → ℕ → Function → Value → Function
function_with_value words from to f (V.Generics generics) = record f { generics_span = Some (span_from words from to); generics = generics }
function_with_value words from to f (V.Param param) = record f { params = f.params ++ param ∷ [] }
function_with_value words from to f (V.Where conditions) = record f { conditions_span = Some (span_from words from to); conditions = conditions }
function_with_value words from to f (V.Shape shape) = with_answer f (as_type shape)
function_with_value words from to f _ = f

-- a function with one more of its parts
abbrev pub function_with : List Word → Function → Part → Function
function_with words f part = function_with_value words part.from part.to f part.value

-- `fn` and the name alone
abbrev pub bare_function : List Word → ℕ → Function
bare_function words from = record { name = segment_at words (from + 1); generics_span = None; generics = []; params = []; answer = None; conditions_span = None; conditions = []; body = Missing }

-- `"fn" Name [ Generics ] Params [ "->" AnyType ] [ Where ]`
unfoldable pub function_made : List Word → ℕ → List Part → Value
function_made words from parts = V.Function (fold (function_with words) (bare_function words from) parts)

-- ---- traits

-- `"trait" Name "{" { TraitItem } "}"`
unfoldable pub trait_made : List Word → ℕ → List Part → Value
trait_made words from parts = V.ItemNode (I.Trait (record { name = segment_at words (from + 1); methods = all_of method_of parts }))

-- ---- impls

abbrev pub shape_part : Value → ℕ → ℕ → Option ShapePart
shape_part (V.Shape shape) from to = Some (record { value = shape; from = from; to = to })
shape_part _ from to = None

abbrev pub before_shapes : Option ShapePart → List ShapePart → List ShapePart
before_shapes None shapes = shapes
before_shapes (Some shape) shapes = shape ∷ shapes

-- the parts that are shapes, as those of a line of shapes
abbrev pub shape_parts : List Part → List ShapePart
shape_parts [] = []
shape_parts (part ∷ parts) = before_shapes (shape_part part.value part.from part.to) (shape_parts parts)

-- the name of a trait before `for` and a type
abbrev pub trait_head : List Word → ℕ → List Part → Value
trait_head words from parts = made_of (first_of type_of parts) (λ ty. V.ImplHead (Some (segment_at words from)) ty)

-- a type with its arguments
abbrev pub type_head : List Word → ℕ → ℕ → List Part → Value
type_head words from to parts = made_of (as_type (shape_made NamedType words from to (shape_parts parts))) (λ ty. V.ImplHead None ty)

abbrev pub is_type : Value → Bool
is_type (V.Shape (S.Type ty)) = true
is_type _ = false

-- whether the first of them is a type
abbrev pub begins_with_type : List Part → Bool
begins_with_type [] = false
begins_with_type (part ∷ parts) = is_type part.value

-- `TypeName [ "for" AnyType | TypeArguments ]`: a type stands last exactly behind `for`
unfoldable pub impl_head_made : List Word → ℕ → ℕ → List Part → Value
impl_head_made words from to parts = if begins_with_type (reverse parts) then trait_head words from parts else type_head words from to parts

-- `"type" "ViewTy" level( "=" AnyType ) ";"`
unfoldable pub view_type_made : List Word → ℕ → ℕ → List Part → Value
view_type_made words from to parts = made_of (first_of type_of parts) (λ ty. V.ImplItem (M.ViewType (span_from words from to) (segment_at words (from + 1)) ty))

abbrev pub with_target : ImplParts → Option TypeTree → ImplParts
with_target i None = i
with_target i (Some ty) = record i { head = Some (record { of = None; target = ty }) }

abbrev pub impl_with_value : ImplParts → Value → ImplParts
impl_with_value i (V.Generics generics) = record i { generics = generics }
impl_with_value i (V.ImplHead of target) = record i { head = Some (record { of = of; target = target }) }
impl_with_value i (V.Shape shape) = with_target i (as_type shape)
impl_with_value i (V.Where conditions) = record i { conditions = conditions }
impl_with_value i (V.ImplItem item) = record i { items = i.items ++ item ∷ [] }
impl_with_value i (V.Method method) = record i { items = i.items ++ M.Method method ∷ [] }
impl_with_value i _ = i

-- an impl with one more of its parts
abbrev pub impl_with : List Word → ImplParts → Part → ImplParts
impl_with words i part = impl_with_value i part.value

abbrev pub impl_of : ImplParts → ImplOf → Value
impl_of i head = V.ItemNode (I.Impl (record { generics = i.generics; of = head.of; target = head.target; conditions = i.conditions; items = i.items }))

abbrev pub whole_impl : ImplParts → Value
whole_impl i = made_of i.head (impl_of i)

-- `"impl" [ Generics ] ( ImplHead | UnnamedType | ReferenceType ) [ Where ] ImplBody`
unfoldable pub impl_made : List Word → List Part → Value
impl_made words parts = whole_impl (fold (impl_with words) (record { generics = []; head = None; conditions = []; items = [] }) parts)
