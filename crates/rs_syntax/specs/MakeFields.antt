-- What the lines of fields, variants, structs and enums make (Rust Reference, "Structs", "Enumerations").
use Rattle.std.specs.Prelude.{ℕ, ◌+◌, ◌-◌, if◌then◌else◌, List, [], ◌∷◌, ◌++◌, None, Some, fold}
use Rattle.source_grammar.specs.Terminals.{CloseParen, CloseBrace, KwPub}
use Rattle.source_words.specs.declared.word.Word.{Word}
use Rattle.source_trees.specs.declared.path.Segment.{Segment}
use Rattle.pearlite.specs.Parts.{is_at, segment_at, span_from}
use Rattle.source_trees.specs.declared.item.Enum.{Enum}
use Rattle.source_trees.specs.declared.item.Field.{Field}
use Rattle.source_trees.specs.declared.item.Fields.{Fields}
use Rattle.source_trees.specs.declared.item.Fields.TheVariants as F
use Rattle.source_trees.specs.declared.item.ItemNode.TheVariants as I
use Rattle.source_trees.specs.declared.item.VariantFields.{VariantFields}
use Rattle.source_trees.specs.declared.item.VariantFields.TheVariants as W
use Rattle.rs_syntax.specs.declared.make_fields.StructParts.{StructParts}
use Rattle.rs_syntax.specs.declared.part.Part.{Part}
use Rattle.rs_syntax.specs.declared.part.Value.{Value}
use Rattle.rs_syntax.specs.declared.part.Value.TheVariants as V
use Rattle.rs_syntax.specs.Gathered.{all_of, first_of, made_of, type_of, field_of}

-- ---- fields

-- a name stands behind the `pub` of its field
abbrev pub field_name : List Word → ℕ → Segment
field_name words from = if is_at KwPub words from then segment_at words (from + 1) else segment_at words from

-- `[ "pub" ] Name ":" AnyType`
unfoldable pub field_made : List Word → ℕ → ℕ → List Part → Value
field_made words from to parts = made_of (first_of type_of parts) (λ ty. V.Field (record { span = span_from words from to; public = is_at KwPub words from; name = Some (field_name words from); ty = ty }))

-- `[ "pub" ] AnyType`
unfoldable pub tuple_field_made : List Word → ℕ → ℕ → List Part → Value
tuple_field_made words from to parts = made_of (first_of type_of parts) (λ ty. V.Field (record { span = span_from words from to; public = is_at KwPub words from; name = None; ty = ty }))

-- ---- variants

-- types end with `)`, and named fields with `}`
unfoldable pub variant_fields : List Word → ℕ → List Part → VariantFields
variant_fields words to parts = if is_at CloseParen words (to - 1) then W.Tuple (all_of type_of parts) else (if is_at CloseBrace words (to - 1) then W.Named (all_of field_of parts) else W.Unit)

-- `Name [ TypesInParens | TypedFields ]`
unfoldable pub variant_made : List Word → ℕ → ℕ → List Part → Value
variant_made words from to parts = V.Variant (record { span = span_from words from to; name = segment_at words from; fields = variant_fields words to parts })

-- ---- structs

abbrev pub struct_with_value : StructParts → Value → StructParts
struct_with_value s (V.Generics generics) = record s { generics = generics }
struct_with_value s (V.Field field) = record s { fields = s.fields ++ field ∷ [] }
struct_with_value s _ = s

-- a struct with one more of its parts
abbrev pub struct_with : List Word → StructParts → Part → StructParts
struct_with words s part = struct_with_value s part.value

-- named fields end with `}`, and others with `);`
abbrev pub struct_fields : List Word → ℕ → List Field → Fields
struct_fields words to fields = if is_at CloseBrace words (to - 1) then F.Named fields else (if is_at CloseParen words (to - 2) then F.Tuple fields else F.Unit)

abbrev pub struct_of : List Word → ℕ → ℕ → StructParts → Value
struct_of words from to s = V.ItemNode (I.Struct (record { name = segment_at words (from + 1); generics = s.generics; fields = struct_fields words to s.fields }))

-- `"struct" Name [ Generics ] ( NamedFields | TupleFields ";" | ";" )`
unfoldable pub struct_made : List Word → ℕ → ℕ → List Part → Value
struct_made words from to parts = struct_of words from to (fold (struct_with words) (record { generics = []; fields = [] }) parts)

-- ---- enums

abbrev pub enum_with_value : Enum → Value → Enum
enum_with_value e (V.Generics generics) = record e { generics = generics }
enum_with_value e (V.Variant variant) = record e { variants = e.variants ++ variant ∷ [] }
enum_with_value e _ = e

-- an enum with one more of its parts
abbrev pub enum_with : List Word → Enum → Part → Enum
enum_with words e part = enum_with_value e part.value

-- `"enum" Name [ Generics ] "{" list(Variant) "}"`
unfoldable pub enum_made : List Word → ℕ → List Part → Value
enum_made words from parts = V.ItemNode (I.Enum (fold (enum_with words) (record { name = segment_at words (from + 1); generics = []; variants = [] }) parts))
