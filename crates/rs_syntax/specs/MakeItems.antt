-- What the lines of items and methods make (Rust Reference, "Items", "Visibility and privacy", "Attributes"; Creusot's `#[logic]` and `#[law]`).
use Rattle.std.specs.Prelude.{ℕ, ◌-◌, if◌then◌else◌, List, [], ◌∷◌, ◌++◌, fold}
use Rattle.source_grammar.specs.Terminals.{OpenBracket, KwPub, KwCrate, WordLogic, WordLaw}
use Rattle.source_words.specs.declared.word.Word.{Word}
use Rattle.pearlite.specs.declared.part.Value.{Value as Shape}
use Rattle.pearlite.specs.declared.part.Value.TheVariants as S
use Rattle.pearlite.specs.Parts.{is_at, span_from}
use Rattle.source_trees.specs.declared.attribute.AttributeNode.{AttributeNode}
use Rattle.source_trees.specs.declared.attribute.AttributeNode.TheVariants as A
use Rattle.source_trees.specs.declared.item.Body.{Body}
use Rattle.source_trees.specs.declared.item.Body.TheVariants as B
use Rattle.source_trees.specs.declared.item.ItemNode.{ItemNode}
use Rattle.source_trees.specs.declared.item.ItemNode.TheVariants as I
use Rattle.source_trees.specs.declared.item.Visibility.TheVariants.{Private, Public, Crate}
use Rattle.rs_syntax.specs.declared.make_items.ItemParts.{ItemParts}
use Rattle.rs_syntax.specs.declared.part.Part.{Part}
use Rattle.rs_syntax.specs.declared.part.Value.{Value}
use Rattle.rs_syntax.specs.declared.part.Value.TheVariants as V
use Rattle.rs_syntax.specs.Parts.{attribute_from}

-- ---- the parts of an item

-- One more attribute, whose input stands from the one place to the other: its `#` and `[` stand before it, and its `]` behind.
abbrev pub with_attribute : List Word → ItemParts → ℕ → ℕ → AttributeNode → ItemParts
with_attribute words item from to node = record item { attributes = item.attributes ++ attribute_from words (from - 2) to node ∷ [] }

-- the attributes `logic` and `law`, and `pub` and `pub(crate)`
abbrev pub item_with_token : List Word → ItemParts → ℕ → ℕ → ItemParts
item_with_token words item from to =
    if is_at WordLogic words from then with_attribute words item from to A.Logic
    else (if is_at WordLaw words from then with_attribute words item from to A.Law
    else (if is_at KwPub words from then record item { visibility = Public }
    else (if is_at KwCrate words from then record item { visibility = Crate } else item)))

-- what is passed over stands behind the word of an attribute; a term is the body of a logical function
abbrev pub item_with_shape : List Word → ItemParts → ℕ → ℕ → Shape → ItemParts
item_with_shape words item from to S.Token = item_with_token words item from to
item_with_shape words item from to S.Passed = with_attribute words item (from - 1) to A.Skipped
item_with_shape words item from to (S.Term term) = record item { body = B.Term term }
item_with_shape words item from to _ = item

abbrev pub with_node : ItemParts → ℕ → ItemNode → ItemParts
with_node item from node = record item { own = from; node = node }

abbrev pub item_with_value : List Word → ItemParts → ℕ → ℕ → Value → ItemParts
item_with_value words item from to (V.Attribute node) = with_attribute words item from to node
item_with_value words item from to (V.Shape shape) = item_with_shape words item from to shape
item_with_value words item from to (V.Function function) = with_node item from (I.Function function)
item_with_value words item from to (V.ItemNode node) = with_node item from node
item_with_value words item from to (V.Expr body) = record item { body = B.Block body }
item_with_value words item from to _ = item

-- an item or a method with one more of its parts
abbrev pub item_with : List Word → ItemParts → Part → ItemParts
item_with words item part = item_with_value words item part.from part.to part.value

abbrev pub bare_item : ℕ → ItemParts
bare_item from = record { attributes = []; visibility = Private; own = from; node = I.Use; body = B.Missing }

abbrev pub item_parts : List Word → ℕ → List Part → ItemParts
item_parts words from parts = fold (item_with words) (bare_item from) parts

-- ---- items

-- a function has the body that stands behind it
abbrev pub with_body : Body → ItemNode → ItemNode
with_body body (I.Function function) = I.Function (record function { body = body })
with_body body node = node

-- the `#` of the first item of a source stands before it
abbrev pub item_start : List Word → ℕ → ℕ
item_start words from = if is_at OpenBracket words from then from - 1 else from

abbrev pub item_by : List Word → ℕ → ℕ → ItemParts → Value
item_by words from to i = V.Item (record {
  span = span_from words (item_start words from) to;
  attributes = i.attributes;
  visibility = i.visibility;
  own = span_from words i.own to;
  node = with_body i.body i.node;
})

-- attributes, visibility, and a function with its body or another item
unfoldable pub item_made : List Word → ℕ → ℕ → List Part → Value
item_made words from to parts = item_by words from to (item_parts words from parts)

-- ---- methods

abbrev pub method_by : List Word → ℕ → ℕ → ItemParts → ItemNode → Value
method_by words from to i (I.Function function) = V.Method (record { span = span_from words from to; attributes = i.attributes; visibility = i.visibility; function = function })
method_by words from to i node = V.Shape S.Passed

abbrev pub method_with_body : List Word → ℕ → ℕ → ItemParts → Value
method_with_body words from to i = method_by words from to i (with_body i.body i.node)

-- attributes, visibility, and a function with its body
unfoldable pub method_made : List Word → ℕ → ℕ → List Part → Value
method_made words from to parts = method_with_body words from to (item_parts words from parts)
