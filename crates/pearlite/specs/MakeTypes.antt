-- What is made of the parts of each line of types and paths (Rust Reference, "Types", "Paths"). A line has the tokens from `from` to before `to`.
use Rattle.std.specs.Prelude.{ℕ, ◌+◌, ◌-◌, ◌&&◌, Bool, true, false, not, nat_lt, if◌then◌else◌, List, [], ◌∷◌, ◌++◌, Option, None, Some, unwrap_or}
use Rattle.text_core.specs.declared.span.Span.{Span}
use Rattle.grammar_tables.specs.Trees.{option_list}
use Rattle.source_grammar.specs.Terminals.{Greater, KwMut, Less, Lifetime, WordViewTy}
use Rattle.source_words.specs.declared.word.Word.{Word}
use Rattle.pearlite.specs.declared.part.Part.{Part}
use Rattle.pearlite.specs.declared.part.Value.{Value}
use Rattle.pearlite.specs.declared.part.Value.TheVariants as V
use Rattle.source_trees.specs.declared.path.PathNode.{PathNode}
use Rattle.source_trees.specs.declared.path.PathNode.TheVariants as N
use Rattle.source_trees.specs.declared.path.Segment.{Segment}
use Rattle.pearlite.specs.Parts.{is_at, segment_at, span_from, first, others, second, alone, as_type, all_of, first_type, names_in}
use Rattle.source_trees.specs.declared.types.TypeArgument.{TypeArgument}
use Rattle.source_trees.specs.declared.types.TypeArgument.TheVariants as A
use Rattle.source_trees.specs.TypeTree as Ty
use Rattle.source_trees.specs.TypeTree.{TypeTree}
use Rattle.source_trees.specs.TypeTreeView.{types_of, type_arguments_of}

-- `lifetime | AnyType`
unfoldable pub type_argument_by : List Word → ℕ → Value → Option TypeArgument
type_argument_by words from V.Token = if is_at Lifetime words from then Some (A.Lifetime (segment_at words from)) else None
type_argument_by words from (V.Type ty) = Some (A.Type ty)
type_argument_by words from value = None

-- `list(TypeArgument)`, in order
unfoldable pub type_arguments_in : List Word → List Part → List TypeArgument
type_arguments_in words [] = []
type_arguments_in words (part ∷ parts) = option_list (type_argument_by words part.from part.value) ++ type_arguments_in words parts

-- `TypeName [ TypeArguments ]`
unfoldable pub named_type_made : List Word → ℕ → ℕ → List Part → Value
named_type_made words from to parts = V.Type (Ty.named (span_from words from to) (segment_at words from) (type_arguments_of (type_arguments_in words (others parts))))

-- a lifetime, where one stands there
abbrev pub lifetime_at : List Word → ℕ → Option Segment
lifetime_at words place = if is_at Lifetime words place then Some (segment_at words place) else None

-- the parts behind the lifetime, where one stands first
abbrev pub behind_lifetime : List Word → List Part → List Part
behind_lifetime words parts = if is_at Lifetime words (first parts).from then others parts else parts

-- `"&" [ lifetime ] [ "mut" ] AnyType`: the lifetime, and what stands behind it
unfoldable pub reference_by : List Word → Span → Option Segment → List Part → TypeTree
reference_by words span lifetime parts = Ty.reference span lifetime (is_at KwMut words (first parts).from) (first_type parts)

unfoldable pub reference_type_made : List Word → ℕ → ℕ → List Part → Value
reference_type_made words from to parts = V.Type (reference_by words (span_from words from to) (lifetime_at words (second parts).from) (behind_lifetime words (others parts)))

-- `"(" list(AnyType) ")"`: one type without a comma is itself, and else a tuple
unfoldable pub tuple_type_made : List Word → ℕ → ℕ → List Part → Value
tuple_type_made words from to parts = unwrap_or (alone parts) (V.Type (Ty.tuple (span_from words from to) (types_of (all_of as_type parts))))

-- `"Self" [ "::" "ViewTy" ]`
unfoldable pub self_type_made : List Word → ℕ → ℕ → Value
self_type_made words from to = V.Type (if is_at WordViewTy words (to - 1) then Ty.self_view (span_from words from to) else Ty.self_type (span_from words from to))

-- types stand right behind the first name of a path, and a name behind them
abbrev pub is_member : List Word → ℕ → ℕ → Bool
is_member words from to = nat_lt (from + 2) to && is_at Less words (from + 2) && not (is_at Greater words (to - 1))

unfoldable pub path_node : Bool → Segment → List Segment → List TypeTree → Segment → PathNode
path_node true name names types member = N.Member name types member
path_node false name names types member = N.Names name names types

-- `Name PathRest`: the name, those behind it, and types
unfoldable pub named_path_made : List Word → ℕ → ℕ → List Part → Value
named_path_made words from to parts = V.Path (record {
  span = span_from words from to;
  node = path_node (is_member words from to) (segment_at words from) (names_in words (others parts)) (all_of as_type (others parts)) (segment_at words (to - 1));
})

-- `"<" AnyType "as" BoundName ">" "::" Name`
unfoldable pub qualified_path_made : List Word → ℕ → ℕ → List Part → Value
qualified_path_made words from to parts = V.Path (record { span = span_from words from to; node = N.Qualified (first_type parts) (segment_at words (to - 4)) (segment_at words (to - 1)) })
