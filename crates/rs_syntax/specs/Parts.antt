-- What stands among the parts of a line, by families, and what each part of a block or of a `match` is there.
use Rattle.std.specs.Prelude.{ℕ, ◌-◌, false, if◌then◌else◌, List, [], ◌∷◌, ◌++◌, get_or}
use Rattle.text_core.specs.declared.span.Span.{Span}
use Rattle.source_grammar.specs.Terminals.{Semicolon, WordLogic, WordLaw}
use Rattle.source_words.specs.declared.word.Word.{Word}
use Rattle.pearlite.specs.declared.part.Value.TheVariants as S
use Rattle.pearlite.specs.Parts.{nowhere, word_at, is_at, span_from}
use Rattle.source_trees.specs.Pat.{Pat, any}
use Rattle.source_trees.specs.declared.attribute.Attribute.{Attribute}
use Rattle.source_trees.specs.declared.attribute.AttributeNode.{AttributeNode}
use Rattle.source_trees.specs.declared.attribute.AttributeNode.TheVariants as A
use Rattle.rs_syntax.specs.declared.element.Element.{Element}
use Rattle.rs_syntax.specs.declared.element.Element.TheVariants as L
use Rattle.rs_syntax.specs.declared.found.Found.{Found}
use Rattle.rs_syntax.specs.declared.part.Part.{Part}
use Rattle.rs_syntax.specs.declared.part.Value.{Value}
use Rattle.rs_syntax.specs.declared.part.Value.TheVariants as V
use Rattle.source_trees.specs.Expr.{Expr, truth}

-- ---- families

abbrev pub none_found : Found
none_found = record { exprs = []; types = []; params = []; fields = []; arguments = []; patterns = []; paths = []; terms = [] }

abbrev pub joined : Found → Found → Found
joined a b = record {
  exprs = a.exprs ++ b.exprs;
  types = a.types ++ b.types;
  params = a.params ++ b.params;
  fields = a.fields ++ b.fields;
  arguments = a.arguments ++ b.arguments;
  patterns = a.patterns ++ b.patterns;
  paths = a.paths ++ b.paths;
  terms = a.terms ++ b.terms;
}

-- a condition that is a `let` is a pattern and an expression
unfoldable pub found_of : Value → Found
found_of (V.Expr expr) = record none_found { exprs = expr ∷ [] }
found_of (V.Condition pattern expr) = record none_found { patterns = pattern ∷ []; exprs = expr ∷ [] }
found_of (V.Shape (S.Type ty)) = record none_found { types = ty ∷ [] }
found_of (V.Shape (S.Pattern pattern)) = record none_found { patterns = pattern ∷ [] }
found_of (V.Shape (S.Path path)) = record none_found { paths = path ∷ [] }
found_of (V.Shape (S.Term term)) = record none_found { terms = term ∷ [] }
found_of (V.Param param) = record none_found { params = param ∷ [] }
found_of (V.FieldExpr field) = record none_found { fields = field ∷ [] }
found_of (V.Arguments exprs) = record none_found { arguments = exprs ∷ [] }
found_of value = none_found

-- all that stands among the parts, each family in order
unfoldable pub found_in : List Part → Found
found_in [] = none_found
found_in (part ∷ parts) = joined (found_of part.value) (found_in parts)

-- where none stands, `false` at the start of the source
abbrev pub expr_at : List Expr → ℕ → Expr
expr_at exprs place = get_or exprs place (truth nowhere false)

abbrev pub pattern_at : List Pat → ℕ → Pat
pattern_at patterns place = get_or patterns place (any nowhere)

-- ---- parts of blocks and of `match`

-- an attribute between these tokens, both included
abbrev pub attribute_from : List Word → ℕ → ℕ → AttributeNode → Attribute
attribute_from words first last node = record { span = record { start = (word_at words first).span.start; end = (word_at words last).span.end }; node = node }

-- An attribute reaches from its `#`, which with a `[` stands before what it says, to the `]` behind that. Of those that are passed over, a word stands before the other tokens.
unfoldable pub element_of_token : List Word → ℕ → ℕ → Element
element_of_token words from to =
    if is_at Semicolon words from then L.Semicolon
    else (if is_at WordLogic words from then L.Attribute (attribute_from words (from - 2) to A.Logic)
    else (if is_at WordLaw words from then L.Attribute (attribute_from words (from - 2) to A.Law) else L.Other))

unfoldable pub element_by : List Word → ℕ → ℕ → Value → Element
element_by words from to (V.Stmt stmt) = L.Stmt stmt
element_by words from to (V.BlocklikeStatement expr closed) = L.Blocklike expr closed
element_by words from to (V.Expr expr) = L.Expr expr
element_by words from to (V.Attribute node) = L.Attribute (attribute_from words (from - 2) to node)
element_by words from to (V.Shape (S.Pattern pattern)) = L.Pattern pattern
element_by words from to (V.Shape S.Passed) = L.Attribute (attribute_from words (from - 3) to A.Skipped)
element_by words from to (V.Shape S.Token) = element_of_token words from to
element_by words from to value = L.Other

abbrev pub element_of : List Word → Part → Element
element_of words part = element_by words part.from part.to part.value

abbrev pub part_span : List Word → Part → Span
part_span words part = span_from words part.from part.to
