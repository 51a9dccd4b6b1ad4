-- What is made of the parts of each line of patterns (Rust Reference, "Patterns"). A line has the tokens from `from` to before `to`.
use Rattle.std.specs.Prelude.{ℕ, ℤ, pos, neg_ℤ, ◌-◌, if◌then◌else◌, List, [], unwrap_or}
use Rattle.text_core.specs.declared.span.Span.{Span}
use Rattle.source_grammar.specs.Terminals.{CloseBrace, CloseParen, DotDot, KwTrue, Minus}
use Rattle.source_words.specs.declared.word.Word.{Word}
use Rattle.pearlite.specs.declared.part.Part.{Part}
use Rattle.pearlite.specs.declared.part.Value.{Value}
use Rattle.pearlite.specs.declared.part.Value.TheVariants as V
use Rattle.source_trees.specs.declared.path.Path.{Path}
use Rattle.source_trees.specs.declared.path.PathNode.TheVariants.{Names}
use Rattle.source_trees.specs.declared.path.Segment.{Segment}
use Rattle.pearlite.specs.Parts.{word_at, is_at, segment_at, span_from, alone, as_pattern, as_field_pattern, as_path, all_of, first_of, behind, first_path}
use Rattle.source_trees.specs.Pat as P
use Rattle.source_trees.specs.Pat.{Pat}
use Rattle.source_trees.specs.PatView.{pats_of, field_pats_of}

-- `"_"`
unfoldable pub wildcard_made : List Word → ℕ → ℕ → Value
wildcard_made words from to = V.Pattern (P.any (span_from words from to))

-- `"mut" Name`
unfoldable pub mut_pattern_made : List Word → ℕ → ℕ → Value
mut_pattern_made words from to = V.Pattern (P.mutable (span_from words from to) (segment_at words (to - 1)))

-- the opposite of the number of a word, which is not negative
abbrev pub opposite : ℤ → ℤ
opposite (pos n) = neg_ℤ (pos n)
opposite number = number

-- `[ "-" ] integer`
unfoldable pub integer_pattern_made : List Word → ℕ → ℕ → Value
integer_pattern_made words from to = let word = word_at words (to - 1) in
    V.Pattern (P.integer (span_from words from to) (if is_at Minus words from then opposite word.value else word.value) word.suffix)

-- `Truth`
unfoldable pub truth_pattern_made : List Word → ℕ → ℕ → Value
truth_pattern_made words from to = V.Pattern (P.truth (span_from words from to) (is_at KwTrue words from))

-- `"(" list(Pattern) ")"`: one pattern without a comma is itself, and else a tuple
unfoldable pub tuple_pattern_made : List Word → ℕ → ℕ → List Part → Value
tuple_pattern_made words from to parts = unwrap_or (alone parts) (V.Pattern (P.tuple (span_from words from to) (pats_of (all_of as_pattern parts))))

-- `PatternPath [ PatternParts | PatternFields ]`: the path, and what stands behind it
unfoldable pub path_pattern_by : List Word → ℕ → Span → Path → List Part → Pat
path_pattern_by words to span path parts =
    if is_at CloseParen words (to - 1) then P.parts span path (pats_of (all_of as_pattern parts)) else (if is_at CloseBrace words (to - 1) then
    P.fields span path (field_pats_of (all_of as_field_pattern parts)) (is_at DotDot words (to - 2)) else P.path span path)

unfoldable pub path_pattern_made : List Word → ℕ → ℕ → List Part → Value
path_pattern_made words from to parts = V.Pattern (path_pattern_by words to (span_from words from to) (first_path parts) (behind as_path parts))

-- a name alone binds it
abbrev pub bound : Segment → Pat
bound name = P.path name.span (record { span = name.span; node = Names name [] [] })

-- `Name [ ":" Pattern ]`
unfoldable pub field_pattern_made : List Word → ℕ → ℕ → List Part → Value
field_pattern_made words from to parts = V.FieldPattern (record {
  span = span_from words from to;
  name = segment_at words from;
  pattern = unwrap_or (first_of as_pattern parts) (bound (segment_at words from));
})
