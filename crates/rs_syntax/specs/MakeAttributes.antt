-- What the lines of attributes make (Rust Reference, "Attributes"; Creusot, "Contracts").
use Rattle.std.specs.Prelude.{ℕ, ◌||◌, Bool, if◌then◌else◌, List, [], ◌∷◌, ◌++◌, fold, drop}
use Rattle.source_grammar.specs.Terminals.{OpenParen, CloseParen, Comma, WordRequires, WordEnsures, WordInvariant}
use Rattle.source_words.specs.declared.word.Word.{Word}
use Rattle.source_trees.specs.declared.path.Segment.{Segment}
use Rattle.pearlite.specs.Parts.{is_at, segment_at}
use Rattle.source_trees.specs.declared.attribute.AttributeNode.TheVariants as A
use Rattle.source_trees.specs.declared.attribute.ClauseKind.{ClauseKind}
use Rattle.source_trees.specs.declared.attribute.ClauseKind.TheVariants.{Requires, Ensures, Invariant, Variant}
use Rattle.rs_syntax.specs.declared.part.Part.{Part}
use Rattle.rs_syntax.specs.declared.part.Value.{Value}
use Rattle.rs_syntax.specs.declared.part.Value.TheVariants as V
use Rattle.rs_syntax.specs.Gathered.{first_of, made_of, term_of}

-- the kind of a clause, by its word
abbrev pub clause_of : List Word → ℕ → ClauseKind
clause_of words place = if is_at WordRequires words place then Requires else (if is_at WordEnsures words place then Ensures else (if is_at WordInvariant words place then Invariant else Variant))

-- `ClauseWord "(" WholeTerm ")"`
unfoldable pub clause_made : List Word → ℕ → List Part → Value
clause_made words from parts = made_of (first_of term_of parts) (λ term. V.Attribute (A.Clause (clause_of words from) term))

-- what stands around names
abbrev pub is_separator : List Word → ℕ → Bool
is_separator words place = is_at OpenParen words place || (is_at Comma words place || is_at CloseParen words place)

abbrev pub with_name : List Word → List Segment → Part → List Segment
with_name words names part = if is_separator words part.from then names else names ++ segment_at words part.from ∷ []

-- `"derive" "(" list(Name) ")"`: the names behind `derive`
unfoldable pub derive_made : List Word → List Part → Value
derive_made words parts = V.Attribute (A.Derive (fold (with_name words) [] (drop 1 parts)))
