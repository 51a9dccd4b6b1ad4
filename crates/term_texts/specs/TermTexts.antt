-- Texts that are whole terms.
use Rattle.std.specs.Prelude.{◌≡◌, ℕ, ◌≤◌, ◌-◌, ◌^◌, ◌++◌, ◌==◌, ◌&&◌, Bool, true, false, List, [], ◌∷◌, length, map, MatchBool, Option, None, Some, slice_get}
use Rattle.text_core.specs.Names.{words}
use Rattle.text_core.specs.declared.name.Name.{Name}
use Rattle.rs_tokens.specs.declared.token.Token.{Token}
use Rattle.rs_tokens.specs.declared.token.TokenKind.{TokenKind}
use Rattle.rs_tokens.specs.Reading.{AreTokens}
use Rattle.grammar_tables.specs.declared.symbol.Symbol.TheVariants.{Nonterminal}
use Rattle.grammar_tables.specs.Trees.{Tree, IsTree, preorder, values}
use Rattle.source_grammar.specs.Faults.{IsSourceDerivation}
use Rattle.source_grammar.specs.SourceGrammar.{source_grammar, term_goal}
use Rattle.source_words.specs.declared.word.Word.{Word}
use Rattle.source_words.specs.Faults.{kinds_in}
use Rattle.source_words.specs.Texts.{text_in}
use Rattle.source_words.specs.Words.{kind_by, bears_name, value_by, suffix_by, identifiers_in}
use Rattle.pearlite.specs.Meaning.{shape_actions}
use Rattle.pearlite.specs.Parts.{first_term}
use Rattle.source_trees.specs.Pterm.{Pterm}

-- the text that a name stands for, in the table that was given these texts beside the words of text_core: as `text_of` of text_core
-- says, but also of tables that are too long for a program
abbrev pub text_at : List (List ℕ) → Name → Option (List ℕ)
text_at table name = slice_get (words ++ table) name.0

-- ---- where tokens stand

abbrev pub begins : Option Token → Bool
begins None = false
begins (Some token) = token.span.start == 0

abbrev pub ends : List ℕ → Option Token → Bool
ends text None = false
ends text (Some token) = token.span.«end» == length text

-- the first token begins where the text does, and the last ends where it ends: no white space and no comment stands around them
abbrev pub fills : List ℕ → List Token → Bool
fills text tokens = begins (slice_get tokens 0) && ends text (slice_get tokens (length tokens - 1))

-- ---- a term

-- the name of an identifier or a lifetime stands for its text
abbrev pub HasNameAt : List (List ℕ) → TokenKind → List ℕ → Name → Type 0
HasNameAt table kind text name = MatchBool (bears_name kind) (text_at table name ≡ Some text) (name ≡ record { 0 = 0 })

-- the word is this token of the text, with a name of the table
pub record IsWordAt (table : List (List ℕ)) (text : List ℕ) (token : Token) (word : Word) : Type 0 where
  pub kind : word.kind ≡ kind_by token.kind (text_in text token.span)
  pub span : word.span ≡ token.span
  pub name : HasNameAt table token.kind (text_in text token.span) word.name
  pub value : word.value ≡ value_by token.kind (text_in text token.span)
  pub suffix : word.suffix ≡ suffix_by token.kind (text_in text token.span)

-- each word is the token at its place
pub data AreWordsAt (table : List (List ℕ)) (text : List ℕ) : List Token → List Word → Type 0 where
  no_word : AreWordsAt table text [] []
  one_word : {token : Token} {word : Word} {tokens : List Token} {words : List Word} → IsWordAt table text token word
      → AreWordsAt table text tokens words → AreWordsAt table text (token ∷ tokens) (word ∷ words)

-- The whole text spells the term, as terms of contracts are spelled, with names of the table. It has at most as many bytes as a source.
pub record SpellsWholeTerm (table : List (List ℕ)) (text : List ℕ) (t : Pterm) : Type 0 where
  pub short : length text ≤ 2 ^ 20
  pub tokens : List Token
  pub are_tokens : AreTokens text tokens
  pub filled : fills text tokens ≡ true
  pub words : List Word
  pub are_words : AreWordsAt table text tokens words
  pub tree : Tree
  pub is_tree : IsTree source_grammar (Nonterminal term_goal) tree
  pub derived : IsSourceDerivation term_goal 0 (kinds_in words) (preorder tree)
  pub made : t ≡ first_term (values (shape_actions words) 0 tree)

-- ---- what every table has in common

-- the kinds in the grammar of the tokens
abbrev pub token_kinds : List ℕ → List Token → List ℕ
token_kinds text tokens = map (λ (token : Token). kind_by token.kind (text_in text token.span)) tokens

-- the whole text spells a term, in a table where its identifiers and lifetimes have names
pub record IsTermText (text : List ℕ) : Type 0 where
  pub short : length text ≤ 2 ^ 20
  pub tokens : List Token
  pub are_tokens : AreTokens text tokens
  pub filled : fills text tokens ≡ true
  pub derivation : List ℕ
  pub derived : IsSourceDerivation term_goal 0 (token_kinds text tokens) derivation

-- these are the identifiers and lifetimes of the text, in order
pub record NamesOfTerm (text : List ℕ) (texts : List (List ℕ)) : Type 0 where
  pub tokens : List Token
  pub are_tokens : AreTokens text tokens
  pub are : texts ≡ identifiers_in text tokens
