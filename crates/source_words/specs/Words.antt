-- The words of a source: its tokens, with the kinds of the grammar, names and numbers.
use Rattle.std.specs.Prelude.{◌≡◌, ℕ, ◌≤◌, ℤ, pos, Bool, true, false, List, [], ◌∷◌, codes, length, drop, ◌⊎◌, Option, None, Some, unwrap_or, MatchBool, if◌then◌else◌}
use Rattle.std.specs.List.{prefix_len}
use Rattle.std.specs.Str.{IsUtf8, bytes_eq}
use Rattle.text_core.specs.declared.name.Name.{Name}
use Rattle.text_core.specs.declared.refusal.SourceError.{SourceError}
use Rattle.text_core.specs.declared.refusal.Code.TheVariants.{E02}
use Rattle.text_core.specs.declared.fault.PassError.{PassError}
use Rattle.text_core.specs.declared.fault.PassError.TheVariants.{Source, Limit, NoMemory}
use Rattle.text_core.specs.Names.{text_of}
use Rattle.name_tables.specs.NameTables.{with_names}
use Rattle.source_kinds.specs.declared.kinds.IntKind.{IntKind}
use Rattle.source_kinds.specs.declared.kinds.IntKind.TheVariants as I
use Rattle.rs_tokens.specs.declared.token.Token.{Token}
use Rattle.rs_tokens.specs.declared.token.TokenKind.{TokenKind}
use Rattle.rs_tokens.specs.declared.token.TokenKind.TheVariants as T
use Rattle.rs_tokens.specs.Tokens.{base_of, after_base, continues_digits, integer_value, largest_integer}
use Rattle.rs_tokens.specs.Reading.{AreTokens, HasTokens, IsNoText}
use Rattle.source_grammar.specs.Classes.{kind_of}
use Rattle.source_grammar.specs.Terminals.{Identifier, Lifetime, StaticLifetime}
use Rattle.source_words.specs.QuotedWords.{quoted}
use Rattle.source_words.specs.Texts.{text_in, found_in}
use Rattle.source_words.specs.TokenKinds.{plain_kind}
use Rattle.source_words.specs.declared.word.Word.{Word}

-- ---- kinds

-- the types at the end of integers
unfoldable pub int_kinds : List (List ℕ × IntKind)
int_kinds =
    (codes "i8", I.I8)
    ∷ (codes "i16", I.I16)
    ∷ (codes "i32", I.I32)
    ∷ (codes "i64", I.I64)
    ∷ (codes "isize", I.Isize)
    ∷ (codes "u8", I.U8)
    ∷ (codes "u16", I.U16)
    ∷ (codes "u32", I.U32)
    ∷ (codes "u64", I.U64)
    ∷ (codes "usize", I.Usize)
    ∷ []

-- the kind of an identifier: that of the quoted word that it is, if any
abbrev pub identifier_kind : List ℕ → ℕ
identifier_kind text = unwrap_or (found_in quoted text) (kind_of Identifier)

unfoldable pub static_text : List ℕ
static_text = codes "'static"

abbrev pub lifetime_kind : List ℕ → ℕ
lifetime_kind text = if bytes_eq text static_text then kind_of StaticLifetime else kind_of Lifetime

-- the kind in the grammar of a token of this kind and text
unfoldable pub kind_by : TokenKind → List ℕ → ℕ
kind_by T.Ident text = identifier_kind text
kind_by T.Lifetime text = lifetime_kind text
kind_by kind text = plain_kind kind

-- ---- one word

-- identifiers and lifetimes have names
unfoldable pub bears_name : TokenKind → Bool
bears_name T.Ident = true
bears_name T.Lifetime = true
bears_name _ = false

-- the name of such a token stands for its text
abbrev pub HasName : List (List ℕ) → TokenKind → List ℕ → Name → Type 0
HasName table kind text name = MatchBool (bears_name kind) (text_of table name ≡ Some text) (name ≡ record { 0 = 0 })

abbrev pub value_by : TokenKind → List ℕ → ℤ
value_by T.Int text = pos (integer_value text)
value_by _ text = pos 0

-- the type at the end of an integer: what follows its digits
abbrev pub suffix_of : List ℕ → Option IntKind
suffix_of text = found_in int_kinds (drop (prefix_len (continues_digits (base_of text)) (after_base text)) (after_base text))

abbrev pub suffix_by : TokenKind → List ℕ → Option IntKind
suffix_by T.Int text = suffix_of text
suffix_by _ text = None

-- the word is this token of the bytes, with a name of the table
pub record IsWordOf (table : List (List ℕ)) (bytes : List ℕ) (token : Token) (word : Word) : Type 0 where
  pub kind : word.kind ≡ kind_by token.kind (text_in bytes token.span)
  pub span : word.span ≡ token.span
  pub name : HasName table token.kind (text_in bytes token.span) word.name
  pub value : word.value ≡ value_by token.kind (text_in bytes token.span)
  pub suffix : word.suffix ≡ suffix_by token.kind (text_in bytes token.span)

-- what is known of a token of the bytes: what has a name is a text, and an integer is within its bound
pub record IsLexeme (bytes : List ℕ) (token : Token) : Type 0 where
  pub ends : token.span.start ≤ token.span.end
  pub inside : token.span.end ≤ length bytes
  pub text : bears_name token.kind ≡ true → IsUtf8 (text_in bytes token.span)
  pub small : token.kind ≡ T.Int → integer_value (text_in bytes token.span) ≤ largest_integer

-- ---- all words

-- each word is the token at its place
pub data AreWordsOf (table : List (List ℕ)) (bytes : List ℕ) : List Token → List Word → Type 0 where
  none : AreWordsOf table bytes [] []
  one_more : {token : Token} {word : Word} {tokens : List Token} {words : List Word} → IsWordOf table bytes token word
      → AreWordsOf table bytes tokens words → AreWordsOf table bytes (token ∷ tokens) (word ∷ words)

-- the bytes are these words, with names of the table
pub record AreWords (table : List (List ℕ)) (bytes : List ℕ) (words : List Word) : Type 0 where
  pub tokens : List Token
  pub are_tokens : AreTokens bytes tokens
  pub are_words : AreWordsOf table bytes tokens words

-- ---- names

-- the text goes before the others where such a token has a name
abbrev pub with_identifier : TokenKind → List ℕ → List (List ℕ) → List (List ℕ)
with_identifier kind text texts = if bears_name kind then text ∷ texts else texts

-- the identifiers and lifetimes among the tokens, in order
abbrev pub identifiers_in : List ℕ → List Token → List (List ℕ)
identifiers_in bytes [] = []
identifiers_in bytes (token ∷ tokens) = with_identifier token.kind (text_in bytes token.span) (identifiers_in bytes tokens)

-- the new table has the names of the old one, and of the identifiers and lifetimes in the bytes, in order of first use
pub record GivesNames (old : List (List ℕ)) (bytes : List ℕ) (new : List (List ℕ)) : Type 0 where
  pub tokens : List Token
  pub are_tokens : AreTokens bytes tokens
  pub is : new ≡ with_names old (identifiers_in bytes tokens)

-- each name that stood for a text still stands for it
abbrev pub Keeps : List (List ℕ) → List (List ℕ) → Type 0
Keeps old new = (name : Name) (text : List ℕ) → text_of old name ≡ Some text → text_of new name ≡ Some text

-- a name was given only to a text that had none
abbrev pub NamesOnlyNew : List (List ℕ) → List (List ℕ) → Type 0
NamesOnlyNew old new = (name : Name) (text : List ℕ) → text_of new name ≡ Some text → (text_of old name ≡ Some text) ⊎ ((other : Name) → text_of old other ≡ Some text → ⊥)

-- ---- refusals

-- the bytes are no text, or a part of them is no token
pub data IsBadText (bytes : List ℕ) (error : SourceError) : Type 0 where
  no_text : IsNoText bytes error → IsBadText bytes error
  bad_token : (tokens : List Token) → IsUtf8 bytes → HasTokens bytes 0 tokens (Some error.span)
      → error ≡ record { code = E02; span = error.span; other = None } → IsBadText bytes error

-- a refusal of the bytes as words
abbrev pub IsWordError : List ℕ → PassError → Type 0
IsWordError bytes (Source error) = IsBadText bytes error
IsWordError bytes (Limit limit) = ⊥
IsWordError bytes NoMemory = Unit {0}
