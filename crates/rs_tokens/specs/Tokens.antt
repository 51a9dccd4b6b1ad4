-- What a token is, by its text.
use Rattle.std.specs.Prelude.{◌≡◌, ◌≢◌, ℕ, ◌+◌, ◌-◌, ◌^◌, ◌≤◌, Bool, true, false, ◌==◌, nat_lt, nat_le, ◌||◌, ◌&&◌, not, if◌then◌else◌}
use Rattle.std.specs.Prelude.{List, [], ◌∷◌, ◌++◌, length, take, drop, codes, filter, take_while, encode_utf8_all, Option, None, Some, unwrap_or, IsTrue}
use Rattle.std.specs.Char.{digit_value}
use Rattle.std.specs.List.{list_all, list_any}
use Rattle.std.specs.Str.{bytes_eq, chars, is_utf8}
use Rattle.std.specs.Str.Parse.{digits_value}
use Rattle.unicode_ident.specs.Ident.{is_xid_start, is_xid_continue}
use Rattle.rs_tokens.specs.declared.token.TokenKind.{TokenKind}
use Rattle.rs_tokens.specs.declared.token.TokenKind.TheVariants.{Ident, Lifetime, Int, Str, KwStatic}
use Rattle.rs_tokens.specs.Tables.{reserved, marks, kind_in}

-- ---- fronts

-- the front of the text is of this form, and no longer front is
pub record HasLongest (Form : List ℕ → Type 0) (text : List ℕ) (len : ℕ) : Type 0 where
  pub within : len ≤ length text
  pub form : Form (take len text)
  pub longest : (front back : List ℕ) → front ++ back ≡ text → Form front → length front ≤ len

-- no front of the text is of this form
abbrev pub HasNone : (List ℕ → Type 0) → List ℕ → Type 0
HasNone Form text = (front back : List ℕ) → front ++ back ≡ text → Form front → ⊥

-- ---- words (Rust Reference, "Identifiers" and "Keywords")

-- XID_Start or `_`
abbrev pub begins_word : ℕ → Bool
begins_word c = is_xid_start c || (c == 95)

-- a character that may begin a word, and then characters that may continue one: an identifier, a keyword or `_`
pub record IsWord (text : List ℕ) : Type 0 where
  pub first : ℕ
  pub others : List ℕ
  pub spells : encode_utf8_all (first ∷ others) ≡ text
  pub begins : IsTrue (begins_word first)
  pub continues : IsTrue (list_all is_xid_continue others)

-- a word that is not `_` and no strict keyword is an identifier
abbrev pub word_kind : List ℕ → TokenKind
word_kind text = unwrap_or (kind_in reserved text) Ident

-- ---- integers (Rust Reference, "Integer literal expressions")

abbrev pub is_digit : ℕ → ℕ → Bool
is_digit base b = nat_lt (digit_value b) base

-- a digit or `_`
abbrev pub continues_digits : ℕ → ℕ → Bool
continues_digits base b = is_digit base b || (b == 95)

-- `x` for sixteen, `o` for eight, `b` for two
abbrev pub base_named : ℕ → ℕ
base_named b = if b == 120 then 16 else if b == 111 then 8 else if b == 98 then 2 else 10

-- the base of the integer that this text is: `0` and a letter name it, and else it is ten
abbrev pub base_of : List ℕ → ℕ
base_of [] = 10
base_of (a ∷ []) = 10
base_of (a ∷ b ∷ rest) = if a == 48 then base_named b else 10

-- what follows the name of the base
abbrev pub after_base : List ℕ → List ℕ
after_base text = if base_of text == 10 then text else drop 2 text

-- no suffix, or an integer type
abbrev pub suffixes : List (List ℕ)
suffixes =
    [] ∷ codes "i8" ∷ codes "i16" ∷ codes "i32" ∷ codes "i64" ∷ codes "isize"
    ∷ codes "u8" ∷ codes "u16" ∷ codes "u32" ∷ codes "u64" ∷ codes "usize" ∷ []

abbrev pub is_suffix : List ℕ → Bool
is_suffix text = list_any (λ suffix. bytes_eq text suffix) suffixes

-- a digit of the base, then digits and `_`, then a suffix or none
pub record IsInteger (text : List ℕ) : Type 0 where
  pub first : ℕ
  pub others : List ℕ
  pub suffix : List ℕ
  pub parts : after_base text ≡ first ∷ (others ++ suffix)
  pub digit : IsTrue (is_digit (base_of text) first)
  pub digits : IsTrue (list_all (continues_digits (base_of text)) others)
  pub ends : IsTrue (is_suffix suffix)

-- the base of the longest integer at the front of a text: it is named there with a digit behind, and else it is ten
abbrev pub base_at : List ℕ → ℕ
base_at [] = 10
base_at (a ∷ []) = 10
base_at (a ∷ b ∷ []) = 10
base_at (a ∷ b ∷ d ∷ rest) = if (a == 48) && is_digit (base_named b) d then base_named b else 10

-- the digits of an integer, without `_`
abbrev pub digits_of : List ℕ → List ℕ
digits_of text = filter (λ b. not (b == 95)) (take_while (continues_digits (base_of text)) (after_base text))

-- the number that an integer stands for
abbrev pub integer_value : List ℕ → ℕ
integer_value text = digits_value (base_of text) (digits_of text)

-- ---- strings (Rust Reference, "String literals")

-- Behind the opening `"`, the text runs to the closing one, and the rest follows it: a `\` stands before any character. That is said by bytes,
-- since in UTF-8 no byte of another character is `"` or `\`.
pub data StringEnds : List ℕ → List ℕ → Type 0 where
  quote : {text rest : List ℕ} → text ≡ 34 ∷ rest → StringEnds text rest
  escape : {text rest more : List ℕ} {b : ℕ} → text ≡ 92 ∷ (b ∷ more) → StringEnds more rest → StringEnds text rest
  plain : {text rest more : List ℕ} {b : ℕ} → text ≡ b ∷ more → b ≢ 34 → b ≢ 92 → StringEnds more rest → StringEnds text rest

pub record IsString (text : List ℕ) : Type 0 where
  pub inside : List ℕ
  pub opens : text ≡ 34 ∷ inside
  pub closes : StringEnds inside []

-- ---- lifetimes (Rust Reference, "Lifetimes and loop labels")

-- `'` and a word
pub record IsQuotedWord (text : List ℕ) : Type 0 where
  pub word : List ℕ
  pub opens : text ≡ 39 ∷ word
  pub is_word : IsWord word

-- ---- tokens

-- The text has the form of a token of the kind, whatever its length or value.
pub data IsToken : TokenKind → List ℕ → Type 0 where
  word : {kind : TokenKind} {text : List ℕ} → IsWord text → kind ≡ word_kind text → IsToken kind text
  integer : {kind : TokenKind} {text : List ℕ} → IsInteger text → kind ≡ Int → IsToken kind text
  string : {kind : TokenKind} {text : List ℕ} → IsString text → kind ≡ Str → IsToken kind text
  lifetime : {kind : TokenKind} {text : List ℕ} → IsQuotedWord text → kind ≡ Lifetime → IsToken kind text
  mark : {kind : TokenKind} {text : List ℕ} → kind_in marks text ≡ Some kind → IsToken kind text

-- the front of the text is a token, and no longer front is one
pub record IsLongestToken (kind : TokenKind) (text : List ℕ) (len : ℕ) : Type 0 where
  pub within : len ≤ length text
  pub token : IsToken kind (take len text)
  pub longest : (other : TokenKind) (front back : List ℕ) → front ++ back ≡ text → IsToken other front → length front ≤ len

-- no front of the text is a token
abbrev pub HasNoToken : List ℕ → Type 0
HasNoToken text = (kind : TokenKind) (front back : List ℕ) → front ++ back ≡ text → IsToken kind front → ⊥

-- ---- bounds

-- the most bytes of an identifier
abbrev pub longest_identifier : ℕ
longest_identifier = 255

-- the largest integer
abbrev pub largest_integer : ℕ
largest_integer = 2 ^ 127 - 1

-- no lifetime is named by `_` alone or by a keyword but `static`
abbrev pub names_lifetime : TokenKind → Bool
names_lifetime Ident = true
names_lifetime KwStatic = true
names_lifetime _ = false

abbrev pub bounded : ℕ → ℕ → ℕ → Option ℕ
bounded measure bound len = if nat_lt bound measure then Some len else None

-- how many bytes of a token are refused, if any: the whole of one past its bound, and the `'` before a word that names no lifetime
abbrev pub refused_of : TokenKind → List ℕ → Option ℕ
refused_of Ident text = bounded (length text) longest_identifier (length text)
refused_of Lifetime text = if names_lifetime (word_kind (drop 1 text)) then bounded (length text) (1 + longest_identifier) (length text) else Some 1
refused_of Int text = bounded (integer_value text) largest_integer (length text)
refused_of _ text = None

-- ---- identifiers (Rust Reference, "Identifiers")

-- the first character may begin a word, and the others may continue one
abbrev pub spell_word : List ℕ → Bool
spell_word [] = false
spell_word (first ∷ others) = begins_word first && list_all is_xid_continue others

-- `IsWord` as a test: the text is the UTF-8 of its characters, and they spell a word
unfoldable pub is_word : List ℕ → Bool
is_word text = is_utf8 text && spell_word (chars text)

abbrev pub is_ident : TokenKind → Bool
is_ident Ident = true
is_ident _ = false

-- the whole text is an identifier: a word, not past its bound, that is not `_` and no strict keyword
unfoldable pub is_identifier : List ℕ → Bool
is_identifier text = is_word text && nat_le (length text) longest_identifier && is_ident (word_kind text)
