-- The tokens of a whole text, and where it is refused.
use Rattle.std.specs.Prelude.{◌≡◌, ◌≢◌, ℕ, ◌+◌, ◌≤◌, true, false, List, [], ◌∷◌, ◌++◌, length, take, drop, encode_utf8, Option, None, Some}
use Rattle.std.specs.Str.{IsUtf8, IsValidUpTo}
use Rattle.text_core.specs.declared.span.Span.{Span}
use Rattle.text_core.specs.declared.refusal.SourceError.{SourceError}
use Rattle.text_core.specs.declared.refusal.Code.TheVariants.{E01, E02}
use Rattle.rs_tokens.specs.declared.token.Token.{Token}
use Rattle.rs_tokens.specs.declared.token.TokenKind.{TokenKind}
use Rattle.rs_tokens.specs.Tokens.{IsLongestToken, HasNoToken, refused_of}
use Rattle.rs_tokens.specs.Blanks.{opens_comment, Settles}

-- The text, which begins with no blank, is refused, and so many bytes of it are shown.
pub data IsRefused : List ℕ → ℕ → Type 0 where
  -- a comment that is not closed, to the end of the text
  comment : {text : List ℕ} {len : ℕ} → opens_comment text ≡ true → len ≡ length text → IsRefused text len
  -- a string that is not closed, to the end of the text
  string : {text : List ℕ} {len : ℕ} (more : List ℕ) → text ≡ 34 ∷ more → HasNoToken text → len ≡ length text → IsRefused text len
  -- a character that begins no token
  character : {text : List ℕ} {len : ℕ} (c : ℕ) (more : List ℕ) → opens_comment text ≡ false → text ≡ encode_utf8 c ++ more → c ≢ 34 → HasNoToken text
      → len ≡ length (encode_utf8 c) → IsRefused text len
  -- a token past its bound
  token : {text : List ℕ} {kind : TokenKind} {size len : ℕ} → opens_comment text ≡ false → IsLongestToken kind text size
      → refused_of kind (take size text) ≡ Some len → IsRefused text len

-- From the offset on the next token is this one: the longest that stands behind all blanks, where no open comment does, and within its bound.
pub record Gives (bytes : List ℕ) (at : ℕ) (token : Token) : Type 0 where
  pub len : ℕ
  pub ends : token.span.end ≡ token.span.start + len
  pub within : token.span.end ≤ length bytes
  pub settles : Settles (drop at bytes) (drop token.span.start bytes)
  pub no_comment : opens_comment (drop token.span.start bytes) ≡ false
  pub stands : IsLongestToken token.kind (drop token.span.start bytes) len
  pub admitted : refused_of token.kind (take len (drop token.span.start bytes)) ≡ None

-- From the offset on the text is refused behind all blanks.
pub record Refuses (bytes : List ℕ) (at : ℕ) (span : Span) : Type 0 where
  pub len : ℕ
  pub ends : span.end ≡ span.start + len
  pub within : span.start ≤ length bytes
  pub settles : Settles (drop at bytes) (drop span.start bytes)
  pub refused : IsRefused (drop span.start bytes) len

-- From the offset on there are only blanks.
abbrev pub HasEnded : List ℕ → ℕ → Type 0
HasEnded bytes at = Settles (drop at bytes) []

-- From the offset on there are these tokens, and then the end, or the place where the text is refused.
pub data HasTokens (bytes : List ℕ) : ℕ → List Token → Option Span → Type 0 where
  ended : {at : ℕ} → HasEnded bytes at → HasTokens bytes at [] None
  refused : {at : ℕ} {span : Span} → Refuses bytes at span → HasTokens bytes at [] (Some span)
  token : {at : ℕ} {first : Token} {others : List Token} {end : Option Span} → Gives bytes at first → HasTokens bytes first.span.end others end
      → HasTokens bytes at (first ∷ others) end

-- A lexer that began at the start of the bytes has given these tokens, and stands behind the last of them.
pub data HasGiven (bytes : List ℕ) : List Token → ℕ → Type 0 where
  nothing : HasGiven bytes [] 0
  one_more : {given : List Token} {at : ℕ} {next : Token} → HasGiven bytes given at → Gives bytes at next → HasGiven bytes (given ++ next ∷ []) next.span.end

-- the bytes are the tokens, with blanks between
pub record AreTokens (bytes : List ℕ) (tokens : List Token) : Type 0 where
  pub text : IsUtf8 bytes
  pub tokens_of : HasTokens bytes 0 tokens None

-- ---- the lexer

-- the refusal of bytes that are no text: at the first sequence of bytes that spells no character
pub record IsNoText (bytes : List ℕ) (error : SourceError) : Type 0 where
  pub no_text : ¬ (IsUtf8 bytes)
  pub valid_up_to : IsValidUpTo bytes error.span.start
  pub is : error ≡ record { code = E01; span = record { start = error.span.start; end = error.span.start }; other = None }

-- the refusal where no token stands
pub record IsBadToken (bytes : List ℕ) (at : ℕ) (error : SourceError) : Type 0 where
  pub refuses : Refuses bytes at error.span
  pub is : error ≡ record { code = E02; span = error.span; other = None }
