-- The tokens of the lexer as a list.
use Rattle.std.proofs.Common.{◌≡◌, ℕ, List, [], ◌∷◌, ◌++◌, Option, Some, None, Result, Err, refl, sym, subst, MatchOption}
use Rattle.std.specs.Prelude.{IfSome}
use Rattle.std.specs.Str.{IsUtf8}
use Rattle.text_core.specs.declared.refusal.SourceError.{SourceError}
use Rattle.rs_tokens.specs.declared.token.Token.{Token}
use Rattle.rs_tokens.specs.Reading.{Gives, HasGiven, HasEnded, AreTokens, IsNoText, IsBadToken}
use Rattle.rs_tokens.proofs.OneReading.{given_whole, given_refused}
use Rattle.source_words.specs.Words.{IsBadText, no_text, bad_token}

-- ---- the lexer

-- what is known of the lexer before a call
abbrev pub State : List ℕ → Option SourceError → Type 0
State bytes refusal = MatchOption refusal (IsUtf8 bytes) (λ error. IsNoText bytes error)

pub utf8_of : (bytes : List ℕ) (refusal : Option SourceError) → State bytes refusal → refusal ≡ None → IsUtf8 bytes
utf8_of bytes None state e = state
utf8_of bytes (Some error) state e = absurd cc

pub state_of : (bytes : List ℕ) (refusal : Option SourceError) → IsUtf8 bytes → refusal ≡ None → State bytes refusal
state_of bytes refusal utf8 e = subst (λ (r : Option SourceError). State bytes r) (sym e) utf8

bad_text : (bytes : List ℕ) (tokens : List Token) (at : ℕ) (refusal : Option SourceError) (error : SourceError) → State bytes refusal
    → ((e : SourceError) → refusal ≡ Some e → error ≡ e) → (refusal ≡ None → IsBadToken bytes at error) → HasGiven bytes tokens at → IsBadText bytes error
bad_text bytes tokens at (Some e) error state again refused given = no_text (subst (λ (x : SourceError). IsNoText bytes x) (sym (again e refl)) state)
bad_text bytes tokens at None error state again refused given =
    let r = refused refl in bad_token tokens state (given_refused bytes tokens at error.span given r.refuses) r.is

module _ (bytes held : List ℕ) (at : ℕ) (refusal : Option SourceError) (same : held ≡ bytes) (state : State bytes refusal) where
  pub gives_here : (token : Token) → Gives held at token → Gives bytes at token
  gives_here token g = subst (λ (b : List ℕ). Gives b at token) same g

  pub all_here : (tokens : List Token) → refusal ≡ None → HasGiven bytes tokens at → HasEnded held at → AreTokens bytes tokens
  all_here tokens e r h = given_whole bytes tokens at (utf8_of bytes refusal state e) r (subst (λ (b : List ℕ). HasEnded b at) same h)

  pub bad_here : (tokens : List Token) (error : SourceError) → ((e : SourceError) → refusal ≡ Some e → error ≡ e) → (refusal ≡ None → IsBadToken held at error) → HasGiven bytes tokens at → IsBadText bytes error
  bad_here tokens error again refused given = bad_text bytes tokens at refusal error state again (λ e. subst (λ (b : List ℕ). IsBadToken b at error) same (refused e)) given

pub again_of : (refusal : Option SourceError) (error : SourceError) (Q : SourceError → Type 0) → IfSome refusal (λ e. (◌≡◌ {A = Result (Option Token) SourceError} (Err error) (Err e)) × Q e) → (e : SourceError) → refusal ≡ Some e → error ≡ e
again_of None error Q h e is = absurd cc
again_of (Some other) error Q h e is = (let f : other ≡ e = cc in let g : ◌≡◌ {A = Result (Option Token) SourceError} (Err error) (Err other) = h.0 in cc)
