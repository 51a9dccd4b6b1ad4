-- One token of the lexer as a word.
use Rattle.std.proofs.Common.{◌≡◌, ℕ, List, Option, Some, None, subst}
use Rattle.text_core.specs.declared.refusal.SourceError.{SourceError}
use Rattle.rs_tokens.specs.declared.token.Token.{Token}
use Rattle.rs_tokens.specs.Reading.{Gives, HasEnded, IsBadToken}
use Rattle.source_words.specs.declared.word.Word.{Word}
use Rattle.source_words.specs.Words.{IsLexeme, AreWords, Keeps, GivesNames}
use Rattle.source_words.specs.Words.{IsBadText}
use Rattle.source_words.proofs.WordLemmas.{lexeme_of}
use Rattle.source_words.proofs.TokenLists.{State, utf8_of, gives_here, bad_here as bad_tokens}
use Rattle.source_words.proofs.WordLists.{HasRead, all_read, names_read, only_read}

module _ (bytes held : List ℕ) (at : ℕ) (refusal : Option SourceError) (same : held ≡ bytes) (state : State bytes refusal) where
  pub lexeme_here : (token : Token) → refusal ≡ None → Gives held at token → IsLexeme bytes token
  lexeme_here token e g = lexeme_of bytes at token (utf8_of bytes refusal state e) (gives_here bytes held at refusal same state token g)

  pub all_here : (first table : List (List ℕ)) (words : List Word) → refusal ≡ None → HasRead first table bytes words at → HasEnded held at → AreWords table bytes words
  all_here first table words e r h = all_read first table bytes words at (utf8_of bytes refusal state e) r (subst (λ (b : List ℕ). HasEnded b at) same h)

  pub names_here : (first table : List (List ℕ)) (words : List Word) → refusal ≡ None → HasRead first table bytes words at → HasEnded held at → GivesNames first bytes table
  names_here first table words e r h = names_read first table bytes words at (utf8_of bytes refusal state e) r (subst (λ (b : List ℕ). HasEnded b at) same h)

  pub only_here : (first table : List (List ℕ)) (words : List Word) → refusal ≡ None → HasRead first table bytes words at → HasEnded held at → (others : List Word) → AreWords table bytes others → others ≡ words
  only_here first table words e r h = only_read first table bytes words at (utf8_of bytes refusal state e) r (subst (λ (b : List ℕ). HasEnded b at) same h)

  pub bad_here : (first table : List (List ℕ)) (words : List Word) (error : SourceError) → ((e : SourceError) → refusal ≡ Some e → error ≡ e) → (refusal ≡ None → IsBadToken held at error) → HasRead first table bytes words at → IsBadText bytes error
  bad_here first table words error again refused r = bad_tokens bytes held at refusal same state r.tokens error again refused r.given

pub keeps_on : (a b c : List (List ℕ)) → Keeps a b → Keeps b c → Keeps a c
keeps_on a b c first then name text h = then name text (first name text h)
