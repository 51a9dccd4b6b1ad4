-- The words of given tokens, as far as a loop over them has come.
use Rattle.std.proofs.Common.{◌≡◌, ℕ, ◌+◌, ◌<◌, ◌≤◌, List, [], ◌∷◌, ◌++◌, None, drop, get_or, length, subst, add-one, drop-cons, arith}
use Rattle.std.proofs.lemmas.List.{drop_all}
use Rattle.name_tables.specs.NameTables.{with_names}
use Rattle.rs_tokens.specs.declared.token.Token.{Token}
use Rattle.rs_tokens.specs.Reading.{AreTokens, Gives, HasTokens, HasEnded, ended, token as next_token}
use Rattle.source_words.specs.declared.word.Word.{Word}
use Rattle.source_words.specs.Texts.{text_in}
use Rattle.source_words.specs.Words.{AreWords, GivesNames, IsLexeme, IsWordOf, Keeps, NamesOnlyNew, with_identifier}
use Rattle.source_words.proofs.TokenCounts.{ends_behind}
use Rattle.source_words.proofs.WordLemmas.{lexeme_of}
use Rattle.source_words.proofs.WordLists.{HasRead, read_nothing, read_more, all_read, names_read, only_read}
use Rattle.source_words.proofs.WordSteps.{keeps_on}

-- these words are read of the bytes, and the rest of the tokens stands behind them
pub record HasLeft (first table : List (List ℕ)) (bytes : List ℕ) (words : List Word) (rest : List Token) : Type 0 where
  pub at : ℕ
  pub within : at ≤ length bytes
  pub read : HasRead first table bytes words at
  pub left : HasTokens bytes at rest None
  pub kept : Keeps first table
  pub few : length table ≤ length first + at

pub all_left : (table : List (List ℕ)) (bytes : List ℕ) (tokens : List Token) → AreTokens bytes tokens → HasLeft table table bytes [] tokens
all_left table bytes tokens are = record { at = 0; within = omega arith; read = read_nothing table bytes; left = are.tokens_of; kept = λ name text h. h; few = omega arith }

given : {bytes : List ℕ} {at : ℕ} {token : Token} {rest : List Token} → HasTokens bytes at (token ∷ rest) None → Gives bytes at token
given (next_token g behind) = g

behind : {bytes : List ℕ} {at : ℕ} {token : Token} {rest : List Token} → HasTokens bytes at (token ∷ rest) None → HasTokens bytes token.span.end rest None
behind (next_token g others) = others

end : {bytes : List ℕ} {at : ℕ} → HasTokens bytes at [] None → HasEnded bytes at
end (ended e) = e

-- the next token of the rest
pub next_left : (first table : List (List ℕ)) (bytes : List ℕ) (words : List Word) (tokens : List Token) (i : ℕ) (d : Token) → i < length tokens → HasLeft first table bytes words (drop i tokens)
    → HasLeft first table bytes words (get_or tokens i d ∷ drop (i + 1) tokens)
next_left first table bytes words tokens i d l h =
    let split : drop i tokens ≡ get_or tokens i d ∷ drop (i + 1) tokens = rw add-one (drop-cons tokens i d l) in
    subst (λ (ts : List Token). HasLeft first table bytes words ts) split h

pub no_more : (first table : List (List ℕ)) (bytes : List ℕ) (words : List Word) (tokens : List Token) (i : ℕ) → length tokens ≤ i → HasLeft first table bytes words (drop i tokens) → HasLeft first table bytes words []
no_more first table bytes words tokens i l h = subst (λ (ts : List Token). HasLeft first table bytes words ts) (drop_all i tokens l) h

module _ (first table : List (List ℕ)) (bytes : List ℕ) (words : List Word) (tokens : List Token) (are : AreTokens bytes tokens) where
  pub lexeme_left : (token : Token) (rest : List Token) → HasLeft first table bytes words (token ∷ rest) → IsLexeme bytes token
  lexeme_left token rest h = lexeme_of bytes h.at token are.text (given h.left)

  pub one_less : (new : List (List ℕ)) (word : Word) (token : Token) (rest : List Token) → HasLeft first table bytes words (token ∷ rest) → Keeps table new → NamesOnlyNew table new → length new ≤ length table + 1
      → IsWordOf new bytes token word → ((other : Word) → IsWordOf new bytes token other → other ≡ word) → new ≡ with_names table (with_identifier token.kind (text_in bytes token.span) [])
      → HasLeft first new bytes (words ++ word ∷ []) rest
  one_less new word token rest h keeps fresh few w one grown =
      let g = given h.left in
      let forward = ends_behind bytes h.at token h.within g in
      record {
        at = token.span.end;
        within = g.within;
        read = read_more first table new bytes words h.at token word h.read keeps fresh g w one grown;
        left = behind h.left;
        kept = keeps_on first table new h.kept keeps;
        few = omega (arith, forward, h.few);
      }

  pub grown_left : (new : List (List ℕ)) (token : Token) (rest : List Token) → HasLeft first table bytes words (token ∷ rest) → length new ≤ length table + 1 → length new ≤ length first + length bytes
  grown_left new token rest h few = (let forward = ends_behind bytes h.at token h.within (given h.left) in let g = given h.left in omega (arith, forward, h.few, g.within))

  pub none_left : HasLeft first table bytes words [] → AreWords table bytes words
  none_left h = all_read first table bytes words h.at are.text h.read (end h.left)

  pub names_left : HasLeft first table bytes words [] → GivesNames first bytes table
  names_left h = names_read first table bytes words h.at are.text h.read (end h.left)

  pub only_left : HasLeft first table bytes words [] → (others : List Word) → AreWords table bytes others → others ≡ words
  only_left h = only_read first table bytes words h.at are.text h.read (end h.left)
