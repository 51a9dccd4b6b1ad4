-- Lists of words: one more word, a table that grows, and that there is one list.
use Rattle.std.proofs.Common.{◌≡◌, ℕ, List, [], ◌∷◌, ◌++◌, inl, inr, Option, Some, None, refl, sym, ap, subst, ◌∙◌, MatchOption, MatchBool, Bool, true, false, if◌then◌else◌}
use Rattle.std.specs.Str.{IsUtf8}
use Rattle.text_core.specs.declared.name.Name.{Name}
use Rattle.text_core.specs.declared.refusal.SourceError.{SourceError}
use Rattle.text_core.specs.Names.{words, text_of, HaveOnePlace}
use Rattle.rs_tokens.specs.declared.token.Token.{Token}
use Rattle.rs_tokens.specs.declared.token.TokenKind.{TokenKind}
use Rattle.rs_tokens.specs.Reading.{Gives, HasGiven, nothing as given_nothing, one_more as given_more, HasEnded, IsNoText}
use Rattle.rs_tokens.proofs.OneReading.{one_list, given_whole}
use Rattle.source_words.specs.declared.word.Word.{Word}
use Rattle.source_words.specs.Texts.{text_in}
use Rattle.source_words.specs.Words.{bears_name, HasName, IsWordOf, AreWordsOf, none, one_more, AreWords, Keeps, NamesOnlyNew, with_identifier, identifiers_in, GivesNames}
use Rattle.name_tables.specs.NameTables.{with_names}
use Rattle.name_tables.proofs.Tables.{names_append, one_place_each}
use Rattle.source_words.specs.Words.{IsBadText, no_text, bad_token}
use Rattle.source_words.proofs.WordLemmas.{same_name}

-- ---- one word

pub one_word : (table : List (List ℕ)) (bytes : List ℕ) (token : Token) (word : Word) → IsWordOf table bytes token word
    → ((name : Name) → HasName table token.kind (text_in bytes token.span) name → name ≡ word.name) → (other : Word) → IsWordOf table bytes token other → other ≡ word
one_word table bytes token word w one other o = λ i. record {
  kind = (o.kind ∙ sym w.kind) i;
  span = (o.span ∙ sym w.span) i;
  name = one other.name o.name i;
  value = (o.value ∙ sym w.value) i;
  suffix = (o.suffix ∙ sym w.suffix) i;
}

-- ---- a table that grows

keep_name : (old new : List (List ℕ)) → Keeps old new → (kind : TokenKind) (text : List ℕ) (name : Name) → HasName old kind text name → HasName new kind text name
keep_name old new keeps kind text name h = by (bears_name kind) h
  where
    by : (b : Bool) → MatchBool b (text_of old name ≡ Some text) (name ≡ record { 0 = 0 }) → MatchBool b (text_of new name ≡ Some text) (name ≡ record { 0 = 0 })
    by true k = keeps name text k
    by false k = k

keep_word : (old new : List (List ℕ)) (bytes : List ℕ) → Keeps old new → (token : Token) (word : Word) → IsWordOf old bytes token word → IsWordOf new bytes token word
keep_word old new bytes keeps token word w = record {
  kind = w.kind;
  span = w.span;
  name = keep_name old new keeps token.kind (text_in bytes token.span) word.name w.name;
  value = w.value;
  suffix = w.suffix;
}

pub keep_words : (old new : List (List ℕ)) (bytes : List ℕ) → Keeps old new → (tokens : List Token) (words : List Word) → AreWordsOf old bytes tokens words → AreWordsOf new bytes tokens words
keep_words old new bytes keeps _ _ none = none
keep_words old new bytes keeps _ _ (one_more {token} {word} {tokens} {words} w ws) = one_more (keep_word old new bytes keeps token word w) (keep_words old new bytes keeps tokens words ws)

back_name : (old new : List (List ℕ)) → NamesOnlyNew old new → (kind : TokenKind) (text : List ℕ) (known name : Name) → HasName old kind text known → HasName new kind text name → HasName old kind text name
back_name old new only kind text known name k h = by (bears_name kind) k h
  where
    by : (b : Bool) → MatchBool b (text_of old known ≡ Some text) (known ≡ record { 0 = 0 }) → MatchBool b (text_of new name ≡ Some text) (name ≡ record { 0 = 0 })
        → MatchBool b (text_of old name ≡ Some text) (name ≡ record { 0 = 0 })
    by true k h = elim (only name text h) [ inl p ↦ p | inr f ↦ absurd (f known k) ]
    by false k h = h

back_word : (old new : List (List ℕ)) (bytes : List ℕ) → NamesOnlyNew old new → (token : Token) (known word : Word) → IsWordOf old bytes token known → IsWordOf new bytes token word → IsWordOf old bytes token word
back_word old new bytes only token known word k w = record {
  kind = w.kind;
  span = w.span;
  name = back_name old new only token.kind (text_in bytes token.span) known.name word.name k.name w.name;
  value = w.value;
  suffix = w.suffix;
}

back_words : (old new : List (List ℕ)) (bytes : List ℕ) → NamesOnlyNew old new → (tokens : List Token) (known words : List Word) → AreWordsOf old bytes tokens known → AreWordsOf new bytes tokens words → AreWordsOf old bytes tokens words
back_words old new bytes only _ _ _ none none = none
back_words old new bytes only _ _ _ (one_more {token} {word = a} {tokens} {words = as2} k ks) (one_more {word = b} {words = bs} w ws) =
    one_more (back_word old new bytes only token a b k w) (back_words old new bytes only tokens as2 bs ks ws)

-- ---- one more word

push_word : (table : List (List ℕ)) (bytes : List ℕ) (tokens : List Token) (words : List Word) (token : Token) (word : Word) → AreWordsOf table bytes tokens words → IsWordOf table bytes token word
    → AreWordsOf table bytes (tokens ++ token ∷ []) (words ++ word ∷ [])
push_word table bytes _ _ token word none w = one_more w none
push_word table bytes _ _ token word (one_more {tokens = ts} {words = ws} v vs) w = one_more v (push_word table bytes ts ws token word vs w)

record IsPushed (table : List (List ℕ)) (bytes : List ℕ) (tokens : List Token) (token : Token) (words : List Word) : Type 0 where
  before : List Word
  last : Word
  split : words ≡ before ++ last ∷ []
  are_before : AreWordsOf table bytes tokens before
  is_last : IsWordOf table bytes token last

pushed : (table : List (List ℕ)) (bytes : List ℕ) (tokens : List Token) (token : Token) (words : List Word) → AreWordsOf table bytes (tokens ++ token ∷ []) words → IsPushed table bytes tokens token words
pushed table bytes [] token _ (one_more {word} w none) = record { before = []; last = word; split = refl; are_before = none; is_last = w }
pushed table bytes (t ∷ ts) token _ (one_more {word} {words} w ws) =
    let p = pushed table bytes ts token words ws in
    record { before = word ∷ p.before; last = p.last; split = ap (λ (x : List Word). word ∷ x) p.split; are_before = one_more w p.are_before; is_last = p.is_last }

-- ---- what the lexer has given so far, as words

-- first: the table at the start
pub record HasRead (first table : List (List ℕ)) (bytes : List ℕ) (words : List Word) (at : ℕ) : Type 0 where
  pub tokens : List Token
  pub given : HasGiven bytes tokens at
  pub are : AreWordsOf table bytes tokens words
  pub only : (others : List Word) → AreWordsOf table bytes tokens others → others ≡ words
  pub gives : table ≡ with_names first (identifiers_in bytes tokens)

identifiers_append : (bytes : List ℕ) (tokens : List Token) (token : Token) → identifiers_in bytes (tokens ++ token ∷ []) ≡ identifiers_in bytes tokens ++ with_identifier token.kind (text_in bytes token.span) []
identifiers_append bytes [] token = refl
identifiers_append bytes (t ∷ ts) token = by (bears_name t.kind) (identifiers_append bytes ts token)
  where
    text : List ℕ
    text = text_in bytes t.span

    last : List (List ℕ)
    last = with_identifier token.kind (text_in bytes token.span) []

    all : List (List ℕ)
    all = identifiers_in bytes (ts ++ token ∷ [])

    few : List (List ℕ)
    few = identifiers_in bytes ts

    by : (b : Bool) → all ≡ few ++ last → (if b then text ∷ all else all) ≡ (if b then text ∷ few else few) ++ last
    by true e = ap (λ (x : List (List ℕ)). text ∷ x) e
    by false e = e

pub read_nothing : (table : List (List ℕ)) (bytes : List ℕ) → HasRead table table bytes [] 0
read_nothing table bytes = record { tokens = []; given = given_nothing; are = none; only = λ others h. empty others h; gives = refl }
  where
    empty : (others : List Word) → AreWordsOf table bytes [] others → others ≡ []
    empty _ none = refl

pub read_more : (first old new : List (List ℕ)) (bytes : List ℕ) (words : List Word) (at : ℕ) (token : Token) (word : Word) → HasRead first old bytes words at → Keeps old new → NamesOnlyNew old new → Gives bytes at token
    → IsWordOf new bytes token word → ((other : Word) → IsWordOf new bytes token other → other ≡ word) → new ≡ with_names old (with_identifier token.kind (text_in bytes token.span) []) → HasRead first new bytes (words ++ word ∷ []) token.span.end
read_more first old new bytes words at token word r keeps fresh g w one grown = record {
  tokens = r.tokens ++ token ∷ [];
  given = given_more r.given g;
  are = push_word new bytes r.tokens words token word (keep_words old new bytes keeps r.tokens words r.are) w;
  only = λ others h. (
      let p = pushed new bytes r.tokens token others h in
      let before : p.before ≡ words = r.only p.before (back_words old new bytes fresh r.tokens words p.before r.are p.are_before) in
      p.split ∙ ap (λ (x : List Word). x ++ p.last ∷ []) before ∙ ap (λ (x : Word). words ++ x ∷ []) (one p.last p.is_last));
  gives = (
      let here : List (List ℕ) = with_identifier token.kind (text_in bytes token.span) [] in
      grown ∙ ap (λ (x : List (List ℕ)). with_names x here) r.gives ∙ sym (names_append first (identifiers_in bytes r.tokens) here) ∙ ap (with_names first) (sym (identifiers_append bytes r.tokens token)));
}

pub all_read : (first table : List (List ℕ)) (bytes : List ℕ) (ws : List Word) (at : ℕ) → IsUtf8 bytes → HasRead first table bytes ws at → HasEnded bytes at → AreWords table bytes ws
all_read first table bytes ws at utf8 r e = record { tokens = r.tokens; are_tokens = given_whole bytes r.tokens at utf8 r.given e; are_words = r.are }

pub names_read : (first table : List (List ℕ)) (bytes : List ℕ) (ws : List Word) (at : ℕ) → IsUtf8 bytes → HasRead first table bytes ws at → HasEnded bytes at → GivesNames first bytes table
names_read first table bytes ws at utf8 r e = record { tokens = r.tokens; are_tokens = given_whole bytes r.tokens at utf8 r.given e; is = r.gives }

-- the bytes give one table
pub one_table : (old : List (List ℕ)) (bytes : List ℕ) (one other : List (List ℕ)) → GivesNames old bytes one → GivesNames old bytes other → one ≡ other
one_table old bytes one other a b =
    a.is ∙ ap (λ (ts : List Token). with_names old (identifiers_in bytes ts)) (one_list bytes 0 a.tokens b.tokens None None a.are_tokens.tokens_of b.are_tokens.tokens_of).0 ∙ sym b.is

-- in which no text stands twice, where none does in the old one
pub table_has_one_place : (old : List (List ℕ)) (bytes : List ℕ) (new : List (List ℕ)) → GivesNames old bytes new → HaveOnePlace (words ++ old) → HaveOnePlace (words ++ new)
table_has_one_place old bytes new g place = subst (λ (ts : List (List ℕ)). HaveOnePlace (words ++ ts)) (sym g.is) (one_place_each old (identifiers_in bytes g.tokens) place)

pub only_read : (first table : List (List ℕ)) (bytes : List ℕ) (ws : List Word) (at : ℕ) → IsUtf8 bytes → HasRead first table bytes ws at → HasEnded bytes at → (others : List Word) → AreWords table bytes others → others ≡ ws
only_read first table bytes ws at utf8 r e others o =
    let whole = given_whole bytes r.tokens at utf8 r.given e in
    let same = (one_list bytes 0 o.tokens r.tokens None None o.are_tokens.tokens_of whole.tokens_of).0 in
    r.only others (subst (λ (ts : List Token). AreWordsOf table bytes ts others) same o.are_words)

-- ---- words and refusals of the same bytes

not_utf8 : (bytes : List ℕ) (error : SourceError) → IsNoText bytes error → IsUtf8 bytes → ⊥
not_utf8 bytes error n utf8 = n.no_text utf8

-- bytes that are refused have no words
pub no_words : (table : List (List ℕ)) (bytes : List ℕ) (error : SourceError) (words : List Word) → IsBadText bytes error → AreWords table bytes words → ⊥
no_words table bytes error words (no_text n) w = not_utf8 bytes error n w.are_tokens.text
no_words table bytes error words (bad_token tokens utf8 has is) w =
    let e : None ≡ Some error.span = (one_list bytes 0 w.tokens tokens None (Some error.span) w.are_tokens.tokens_of has).1 in cc

-- in a table in which no text stands at two places, bytes are one list of words

same_names : (table : List (List ℕ)) → HaveOnePlace (words ++ table) → (kind : TokenKind) (text : List ℕ) (one other : Name) → HasName table kind text one → HasName table kind text other → one ≡ other
same_names table place kind text one other a b = by (bears_name kind) a b
  where
    by : (b : Bool) → MatchBool b (text_of table one ≡ Some text) (one ≡ record { 0 = 0 }) → MatchBool b (text_of table other ≡ Some text) (other ≡ record { 0 = 0 }) → one ≡ other
    by true a b = same_name table one other text place a b
    by false a b = a ∙ sym b

one_list_of : (table : List (List ℕ)) (bytes : List ℕ) → HaveOnePlace (words ++ table) → (tokens : List Token) (one other : List Word) → AreWordsOf table bytes tokens one → AreWordsOf table bytes tokens other → one ≡ other
one_list_of table bytes place _ _ _ none none = refl
one_list_of table bytes place _ _ _ (one_more {token} {word = a} {tokens} {words = as2} v vs) (one_more {word = b} {words = bs} w ws) =
    let first : a ≡ b = one_word table bytes token b w (λ name h. same_names table place token.kind (text_in bytes token.span) name b.name h w.name) a v in
    let rest : as2 ≡ bs = one_list_of table bytes place tokens as2 bs vs ws in
    λ i. first i ∷ rest i

pub same_words : (table : List (List ℕ)) (bytes : List ℕ) (one other : List Word) → HaveOnePlace (words ++ table) → AreWords table bytes one → AreWords table bytes other → one ≡ other
same_words table bytes one other place a b =
    let same = (one_list bytes 0 a.tokens b.tokens None None a.are_tokens.tokens_of b.are_tokens.tokens_of).0 in
    one_list_of table bytes place b.tokens one other (subst (λ (ts : List Token). AreWordsOf table bytes ts one) same a.are_words) b.are_words
