-- What is known of texts that are terms, in each table of names.
use Rattle.std.proofs.Common.{◌≡◌, ℕ, ◌+◌, ◌≤◌, ◌^◌, Bool, true, false, List, [], ◌∷◌, ◌++◌, length, take, drop, Some, None, inl, inr, refl, sym, ◌∙◌, ap, subst, arith, slice_get, get_or, ◌<◌, MatchBool, length-drop, length-append, if◌then◌else◌}
use Rattle.std.proofs.lemmas.List.{take_all, length-map}
use Rattle.std.proofs.lemmas.Bool.{cases_lt, false≢true}
use Rattle.std.proofs.lemmas.Option.{slice_get-get_or}
use Rattle.text_core.specs.Names.{words as table_words, text_of, HaveOnePlace}
use Rattle.text_core.specs.declared.name.Name.{Name}
use Rattle.text_core.specs.declared.fault.PassError.{PassError}
use Rattle.text_core.specs.declared.fault.PassError.TheVariants as P
use Rattle.text_core.specs.declared.refusal.SourceError.{SourceError}
use Rattle.text_core.proofs.NamesLemmas.{text_of-Some}
use Rattle.grammar_tables.specs.declared.parsing.Front.{Front}
use Rattle.grammar_tables.specs.Grammar.{next_kind, Derives}
use Rattle.grammar_tables.specs.Answers.{goal_of}
use Rattle.grammar_tables.specs.Trees.{Tree, preorder, values}
use Rattle.grammar_tables.proofs.ParseTrees.{tree_of}
use Rattle.grammar_tables.proofs.Uniqueness.{one_derivation, one_tree}
use Rattle.grammar_tables.specs.First.{depth_of}
use Rattle.source_grammar.specs.SourceGrammar.{source_grammar, term_goal}
use Rattle.source_grammar.specs.Faults.{IsSourceDerivation, IsSourceFront}
use Rattle.source_grammar.specs.declared.fault.SyntaxFault.{SyntaxFault}
use Rattle.source_grammar.specs.declared.fault.SyntaxFault.TheVariants as fault
use Rattle.source_grammar.proofs.OneAnswer.{fault_of_all, derived_or_faulty}
use Rattle.source_grammar.proofs.Firsts.{depths}
use Rattle.source_grammar.proofs.Conditions.{source_is_ll1}
use Rattle.rs_tokens.specs.declared.token.Token.{Token}
use Rattle.rs_tokens.specs.declared.token.TokenKind.{TokenKind}
use Rattle.rs_tokens.specs.Reading.{AreTokens}
use Rattle.rs_tokens.proofs.OneReading.{one_list}
use Rattle.source_words.specs.declared.word.Word.{Word}
use Rattle.source_words.specs.Faults.{kinds_in, error_of}
use Rattle.source_words.specs.Texts.{text_in}
use Rattle.source_words.specs.Words.{kind_by, bears_name, value_by, suffix_by, HasName, AreWordsOf, none, one_more, AreWords, identifiers_in, with_identifier, GivesNames, IsBadText, no_text, bad_token, IsWordError}
use Rattle.source_words.proofs.TokenCounts.{as_many_words}
use Rattle.source_words.proofs.WordLists.{one_table}
use Rattle.pearlite.specs.Cursor.{Standing}
use Rattle.pearlite.specs.Meaning.{shape_actions}
use Rattle.pearlite.specs.Parsed.{ReadsTerm, SpellsTerm, IsTermError}
use Rattle.pearlite.specs.Parts.{first_term}
use Rattle.source_trees.specs.Pterm.{Pterm}
use Rattle.term_texts.specs.TermTexts.{text_at, HasNameAt, IsWordAt, AreWordsAt, no_word, one_word, SpellsWholeTerm, token_kinds, fills, IsTermText, NamesOfTerm}
use Rattle.term_texts.proofs.TermChoice.{same_tokens}

-- ---- words by the places of their names

name_there : (table : List (List ℕ)) (kind : TokenKind) (text : List ℕ) (name : Name) → HasName table kind text name → HasNameAt table kind text name
name_there table kind text name h = by (bears_name kind) h
  where
    by : (b : Bool) → MatchBool b (text_of table name ≡ Some text) (name ≡ record { 0 = 0 }) → MatchBool b (text_at table name ≡ Some text) (name ≡ record { 0 = 0 })
    by true k = (text_of-Some table name text k).1
    by false k = k

words_there : (table : List (List ℕ)) (text : List ℕ) (tokens : List Token) (words : List Word) → AreWordsOf table text tokens words → AreWordsAt table text tokens words
words_there table text _ _ none = no_word
words_there table text _ _ (one_more {token} {word} {tokens} {words} w ws) =
    one_word (record { kind = w.kind; span = w.span; name = name_there table token.kind (text_in text token.span) word.name w.name; value = w.value; suffix = w.suffix }) (words_there table text tokens words ws)

kinds_of : (table : List (List ℕ)) (text : List ℕ) (tokens : List Token) (words : List Word) → AreWordsOf table text tokens words → kinds_in words ≡ token_kinds text tokens
kinds_of table text _ _ none = refl
kinds_of table text _ _ (one_more {token} {word} {tokens} {words} w ws) =
    ap (λ (k : ℕ). k ∷ kinds_in words) w.kind ∙ ap (λ (ks : List ℕ). kind_by token.kind (text_in text token.span) ∷ ks) (kinds_of table text tokens words ws)

kinds_at : (table : List (List ℕ)) (text : List ℕ) (tokens : List Token) (words : List Word) → AreWordsAt table text tokens words → kinds_in words ≡ token_kinds text tokens
kinds_at table text _ _ no_word = refl
kinds_at table text _ _ (one_word {token} {word} {tokens} {words} w ws) =
    ap (λ (k : ℕ). k ∷ kinds_in words) w.kind ∙ ap (λ (ks : List ℕ). kind_by token.kind (text_in text token.span) ∷ ks) (kinds_at table text tokens words ws)

-- ---- each text that spells a term is one

pub is_term_text : (table : List (List ℕ)) (text : List ℕ) (t : Pterm) → SpellsWholeTerm table text t → IsTermText text
is_term_text table text t s = record {
  short = s.short;
  tokens = s.tokens;
  are_tokens = s.are_tokens;
  filled = s.filled;
  derivation = preorder s.tree;
  derived = subst (λ (ks : List ℕ). IsSourceDerivation term_goal 0 ks (preorder s.tree)) (kinds_at table text s.tokens s.words s.are_words) s.derived;
}

-- ---- and spells one in each table where its texts have names

-- each of the texts has a name
abbrev pub AreNamed : List (List ℕ) → List (List ℕ) → Type 0
AreNamed table [] = Unit {0}
AreNamed table (text ∷ texts) = ((name : Name) × (text_at table name ≡ Some text)) × AreNamed table texts

module _ (table : List (List ℕ)) (text : List ℕ) where
  abbrev NameOf : Token → Type 0
  NameOf token = (name : Name) × HasNameAt table token.kind (text_in text token.span) name

  -- the first name, and what is known of the others
  name_of : (token : Token) (others : List (List ℕ)) → AreNamed table (with_identifier token.kind (text_in text token.span) others) → NameOf token × AreNamed table others
  name_of token others h = by (bears_name token.kind) h
    where
      by : (b : Bool) → AreNamed table (if b then text_in text token.span ∷ others else others) →
          ((name : Name) × MatchBool b (text_at table name ≡ Some (text_in text token.span)) (name ≡ record { 0 = 0 })) × AreNamed table others
      by true k = k
      by false k = ((record { 0 = 0 }, refl), k)

  word_at : (token : Token) → NameOf token → (word : Word) × IsWordAt table text token word
  word_at token n = (
    record {
      kind = kind_by token.kind (text_in text token.span);
      span = token.span;
      name = n.0;
      value = value_by token.kind (text_in text token.span);
      suffix = suffix_by token.kind (text_in text token.span);
    },
    record { kind = refl; span = refl; name = n.1; value = refl; suffix = refl },
  )

  words_at : (tokens : List Token) → AreNamed table (identifiers_in text tokens) → (words : List Word) × AreWordsAt table text tokens words
  words_at [] h = ([], no_word)
  words_at (token ∷ tokens) h =
      let parts = name_of token (identifiers_in text tokens) h in
      let word = word_at token parts.0 in
      let others = words_at tokens parts.1 in
      (word.0 ∷ others.0, one_word word.1 others.1)

  pub spelled_there : (is : IsTermText text) → AreNamed table (identifiers_in text is.tokens) → (t : Pterm) × SpellsWholeTerm table text t
  spelled_there is named =
      let words = words_at is.tokens named in
      let kinds : kinds_in words.0 ≡ token_kinds text is.tokens = kinds_at table text is.tokens words.0 words.1 in
      let tree = tree_of source_grammar term_goal (token_kinds text is.tokens) is.derivation is.derived.0 in (
        first_term (values (shape_actions words.0) 0 tree.0),
        record {
          short = is.short;
          tokens = is.tokens;
          are_tokens = is.are_tokens;
          filled = is.filled;
          words = words.0;
          are_words = words.1;
          tree = tree.0;
          is_tree = tree.1;
          derived = subst (λ (ks : List ℕ). IsSourceDerivation term_goal 0 ks (preorder tree.0)) (sym kinds)
              (subst (λ (rs : List ℕ). IsSourceDerivation term_goal 0 (token_kinds text is.tokens) rs) (sym tree.2) is.derived);
          made = refl;
        },
      )

-- the texts that it names
pub names_there : (text : List ℕ) (is : IsTermText text) → NamesOfTerm text (identifiers_in text is.tokens)
names_there text is = record { tokens = is.tokens; are_tokens = is.are_tokens; are = refl }

pub one_naming : (text : List ℕ) (one other : List (List ℕ)) → NamesOfTerm text one → NamesOfTerm text other → one ≡ other
one_naming text one other a b = a.are ∙ ap (identifiers_in text) (same_tokens text a.tokens b.tokens a.are_tokens b.are_tokens) ∙ sym b.are

-- ---- in a larger table the same term is spelled

-- each text stays where it is
abbrev pub KeepsTexts : List (List ℕ) → List (List ℕ) → Type 0
KeepsTexts old new = (k : ℕ) (text : List ℕ) → slice_get (table_words ++ old) k ≡ Some text → slice_get (table_words ++ new) k ≡ Some text

module _ (old new : List (List ℕ)) (keeps : KeepsTexts old new) (text : List ℕ) where
  kept_name : (kind : TokenKind) (own : List ℕ) (name : Name) → HasNameAt old kind own name → HasNameAt new kind own name
  kept_name kind own name h = by (bears_name kind) h
    where
      by : (b : Bool) → MatchBool b (text_at old name ≡ Some own) (name ≡ record { 0 = 0 }) → MatchBool b (text_at new name ≡ Some own) (name ≡ record { 0 = 0 })
      by true k = keeps name.0 own k
      by false k = k

  kept_words : (tokens : List Token) (words : List Word) → AreWordsAt old text tokens words → AreWordsAt new text tokens words
  kept_words _ _ no_word = no_word
  kept_words _ _ (one_word {token} {word} {tokens} {words} w ws) =
      one_word (record { kind = w.kind; span = w.span; name = kept_name token.kind (text_in text token.span) word.name w.name; value = w.value; suffix = w.suffix }) (kept_words tokens words ws)

  pub kept_term : (t : Pterm) → SpellsWholeTerm old text t → SpellsWholeTerm new text t
  kept_term t s = record {
    short = s.short;
    tokens = s.tokens;
    are_tokens = s.are_tokens;
    filled = s.filled;
    words = s.words;
    are_words = kept_words s.tokens s.words s.are_words;
    tree = s.tree;
    is_tree = s.is_tree;
    derived = s.derived;
    made = s.made;
  }

-- ---- one term, in a table in which no text stands twice

module _ (table : List (List ℕ)) (place : HaveOnePlace (table_words ++ table)) (text : List ℕ) where
  same_name : (kind : TokenKind) (own : List ℕ) (one other : Name) → HasNameAt table kind own one → HasNameAt table kind own other → one ≡ other
  same_name kind own one other a b = by (bears_name kind) a b
    where
      by : (b : Bool) → MatchBool b (text_at table one ≡ Some own) (one ≡ record { 0 = 0 }) → MatchBool b (text_at table other ≡ Some own) (other ≡ record { 0 = 0 }) → one ≡ other
      by true a b = ap (λ n. record { 0 = n }) (place one.0 other.0 own a b)
      by false a b = a ∙ sym b

  same_word : (token : Token) (one other : Word) → IsWordAt table text token one → IsWordAt table text token other → one ≡ other
  same_word token one other a b = λ i. record {
    kind = (a.kind ∙ sym b.kind) i;
    span = (a.span ∙ sym b.span) i;
    name = same_name token.kind (text_in text token.span) one.name other.name a.name b.name i;
    value = (a.value ∙ sym b.value) i;
    suffix = (a.suffix ∙ sym b.suffix) i;
  }

  same_words : (tokens : List Token) (one other : List Word) → AreWordsAt table text tokens one → AreWordsAt table text tokens other → one ≡ other
  same_words _ _ _ no_word no_word = refl
  same_words _ _ _ (one_word {token} {word = a} {tokens} {words = as2} v vs) (one_word {word = b} {words = bs} w ws) =
      let first : a ≡ b = same_word token a b v w in
      let rest : as2 ≡ bs = same_words tokens as2 bs vs ws in
      λ i. first i ∷ rest i

  pub one_term : (one other : Pterm) → SpellsWholeTerm table text one → SpellsWholeTerm table text other → one ≡ other
  one_term one other a b =
      let tokens : a.tokens ≡ b.tokens = same_tokens text a.tokens b.tokens a.are_tokens b.are_tokens in
      let words : a.words ≡ b.words = same_words b.tokens a.words b.words (subst (λ (ts : List Token). AreWordsAt table text ts a.words) tokens a.are_words) b.are_words in
      let derives : preorder a.tree ≡ preorder b.tree =
      one_derivation source_grammar (depth_of depths) source_is_ll1 a.derived.0 (subst (λ (ws : List Word). Derives source_grammar (goal_of term_goal) (kinds_in ws) (preorder b.tree)) (sym words) b.derived.0) in
      let tree : a.tree ≡ b.tree = one_tree source_grammar a.is_tree b.is_tree derives in
      a.made ∙ ap (λ (t : Tree). first_term (values (shape_actions a.words) 0 t)) tree
      ∙ ap (λ (ws : List Word). first_term (values (shape_actions ws) 0 b.tree)) words ∙ sym b.made

-- ---- what the parser of terms reads of a whole text

abbrev pub whole_standing : List ℕ → List Token → Standing
whole_standing text tokens = record { bytes = text; tokens = tokens; place = 0; levels = 0 }

-- a front with all the words
whole_front : (words : List Word) (t : Pterm) (taken : ℕ) → taken ≡ length words → (r : ReadsTerm 0 words t taken) → IsSourceDerivation term_goal 0 (kinds_in words) (preorder r.tree)
whole_front words t taken many r =
    let kinds : List ℕ = kinds_in words in
    let all : take r.front.length kinds ≡ kinds = take_all r.front.length kinds (omega (arith, many, r.all, length-map words (λ (w : Word). w.kind))) in
    let derived : Derives source_grammar (goal_of term_goal) kinds r.front.derivation.items = subst (λ (ks : List ℕ). Derives source_grammar (goal_of term_goal) ks r.front.derivation.items) all r.longest.derived in
    subst (λ (rs : List ℕ). IsSourceDerivation term_goal 0 kinds rs) (sym r.derives) (derived, r.longest.within)

-- the parser read all tokens
pub read_whole : (old new : List (List ℕ)) (text : List ℕ) (tokens : List Token) (t : Pterm) (after : ℕ) → length text ≤ 2 ^ 20 → AreTokens text tokens → fills text tokens ≡ true → GivesNames old text new →
    SpellsTerm old (whole_standing text tokens) t after → after ≡ length tokens → SpellsWholeTerm new text t
read_whole old new text tokens t after short are filled gives s whole =
    let table : s.table ≡ new = one_table old text s.table new s.gives gives in
    let many = as_many_words s.table text tokens s.words are s.are_words in
    record {
      short = short;
      tokens = s.are_words.tokens;
      are_tokens = s.are_words.are_tokens;
      filled = subst (λ (ts : List Token). fills text ts ≡ true) (same_tokens text tokens s.are_words.tokens are s.are_words.are_tokens) filled;
      words = s.words;
      are_words = subst (λ (ts : List (List ℕ)). AreWordsAt ts text s.are_words.tokens s.words) table (words_there s.table text s.are_words.tokens s.words s.are_words.are_words);
      tree = s.reads.tree;
      is_tree = s.reads.is_tree;
      derived = whole_front s.words t s.taken (omega (arith, many, whole, s.behind)) s.reads;
      made = s.reads.made;
    }

-- the kinds of the words of a text that is a term are derived
derived_of : (table : List (List ℕ)) (text : List ℕ) (words : List Word) → AreWords table text words → (is : IsTermText text) → IsSourceDerivation term_goal 0 (kinds_in words) is.derivation
derived_of table text words are is =
    let tokens : is.tokens ≡ are.tokens = same_tokens text is.tokens are.tokens is.are_tokens are.are_tokens in
    subst (λ (ks : List ℕ). IsSourceDerivation term_goal 0 ks is.derivation) (ap (token_kinds text) tokens ∙ sym (kinds_of table text are.tokens words are.are_words)) is.derived

-- what is derived as a whole has no shorter longest front
front_is_whole : (kinds rs : List ℕ) (front : Front) → IsSourceFront term_goal 0 kinds front → IsSourceDerivation term_goal 0 kinds rs → length kinds ≤ front.length
front_is_whole kinds rs front f d = by (drop front.length kinds) refl
  where
    by : (behind : List ℕ) → drop front.length kinds ≡ behind → length kinds ≤ front.length
    by [] e = omega (arith, ap length e, length-drop front.length kinds)
    by (y ∷ ys) e =
        let split : kinds ≡ f.longest.front ++ y ∷ ys = f.longest.split ∙ ap (λ (zs : List ℕ). f.longest.front ++ zs) e in
        absurd (f.longest.stuck y ys rs (ap next_kind e) (subst (λ (ks : List ℕ). Derives source_grammar (goal_of term_goal) ks rs) split d.0))

-- the parser stopped before the last token
pub read_part : (old : List (List ℕ)) (text : List ℕ) (tokens : List Token) (t : Pterm) (after : ℕ) → AreTokens text tokens → SpellsTerm old (whole_standing text tokens) t after → (after ≡ length tokens → ⊥) → IsTermText text → ⊥
read_part old text tokens t after are s part is =
    let d = derived_of s.table text s.words s.are_words is in
    let many = as_many_words s.table text tokens s.words are s.are_words in
    let whole = front_is_whole (kinds_in s.words) is.derivation s.reads.front s.reads.longest d in
    part (omega (arith, whole, many, s.behind, s.reads.all, s.reads.longest.inside, length-map s.words (λ (w : Word). w.kind)))

no_fault : (words : List Word) (end : ℕ) (f : SyntaxFault) (error : SourceError) → error_of words end f ≡ P.Source error → f ≡ fault.NoMemory → ⊥
no_fault words end f error told e = let none : P.NoMemory ≡ P.Source error = ap (error_of words end) (sym e) ∙ told in cc

-- the parser refused the text
pub read_none : (text : List ℕ) (tokens : List Token) (e : PassError) (after : ℕ) → IsTermError (whole_standing text tokens) e after → (e ≡ P.NoMemory → ⊥) → IsTermText text → ⊥
read_none text tokens (P.Source error) after r memory is =
    derived_or_faulty term_goal (kinds_in r.words) 0 is.derivation r.fault (no_fault r.words (length text) r.fault error r.told) (derived_of r.table text r.words r.are_words is) (fault_of_all term_goal (kinds_in r.words) 0 r.fault r.is_fault)
read_none text tokens (P.Limit limit) after r memory is = r
read_none text tokens P.NoMemory after r memory is = memory refl

-- something stands before the first token or behind the last
pub not_filled : (text : List ℕ) (tokens : List Token) → AreTokens text tokens → fills text tokens ≡ false → IsTermText text → ⊥
not_filled text tokens are gap is =
    false≢true (sym gap ∙ subst (λ (ts : List Token). fills text ts ≡ true) (same_tokens text is.tokens tokens is.are_tokens are) is.filled)

-- the text has no tokens
bad_text : (text : List ℕ) (error : SourceError) (tokens : List Token) → IsBadText text error → AreTokens text tokens → ⊥
bad_text text error tokens (no_text n) are = n.no_text are.text
bad_text text error tokens (bad_token others utf8 has is) are =
    let end : None ≡ Some error.span = (one_list text 0 tokens others None (Some error.span) are.tokens_of has).1 in cc

pub no_tokens : (text : List ℕ) (e : PassError) → IsWordError text e → (e ≡ P.NoMemory → ⊥) → IsTermText text → ⊥
no_tokens text (P.Source error) bad memory is = bad_text text error is.tokens bad is.are_tokens
no_tokens text (P.Limit limit) bad memory is = bad
no_tokens text P.NoMemory bad memory is = memory refl

-- ---- the table of names

-- the name of that number is given only in a table without room
pub room_from : (given : List (List ℕ)) → text_of given (record { 0 = 4293918719 }) ≡ None → length given + 2 ^ 20 < 2 ^ 32
room_from given h =
    elim (cases_lt 4293918719 (length (table_words ++ given))) [
      | inl lt ↦ absurd (let both : None ≡ Some (get_or (table_words ++ given) 4293918719 []) = sym h ∙ slice_get-get_or (table_words ++ given) 4293918719 [] lt in cc)
      | inr ge ↦ omega (arith, ge, length-append table_words given)
    ]
