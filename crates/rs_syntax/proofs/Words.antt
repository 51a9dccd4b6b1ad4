-- Words of the same bytes, and their refusals.
use Rattle.std.specs.Prelude.{◌≡◌, ℕ, zero, suc, List, [], ◌∷◌, ◌++◌}
use Rattle.std.proofs.Common.{refl, sym, ◌∙◌, ap, subst, inl, inr, Some, None}
use Rattle.std.specs.Str.{IsValidUpTo}
use Rattle.std.proofs.lemmas.Bool.{cases_order}
use Rattle.text_core.specs.declared.refusal.Code.TheVariants.{E01, E02}
use Rattle.text_core.specs.declared.refusal.SourceError.{SourceError}
use Rattle.text_core.specs.declared.span.Span.{Span}
use Rattle.text_core.specs.Names.{words, HaveOnePlace}
use Rattle.rs_tokens.specs.declared.token.Token.{Token}
use Rattle.rs_tokens.proofs.OneReading.{one_list}
use Rattle.source_words.specs.declared.word.Word.{Word}
use Rattle.source_words.specs.Faults.{kinds_in, span_at}
use Rattle.source_words.specs.Words.{AreWords, AreWordsOf, none, one_more, GivesNames, IsBadText, no_text, bad_token}
use Rattle.source_words.proofs.WordLists.{one_table, table_has_one_place, same_words}
use Rattle.rs_syntax.specs.Parsed.{AreWordsOfSource}

-- ---- kinds and places are those of the tokens, whatever the names

kinds_of_tokens : (table other : List (List ℕ)) (bytes : List ℕ) (tokens : List Token) (a b : List Word) → AreWordsOf table bytes tokens a → AreWordsOf other bytes tokens b → kinds_in a ≡ kinds_in b
kinds_of_tokens table other bytes _ _ _ none none = refl
kinds_of_tokens table other bytes _ _ _ (one_more {token} {word = a} {tokens} {words = as2} v vs) (one_more {word = b} {words = bs} w ws) =
    let head : a.kind ≡ b.kind = v.kind ∙ sym w.kind in
    let rest : kinds_in as2 ≡ kinds_in bs = kinds_of_tokens table other bytes tokens as2 bs vs ws in
    λ i. head i ∷ rest i

span_of_tokens : (table other : List (List ℕ)) (bytes : List ℕ) (tokens : List Token) (a b : List Word) (position end : ℕ) → AreWordsOf table bytes tokens a → AreWordsOf other bytes tokens b
    → span_at a end position ≡ span_at b end position
span_of_tokens table other bytes _ _ _ position end none none = refl
span_of_tokens table other bytes _ _ _ zero end (one_more v vs) (one_more w ws) = v.span ∙ sym w.span
span_of_tokens table other bytes _ _ _ (suc position) end (one_more {token} {word = a} {tokens} {words = as2} v vs) (one_more {word = b} {words = bs} w ws) = span_of_tokens table other bytes tokens as2 bs position end vs ws

same_tokens : (table other : List (List ℕ)) (bytes : List ℕ) (a b : List Word) (v : AreWords table bytes a) (w : AreWords other bytes b) → AreWordsOf other bytes v.tokens b
same_tokens table other bytes a b v w =
    let same : w.tokens ≡ v.tokens = (one_list bytes 0 w.tokens v.tokens None None w.are_tokens.tokens_of v.are_tokens.tokens_of).0 in
    subst (λ (tokens : List Token). AreWordsOf other bytes tokens b) same w.are_words

pub same_kinds : (table other : List (List ℕ)) (bytes : List ℕ) (a b : List Word) → AreWords table bytes a → AreWords other bytes b → kinds_in a ≡ kinds_in b
same_kinds table other bytes a b v w = kinds_of_tokens table other bytes v.tokens a b v.are_words (same_tokens table other bytes a b v w)

pub same_span : (table other : List (List ℕ)) (bytes : List ℕ) (a b : List Word) (position end : ℕ) → AreWords table bytes a → AreWords other bytes b → span_at a end position ≡ span_at b end position
same_span table other bytes a b position end v w = span_of_tokens table other bytes v.tokens a b position end v.are_words (same_tokens table other bytes a b v w)

-- ---- in a table in which no text stands twice, bytes are one list of words

pub one_list_of_words : (old : List (List ℕ)) (bytes : List ℕ) (one other : List Word) → HaveOnePlace (words ++ old) → AreWordsOfSource old bytes one → AreWordsOfSource old bytes other → one ≡ other
one_list_of_words old bytes one other place a b =
    let table : a.table ≡ b.table = one_table old bytes a.table b.table a.gives b.gives in
    same_words b.table bytes one other (table_has_one_place old bytes b.table b.gives place) (subst (λ (t : List (List ℕ)). AreWords t bytes one) table a.are_words) b.are_words

pub words_alone : (old new : List (List ℕ)) (bytes : List ℕ) (ws : List Word) → GivesNames old bytes new → ((other : List Word) → AreWords new bytes other → other ≡ ws)
    → (other : List Word) → AreWordsOfSource old bytes other → other ≡ ws
words_alone old new bytes ws gives only other a =
    let table : a.table ≡ new = one_table old bytes a.table new a.gives gives in
    only other (subst (λ (t : List (List ℕ)). AreWords t bytes other) table a.are_words)

-- ---- one refusal of bytes as words

same_valid : (bytes : List ℕ) (one other : ℕ) → IsValidUpTo bytes one → IsValidUpTo bytes other → one ≡ other
same_valid bytes one other h g = elim (cases_order one other) [
  | inl e ↦ e
  | inr k ↦ elim k [
    | inl low ↦ absurd (h.longest other low g.front)
    | inr high ↦ absurd (g.longest one high h.front)
  ]
]

some_same : {A : Type 0} {x y : A} → Some x ≡ Some y → x ≡ y
some_same e = cc

pub one_bad_text : (bytes : List ℕ) (one other : SourceError) → IsBadText bytes one → IsBadText bytes other → one ≡ other
one_bad_text bytes one other (no_text n) (no_text m) =
    n.is ∙ ap (λ (k : ℕ). record { code = E01; span = record { start = k; end = k }; other = None }) (same_valid bytes one.span.start other.span.start n.valid_up_to m.valid_up_to) ∙ sym m.is
one_bad_text bytes one other (no_text n) (bad_token tokens utf8 has is) = absurd (n.no_text utf8)
one_bad_text bytes one other (bad_token tokens utf8 has is) (no_text n) = absurd (n.no_text utf8)
one_bad_text bytes one other (bad_token tokens utf8 has is) (bad_token others utf8₂ has₂ is₂) =
    let e : Some one.span ≡ Some other.span = (one_list bytes 0 tokens others (Some one.span) (Some other.span) has has₂).1 in
    is ∙ ap (λ (k : Span). record { code = E02; span = k; other = None }) (some_same e) ∙ sym is₂
