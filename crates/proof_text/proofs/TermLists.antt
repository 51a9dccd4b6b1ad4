-- Texts that are terms, one or several: what they spell, and which texts they name.
use Rattle.std.proofs.Common.{◌≡◌, ℕ, ◌+◌, ◌<◌, ◌≤◌, Bool, true, false, ◌&&◌, ◌⊎◌, inl, inr, subst, List, [], ◌∷◌, ◌++◌, length, map, take, get_or, Option, Some, None, refl, sym, ◌∙◌, ap, ap₂, append_assoc, Bor}
use Rattle.std.specs.List.{list_all}
use Rattle.std.proofs.lemmas.List.{take_all, take_more, map-append, append-nil}
use Rattle.std.proofs.lemmas.List.Folds.{list_all_at, list_all-map}
use Rattle.source_trees.specs.Pterm.{Pterm}
use Rattle.source_words.specs.Words.{GivesNames, identifiers_in}
use Rattle.name_tables.specs.NameTables.{with_names}
use Rattle.name_tables.proofs.Tables.{names_append as tables_append}
use Rattle.term_texts.specs.TermTexts.{SpellsWholeTerm, IsTermText, NamesOfTerm}
use Rattle.term_texts.proofs.TermChoice.{term_there}
use Rattle.term_texts.proofs.TermLaw.{is_term_text, spelled_there, names_there as naming_there, one_naming, one_term, AreNamed}
use Rattle.text_core.specs.Names.{words, HaveOnePlace}
use Rattle.proof_text.specs.ProofTextWords.{Each}
use Rattle.proof_text.specs.ProofTextLines.{NamesInEach, NamesInTerms}
use Rattle.proof_text.specs.ProofTextFile.{is_left, is_term, are_all_terms}
use Rattle.proof_text.specs.ProofTextReads.{GivesTexts}
use Rattle.proof_text.proofs.StageLemmas.{now}

-- ---- a text is a term, or is none

pub term_told : (text : List ℕ) → IsTermText text → is_term text ≡ true
unfolding is_term
term_told text is = by (term_there text)
  where
    by : (c : IsTermText text ⊎ (IsTermText text → ⊥)) → is_left c ≡ true
    by (inl here) = refl
    by (inr never) = absurd (never is)

pub told_term : (text : List ℕ) → is_term text ≡ true → IsTermText text
unfolding is_term
told_term text e = by (term_there text) e
  where
    by : (c : IsTermText text ⊎ (IsTermText text → ⊥)) → is_left c ≡ true → IsTermText text
    by (inl here) e = here
    by (inr never) e = absurd (cc)

pub not_told : (text : List ℕ) → (IsTermText text → ⊥) → is_term text ≡ false
unfolding is_term
not_told text never = by (term_there text)
  where
    by : (c : IsTermText text ⊎ (IsTermText text → ⊥)) → is_left c ≡ false
    by (inl here) = absurd (never here)
    by (inr no_term) = refl

pub and_parts : (a b : Bool) → (a && b) ≡ true → (a ≡ true) × (b ≡ true)
and_parts true b e = (refl, e)
and_parts false b e = absurd (cc)

pub named_parts : (table one other : List (List ℕ)) → AreNamed table (one ++ other) → AreNamed table one × AreNamed table other
named_parts table [] other h = (tt, h)
named_parts table (text ∷ one) other h = let rest = named_parts table one other h.1 in ((h.0, rest.0), rest.1)

-- the term of a text whose names have names in the table
pub term_here : (table : List (List ℕ)) (text : List ℕ) (texts : List (List ℕ)) → is_term text ≡ true → NamesOfTerm text texts → AreNamed table texts → (t : Pterm) × SpellsWholeTerm table text t
term_here table text texts is names named =
    let term : IsTermText text = told_term text is in
    spelled_there table text term (subst (AreNamed table) (one_naming text texts _ names (naming_there text term)) named)

-- ---- several texts

pub each_map : {A B : Type 0} (P Q : A → B → Type 0) → ((x : A) (y : B) → P x y → Q x y) → (xs : List A) (ys : List B) → Each P xs ys → Each Q xs ys
each_map P Q f [] [] h = h
each_map P Q f (x ∷ xs) (y ∷ ys) h = (f x y h.0, each_map P Q f xs ys h.1)
each_map P Q f _ _ h = absurd h

-- what spells terms is terms
pub all_told : (table texts : List (List ℕ)) (ts : List Pterm) → Each (SpellsWholeTerm table) texts ts → list_all is_term texts ≡ true
all_told table [] [] h = refl
all_told table (text ∷ texts) (t ∷ ts) h = ap₂ (λ x y. x && y) (term_told text (is_term_text table text t h.0)) (all_told table texts ts h.1)
all_told table _ _ h = absurd h

-- and the terms are there in a table where their texts have names
pub terms_here : (table texts names : List (List ℕ)) → list_all is_term texts ≡ true → NamesInEach texts names → AreNamed table names → (ts : List Pterm) × Each (SpellsWholeTerm table) texts ts
terms_here table [] names is said named = ([], tt)
terms_here table (text ∷ texts) names is said named =
    let parts = and_parts (is_term text) (list_all is_term texts) is in
    let have = named_parts table said.0 said.1 (subst (AreNamed table) said.4 named) in
    let first = term_here table text said.0 parts.0 said.2 have.0 in
    let others = terms_here table texts said.1 parts.1 said.3 have.1 in
    (first.0 ∷ others.0, (first.1, others.1))

each_names : (texts : List (List ℕ)) → list_all is_term texts ≡ true → (names : List (List ℕ)) × NamesInEach texts names
each_names [] is = ([], refl)
each_names (text ∷ texts) is =
    let parts = and_parts (is_term text) (list_all is_term texts) is in
    let others = each_names texts parts.1 in
    (_, (_, others.0, naming_there text (told_term text parts.0), others.1, refl))

pub all_names : (o : Option (List (List ℕ))) → are_all_terms o ≡ true → (names : List (List ℕ)) × NamesInTerms o names
all_names None is = absurd (cc)
all_names (Some texts) is = each_names texts is

once_in_each : (texts one other : List (List ℕ)) → NamesInEach texts one → NamesInEach texts other → one ≡ other
once_in_each [] one other a b = a ∙ sym b
once_in_each (text ∷ texts) one other a b =
    a.4 ∙ (ap₂ (λ (x y : List (List ℕ)). x ++ y) (one_naming text a.0 b.0 a.2 b.2) (once_in_each texts a.1 b.1 a.3 b.3) ∙ sym b.4)

pub once_in_terms : (o : Option (List (List ℕ))) (one other : List (List ℕ)) → NamesInTerms o one → NamesInTerms o other → one ≡ other
once_in_terms None one other a b = a ∙ sym b
once_in_terms (Some texts) one other a b = once_in_each texts one other a b

pub alike_each : (table other texts : List (List ℕ)) (ts us : List Pterm) → Each (SpellsWholeTerm table) texts ts → Each (SpellsWholeTerm other) texts us →
    Each (λ (t u : Pterm). (text : List ℕ) × SpellsWholeTerm table text t × SpellsWholeTerm other text u) ts us
alike_each table other [] [] [] h k = tt
alike_each table other (text ∷ texts) (t ∷ ts) (u ∷ us) h k = ((text, h.0, k.0), alike_each table other texts ts us h.1 k.1)
alike_each table other [] (t ∷ ts) us h k = absurd h
alike_each table other (text ∷ texts) [] us h k = absurd h
alike_each table other [] [] (u ∷ us) h k = absurd k
alike_each table other (text ∷ texts) (t ∷ ts) [] h k = absurd k

pub each_once : (table : List (List ℕ)) → HaveOnePlace (words ++ table) → (texts : List (List ℕ)) (ts us : List Pterm) → Each (SpellsWholeTerm table) texts ts → Each (SpellsWholeTerm table) texts us → ts ≡ us
each_once table place [] [] [] h k = refl
each_once table place (text ∷ texts) (t ∷ ts) (u ∷ us) h k = ap₂ (λ (x : Pterm) (xs : List Pterm). x ∷ xs) (one_term table place text t u h.0 k.0) (each_once table place texts ts us h.1 k.1)
each_once table place [] (t ∷ ts) us h k = absurd h
each_once table place (text ∷ texts) [] us h k = absurd h
each_once table place [] [] (u ∷ us) h k = absurd k
each_once table place (text ∷ texts) (t ∷ ts) [] h k = absurd k

-- ---- one more term

names_push : (texts : List (List ℕ)) (text : List ℕ) (a b : List (List ℕ)) → NamesInEach texts a → NamesOfTerm text b → NamesInEach (texts ++ text ∷ []) (a ++ b)
names_push [] text a b h k = (b, [], k, refl, ap (λ ts. ts ++ b) h ∙ sym (append-nil b))
names_push (x ∷ texts) text a b h k = (h.0, h.1 ++ b, h.2, names_push texts text h.1 b h.3 k, ap (λ ts. ts ++ b) h.4 ∙ append_assoc h.0 h.1 b)

pub up_to_next : (texts : List (Bor (List ℕ))) (i : ℕ) (d : Bor (List ℕ)) → i < length texts → map now (take i texts) ++ now (get_or texts i d) ∷ [] ≡ map now (take (i + 1) texts)
up_to_next texts i d h = sym (map-append now (take i texts) (get_or texts i d ∷ [])) ∙ ap (map now) (sym (take_more texts i d h))

pub term_named : (old before new : List (List ℕ)) (texts : List (Bor (List ℕ))) (i : ℕ) (d : Bor (List ℕ)) → i < length texts → GivesTexts (NamesInEach (map now (take i texts))) old before →
    GivesNames before (now (get_or texts i d)) new → GivesTexts (NamesInEach (map now (take (i + 1) texts))) old new
term_named old before new texts i d h so_far more =
    let text : List ℕ = now (get_or texts i d) in
    let own : List (List ℕ) = identifiers_in text more.tokens in
    let names : NamesOfTerm text own = record { tokens = more.tokens; are_tokens = more.are_tokens; are = refl } in
    let all : List (List ℕ) = so_far.0 ++ own in (
      all,
      subst (λ (ts : List (List ℕ)). NamesInEach ts all) (up_to_next texts i d h) (names_push (map now (take i texts)) text so_far.0 own so_far.1 names),
      more.is ∙ (ap (λ (ts : List (List ℕ)). with_names ts own) so_far.2 ∙ sym (tables_append old so_far.0 own)),
    )

-- one that is no term
pub one_bad : (texts : List (Bor (List ℕ))) (i : ℕ) (d : Bor (List ℕ)) → i < length texts → is_term (now (get_or texts i d)) ≡ false → list_all is_term (map now texts) ≡ false
one_bad texts i d h e = list_all-map is_term now texts ∙ list_all_at (λ (text : Bor (List ℕ)). is_term (now text)) texts i d h e

-- all terms
pub terms_named : (old new : List (List ℕ)) (texts : List (Bor (List ℕ))) (i : ℕ) → length texts ≤ i → GivesTexts (NamesInEach (map now (take i texts))) old new → GivesTexts (NamesInEach (map now texts)) old new
terms_named old new texts i h named = subst (λ (ts : List (Bor (List ℕ))). GivesTexts (NamesInEach (map now ts)) old new) (take_all i texts h) named

pub terms_spelled : (table : List (List ℕ)) (texts : List (Bor (List ℕ))) (ts : List Pterm) (i : ℕ) → length texts ≤ i → Each (SpellsWholeTerm table) (map now (take i texts)) ts → Each (SpellsWholeTerm table) (map now texts) ts
terms_spelled table texts ts i h said = subst (λ (xs : List (Bor (List ℕ))). Each (SpellsWholeTerm table) (map now xs) ts) (take_all i texts h) said
