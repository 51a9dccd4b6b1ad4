-- The kinds of tokens by their places, and quoted words by their first bytes.
use Rattle.std.proofs.Common.{◌≡◌, ◌≢◌, ℕ, Bool, true, false, List, [], ◌∷◌, get_or, slice_get, refl, sym, ap, ◌∙◌, Option, Some, None, nat_eq, eq-eqb, ◌||◌, if◌then◌else◌, true≢false}
use Rattle.std.specs.List.{list_all}
use Rattle.std.specs.Str.{bytes_eq}
use Rattle.std.proofs.lemmas.Bool.{eqb-true}
use Rattle.std.proofs.lemmas.Slice.Eq.{bytes_eq-Decides}
use denote.Enum.Declared.{tag_of}
use Rattle.rs_tokens.specs.contracts.token.TokenKind.{the_type}
use Rattle.rs_tokens.specs.declared.token.TokenKind.{TokenKind}
use Rattle.rs_tokens.specs.declared.token.TokenKind.TheVariants as T
use Rattle.rs_tokens.proofs.ListLaws.{eqb_unlike}
use Rattle.source_words.specs.QuotedWords.{quoted}
use Rattle.source_words.specs.Texts.{found_in}
use Rattle.source_words.specs.TokenKinds.{plain_kind}
use Rattle.source_words.specs.Words.{kind_by}
use Rattle.source_words.proofs.WordLemmas.{and_true}

-- the kind of a token that is neither an identifier nor a lifetime is the place of its own
pub other_kind : (kind : TokenKind) (text : List ℕ) → kind ≢ T.Ident → kind ≢ T.Lifetime → tag_of the_type kind ≡ kind_by kind text
unfolding kind_by plain_kind
other_kind T.Ident text a b = absurd (a refl)
other_kind T.Lifetime text a b = absurd (b refl)
other_kind _ text a b = refl

-- ---- quoted words

-- the first byte, or 0
abbrev pub front_of : List ℕ → ℕ
front_of text = get_or text 0 0

-- the rows whose texts begin with this byte
abbrev pub of_front : {A : Type 0} → ℕ → List (List ℕ × A) → List (List ℕ × A)
of_front n [] = []
of_front n ((row, a) ∷ rows) = if nat_eq (front_of row) n then (row, a) ∷ of_front n rows else of_front n rows

found_later : {A : Type 0} (found : Bool) (a : A) (few all : Option A) → (found ≡ true → ⊥) → few ≡ all → few ≡ (if found then Some a else all)
found_later true a few all not_here e = absurd (not_here refl)
found_later false a few all not_here e = e

-- only rows that begin as the text does are the text
by_front : {A : Type 0} → (rows : List (List ℕ × A)) (text : List ℕ) → found_in (of_front (front_of text) rows) text ≡ found_in rows text
by_front [] text = refl
by_front {A} ((row, a) ∷ rows) text = by (nat_eq (front_of row) (front_of text)) refl (by_front rows text)
  where
    few : List (List ℕ × A)
    few = of_front (front_of text) rows

    all : Option A
    all = found_in rows text

    by : (b : Bool) → nat_eq (front_of row) (front_of text) ≡ b → found_in few text ≡ all → found_in (if b then (row, a) ∷ few else few) text ≡ (if bytes_eq row text then Some a else all)
    by true e h = ap (λ (x : Option A). if bytes_eq row text then Some a else x) h
    by false e h = found_later (bytes_eq row text) a (found_in few text) all (λ same. true≢false (sym (eq-eqb (front_of row) (front_of text) (ap front_of ((bytes_eq-Decides row text).0 same))) ∙ e)) h

front_is : (text : List ℕ) (n : ℕ) → slice_get text 0 ≡ Some n → front_of text ≡ n
front_is [] n e = absurd cc
front_is (x ∷ text) n e = cc

-- the rows that begin as the text does tell which quoted word it is
pub quoted_by : (n : ℕ) (rows : List (List ℕ × ℕ)) (text : List ℕ) → slice_get text 0 ≡ Some n → of_front n quoted ≡ rows → found_in rows text ≡ found_in quoted text
quoted_by n rows text front e = ap (λ (x : List (List ℕ × ℕ)). found_in x text) (sym e ∙ ap (λ (k : ℕ). of_front k quoted) (sym (front_is text n front))) ∙ by_front quoted text

-- ---- bytes that no quoted word begins with

is_among : ℕ → List ℕ → Bool
is_among n [] = false
is_among n (k ∷ ks) = nat_eq n k || is_among n ks

-- the number is none of these
abbrev pub IsNone : ℕ → List ℕ → Type 0
IsNone n [] = Unit {0}
IsNone n (k ∷ ks) = (n ≢ k) × IsNone n ks

none_among : (n : ℕ) (ks : List ℕ) → IsNone n ks → is_among n ks ≡ false
unfolding is_among
none_among n [] h = refl
none_among n (k ∷ ks) h = ap (λ (b : Bool). b || is_among n ks) (eqb_unlike n k h.0) ∙ none_among n ks h.1

-- where each row begins with one of these bytes, none begins with another
none_of_front : (fronts : List ℕ) (n : ℕ) (rows : List (List ℕ × ℕ)) → list_all (λ (row : List ℕ × ℕ). is_among (front_of row.0) fronts) rows ≡ true → is_among n fronts ≡ false → of_front n rows ≡ []
none_of_front fronts n [] all other = refl
none_of_front fronts n ((row, a) ∷ rows) all other =
    let both = and_true (is_among (front_of row) fronts) (list_all (λ (r : List ℕ × ℕ). is_among (front_of r.0) fronts) rows) all in
    by (nat_eq (front_of row) n) refl both.0 (none_of_front fronts n rows both.1 other)
  where
    by : (b : Bool) → nat_eq (front_of row) n ≡ b → is_among (front_of row) fronts ≡ true → of_front n rows ≡ [] → (if b then (row, a) ∷ of_front n rows else of_front n rows) ≡ []
    by true e here h = absurd (true≢false (sym here ∙ ap (λ (k : ℕ). is_among k fronts) (eqb-true (front_of row) n e) ∙ other))
    by false e here h = h

abbrev pub fronts : List ℕ
fronts = 70 ∷ 77 ∷ 86 ∷ 97 ∷ 98 ∷ 99 ∷ 100 ∷ 101 ∷ 102 ∷ 105 ∷ 108 ∷ 109 ∷ 112 ∷ 114 ∷ 115 ∷ 117 ∷ 118 ∷ 121 ∷ []

pub none_quoted : (n : ℕ) (text : List ℕ) → slice_get text 0 ≡ Some n → IsNone n fronts → None ≡ found_in quoted text
unfolding quoted is_among
none_quoted n text front other = quoted_by n [] text front (none_of_front fronts n quoted refl (none_among n fronts other))
