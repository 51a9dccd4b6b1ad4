-- Which rows of a table a text can be, by its first bytes.
use Rattle.std.proofs.Common.{◌≡◌, ◌≢◌, ℕ, Bool, true, false, List, [], ◌∷◌, get_or, slice_get, refl, sym, ap, ◌∙◌, Option, Some, None, nat_eq, ◌||◌, if◌then◌else◌, true≢false, eq-eqb}
use Rattle.std.specs.Prelude.{is_some}
use Rattle.std.specs.List.{list_all}
use Rattle.std.specs.Str.{bytes_eq}
use Rattle.std.proofs.lemmas.Slice.Eq.{bytes_eq-Decides}
use Rattle.rs_tokens.specs.declared.token.TokenKind.{TokenKind}
use Rattle.rs_tokens.specs.Tables.{Row, reserved, marks, kind_in}
use Rattle.rs_tokens.proofs.ListLaws.{eqb_unlike}
use Rattle.rs_tokens.proofs.MarkLaws.{row_passes}

no_kind : (o : Option TokenKind) → (is_some o ≡ true → ⊥) → None ≡ o
no_kind None h = refl
no_kind (Some kind) h = absurd (h refl)

-- a text that fails what each row's text passes stands in no row
stands_nowhere : (p : List ℕ → Bool) (rows : List Row) (text : List ℕ) → list_all (λ (row : Row). p row.text) rows ≡ true → p text ≡ false → None ≡ kind_in rows text
stands_nowhere p rows text all fails = no_kind (kind_in rows text) (λ some. true≢false (sym (row_passes p rows text all some) ∙ fails))

-- ---- marks of two bytes

-- of two bytes, the second is the first, `=` or `>`
is_paired : List ℕ → Bool
is_paired (a ∷ b ∷ []) = (nat_eq a b || nat_eq b 61) || nat_eq b 62
is_paired _ = true

pub no_pair : (a b : ℕ) → a ≢ b → b ≢ 61 → b ≢ 62 → None ≡ kind_in marks (a ∷ b ∷ [])
unfolding marks is_paired
no_pair a b apart no_equal no_greater =
    stands_nowhere is_paired marks (a ∷ b ∷ []) refl (ap (λ (p : Bool). (p || nat_eq b 61) || nat_eq b 62) (eqb_unlike a b apart) ∙ ap (λ (p : Bool). p || nat_eq b 62) (eqb_unlike b 61 no_equal) ∙ eqb_unlike b 62 no_greater)

-- ---- reserved words

abbrev pub front_of : List ℕ → ℕ
front_of text = get_or text 0 0

-- the rows whose texts begin with this byte
abbrev pub of_front : ℕ → List Row → List Row
of_front n [] = []
of_front n (row ∷ rows) = if nat_eq (front_of row.text) n then row ∷ of_front n rows else of_front n rows

found_later : (found : Bool) (kind : TokenKind) (few all : Option TokenKind) → (found ≡ true → ⊥) → few ≡ all → few ≡ (if found then Some kind else all)
found_later true kind few all not_here e = absurd (not_here refl)
found_later false kind few all not_here e = e

-- only rows that begin as the text does are the text
by_front : (rows : List Row) (text : List ℕ) → kind_in (of_front (front_of text) rows) text ≡ kind_in rows text
by_front [] text = refl
by_front (row ∷ rows) text = by (nat_eq (front_of row.text) (front_of text)) refl (by_front rows text)
  where
    few : List Row
    few = of_front (front_of text) rows

    all : Option TokenKind
    all = kind_in rows text

    by : (b : Bool) → nat_eq (front_of row.text) (front_of text) ≡ b → kind_in few text ≡ all → kind_in (if b then row ∷ few else few) text ≡ (if bytes_eq row.text text then Some row.kind else all)
    by true e h = ap (λ (x : Option TokenKind). if bytes_eq row.text text then Some row.kind else x) h
    by false e h = found_later (bytes_eq row.text text) row.kind (kind_in few text) all (λ same. true≢false (sym (eq-eqb (front_of row.text) (front_of text) (ap front_of ((bytes_eq-Decides row.text text).0 same))) ∙ e)) h

front_is : (text : List ℕ) (n : ℕ) → slice_get text 0 ≡ Some n → front_of text ≡ n
front_is [] n e = absurd cc
front_is (x ∷ text) n e = cc

-- the rows that begin as the text does tell which reserved word it is
pub reserved_by : (n : ℕ) (rows : List Row) (text : List ℕ) → slice_get text 0 ≡ Some n → of_front n reserved ≡ rows → kind_in rows text ≡ kind_in reserved text
reserved_by n rows text front e =
    ap (λ (x : List Row). kind_in x text) (sym e ∙ ap (λ (k : ℕ). of_front k reserved) (sym (front_is text n front))) ∙ by_front reserved text

is_among : ℕ → List ℕ → Bool
is_among n [] = false
is_among n (k ∷ ks) = nat_eq n k || is_among n ks

-- the number is none of these
abbrev pub IsNoneOf : ℕ → List ℕ → Type 0
IsNoneOf n [] = Unit {0}
IsNoneOf n (k ∷ ks) = (n ≢ k) × IsNoneOf n ks

not_among : (n : ℕ) (ks : List ℕ) → IsNoneOf n ks → is_among n ks ≡ false
unfolding is_among
not_among n [] h = refl
not_among n (k ∷ ks) h = ap (λ (b : Bool). b || is_among n ks) (eqb_unlike n k h.0) ∙ not_among n ks h.1

-- what reserved words begin with
abbrev pub fronts : List ℕ
fronts = 95 ∷ 97 ∷ 98 ∷ 99 ∷ 101 ∷ 102 ∷ 105 ∷ 108 ∷ 109 ∷ 112 ∷ 114 ∷ 115 ∷ 83 ∷ 116 ∷ 117 ∷ 119 ∷ 100 ∷ []

begins_reserved : List ℕ → Bool
begins_reserved text = is_among (front_of text) fronts

pub none_reserved : (n : ℕ) (text : List ℕ) → slice_get text 0 ≡ Some n → IsNoneOf n fronts → None ≡ kind_in reserved text
unfolding reserved begins_reserved is_among
none_reserved n text front other = stands_nowhere begins_reserved reserved text refl (ap (λ (k : ℕ). is_among k fronts) (front_is text n front) ∙ not_among n fronts other)
