-- The longest mark at the front of a text.
use Rattle.std.proofs.Common.{◌≡◌, ℕ, ◌≤◌, Bool, true, false, cond, List, [], ◌∷◌, ◌++◌, length, take, Some, None, min, refl, sym, ap, ◌∙◌, arith, inl, inr}
use Rattle.std.specs.Prelude.{IsSome, is_some}
use Rattle.std.specs.List.{list_all}
use Rattle.std.specs.Str.{bytes_eq}
use Rattle.std.proofs.lemmas.Bool.{false≢true, cases_lt}
use Rattle.std.proofs.lemmas.Slice.Eq.{bytes_eq-Decides}
use Rattle.rs_tokens.specs.declared.token.TokenKind.{TokenKind}
use Rattle.rs_tokens.specs.Tables.{Row, marks, kind_in}
use Rattle.rs_tokens.specs.Tokens.{HasLongest, HasNone}
use Rattle.rs_tokens.proofs.ListLaws.{and_true, front_take, front_le}

-- ---- tables

-- what passes for each row's text passes for a text that stands in a row
pub row_passes : (p : List ℕ → Bool) (rows : List Row) (text : List ℕ) → list_all (λ (row : Row). p row.text) rows ≡ true → is_some (kind_in rows text) ≡ true → p text ≡ true
row_passes p [] text all h = absurd (false≢true h)
row_passes p (row ∷ rows) text all h =
    let both = and_true (p row.text) (list_all (λ (r : Row). p r.text) rows) all in
    let by : (q : Bool) → bytes_eq row.text text ≡ q → is_some (cond q (Some row.kind) (kind_in rows text)) ≡ true → p text ≡ true =
    λ q. elim q as (λ q. bytes_eq row.text text ≡ q → is_some (cond q (Some row.kind) (kind_in rows text)) ≡ true → p text ≡ true) [
      | true ↦ λ e h. ap p (sym ((bytes_eq-Decides row.text text).0 e)) ∙ both.0
      | false ↦ λ e h. row_passes p rows text both.1 h
    ] in
    by (bytes_eq row.text text) refl h

-- ---- marks have one to three bytes

len_one_to_three : List ℕ → Bool
len_one_to_three [] = false
len_one_to_three (a ∷ []) = true
len_one_to_three (a ∷ b ∷ []) = true
len_one_to_three (a ∷ b ∷ c ∷ []) = true
len_one_to_three (a ∷ b ∷ c ∷ d ∷ rest) = false

one_to_three : (text : List ℕ) → len_one_to_three text ≡ true → (1 ≤ length text) × (length text ≤ 3)
unfolding len_one_to_three
one_to_three [] h = absurd (false≢true h)
one_to_three (a ∷ []) h = (omega arith, omega arith)
one_to_three (a ∷ b ∷ []) h = (omega arith, omega arith)
one_to_three (a ∷ b ∷ c ∷ []) h = (omega arith, omega arith)
one_to_three (a ∷ b ∷ c ∷ d ∷ rest) h = absurd (false≢true h)

all_one_to_three : list_all (λ (row : Row). len_one_to_three row.text) marks ≡ true
unfolding len_one_to_three marks
all_one_to_three = refl

pub mark_len : (text : List ℕ) → is_some (kind_in marks text) ≡ true → (1 ≤ length text) × (length text ≤ 3)
mark_len text h = one_to_three text (row_passes len_one_to_three marks text all_one_to_three h)

-- ---- the longest mark

min_take : (n : ℕ) (text front back : List ℕ) → front ++ back ≡ text → length front ≡ n → take (min (length text) n) text ≡ front
min_take n text front back whole len =
    let at : min (length text) n ≡ length front = omega (arith, front_le front back text whole) in
    ap (λ (k : ℕ). take k text) at ∙ front_take front back text whole

missed : (n : ℕ) (text front back : List ℕ) → front ++ back ≡ text → kind_in marks (take (min (length text) n) text) ≡ None → is_some (kind_in marks front) ≡ true → length front ≡ n → ⊥
missed n text front back whole none some len =
    false≢true (sym (ap is_some none) ∙ ap (λ (t : List ℕ). is_some (kind_in marks t)) (min_take n text front back whole len) ∙ some)

not_three : (text front back : List ℕ) → front ++ back ≡ text → kind_in marks (take (min (length text) 3) text) ≡ None → is_some (kind_in marks front) ≡ true → length front ≤ 2
not_three text front back whole none some =
    elim (cases_lt (length front) 3) [
      | inl lt ↦ omega arith
      | inr ge ↦ absurd (missed 3 text front back whole none some (omega (arith, mark_len front some)))
    ]

not_two : (text front back : List ℕ) → front ++ back ≡ text → kind_in marks (take (min (length text) 3) text) ≡ None → kind_in marks (take (min (length text) 2) text) ≡ None → is_some (kind_in marks front) ≡ true → length front ≤ 1
not_two text front back whole none none2 some =
    elim (cases_lt (length front) 2) [
      | inl lt ↦ omega arith
      | inr ge ↦ absurd (missed 2 text front back whole none2 some (omega (arith, not_three text front back whole none some)))
    ]

module _ (text : List ℕ) (kind : TokenKind) where
  pub three_longest : (n : ℕ) → n ≡ min (length text) 3 → kind_in marks (take n text) ≡ Some kind → HasLongest (λ mark. IsSome (kind_in marks mark)) text n
  three_longest n is found = record {
    within = omega arith;
    form = ap is_some found;
    longest = λ front back whole some. omega (arith, mark_len front some, front_le front back text whole);
  }

  pub two_longest : (n : ℕ) → n ≡ min (length text) 2 → kind_in marks (take (min (length text) 3) text) ≡ None → kind_in marks (take n text) ≡ Some kind → HasLongest (λ mark. IsSome (kind_in marks mark)) text n
  two_longest n is none found = record {
    within = omega arith;
    form = ap is_some found;
    longest = λ front back whole some. omega (arith, not_three text front back whole none some, front_le front back text whole);
  }

  pub one_longest : (n : ℕ) → n ≡ min (length text) 1 → kind_in marks (take (min (length text) 3) text) ≡ None → kind_in marks (take (min (length text) 2) text) ≡ None → kind_in marks (take n text) ≡ Some kind
      → HasLongest (λ mark. IsSome (kind_in marks mark)) text n
  one_longest n is none none2 found = record {
    within = omega arith;
    form = ap is_some found;
    longest = λ front back whole some. omega (arith, not_two text front back whole none none2 some, front_le front back text whole);
  }

module _ (text : List ℕ) where
  pub none_longest : kind_in marks (take (min (length text) 3) text) ≡ None → kind_in marks (take (min (length text) 2) text) ≡ None → kind_in marks (take (min (length text) 1) text) ≡ None
      → HasNone (λ mark. IsSome (kind_in marks mark)) text
  none_longest none none2 none1 front back whole some =
      missed 1 text front back whole none1 some (omega (arith, not_two text front back whole none none2 some, mark_len front some))
