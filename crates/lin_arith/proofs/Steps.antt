-- The steps of the loops over rows and columns, and how outcomes join.
use Rattle.std.proofs.Common.{◌≡◌, ℕ, ◌+◌, ◌<◌, ◌≤◌, Bool, true, false, List, length, take, get_or, ℤ, pos, ◌+ℤ◌, FitsSigned, Option, Some, None, Result, Ok, Err, MatchOption, ◌⊎◌, inl, inr, refl, sym, ◌∙◌, ap, subst, arith}
use Rattle.std.specs.Int.{w128}
use Rattle.std.proofs.lemmas.Bool.{cases_lt}
use Rattle.std.proofs.lemmas.List.{take_all}
use Rattle.std.proofs.lemmas.List.Elements.{All-more}
use Rattle.lin_arith.specs.declared.certificate.Row.{Row}
use Rattle.lin_arith.specs.declared.certificate.Column.{Column}
use Rattle.lin_arith.specs.declared.certificate.Column.TheVariants.{Factors, Constants}
use Rattle.lin_arith.specs.Certificate.{int_sum, factor_of, products, combination, IsNarrowAt}
use Rattle.lin_arith.specs.Columns.{IsAbsent, IsNextAtom, IsNarrowBelow, IsFalseSum, IsOutcome, lesser_of, joined_of}
use Rattle.lin_arith.proofs.Sums.{int_sum-take_more, length-products, combination-absent, narrow_absent}

-- ---- the least atom

pub next_more : (rows : List Row) (i : ℕ) (row : Row) (from : ℕ) (next here : Option ℕ) → i < length rows → row ≡ get_or rows i row → IsNextAtom (take i rows) from next → MatchOption here ((a : ℕ) →
    from ≤ a → factor_of a row.parts ≡ pos 0) (λ n. (from ≤ n) × ((a : ℕ) → from ≤ a → a < n → factor_of a row.parts ≡ pos 0)) → IsNextAtom (take (i + 1) rows) from (lesser_of next here)
next_more rows i row from next here within is_row before now = step next here before now
  where
    more : (a : ℕ) → IsAbsent (take i rows) a → factor_of a row.parts ≡ pos 0 → IsAbsent (take (i + 1) rows) a
    more a h e = All-more (λ r. factor_of a r.parts ≡ pos 0) rows i row within h (subst (λ (r : Row). factor_of a r.parts ≡ pos 0) is_row e)

    step : (next here : Option ℕ) → IsNextAtom (take i rows) from next → MatchOption here ((a : ℕ) → from ≤ a → factor_of a row.parts ≡ pos 0) (λ n. (from ≤ n) × ((a : ℕ) → from ≤ a → a < n → factor_of a row.parts ≡ pos 0)) → IsNextAtom (take (i + 1) rows) from (lesser_of next here)
    step None None h g = λ a l. more a (h a l) (g a l)
    step None (Some n) h g = (g.0, λ a l m. more a (h a l) (g.1 a l m))
    step (Some m) None h g = (h.0, λ a l b. more a (h.1 a l b) (g a l))
    step (Some m) (Some n) h g =
        let low : from ≤ m = h.0 in
        let low' : from ≤ n = g.0 in
        (omega arith, λ a l b. more a (h.1 a l (omega arith)) (g.1 a l (omega arith)))

-- ---- a column's running sum

sum_step : (zs : List ℤ) (k : ℕ) (s p : ℤ) → s ≡ int_sum (take k zs) → get_or zs k (pos 0) ≡ p → s +ℤ p ≡ int_sum (take (k + 1) zs)
sum_step zs k s p e q = ap (λ t. t +ℤ p) e ∙ ap (λ t. int_sum (take k zs) +ℤ t) (sym q) ∙ sym (int_sum-take_more zs k)

pub narrow_from : (zs : List ℤ) (k : ℕ) (s p : ℤ) → s ≡ int_sum (take k zs) → get_or zs k (pos 0) ≡ p → FitsSigned w128 p × FitsSigned w128 (s +ℤ p) → IsNarrowAt zs k
narrow_from zs k s p e q fits =
    (subst (FitsSigned w128) (sym q) fits.0, subst (FitsSigned w128) (sum_step zs k s p e q) fits.1)

pub fits_from : (zs : List ℤ) (k : ℕ) (s p : ℤ) → s ≡ int_sum (take k zs) → get_or zs k (pos 0) ≡ p → IsNarrowAt zs k → FitsSigned w128 p × FitsSigned w128 (s +ℤ p)
fits_from zs k s p e q narrow =
    (subst (FitsSigned w128) q narrow.0, subst (FitsSigned w128) (sym (sum_step zs k s p e q)) narrow.1)

pub column_more : (column : Column) (rows : List Row) (mult : List ℤ) (k : ℕ) (p s next : ℤ) → get_or (products column rows mult) k (pos 0) ≡ p → s ≡ int_sum (take k (products column rows mult)) →
    IsNarrowBelow column rows mult k → (FitsSigned w128 p × FitsSigned w128 (s +ℤ p)) × (next ≡ s +ℤ p) → (next ≡ int_sum (take (k + 1) (products column rows mult))) × IsNarrowBelow column rows mult (k + 1)
column_more column rows mult k p s next is_p is_sum before now =
    let zs = products column rows mult in (
      now.1 ∙ sum_step zs k s p is_sum is_p,
      λ j l. elim (cases_lt j k) [
        | inl b ↦ before j b
        | inr b ↦ subst (IsNarrowAt zs) (omega arith) (narrow_from zs k s p is_sum is_p now.0)
      ],
    )

pub column_wide : (column : Column) (rows : List Row) (mult : List ℤ) (k : ℕ) (p s : ℤ) → get_or (products column rows mult) k (pos 0) ≡ p → s ≡ int_sum (take k (products column rows mult)) → ¬ (FitsSigned w128 p × FitsSigned w128 (s +ℤ p)) → ¬ (IsNarrowAt (products column rows mult) k)
column_wide column rows mult k p s is_p is_sum now narrow = now (fits_from (products column rows mult) k s p is_sum is_p narrow)

pub column_all : (column : Column) (rows : List Row) (mult : List ℤ) (n : ℕ) → length rows ≡ length mult → length rows ≤ n → int_sum (take n (products column rows mult)) ≡ combination column rows mult
column_all column rows mult n same past =
    let len : length (products column rows mult) ≡ length rows = length-products column rows mult same in
    ap int_sum (take_all n (products column rows mult) (omega arith))

-- ---- outcomes of some columns

-- the atoms below a number, and the constants
abbrev pub IsSeen : ℕ → Column → Type 0
IsSeen from (Factors a) = a < from
IsSeen from Constants = Unit {0}

-- every row is narrow in the column, and the sum is as in a false constant row
abbrev pub IsBlank : List Row → List ℤ → Column → Type 0
IsBlank rows mult column = IsNarrowBelow column rows mult (length rows) × IsFalseSum column (combination column rows mult)

pub blank_absent : (a : ℕ) (rows : List Row) (mult : List ℤ) → IsAbsent rows a → IsBlank rows mult (Factors a)
blank_absent a rows mult h = (narrow_absent a rows mult h (length rows), combination-absent a rows mult h)

module _ (rows : List Row) (mult : List ℤ) where
  -- of more columns, where those beside are blank
  pub outcome_as : (S R : Column → Type 0) (o : Result Bool ℕ) → ((c : Column) → R c → S c ⊎ IsBlank rows mult c) → ((c : Column) → S c → R c) → IsOutcome S rows mult o → IsOutcome R rows mult o
  outcome_as S R (Ok true) less more h =
      (λ c r. elim (less c r) [ inl s ↦ h.0 c s | inr b ↦ b.0 ], λ c r. elim (less c r) [ inl s ↦ h.1 c s | inr b ↦ b.1 ])
  outcome_as S R (Ok false) less more h =
      (λ c r. elim (less c r) [ inl s ↦ h.0 c s | inr b ↦ b.0 ], (h.1.0, more h.1.0 h.1.1, h.1.2))
  outcome_as S R (Err r) less more h =
      (h.0, λ c q. elim (less c q) [ inl s ↦ h.1 c s | inr b ↦ λ k l. b.0 k (let within : r < length rows = h.0 in omega arith) ], (h.2.0, more h.2.0 h.2.1, h.2.2))

  pub outcome_joined : (S R : Column → Type 0) (o u : Result Bool ℕ) → IsOutcome S rows mult o → IsOutcome R rows mult u → IsOutcome (λ c. S c ⊎ R c) rows mult (joined_of o u)
  outcome_joined S R (Ok true) (Ok true) h g =
      (λ c q. elim q [ inl s ↦ h.0 c s | inr r ↦ g.0 c r ], λ c q. elim q [ inl s ↦ h.1 c s | inr r ↦ g.1 c r ])
  outcome_joined S R (Ok true) (Ok false) h g =
      (λ c q. elim q [ inl s ↦ h.0 c s | inr r ↦ g.0 c r ], (g.1.0, inr g.1.1, g.1.2))
  outcome_joined S R (Ok false) (Ok b) h g =
      (λ c q. elim q [ inl s ↦ h.0 c s | inr r ↦ g.0 c r ], (h.1.0, inl h.1.1, h.1.2))
  outcome_joined S R (Ok b) (Err n) h g =
      (g.0, λ c q. elim q [ inl s ↦ (λ k l. h.0 c s k (let within : n < length rows = g.0 in omega arith)) | inr r ↦ g.1 c r ], (g.2.0, inr g.2.1, g.2.2))
  outcome_joined S R (Err m) (Ok b) h g =
      (h.0, λ c q. elim q [ inl s ↦ h.1 c s | inr r ↦ (λ k l. g.0 c r k (let within : m < length rows = h.0 in omega arith)) ], (h.2.0, inl h.2.1, h.2.2))
  outcome_joined S R (Err m) (Err n) h g =
      elim (cases_lt m n) [
        | inl below ↦ subst (λ (r : ℕ). IsOutcome (λ c. S c ⊎ R c) rows mult (Err r)) (omega arith)
            (let at_m : IsOutcome (λ c. S c ⊎ R c) rows mult (Err m) =
            (h.0, λ c q. elim q [ inl s ↦ h.1 c s | inr r ↦ (λ k l. g.1 c r k (omega arith)) ], (h.2.0, inl h.2.1, h.2.2)) in at_m)
        | inr above ↦ subst (λ (r : ℕ). IsOutcome (λ c. S c ⊎ R c) rows mult (Err r)) (omega arith)
            (let at_n : IsOutcome (λ c. S c ⊎ R c) rows mult (Err n) =
            (g.0, λ c q. elim q [ inl s ↦ (λ k l. h.1 c s k (omega arith)) | inr r ↦ g.1 c r ], (g.2.0, inr g.2.1, g.2.2)) in at_n)
      ]

  pub outcome_first : (o : Result Bool ℕ) → IsOutcome (λ c. c ≡ Constants) rows mult o → IsOutcome (IsSeen 0) rows mult o
  outcome_first o h = outcome_as (λ c. c ≡ Constants) (IsSeen 0) o less (λ c e. subst (IsSeen 0) (sym e) tt) h
    where
      less : (c : Column) → IsSeen 0 c → (c ≡ Constants) ⊎ IsBlank rows mult c
      less (Factors a) l = absurd (omega arith)
      less Constants l = inl refl

  pub outcome_more : (from atom : ℕ) (o here : Result Bool ℕ) → (from ≤ atom) × ((a : ℕ) → from ≤ a → a < atom → IsAbsent rows a) → IsOutcome (IsSeen from) rows mult o → IsOutcome (λ c. c ≡ Factors atom) rows mult here → IsOutcome (IsSeen (atom + 1)) rows mult (joined_of o here)
  outcome_more from atom o here next h g =
      outcome_as (λ c. IsSeen from c ⊎ (c ≡ Factors atom)) (IsSeen (atom + 1)) (joined_of o here) less more (outcome_joined (IsSeen from) (λ c. c ≡ Factors atom) o here h g)
    where
      less : (c : Column) → IsSeen (atom + 1) c → (IsSeen from c ⊎ (c ≡ Factors atom)) ⊎ IsBlank rows mult c
      less (Factors a) l =
          elim (cases_lt a from) [
            | inl below ↦ inl (inl below)
            | inr from_a ↦ elim (cases_lt a atom) [
              | inl below ↦ inr (blank_absent a rows mult (next.1 a from_a below))
              | inr above ↦ inl (inr (ap Factors (omega arith)))
            ]
          ]
      less Constants l = inl (inl tt)

      seen : (c : Column) → IsSeen from c → IsSeen (atom + 1) c
      seen (Factors a) l = let low : from ≤ atom = next.0 in omega arith
      seen Constants l = tt

      more : (c : Column) → IsSeen from c ⊎ (c ≡ Factors atom) → IsSeen (atom + 1) c
      more c q = elim q [ inl s ↦ seen c s | inr e ↦ subst (IsSeen (atom + 1)) (sym e) (omega arith) ]

  pub outcome_all : (from : ℕ) (o : Result Bool ℕ) → ((a : ℕ) → from ≤ a → IsAbsent rows a) → IsOutcome (IsSeen from) rows mult o → IsOutcome (λ _. Unit {0}) rows mult o
  outcome_all from o none h = outcome_as (IsSeen from) (λ _. Unit {0}) o less (λ c s. tt) h
    where
      less : (c : Column) → Unit {0} → IsSeen from c ⊎ IsBlank rows mult c
      less (Factors a) l =
          elim (cases_lt a from) [ inl below ↦ inl below | inr from_a ↦ inr (blank_absent a rows mult (none a from_a)) ]
      less Constants l = inl tt
