-- Farkas' lemma, the half that a checker stands on: rows with a certificate have no common solution.
use Rattle.std.proofs.Common.{◌≡◌, ℕ, zero, suc, ◌<◌, ◌≤◌, max, List, [], ◌∷◌, ℤ, pos, negsuc, ◌+ℤ◌, ◌*ℤ◌, ◌≤ℤ◌, ◌<ℤ◌, All, inl, inr, refl, sym, ◌∙◌, ap, subst, arith}
use Rattle.std.proofs.lemmas.Bool.{cases_lt}
use Rattle.std.proofs.lemmas.Int.{ints}
use Rattle.std.proofs.Math.IntN.{ℤ_ind, neg_ℤ, +ℤ_assoc, +ℤ_idl, +ℤ_idr, +ℤ_one, -ℤ_one, -ℤ-+ℤ_cancel, zero-*ℤ, *ℤ-zero, *ℤ_comm, suc_ℤ-*ℤ, pred_ℤ-*ℤ}
use Rattle.lin_arith.specs.declared.certificate.Part.{Part}
use Rattle.lin_arith.specs.declared.certificate.Row.{Row}
use Rattle.lin_arith.specs.declared.certificate.Column.{Column}
use Rattle.lin_arith.specs.declared.certificate.Column.TheVariants.{Factors, Constants}
use Rattle.lin_arith.specs.Certificate.{factor_of, sum_at, AllRowsHold, entry_of, combination, IsCertificate}
use Rattle.lin_arith.proofs.Sums.{factor_of-same, factor_of-other}

-- ---- the ring laws that are used

plus_times : (a b c : ℤ) → (a +ℤ b) *ℤ c ≡ a *ℤ c +ℤ b *ℤ c
plus_times a b c = ℤ_ind (λ x. (a +ℤ x) *ℤ c ≡ a *ℤ c +ℤ x *ℤ c) none (λ n. up (pos n)) (λ n. down (neg_ℤ (pos n))) b
  where
    none : (a +ℤ pos 0) *ℤ c ≡ a *ℤ c +ℤ pos 0 *ℤ c
    none = ap (λ t. t *ℤ c) (+ℤ_idr a) ∙ sym (+ℤ_idr (a *ℤ c)) ∙ ap (λ t. a *ℤ c +ℤ t) (sym (zero-*ℤ c))

    up : (x : ℤ) → (a +ℤ x) *ℤ c ≡ a *ℤ c +ℤ x *ℤ c → (a +ℤ (x +ℤ pos 1)) *ℤ c ≡ a *ℤ c +ℤ (x +ℤ pos 1) *ℤ c
    up x h =
        ap (λ t. t *ℤ c) (sym (+ℤ_assoc a x (pos 1)) ∙ +ℤ_one (a +ℤ x))
        ∙ suc_ℤ-*ℤ (a +ℤ x) c
        ∙ ap (λ t. t +ℤ c) h
        ∙ +ℤ_assoc (a *ℤ c) (x *ℤ c) c
        ∙ ap (λ t. a *ℤ c +ℤ t) (sym (suc_ℤ-*ℤ x c) ∙ ap (λ t. t *ℤ c) (sym (+ℤ_one x)))

    down : (x : ℤ) → (a +ℤ x) *ℤ c ≡ a *ℤ c +ℤ x *ℤ c → (a +ℤ (x +ℤ negsuc 0)) *ℤ c ≡ a *ℤ c +ℤ (x +ℤ negsuc 0) *ℤ c
    down x h =
        ap (λ t. t *ℤ c) (sym (+ℤ_assoc a x (negsuc 0)) ∙ -ℤ_one (a +ℤ x))
        ∙ pred_ℤ-*ℤ (a +ℤ x) c
        ∙ ap (λ t. t +ℤ neg_ℤ c) h
        ∙ +ℤ_assoc (a *ℤ c) (x *ℤ c) (neg_ℤ c)
        ∙ ap (λ t. a *ℤ c +ℤ t) (sym (pred_ℤ-*ℤ x c) ∙ ap (λ t. t *ℤ c) (sym (-ℤ_one x)))

times_plus : (c a b : ℤ) → c *ℤ (a +ℤ b) ≡ c *ℤ a +ℤ c *ℤ b
times_plus c a b =
    *ℤ_comm c (a +ℤ b) ∙ plus_times a b c ∙ ap (λ t. t +ℤ b *ℤ c) (*ℤ_comm a c) ∙ ap (λ t. c *ℤ a +ℤ t) (*ℤ_comm b c)

cancel : (x y z : ℤ) → x +ℤ z ≡ y +ℤ z → x ≡ y
cancel x y z e = omega (arith, ints)

-- the two factors beside may change places
abbrev Swaps : ℤ → ℤ → ℤ → Type 0
Swaps a c x = (a *ℤ x) *ℤ c ≡ (a *ℤ c) *ℤ x

times_swap : (a b c : ℤ) → Swaps a c b
times_swap a b c = ℤ_ind (Swaps a c) none (λ n h. both (pos n) (pos 1) h at_one) (λ n. down (neg_ℤ (pos n))) b
  where
    none : Swaps a c (pos 0)
    none = ap (λ t. t *ℤ c) (*ℤ-zero a) ∙ zero-*ℤ c ∙ sym (*ℤ-zero (a *ℤ c))

    by_one : (x : ℤ) → x *ℤ pos 1 ≡ x
    by_one x = *ℤ_comm x (pos 1) ∙ suc_ℤ-*ℤ (pos 0) x ∙ ap (λ t. t +ℤ x) (zero-*ℤ x) ∙ +ℤ_idl x

    at_one : Swaps a c (pos 1)
    at_one = ap (λ t. t *ℤ c) (by_one a) ∙ sym (by_one (a *ℤ c))

    split : (x y : ℤ) → (a *ℤ (x +ℤ y)) *ℤ c ≡ (a *ℤ x) *ℤ c +ℤ (a *ℤ y) *ℤ c
    split x y = ap (λ t. t *ℤ c) (times_plus a x y) ∙ plus_times (a *ℤ x) (a *ℤ y) c

    both : (x y : ℤ) → Swaps a c x → Swaps a c y → Swaps a c (x +ℤ y)
    both x y h g = split x y ∙ ap (λ t. t +ℤ (a *ℤ y) *ℤ c) h ∙ ap (λ t. (a *ℤ c) *ℤ x +ℤ t) g ∙ sym (times_plus (a *ℤ c) x y)

    less : (x y : ℤ) → Swaps a c (x +ℤ y) → Swaps a c y → Swaps a c x
    less x y h g =
        cancel ((a *ℤ x) *ℤ c) ((a *ℤ c) *ℤ x) ((a *ℤ y) *ℤ c)
        (sym (split x y) ∙ h ∙ times_plus (a *ℤ c) x y ∙ ap (λ t. (a *ℤ c) *ℤ x +ℤ t) (sym g))

    down : (x : ℤ) → Swaps a c x → Swaps a c (x +ℤ negsuc 0)
    down x h = less (x +ℤ negsuc 0) (pos 1) (subst (Swaps a c) (sym (-ℤ-+ℤ_cancel x (pos 1))) h) at_one

swap_middle : (a b c d : ℤ) → (a +ℤ b) +ℤ (c +ℤ d) ≡ (a +ℤ c) +ℤ (b +ℤ d)
swap_middle a b c d = omega (arith, ints)

plus_swap : (a b c : ℤ) → a +ℤ (b +ℤ c) ≡ b +ℤ (a +ℤ c)
plus_swap a b c = omega (arith, ints)

product_not_negative : (a b : ℤ) → pos 0 ≤ℤ a → pos 0 ≤ℤ b → pos 0 ≤ℤ (a *ℤ b)
product_not_negative (pos m) (pos n) h g = omega (arith, ints)
product_not_negative (pos m) (negsuc n) h g = absurd (omega (arith, ints))
product_not_negative (negsuc m) b h g = absurd (omega (arith, ints))

sum_not_negative : (a b : ℤ) → pos 0 ≤ℤ a → pos 0 ≤ℤ b → pos 0 ≤ℤ (a +ℤ b)
sum_not_negative a b h g = omega (arith, ints)

-- ---- a sum over the rows of a value of each, times the multiplier

abbrev dot : (Row → ℤ) → List Row → List ℤ → ℤ
dot f [] mult = pos 0
dot f (row ∷ rows) [] = pos 0
dot f (row ∷ rows) (m ∷ mult) = f row *ℤ m +ℤ dot f rows mult

combination_is : (column : Column) (rows : List Row) (mult : List ℤ) → combination column rows mult ≡ dot (entry_of column) rows mult
combination_is column [] mult = refl
combination_is column (row ∷ rows) [] = refl
combination_is column (row ∷ rows) (m ∷ mult) = ap (λ t. entry_of column row *ℤ m +ℤ t) (combination_is column rows mult)

dot-plus : (f g : Row → ℤ) (rows : List Row) (mult : List ℤ) → dot (λ row. f row +ℤ g row) rows mult ≡ dot f rows mult +ℤ dot g rows mult
dot-plus f g [] mult = refl
dot-plus f g (row ∷ rows) [] = refl
dot-plus f g (row ∷ rows) (m ∷ mult) =
    ap (λ t. (f row +ℤ g row) *ℤ m +ℤ t) (dot-plus f g rows mult)
    ∙ ap (λ t. t +ℤ (dot f rows mult +ℤ dot g rows mult)) (plus_times (f row) (g row) m)
    ∙ swap_middle (f row *ℤ m) (g row *ℤ m) (dot f rows mult) (dot g rows mult)

dot-times : (f : Row → ℤ) (v : ℤ) (rows : List Row) (mult : List ℤ) → dot (λ row. f row *ℤ v) rows mult ≡ dot f rows mult *ℤ v
dot-times f v [] mult = sym (zero-*ℤ v)
dot-times f v (row ∷ rows) [] = sym (zero-*ℤ v)
dot-times f v (row ∷ rows) (m ∷ mult) =
    ap (λ t. (f row *ℤ v) *ℤ m +ℤ t) (dot-times f v rows mult)
    ∙ ap (λ t. t +ℤ dot f rows mult *ℤ v) (times_swap (f row) v m)
    ∙ sym (plus_times (f row *ℤ m) (dot f rows mult) v)

dot-zero : (rows : List Row) (mult : List ℤ) → dot (λ row. pos 0) rows mult ≡ pos 0
dot-zero [] mult = refl
dot-zero (row ∷ rows) [] = refl
dot-zero (row ∷ rows) (m ∷ mult) = ap (λ t. t +ℤ dot (λ row. pos 0) rows mult) (zero-*ℤ m) ∙ +ℤ_idl _ ∙ dot-zero rows mult

dot-not_negative : (f : Row → ℤ) (rows : List Row) (mult : List ℤ) → All (λ row. pos 0 ≤ℤ f row) rows → All (λ m. pos 0 ≤ℤ m) mult → pos 0 ≤ℤ dot f rows mult
dot-not_negative f [] mult h g = omega (arith, ints)
dot-not_negative f (row ∷ rows) [] h g = omega (arith, ints)
dot-not_negative f (row ∷ rows) (m ∷ mult) h g =
    sum_not_negative (f row *ℤ m) (dot f rows mult)
    (product_not_negative (f row) m (h 0 row (omega arith)) (g 0 m (omega arith)))
    (dot-not_negative f rows mult (λ k d l. h (suc k) d (omega arith)) (λ k d l. g (suc k) d (omega arith)))

-- ---- a sum of parts, atom by atom

-- the sum over the atoms below a number of the factor times the value
abbrev sum_below : ℕ → (ℕ → ℤ) → List Part → ℤ
sum_below zero value parts = pos 0
sum_below (suc n) value parts = sum_below n value parts +ℤ factor_of n parts *ℤ value n

sum_below-nil : (n : ℕ) (value : ℕ → ℤ) → sum_below n value [] ≡ pos 0
sum_below-nil zero value = refl
sum_below-nil (suc n) value = ap (λ t. t +ℤ pos 0 *ℤ value n) (sum_below-nil n value) ∙ +ℤ_idl (pos 0 *ℤ value n) ∙ zero-*ℤ (value n)

sum_below-past : (n : ℕ) (value : ℕ → ℤ) (part : Part) (parts : List Part) → n ≤ part.atom → sum_below n value (part ∷ parts) ≡ sum_below n value parts
sum_below-past zero value part parts h = refl
sum_below-past (suc n) value part parts h =
    ap (λ t. t +ℤ factor_of n (part ∷ parts) *ℤ value n) (sum_below-past n value part parts (omega arith))
    ∙ ap (λ t. sum_below n value parts +ℤ t *ℤ value n) (factor_of-other n part parts (λ e. omega arith))

sum_below-cons : (n : ℕ) (value : ℕ → ℤ) (part : Part) (parts : List Part) → part.atom < n → sum_below n value (part ∷ parts) ≡ part.factor *ℤ value part.atom +ℤ sum_below n value parts
sum_below-cons zero value part parts h = absurd (omega arith)
sum_below-cons (suc n) value part parts h =
    elim (cases_lt part.atom n) [
      | inl below ↦
          ap (λ t. t +ℤ factor_of n (part ∷ parts) *ℤ value n) (sum_below-cons n value part parts below)
          ∙ ap (λ t. (part.factor *ℤ value part.atom +ℤ sum_below n value parts) +ℤ t *ℤ value n) (factor_of-other n part parts (λ e. omega arith))
          ∙ regroup (part.factor *ℤ value part.atom) (sum_below n value parts) (factor_of n parts *ℤ value n)
      | inr above ↦
          let same : part.atom ≡ n = omega arith in
          ap (λ t. t +ℤ factor_of n (part ∷ parts) *ℤ value n) (sum_below-past n value part parts (omega arith))
          ∙ ap (λ t. sum_below n value parts +ℤ t *ℤ value n) (factor_of-same n part parts same)
          ∙ last (sum_below n value parts) part.factor (factor_of n parts) (value n)
          ∙ ap (λ a. part.factor *ℤ value a +ℤ (sum_below n value parts +ℤ factor_of n parts *ℤ value n)) (sym same)
    ]
  where
    regroup : (a b c : ℤ) → (a +ℤ b) +ℤ c ≡ a +ℤ (b +ℤ c)
    regroup a b c = omega (arith, ints)

    last : (s f g v : ℤ) → s +ℤ (f +ℤ g) *ℤ v ≡ f *ℤ v +ℤ (s +ℤ g *ℤ v)
    last s f g v = ap (λ t. s +ℤ t) (plus_times f g v) ∙ plus_swap s (f *ℤ v) (g *ℤ v)

-- a number above the atoms of the parts, and of the rows
abbrev end_of : List Part → ℕ
end_of [] = 0
end_of (part ∷ parts) = max (suc part.atom) (end_of parts)

abbrev end_of_rows : List Row → ℕ
end_of_rows [] = 0
end_of_rows (row ∷ rows) = max (end_of row.parts) (end_of_rows rows)

sum_at-below : (n : ℕ) (value : ℕ → ℤ) (parts : List Part) → end_of parts ≤ n → sum_at value parts ≡ sum_below n value parts
sum_at-below n value [] h = sym (sum_below-nil n value)
sum_at-below n value (part ∷ parts) h =
    ap (λ t. part.factor *ℤ value part.atom +ℤ t) (sum_at-below n value parts (omega arith))
    ∙ sym (sum_below-cons n value part parts (omega arith))

dot-sum_at : (n : ℕ) (value : ℕ → ℤ) (rows : List Row) (mult : List ℤ) → end_of_rows rows ≤ n → dot (λ row. sum_at value row.parts) rows mult ≡ dot (λ row. sum_below n value row.parts) rows mult
dot-sum_at n value [] mult h = refl
dot-sum_at n value (row ∷ rows) [] h = refl
dot-sum_at n value (row ∷ rows) (m ∷ mult) h =
    ap (λ t. t *ℤ m +ℤ dot (λ row. sum_at value row.parts) rows mult) (sum_at-below n value row.parts (omega arith))
    ∙ ap (λ t. sum_below n value row.parts *ℤ m +ℤ t) (dot-sum_at n value rows mult (omega arith))

-- where the factors of each atom add up to 0, so do the sums of the parts
dot-sum_below : (n : ℕ) (value : ℕ → ℤ) (rows : List Row) (mult : List ℤ) → ((a : ℕ) → combination (Factors a) rows mult ≡ pos 0) → dot (λ row. sum_below n value row.parts) rows mult ≡ pos 0
dot-sum_below zero value rows mult h = dot-zero rows mult
dot-sum_below (suc n) value rows mult h =
    dot-plus (λ row. sum_below n value row.parts) (λ row. factor_of n row.parts *ℤ value n) rows mult
    ∙ ap (λ t. t +ℤ dot (λ row. factor_of n row.parts *ℤ value n) rows mult) (dot-sum_below n value rows mult h)
    ∙ +ℤ_idl (dot (λ row. factor_of n row.parts *ℤ value n) rows mult)
    ∙ dot-times (λ row. factor_of n row.parts) (value n) rows mult
    ∙ ap (λ t. t *ℤ value n) (sym (combination_is (Factors n) rows mult) ∙ h n)
    ∙ zero-*ℤ (value n)

pub no_common_solution : (rows : List Row) (mult : List ℤ) → IsCertificate rows mult → (value : ℕ → ℤ) → AllRowsHold value rows → ⊥
no_common_solution rows mult cert value hold =
    let n = end_of_rows rows in
    let total = dot (λ row. sum_at value row.parts +ℤ row.constant) rows mult in
    let parts_vanish : dot (λ row. sum_at value row.parts) rows mult ≡ pos 0 =
    dot-sum_at n value rows mult (omega arith) ∙ dot-sum_below n value rows mult cert.factors_vanish in
    let splits : total ≡ dot (λ row. sum_at value row.parts) rows mult +ℤ dot (entry_of Constants) rows mult =
    dot-plus (λ row. sum_at value row.parts) (entry_of Constants) rows mult in
    let is_constant : total ≡ combination Constants rows mult =
    splits ∙ ap (λ t. t +ℤ dot (entry_of Constants) rows mult) parts_vanish ∙ +ℤ_idl (dot (entry_of Constants) rows mult) ∙ sym (combination_is Constants rows mult) in
    let not_negative : pos 0 ≤ℤ total = dot-not_negative (λ row. sum_at value row.parts +ℤ row.constant) rows mult hold cert.none_negative in
    clash total (combination Constants rows mult) is_constant not_negative cert.constant_negative
  where
    clash : (a b : ℤ) → a ≡ b → pos 0 ≤ℤ a → b <ℤ pos 0 → ⊥
    clash a b e h g = omega (arith, ints)
