-- The rows over the table are narrow, and refute each other, just where the differences do.
use Rattle.std.proofs.Common.{◌≡◌, ◌≢◌, ℕ, zero, suc, ◌+◌, ◌<◌, ◌≤◌, Bool, true, false, List, [], ◌∷◌, length, map, get_or, All, ℤ, pos, ◌*ℤ◌, ◌≤ℤ◌, ◌<ℤ◌, FitsSigned, inl, inr, refl, sym, ◌∙◌, ap, ap₂, subst, arith, lit<}
use Rattle.std.specs.Int.{w128}
use Rattle.std.proofs.lemmas.Bool.{cases_lt}
use Rattle.std.proofs.lemmas.List.{length-map}
use Rattle.std.proofs.lemmas.List.Elements.{All-nil, All-cons, All-head, All-tail, All-map}
use Rattle.std.proofs.Math.IntN.{zero-*ℤ}
use Rattle.lin_arith.specs.declared.certificate.Row.{Row}
use Rattle.lin_arith.specs.declared.certificate.Column.{Column}
use Rattle.lin_arith.specs.declared.certificate.Column.TheVariants.{Factors, Constants}
use Rattle.proof_kernel.specs.declared.linear.Form.{Form}
use Rattle.proof_kernel.specs.declared.step.Multiple.{Multiple}
use Rattle.lin_arith.specs.Certificate.{int_sum, factor_of, products, IsNarrowAt, IsNarrow, IsCertificate, HasRisingAtoms}
use Rattle.lin_arith.specs.Columns.{IsAbsent}
use Rattle.proof_kernel.specs.Polynomial.{Monomial, same_monomial}
use Rattle.proof_kernel.specs.Linear.{Difference, IsNarrowDifference, row_polynomial, row_factor, row_constant, multiples, AreNarrowSums, AreNarrow, Refutes}
use Rattle.proof_kernel.specs.LinearRows.{form_of, is_in, with_all_monomials, row_over}
use Rattle.lin_arith.proofs.Sums.{int_sum-zero, int_sum-take_zero, combination-absent, products-absent}
use Rattle.proof_kernel.proofs.LinearTable.{CoversAll, all_covered, coefficient-same, no_one, not_one, place_of, uncovered}
use Rattle.proof_kernel.proofs.LinearParts.{factor_past, factor_at, atoms_rise}

fits_zero : FitsSigned w128 (pos 0)
fits_zero = record { sfits = lit< tt }

-- ---- monomials that the table has not

uncovered_sums : (table : List Monomial) (m : Monomial) → m ≢ [] → is_in table m ≡ false → (ds : List Difference) (ms : List Multiple) → CoversAll table (map form_of ds) → (k : ℕ) → get_or (multiples (row_factor m) ds ms) k (pos 0) ≡ pos 0
uncovered_sums table m n out [] ms h k = refl
uncovered_sums table m n out (d ∷ ds) [] h k = refl
uncovered_sums table m n out (d ∷ ds) (a ∷ ms) h zero = ap (λ x. x *ℤ a.by) (uncovered table m n out (row_polynomial d) h.0) ∙ zero-*ℤ a.by
uncovered_sums table m n out (d ∷ ds) (a ∷ ms) h (suc k) = uncovered_sums table m n out ds ms h.1 k

-- ---- rows

pub all_rise : (table : List Monomial) (fs : List Form) → All HasRisingAtoms (map (row_over table) fs)
all_rise table fs = All-map HasRisingAtoms (row_over table) fs (λ k d l. atoms_rise table _)

-- ---- columns

abbrev pub multiplier_of : Multiple → ℤ
multiplier_of m = m.by

pub same_factors : (table : List Monomial) (a : ℕ) (t : Monomial) → a < length table → (ds : List Difference) (ms : List Multiple) → products (Factors a) (map (row_over table) (map form_of ds)) (map multiplier_of ms) ≡ multiples (row_factor (get_or table a t)) ds ms
same_factors table a t l [] ms = refl
same_factors table a t l (d ∷ ds) [] = refl
same_factors table a t l (d ∷ ds) (m ∷ ms) =
    ap₂ (λ x xs. (x *ℤ m.by) ∷ xs) (factor_at 0 table (form_of d) a a t l (omega arith)) (same_factors table a t l ds ms)

pub same_constants : (table : List Monomial) (ds : List Difference) (ms : List Multiple) → products Constants (map (row_over table) (map form_of ds)) (map multiplier_of ms) ≡ multiples row_constant ds ms
same_constants table [] ms = refl
same_constants table (d ∷ ds) [] = refl
same_constants table (d ∷ ds) (m ∷ ms) = ap (λ xs. (row_constant d *ℤ m.by) ∷ xs) (same_constants table ds ms)

absent_past : (table : List Monomial) (fs : List Form) (a : ℕ) → length table ≤ a → IsAbsent (map (row_over table) fs) a
absent_past table fs a l = All-map (λ row. factor_of a row.parts ≡ pos 0) (row_over table) fs (λ k f i. factor_past 0 table _ a (omega arith))

-- the same monomials have the same columns
multiples-same : (m n : Monomial) → same_monomial m n ≡ true → (ds : List Difference) (ms : List Multiple) → multiples (row_factor m) ds ms ≡ multiples (row_factor n) ds ms
multiples-same m n e [] ms = refl
multiples-same m n e (d ∷ ds) [] = refl
multiples-same m n e (d ∷ ds) (a ∷ ms) = ap₂ (λ x xs. (x *ℤ a.by) ∷ xs) (coefficient-same m n (row_polynomial d) e) (multiples-same m n e ds ms)

length-multiples : (f : Difference → ℤ) (ds : List Difference) (ms : List Multiple) → length ds ≡ length ms → length (multiples f ds ms) ≡ length ds
length-multiples f [] ms e = refl
length-multiples f (d ∷ ds) [] e = absurd (omega arith)
length-multiples f (d ∷ ds) (m ∷ ms) e = ap suc (length-multiples f ds ms (omega arith))

zeros_narrow : (zs : List ℤ) → ((k : ℕ) → get_or zs k (pos 0) ≡ pos 0) → AreNarrowSums zs
zeros_narrow zs h k l =
    (subst (FitsSigned w128) (sym (h k)) fits_zero, subst (FitsSigned w128) (sym (int_sum-take_zero zs (k + 1) h)) fits_zero)

module _ (ds : List Difference) (ms : List Multiple) (same : length ds ≡ length ms) where
  abbrev forms : List Form
  forms = map form_of ds

  abbrev table : List Monomial
  table = with_all_monomials [] forms

  abbrev rows : List Row
  rows = map (row_over table) forms

  abbrev by : List ℤ
  by = map multiplier_of ms

  covered : CoversAll table forms
  covered = all_covered forms []

  rows_are : length rows ≡ length ds
  rows_are = length-map forms (row_over table) ∙ length-map ds form_of

  narrow_at : (column : Column) (zs : List ℤ) → products column rows by ≡ zs → length zs ≡ length ds → IsNarrow rows by → AreNarrowSums zs
  narrow_at column zs e len h k l =
      let r : length rows ≡ length ds = rows_are in
      subst (λ xs. IsNarrowAt xs k) e (h k (omega arith) column)

  narrow_factors : IsNarrow rows by → (m : Monomial) → m ≢ [] → (b : Bool) → is_in table m ≡ b → AreNarrowSums (multiples (row_factor m) ds ms)
  narrow_factors h m n true e =
      let p = place_of table m e in
      let is_column : products (Factors p.0) rows by ≡ multiples (row_factor m) ds ms = same_factors table p.0 m p.1 ds ms ∙ multiples-same (get_or table p.0 m) m (p.2 m) ds ms in
      narrow_at (Factors p.0) (multiples (row_factor m) ds ms) is_column (length-multiples (row_factor m) ds ms same) h
  narrow_factors h m n false e = zeros_narrow (multiples (row_factor m) ds ms) (uncovered_sums table m n e ds ms covered)

  pub narrow_from_rows : All IsNarrowDifference ds → IsNarrow rows by → AreNarrow ds ms
  narrow_from_rows h g = record {
    rows = h;
    factors = λ m n. narrow_factors g m n (is_in table m) refl;
    constants = narrow_at Constants (multiples row_constant ds ms) (same_constants table ds ms) (length-multiples row_constant ds ms same) g;
  }

  -- a monomial of the table is not 1
  listed_not_one : (a : ℕ) → a < length table → get_or table a [] ≢ []
  listed_not_one a l = not_one table (no_one forms [] tt) a [] l

  pub narrow_rows : AreNarrow ds ms → IsNarrow rows by
  narrow_rows h k l Constants =
      let r : length rows ≡ length ds = rows_are in
      let len : length (multiples row_constant ds ms) ≡ length ds = length-multiples row_constant ds ms same in
      subst (λ xs. IsNarrowAt xs k) (sym (same_constants table ds ms)) (h.constants k (omega arith))
  narrow_rows h k l (Factors a) =
      elim (cases_lt a (length table)) [
        | inl below ↦
            let r : length rows ≡ length ds = rows_are in
            let m : Monomial = get_or table a [] in
            let len : length (multiples (row_factor m) ds ms) ≡ length ds = length-multiples (row_factor m) ds ms same in
            subst (λ xs. IsNarrowAt xs k) (sym (same_factors table a [] below ds ms)) (h.factors m (listed_not_one a below) k (omega arith))
        | inr past ↦
            let zs = products (Factors a) rows by in
            let zeros = products-absent a rows by (absent_past table forms a past) in
            (subst (FitsSigned w128) (sym (zeros k)) fits_zero, subst (FitsSigned w128) (sym (int_sum-take_zero zs (k + 1) zeros)) fits_zero)
      ]

  vanish : IsCertificate rows by → (m : Monomial) → m ≢ [] → (b : Bool) → is_in table m ≡ b → int_sum (multiples (row_factor m) ds ms) ≡ pos 0
  vanish h m n true e =
      let p = place_of table m e in
      ap int_sum (sym (same_factors table p.0 m p.1 ds ms ∙ multiples-same (get_or table p.0 m) m (p.2 m) ds ms)) ∙ h.factors_vanish p.0
  vanish h m n false e = int_sum-zero (multiples (row_factor m) ds ms) (uncovered_sums table m n e ds ms covered)

  none_negative : (xs : List Multiple) → All (λ z. pos 0 ≤ℤ z) (map multiplier_of xs) → All (λ m. pos 0 ≤ℤ m.by) xs
  none_negative [] h = All-nil (λ m. pos 0 ≤ℤ m.by)
  none_negative (x ∷ xs) h = All-cons (λ m. pos 0 ≤ℤ m.by) x xs (All-head (λ z. pos 0 ≤ℤ z) x.by _ h) (none_negative xs (All-tail (λ z. pos 0 ≤ℤ z) x.by _ h))

  pub refutes_from_rows : IsCertificate rows by → Refutes ds ms
  refutes_from_rows h = record {
    none_negative = none_negative ms h.none_negative;
    factors_vanish = λ m n. vanish h m n (is_in table m) refl;
    constant_negative = subst (λ xs. int_sum xs <ℤ pos 0) (same_constants table ds ms) h.constant_negative;
  }

  rows_vanish : Refutes ds ms → (a : ℕ) → int_sum (products (Factors a) rows by) ≡ pos 0
  rows_vanish h a =
      elim (cases_lt a (length table)) [
        | inl below ↦ ap int_sum (same_factors table a [] below ds ms) ∙ h.factors_vanish (get_or table a []) (listed_not_one a below)
        | inr past ↦ combination-absent a rows by (absent_past table forms a past)
      ]

  pub rows_refute : Refutes ds ms → IsCertificate rows by
  rows_refute h = record {
    none_negative = All-map (λ z. pos 0 ≤ℤ z) multiplier_of ms h.none_negative;
    factors_vanish = rows_vanish h;
    constant_negative = subst (λ xs. int_sum xs <ℤ pos 0) (sym (same_constants table ds ms)) h.constant_negative;
  }
