-- What the check of the certificate says of the differences, and that of the sequent.
use Rattle.std.proofs.Common.{◌≡◌, ◌↔◌, ℕ, ◌+◌, ◌<◌, List, [], ◌∷◌, ◌++◌, length, take, map, get_or, All, ℤ, refl, sym, ◌∙◌, ap, subst, arith, add-one, Result, Ok, Err}
use Rattle.std.specs.Prelude.{IfOk}
use Rattle.std.proofs.lemmas.List.{length-map, get_or-map, map-append}
use Rattle.std.proofs.lemmas.List.Elements.{All-push, All-same}
use Rattle.lin_arith.specs.declared.certificate.Row.{Row}
use Rattle.proof_kernel.specs.declared.linear.Form.{Form}
use Rattle.proof_kernel.specs.declared.linear.LinAnswer.{LinAnswer}
use Rattle.proof_kernel.specs.declared.linear.LinAnswer.TheVariants.{Closes, TooWide, Fails}
use Rattle.proof_kernel.specs.declared.linear.Sides.{Sides}
use Rattle.proof_kernel.specs.Sequent.{Sequent}
use Rattle.proof_kernel.specs.declared.step.Multiple.{Multiple}
use Rattle.lin_arith.specs.Certificate.{HasRisingAtoms, IsCertificate, IsNarrow, IsFirstWide}
use Rattle.proof_kernel.specs.Polynomial.{Monomial}
use Rattle.proof_kernel.specs.Linear.{Difference, IsNarrowDifference, AreRows, AreNarrow, Refutes, Certifies, PassesWidth}
use Rattle.proof_kernel.specs.LinearRows.{difference, form_of, with_all_monomials, row_over, IsOutcomeOf}
use Rattle.proof_kernel.proofs.LinearNarrow.{multiplier_of, all_rise, narrow_from_rows, narrow_rows, refutes_from_rows, rows_refute}
use Rattle.proof_kernel.proofs.LinearRefs.{rows_length, rows_unique}
use Rattle.proof_kernel.proofs.LinearTable.{map-more}

-- ---- one form more

pub forms_none : (ss : List Sides) (i : ℕ) (s : Sides) → i < length ss → s ≡ get_or ss i s → (IsNarrowDifference (difference s) → ⊥) → All IsNarrowDifference (map difference ss) → ⊥
forms_none ss i s l e n h =
    let len : length (map difference ss) ≡ length ss = length-map ss difference in
    n (subst IsNarrowDifference (get_or-map difference ss i s (difference s) l ∙ ap difference (sym e)) (h i (difference s) (omega arith)))

pub forms_more : (ss : List Sides) (i : ℕ) (s : Sides) (form : Form) (old new : List Form) → i < length ss → s ≡ get_or ss i s → IsNarrowDifference (difference s) × (form ≡ form_of (difference s))
    → (old ≡ map form_of (map difference (take i ss))) × All IsNarrowDifference (map difference (take i ss)) → new ≡ old ++ form ∷ []
    → (new ≡ map form_of (map difference (take (i + 1) ss))) × All IsNarrowDifference (map difference (take (i + 1) ss))
forms_more ss i s form old new l e r h f =
    let ds = map difference (take i ss) in
    let more : map difference (take (i + 1) ss) ≡ ds ++ difference s ∷ [] = rw add-one (map-more ss i s l e) in (
      f ∙ ap (λ (x : Form). old ++ x ∷ []) r.1 ∙ ap (λ (fs : List Form). fs ++ form_of (difference s) ∷ []) h.0 ∙ sym (map-append form_of ds (difference s ∷ [])) ∙ ap (map form_of) (sym more),
      All-same IsNarrowDifference _ _ more (All-push IsNarrowDifference ds (difference s) h.1 r.0),
    )

-- ---- the answer for the differences

-- what was made: the forms, the table, the rows over it, and the multipliers
pub record Made (ds : List Difference) (ms : List Multiple) (forms : List Form) (table : List Monomial) (rows : List Row) (by : List ℤ) : Type 0 where
  pub same : length ds ≡ length ms
  pub are_forms : forms ≡ map form_of ds
  pub is_table : table ≡ with_all_monomials [] forms
  pub are_rows : rows ≡ map (row_over table) forms
  pub are_by : by ≡ map multiplier_of ms

pub made_rise : (table : List Monomial) (fs : List Form) (rows : List Row) → rows ≡ map (row_over table) fs → All HasRisingAtoms rows
made_rise table fs rows e = All-same HasRisingAtoms rows (map (row_over table) fs) e (all_rise table fs)

-- a fact of the rows and the multipliers as they are defined
of_defined : (ds : List Difference) (ms : List Multiple) (fs : List Form) (table : List Monomial) (rows : List Row) (by : List ℤ) → Made ds ms fs table rows by
    → (P : List Row → List ℤ → Type 0) → P rows by → P (map (row_over (with_all_monomials [] (map form_of ds))) (map form_of ds)) (map multiplier_of ms)
of_defined ds ms fs table rows by m P p =
    subst (P (map (row_over (with_all_monomials [] (map form_of ds))) (map form_of ds))) m.are_by
    (subst (λ rs. P rs by) (m.are_rows ∙ ap (λ t. map (row_over t) fs) m.is_table ∙ ap (λ (gs : List Form). map (row_over (with_all_monomials [] gs)) gs) m.are_forms) p)

is_wide : (ds : List Difference) (ms : List Multiple) → (AreNarrow ds ms → ⊥) → IsOutcomeOf TooWide ds ms
is_wide ds ms n = (((λ e. absurd (cc)), (λ p. absurd (n p.0))), ((λ e. n), (λ _. refl)))

pub outcome_no_forms : (ds : List Difference) (ms : List Multiple) → (All IsNarrowDifference ds → ⊥) → IsOutcomeOf TooWide ds ms
outcome_no_forms ds ms n = is_wide ds ms (λ h. n h.rows)

pub outcome_good : (ds : List Difference) (ms : List Multiple) (fs : List Form) (table : List Monomial) (rows : List Row) (by : List ℤ) → Made ds ms fs table rows by → All IsNarrowDifference ds → IsCertificate rows by × IsNarrow rows by → IsOutcomeOf Closes ds ms
outcome_good ds ms fs table rows by m h g =
    let narrow : AreNarrow ds ms = narrow_from_rows ds ms m.same h (of_defined ds ms fs table rows by m IsNarrow g.1) in
    let refutes : Refutes ds ms = refutes_from_rows ds ms m.same (of_defined ds ms fs table rows by m IsCertificate g.0) in
    (((λ e. (narrow, refutes)), (λ p. refl)), ((λ e. absurd (cc)), (λ n. absurd (n narrow))))

pub outcome_wide : (ds : List Difference) (ms : List Multiple) (fs : List Form) (table : List Monomial) (rows : List Row) (by : List ℤ) (r : ℕ) → Made ds ms fs table rows by → IsFirstWide rows by r → IsOutcomeOf TooWide ds ms
outcome_wide ds ms fs table rows by r m w = is_wide ds ms (λ h. clash (narrow_rows ds ms m.same h) (of_defined ds ms fs table rows by m (λ rs bs. IsFirstWide rs bs r) w))
  where
    clash : {rs : List Row} {bs : List ℤ} → IsNarrow rs bs → IsFirstWide rs bs r → ⊥
    clash h w = w.wide.1 (h r w.within w.wide.0)

pub outcome_fails : (ds : List Difference) (ms : List Multiple) (fs : List Form) (table : List Monomial) (rows : List Row) (by : List ℤ) → Made ds ms fs table rows by → All IsNarrowDifference ds → IsNarrow rows by → (IsCertificate rows by × IsNarrow rows by → ⊥) → IsOutcomeOf Fails ds ms
outcome_fails ds ms fs table rows by m h g n =
    let narrow : AreNarrow ds ms = narrow_from_rows ds ms m.same h (of_defined ds ms fs table rows by m IsNarrow g) in
    let none = of_defined ds ms fs table rows by m (λ rs bs. IsCertificate rs bs × IsNarrow rs bs → ⊥) n in
    (((λ e. absurd (cc)), (λ p. absurd (none (rows_refute ds ms m.same p.1, narrow_rows ds ms m.same p.0)))), ((λ e. absurd (cc)), (λ w. absurd (w narrow))))

-- ---- the answer for the sequent

-- the third answer, where neither of the others is due
neither : (P Q : Type 0) (a : LinAnswer) → ((a ≡ Closes) ↔ P) → ((a ≡ TooWide) ↔ Q) → (a ≡ Fails) ↔ ((P → ⊥) × (Q → ⊥))
neither P Q Closes p q = ((λ e. absurd (cc)), (λ n. absurd (n.0 (p.0 refl))))
neither P Q TooWide p q = ((λ e. absurd (cc)), (λ n. absurd (n.1 (q.0 refl))))
neither P Q Fails p q = ((λ e. ((λ x. let f : Fails ≡ Closes = p.1 x in absurd (cc)), (λ x. let f : Fails ≡ TooWide = q.1 x in absurd (cc)))), (λ n. refl))

module _ (q : Sequent) (ms : List Multiple) (ss : List Sides) (are_rows : AreRows q ms (map difference ss)) where
  pub sides_length : length ss ≡ length ms
  sides_length = sym (length-map ss difference) ∙ rows_length q ms (map difference ss) are_rows

  certifies_from : AreNarrow (map difference ss) ms × Refutes (map difference ss) ms → Certifies q ms
  certifies_from p = record { rows = map difference ss; are_rows = are_rows; narrow = p.0; refutes = p.1 }

  from_certifies : Certifies q ms → AreNarrow (map difference ss) ms × Refutes (map difference ss) ms
  from_certifies c =
      subst (λ es. AreNarrow es ms × Refutes es ms) (rows_unique q ms c.rows (map difference ss) c.are_rows are_rows) (c.narrow, c.refutes)

  wide_from : (AreNarrow (map difference ss) ms → ⊥) → PassesWidth q ms
  wide_from n = record { rows = map difference ss; are_rows = are_rows; wide = n }

  from_wide : PassesWidth q ms → AreNarrow (map difference ss) ms → ⊥
  from_wide w = subst (λ es. AreNarrow es ms → ⊥) (rows_unique q ms w.rows (map difference ss) w.are_rows are_rows) w.wide

  pub closes_of : {E : Type 0} (r : Result LinAnswer E) → IfOk r (λ a. IsOutcomeOf a (map difference ss) ms) → IfOk r (λ a. (a ≡ Closes) ↔ Certifies q ms)
  closes_of (Ok a) h = ((λ e. certifies_from (h.0.0 e)), (λ c. h.0.1 (from_certifies c)))
  closes_of (Err e) h = tt

  pub wide_of : {E : Type 0} (r : Result LinAnswer E) → IfOk r (λ a. IsOutcomeOf a (map difference ss) ms) → IfOk r (λ a. (a ≡ TooWide) ↔ PassesWidth q ms)
  wide_of (Ok a) h = ((λ e. wide_from (h.1.0 e)), (λ w. h.1.1 (from_wide w)))
  wide_of (Err e) h = tt

  pub fails_of : {E : Type 0} (r : Result LinAnswer E) → IfOk r (λ a. IsOutcomeOf a (map difference ss) ms) → IfOk r (λ a. (a ≡ Fails) ↔ ((Certifies q ms → ⊥) × (PassesWidth q ms → ⊥)))
  fails_of (Ok a) h = neither (Certifies q ms) (PassesWidth q ms) a ((λ e. certifies_from (h.0.0 e)), (λ c. h.0.1 (from_certifies c))) ((λ e. wide_from (h.1.0 e)), (λ w. h.1.1 (from_wide w)))
  fails_of (Err e) h = tt
