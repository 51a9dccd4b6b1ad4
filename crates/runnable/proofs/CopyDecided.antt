-- Which types are Copy is decided.
use Rattle.std.proofs.Common.{◌≡◌, refl, ap, sym, ◌∙◌, subst, true≢false, ℕ, zero, suc, ◌+◌, ◌<◌, ◌≤◌, ◌≢◌, ◌↔◌, ◌⊎◌, inl, inr, eqb, not, Bool, true, false, IsTrue, List, get_or, length, Option, Some, None, replicate, if◌then◌else◌, arith}
use Rattle.std.proofs.lemmas.Bool.Decides.{eqb_tells}
use Rattle.std.proofs.lemmas.Option.{get_or_from_slice_get, slice_get_within}
use Rattle.logic_term.specs.Ty.{Ty}
use Rattle.logic_term.specs.declared.declaration.AdtDecl.{AdtDecl}
use Rattle.logic_term.specs.declared.declaration.VariantDecl.{VariantDecl}
use Rattle.rs_types.specs.declared.copy_rows.CopyRow.{CopyRow}
use Rattle.rs_types.specs.Copied.{IsCopy}
use Rattle.rs_types.specs.CopyRows.{all_but, no_row, unknown, variants_copy, new_at, AreNeeded, Decide}
use Rattle.rs_types.specs.Growing.{variant_width}
use Rattle.rs_types.specs.Weighing.{variants_in, variants_at}
use Rattle.rs_types.proofs.CopyRows.{new_there}
use Rattle.rs_types.proofs.Copied.{AreRows, decided, first_rows, fewer_unknown, next_rows}
use Rattle.runnable.specs.CopyDecided.{needed_from, a_new, with_row, settled, rows_of, is_copied}

-- ---- the row of a declared type

needed_long : (rows : List CopyRow) (vs : List VariantDecl) (k m : ℕ) → length (needed_from rows vs k m) ≡ m
needed_long rows vs k zero = refl
needed_long rows vs k (suc m) = ap suc (needed_long rows vs (k + 1) m)

needed_at : (rows : List CopyRow) (vs : List VariantDecl) (k m i : ℕ) → i < m → get_or (needed_from rows vs k m) i false ≡ not (variants_copy rows (all_but (k + i)) vs)
needed_at rows vs k zero i h = absurd (omega (arith, h))
needed_at rows vs k (suc m) zero h = let q : k ≡ k + 0 = omega arith in ap (λ n. not (variants_copy rows (all_but n) vs)) q
needed_at rows vs k (suc m) (suc i) h = let q : k + 1 + i ≡ k + suc i = omega arith in needed_at rows vs (k + 1) m i (omega (arith, h)) ∙ ap (λ n. not (variants_copy rows (all_but n) vs)) q

are_needed : (rows : List CopyRow) (vs : List VariantDecl) → AreNeeded rows vs (needed_from rows vs 0 (variant_width vs))
are_needed rows vs = record {
  long = needed_long rows vs 0 (variant_width vs);
  each = λ n h.
      let l : n < variant_width vs = omega (arith, h, needed_long rows vs 0 (variant_width vs)) in
      let q : 0 + n ≡ n = omega arith in
      needed_at rows vs 0 (variant_width vs) n l ∙ ap (λ i. not (variants_copy rows (all_but i) vs)) q;
}

-- ---- looking for what is new

found_new : (ds : List AdtDecl) (rows : List CopyRow) (n d : ℕ) → a_new ds rows n ≡ Some d → new_at ds rows d ≡ true
found_new ds rows zero d e = absurd (cc)
found_new ds rows (suc n) d e = by (new_at ds rows n) refl (found_new ds rows n d)
  where
    by : (b : Bool) → new_at ds rows n ≡ b → (a_new ds rows n ≡ Some d → new_at ds rows d ≡ true) → new_at ds rows d ≡ true
    by true q below =
        let r : Some n ≡ Some d = sym (ap (λ b. if b then Some n else a_new ds rows n) q) ∙ e in
        let same : n ≡ d = cc in
        subst (λ m. new_at ds rows m ≡ true) same q
    by false q below = below (sym (ap (λ b. if b then Some n else a_new ds rows n) q) ∙ e)

none_new : (ds : List AdtDecl) (rows : List CopyRow) (n d : ℕ) → a_new ds rows n ≡ None → d < n → new_at ds rows d ≡ false
none_new ds rows zero d e h = absurd (omega (arith, h))
none_new ds rows (suc n) d e h = by (new_at ds rows n) refl (none_new ds rows n d)
  where
    by : (b : Bool) → new_at ds rows n ≡ b → (a_new ds rows n ≡ None → d < n → new_at ds rows d ≡ false) → new_at ds rows d ≡ false
    by true q before =
        let r : Some n ≡ None = sym (ap (λ b. if b then Some n else a_new ds rows n) q) ∙ e in
        absurd (cc)
    by false q before = below (eqb_tells d n)
      where
        rest : a_new ds rows n ≡ None
        rest = sym (ap (λ b. if b then Some n else a_new ds rows n) q) ∙ e

        below : ((eqb d n ≡ true) × (d ≡ n)) ⊎ ((eqb d n ≡ false) × (d ≢ n)) → new_at ds rows d ≡ false
        below (inl (t, same)) = subst (λ m. new_at ds rows m ≡ false) (sym same) q
        below (inr (t, other)) = before rest (omega (arith, h, other))

within : (ds : List AdtDecl) (rows : List CopyRow) (d : ℕ) → new_at ds rows d ≡ true → d < length ds
within ds rows d e = let new = new_there ds rows d e in slice_get_within ds d new.decl new.there

-- ---- the rows in the end

module _ (ds : List AdtDecl) (rows : List CopyRow) (d : ℕ) (h : AreRows ds rows) (e : new_at ds rows d ≡ true) where
  row_more : AreRows ds (with_row ds rows (Some d))
  row_more =
      let new = new_there ds rows d e in
      next_rows ds rows d e (needed_from rows (variants_at ds d) 0 (variant_width (variants_at ds d))) new.decl (within ds rows d e) h (sym (get_or_from_slice_get ds d new.decl new.decl new.there))
      (subst (λ vs. AreNeeded rows vs (needed_from rows (variants_at ds d) 0 (variant_width (variants_at ds d)))) (ap variants_in new.there) (are_needed rows (variants_at ds d)))

  row_fewer : unknown (with_row ds rows (Some d)) < unknown rows
  row_fewer = fewer_unknown ds rows d e (needed_from rows (variants_at ds d) 0 (variant_width (variants_at ds d))) (within ds rows d e) h.0

stays : (n : ℕ) (ds : List AdtDecl) (rows : List CopyRow) → a_new ds rows (length ds) ≡ None → settled n ds rows ≡ rows
stays zero ds rows e = refl
stays (suc n) ds rows e = ap (λ o. settled n ds (with_row ds rows o)) e ∙ stays n ds rows e

abbrev NothingNew : List AdtDecl → List CopyRow → Type 0
NothingNew ds rows = (d : ℕ) → new_at ds rows d ≡ false

not_new : (ds : List AdtDecl) (rows : List CopyRow) → ((d : ℕ) → new_at ds rows d ≡ true → ⊥) → NothingNew ds rows
not_new ds rows h d = by (new_at ds rows d) refl
  where
    by : (b : Bool) → new_at ds rows d ≡ b → new_at ds rows d ≡ false
    by true q = absurd (h d q)
    by false q = q

settles : (n : ℕ) (ds : List AdtDecl) (rows : List CopyRow) → AreRows ds rows → unknown rows ≤ n → AreRows ds (settled n ds rows) × NothingNew ds (settled n ds rows)
settles zero ds rows h u = (h, not_new ds rows (λ d e. absurd (omega (arith, u, row_fewer ds rows d h e))))
settles (suc n) ds rows h u = by (a_new ds rows (length ds)) refl (settles n ds)
  where
    by : (o : Option ℕ) → a_new ds rows (length ds) ≡ o → ((rs : List CopyRow) → AreRows ds rs → unknown rs ≤ n → AreRows ds (settled n ds rs) × NothingNew ds (settled n ds rs)) → AreRows ds (settled (suc n) ds rows) × NothingNew ds (settled (suc n) ds rows)
    by None q on =
        let same : settled (suc n) ds rows ≡ rows = stays (suc n) ds rows q in
        subst (λ rs. AreRows ds rs × NothingNew ds rs) (sym same) (h, not_new ds rows (λ d e. true≢false (sym e ∙ none_new ds rows (length ds) d q (within ds rows d e))))
    by (Some d) q on =
        let e = found_new ds rows (length ds) d q in
        let same : settled (suc n) ds rows ≡ settled n ds (with_row ds rows (Some d)) = ap (λ o. settled n ds (with_row ds rows o)) q in
        subst (λ rs. AreRows ds rs × NothingNew ds rs) (sym same) (on (with_row ds rows (Some d)) (row_more ds rows d h e) (omega (arith, u, row_fewer ds rows d h e)))

none_known : (n : ℕ) → unknown (replicate n no_row) ≡ n
none_known zero = refl
none_known (suc n) = ap suc (none_known n)

decide : (ds : List AdtDecl) → Decide ds (rows_of ds)
decide ds =
    let w = settles (length ds) ds (replicate (length ds) no_row) (first_rows ds _ refl) (omega (arith, none_known (length ds))) in
    decided ds (rows_of ds) w.0.1 w.0.2 w.1

-- ---- what is decided

pub tells_copy : (ds : List AdtDecl) (t : Ty) → IsTrue (is_copied ds t) ↔ IsCopy ds t
unfolding is_copied
tells_copy ds t = decide ds t

-- what another test answers
pub is_copied_by : (ds : List AdtDecl) (t : Ty) (b : Bool) → IsTrue b ↔ IsCopy ds t → b ≡ is_copied ds t
is_copied_by ds t b h = by b (is_copied ds t) refl refl
  where
    by : (x y : Bool) → b ≡ x → is_copied ds t ≡ y → b ≡ is_copied ds t
    by true true p q = p ∙ sym q
    by false false p q = p ∙ sym q
    by true false p q = absurd (true≢false (sym ((tells_copy ds t).1 (h.0 p)) ∙ q))
    by false true p q = absurd (true≢false (sym (h.1 ((tells_copy ds t).0 q)) ∙ p))
