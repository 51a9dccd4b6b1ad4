-- What a round finds is held, and what is held has been found when a round changes nothing.
use Rattle.std.proofs.Common.{◌≡◌, ℕ, zero, suc, ◌+◌, ◌<◌, ◌||◌, Bool, true, false, List, [], ◌∷◌, get_or, length, replicate, Some, slice_get, map, ◌⊎◌, inl, inr, refl, sym, ap, ◌∙◌, subst, true≢false, arith}
use Rattle.logic_term.specs.Sort.{nth_ty}
use Rattle.logic_term.specs.Theory.{fields_of, variant_of, field_ty}
use Rattle.logic_term.specs.TyView.{tys_of}
use Rattle.logic_term.specs.declared.declaration.AdtDecl.{AdtDecl}
use Rattle.logic_term.specs.declared.declaration.VariantDecl.{VariantDecl}
use Rattle.logic_term.specs.declared.kinds.AdtId.{AdtId}
use Rattle.rs_types.specs.Growing.{declared_by, is, variant_width, empty_row, row_grown, rows_grown, HaveWidths, AreHeld, left_in_rows}
use Rattle.rs_types.specs.Holding.{Rows, cell, in_some_variant, none}
use Rattle.rs_types.specs.Standing.{ParamIn, Held, held, Stands}
use Rattle.rs_types.proofs.Grow.{variant_within, rows_fall}
use Rattle.rs_types.proofs.Sound.{either, in_variant}
use Rattle.rs_types.proofs.Tests.{or_right}

-- ---- one place of a round

-- the declaration of the number has a field in which parameter n stands by what the rows say
abbrev pub StandsAt : Rows → List AdtDecl → ℕ → (ℕ → Bool) → (ℕ → Bool) → Type 0
StandsAt rows ds d p a = (c : AdtDecl) × (slice_get ds d ≡ Some c) × (in_some_variant rows p a c.variants ≡ true)

in_row : (rows : Rows) (vs : List VariantDecl) (m : ℕ) (bs : List Bool) (i n : ℕ) → m + i ≡ n → get_or (row_grown rows vs m bs) i false ≡ true
    → (get_or bs i false ≡ true) ⊎ (in_some_variant rows (is n) none vs ≡ true)
in_row rows vs m [] i n at e = inl e
in_row rows vs m (b ∷ bs) zero n at e = first (either b (in_some_variant rows (is m) none vs) e)
  where
    first : (b ≡ true) ⊎ (in_some_variant rows (is m) none vs ≡ true) → (b ≡ true) ⊎ (in_some_variant rows (is n) none vs ≡ true)
    first (inl q) = inl q
    first (inr q) = let same : m ≡ n = omega arith in inr (subst (λ k. in_some_variant rows (is k) none vs ≡ true) same q)
in_row rows vs m (b ∷ bs) (suc i) n at e = in_row rows vs (suc m) bs i n (omega arith) e

pub in_round : (rows : Rows) (ds : List AdtDecl) (rs : Rows) (d n : ℕ) → cell (rows_grown rows ds rs) d n ≡ true → (cell rs d n ≡ true) ⊎ StandsAt rows ds d (is n) none
in_round rows [] rs d n e = inl e
in_round rows (c ∷ ds) [] d n e = inl e
in_round rows (c ∷ ds) (r ∷ rs) zero n e = here (in_row rows c.variants 0 r n n (omega arith) e)
  where
    here : (get_or r n false ≡ true) ⊎ (in_some_variant rows (is n) none c.variants ≡ true) → (get_or r n false ≡ true) ⊎ StandsAt rows (c ∷ ds) 0 (is n) none
    here (inl q) = inl q
    here (inr q) = inr (c, refl, q)
in_round rows (c ∷ ds) (r ∷ rs) (suc d) n e = in_round rows ds rs d n e

-- what stands in a field by rows that are right is held
pub is_held : (ds : List AdtDecl) (rows : Rows) → AreHeld (declared_by ds) rows → (d : AdtId) (n : ℕ) → StandsAt rows ds d.0 (is n) none → Held (declared_by ds) d n
is_held ds rows h d n s = by (in_variant (declared_by ds) rows (is n) none h s.0.variants s.2)
  where
    fields : (k : ℕ) (v : VariantDecl) → slice_get s.0.variants k ≡ Some v → declared_by ds d k ≡ Some (tys_of (map field_ty v.fields))
    fields k v e = ap (λ o. fields_of (variant_of o k)) s.1 ∙ ap fields_of e

    by : (k : ℕ) × (v : VariantDecl) × (i : ℕ) × (slice_get s.0.variants k ≡ Some v)
        × (((m : ℕ) × (is n m ≡ true) × ParamIn (declared_by ds) m (nth_ty (tys_of (map field_ty v.fields)) i)) ⊎ ((e : AdtId) × (none e.0 ≡ true) × Stands (declared_by ds) e (nth_ty (tys_of (map field_ty v.fields)) i)))
        → Held (declared_by ds) d n
    by (k, v, i, e, inl (m, w, p)) =
        let same : m ≡ n = grind arith in
        held k i (tys_of (map field_ty v.fields)) (fields k v e) (subst (λ x. ParamIn (declared_by ds) x (nth_ty (tys_of (map field_ty v.fields)) i)) same p)
    by (k, v, i, e, inr (m, w, p)) = absurd (true≢false (sym w))

pub still_held : (ds : List AdtDecl) (rows : Rows) → AreHeld (declared_by ds) rows → AreHeld (declared_by ds) (rows_grown rows ds rows)
still_held ds rows h d n e = by (in_round rows ds rows d.0 n e)
  where
    by : (cell rows d.0 n ≡ true) ⊎ StandsAt rows ds d.0 (is n) none → Held (declared_by ds) d n
    by (inl q) = h d n q
    by (inr q) = is_held ds rows h d n q

-- ---- when a round changes nothing

heads : (a b : Bool) (us bs : List Bool) → a ∷ us ≡ b ∷ bs → a ≡ b
heads a b us bs e = ap (λ l. get_or l 0 false) e

tails : {A : Type 0} (a b : A) (us bs : List A) → a ∷ us ≡ b ∷ bs → us ≡ bs
tails a b us bs e = cc

row_closed : (rows : Rows) (vs : List VariantDecl) (m : ℕ) (bs : List Bool) (i n : ℕ) → m + i ≡ n → i < length bs → row_grown rows vs m bs ≡ bs → in_some_variant rows (is n) none vs ≡ true → get_or bs i false ≡ true
row_closed rows vs m [] i n at l same s = absurd (omega arith)
row_closed rows vs m (b ∷ bs) zero n at l same s =
    let k : m ≡ n = omega arith in
    sym (heads (b || in_some_variant rows (is m) none vs) b (row_grown rows vs (suc m) bs) bs same)
    ∙ or_right b (in_some_variant rows (is m) none vs) (subst (λ x. in_some_variant rows (is x) none vs ≡ true) (sym k) s)
row_closed rows vs m (b ∷ bs) (suc i) n at l same s = row_closed rows vs (suc m) bs i n (omega arith) (omega arith) (tails _ _ (row_grown rows vs (suc m) bs) bs same) s

pub closed : (rows : Rows) (ds : List AdtDecl) (rs : Rows) → HaveWidths ds rs → rows_grown rows ds rs ≡ rs → (d n : ℕ) → StandsAt rows ds d (is n) none → cell rs d n ≡ true
closed rows [] rs w same d n s = absurd (nothing d s.1)
  where
    nothing : (k : ℕ) → slice_get [] k ≡ Some s.0 → ⊥
    nothing zero q = grind (arith, q)
    nothing (suc k) q = grind (arith, q)
closed rows (c ∷ ds) [] w same d n s = absurd w
closed rows (c ∷ ds) (r ∷ rs) w same zero n s =
    let e : c ≡ s.0 = cc in
    let in_c : in_some_variant rows (is n) none c.variants ≡ true = subst (λ x. in_some_variant rows (is n) none x.variants ≡ true) (sym e) s.2 in
    let l : n < variant_width c.variants = variant_within rows n c.variants in_c in
    let m : length r ≡ variant_width c.variants = w.0 in
    row_closed rows c.variants 0 r n n (omega arith) (omega arith) (ap (λ l. get_or l 0 []) same) in_c
closed rows (c ∷ ds) (r ∷ rs) w same (suc d) n s = closed rows ds rs w.1 (tails _ _ (rows_grown rows ds rs) rs same) d n s

-- ---- the first rows

pub empty_widths : (ds : List AdtDecl) → HaveWidths ds (map empty_row ds)
empty_widths [] = tt
empty_widths (d ∷ ds) = (long (variant_width d.variants), empty_widths ds)
  where
    long : (n : ℕ) → length (replicate n false) ≡ n
    long zero = refl
    long (suc n) = ap suc (long n)

all_false : (n i : ℕ) → get_or (replicate n false) i false ≡ false
all_false zero i = refl
all_false (suc n) zero = refl
all_false (suc n) (suc i) = all_false n i

empty_cell : (ds : List AdtDecl) (d n : ℕ) → cell (map empty_row ds) d n ≡ false
empty_cell [] d n = refl
empty_cell (c ∷ ds) zero n = all_false (variant_width c.variants) n
empty_cell (c ∷ ds) (suc d) n = empty_cell ds d n

pub none_held : (ds : List AdtDecl) → AreHeld (declared_by ds) (map empty_row ds)
none_held ds d n e = absurd (true≢false (sym e ∙ empty_cell ds d.0 n))

pub less_left : (ds : List AdtDecl) (rows : Rows) → (rows_grown rows ds rows ≡ rows → ⊥) → left_in_rows (rows_grown rows ds rows) < left_in_rows rows
less_left ds rows other = by (rows_fall rows ds rows)
  where
    by : (rows_grown rows ds rows ≡ rows) ⊎ (left_in_rows (rows_grown rows ds rows) < left_in_rows rows) → left_in_rows (rows_grown rows ds rows) < left_in_rows rows
    by (inl e) = absurd (other e)
    by (inr l) = l
