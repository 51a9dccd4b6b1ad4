-- Rounds end, and what stands when they end.
use Rattle.std.proofs.Common.{◌≡◌, ℕ, zero, suc, ◌+◌, ◌<◌, ◌≤◌, ◌||◌, not, max, Bool, true, false, List, [], ◌∷◌, ◌++◌, append-nil, get_or, length, drop, ◌⊎◌, inl, inr, refl, sym, ap, ap₂, ◌∙◌, subst, true≢false, arith}
use Rattle.std.proofs.lemmas.Bool.Decides.{nat_tests}
use Rattle.std.proofs.lemmas.List.{append_assoc}
use Rattle.logic_term.specs.Ty.{Ty, Tys, int, bool, math_int, tuple, adt, boxed, shared, unique, param, closure, viewed, snapshot, no_tys, and_ty}
use Rattle.logic_term.specs.declared.declaration.AdtDecl.{AdtDecl}
use Rattle.logic_term.specs.declared.declaration.FieldDecl.{FieldDecl}
use Rattle.logic_term.specs.declared.declaration.VariantDecl.{VariantDecl}
use Rattle.rs_types.specs.Growing.{is, outside, field_width, variant_width, row_grown, rows_grown, bounded_grown, HaveWidths, left_in, left_in_rows}
use Rattle.rs_types.specs.Holding.{Rows, stands, one_stands, argument_stands, in_some_field, in_some_variant, none, width, all_width}
use Rattle.rs_types.proofs.Sound.{either, both}

-- ---- a round changes nothing, or less is left

abbrev pub Falls : List Bool → List Bool → Type 0
Falls us bs = (us ≡ bs) ⊎ (left_in us < left_in bs)

one_falls : (b x : Bool) (us bs : List Bool) → Falls us bs → Falls ((b || x) ∷ us) (b ∷ bs)
one_falls true x us bs (inl e) = inl (ap (λ l. true ∷ l) e)
one_falls true x us bs (inr l) = inr l
one_falls false true us bs (inl e) = inr (subst (λ l. left_in us < suc (left_in l)) e (omega arith))
one_falls false true us bs (inr l) = inr (omega arith)
one_falls false false us bs (inl e) = inl (ap (λ l. false ∷ l) e)
one_falls false false us bs (inr l) = inr (omega arith)

row_falls : (rows : Rows) (vs : List VariantDecl) (n : ℕ) (bs : List Bool) → Falls (row_grown rows vs n bs) bs
row_falls rows vs n [] = inl refl
row_falls rows vs n (b ∷ bs) = one_falls b (in_some_variant rows (is n) none vs) (row_grown rows vs (suc n) bs) bs (row_falls rows vs (suc n) bs)

pub bounded_falls : (rows : Rows) (set : List Bool) (ds : List AdtDecl) (bs : List Bool) → Falls (bounded_grown rows set ds bs) bs
bounded_falls rows set [] bs = inl refl
bounded_falls rows set (d ∷ ds) [] = inl refl
bounded_falls rows set (d ∷ ds) (b ∷ bs) = one_falls b (not (in_some_variant rows none (outside set) d.variants)) (bounded_grown rows set ds bs) bs (bounded_falls rows set ds bs)

two_fall : (us bs : List Bool) (qs rs : Rows) → Falls us bs → (qs ≡ rs) ⊎ (left_in_rows qs < left_in_rows rs) → (us ∷ qs ≡ bs ∷ rs) ⊎ (left_in us + left_in_rows qs < left_in bs + left_in_rows rs)
two_fall us bs qs rs (inl e) (inl f) = inl (ap₂ (λ u q. u ∷ q) e f)
two_fall us bs qs rs (inl e) (inr f) = let g : left_in us ≡ left_in bs = ap left_in e in inr (omega arith)
two_fall us bs qs rs (inr e) (inl f) = let g : left_in_rows qs ≡ left_in_rows rs = ap left_in_rows f in inr (omega arith)
two_fall us bs qs rs (inr e) (inr f) = inr (omega arith)

pub rows_fall : (rows : Rows) (ds : List AdtDecl) (rs : Rows) → (rows_grown rows ds rs ≡ rs) ⊎ (left_in_rows (rows_grown rows ds rs) < left_in_rows rs)
rows_fall rows [] rs = inl refl
rows_fall rows (d ∷ ds) [] = inl refl
rows_fall rows (d ∷ ds) (r ∷ rs) = two_fall (row_grown rows d.variants 0 r) r (rows_grown rows ds rs) rs (row_falls rows d.variants 0 r) (rows_fall rows ds rs)

-- ---- widths

widths_stay_in_row : (rows : Rows) (vs : List VariantDecl) (n : ℕ) (bs : List Bool) → length (row_grown rows vs n bs) ≡ length bs
widths_stay_in_row rows vs n [] = refl
widths_stay_in_row rows vs n (b ∷ bs) = ap suc (widths_stay_in_row rows vs (suc n) bs)

pub widths_stay : (rows : Rows) (ds : List AdtDecl) (rs : Rows) → HaveWidths ds rs → HaveWidths ds (rows_grown rows ds rs)
widths_stay rows [] [] h = h
widths_stay rows [] (r ∷ rs) h = h
widths_stay rows (d ∷ ds) [] h = h
widths_stay rows (d ∷ ds) (r ∷ rs) h = (widths_stay_in_row rows d.variants 0 r ∙ h.0, widths_stay rows ds rs h.1)

module _ (rows : Rows) (n : ℕ) where
  in_max : {A B : Type 0} (w x : ℕ) → A ⊎ B → (A → n < w) → (B → n < x) → n < max w x
  in_max w x (inl a) f g = let l = f a in omega arith
  in_max w x (inr b) f g = let l = g b in omega arith

  mutual
    within : (t : Ty) → stands rows (is n) none t ≡ true → n < width t
    within (int k) e = absurd (true≢false (sym e))
    within bool e = absurd (true≢false (sym e))
    within math_int e = absurd (true≢false (sym e))
    within (tuple ts) e = one_within ts e
    within (adt d rs ts) e = argument_within (get_or rows d.0 []) ts e
    within (boxed t) e = absurd (true≢false (sym e))
    within (shared r t) e = within t e
    within (unique r t) e = within t e
    within (param m) e = let f : m ≡ n = grind (arith, nat_tests) in omega arith
    within (closure m ts cs k ps r) e = absurd (true≢false (sym e))
    within (viewed t) e = absurd (true≢false (sym e))
    within (snapshot t) e = within t e

    one_within : (ts : Tys) → one_stands rows (is n) none ts ≡ true → n < all_width ts
    one_within no_tys e = absurd (true≢false (sym e))
    one_within (and_ty t ts) e = in_max (width t) (all_width ts) (either (stands rows (is n) none t) (one_stands rows (is n) none ts) e) (λ f. within t f) (λ f. one_within ts f)

    argument_within : (held : List Bool) (ts : Tys) → argument_stands rows (is n) none held ts ≡ true → n < all_width ts
    argument_within held no_tys e = absurd (true≢false (sym e))
    argument_within [] (and_ty t ts) e = absurd (true≢false (sym e))
    argument_within (b ∷ held) (and_ty t ts) e =
        in_max (width t) (all_width ts) (either _ (argument_stands rows (is n) none held ts) e) (λ f. within t (both b (stands rows (is n) none t) f).1) (λ f. argument_within held ts f)

  field_within : (fs : List FieldDecl) → in_some_field rows (is n) none fs ≡ true → n < field_width fs
  field_within [] e = absurd (true≢false (sym e))
  field_within (f ∷ fs) e = in_max (width f.ty) (field_width fs) (either (stands rows (is n) none f.ty) (in_some_field rows (is n) none fs) e) (λ q. within f.ty q) (λ q. field_within fs q)

  pub variant_within : (vs : List VariantDecl) → in_some_variant rows (is n) none vs ≡ true → n < variant_width vs
  variant_within [] e = absurd (true≢false (sym e))
  variant_within (v ∷ vs) e = in_max (field_width v.fields) (variant_width vs) (either (in_some_field rows (is n) none v.fields) (in_some_variant rows (is n) none vs) e) (λ q. field_within v.fields q) (λ q. variant_within vs q)

-- ---- rows one after another

pub same_length : (ds : List AdtDecl) (rs : Rows) → HaveWidths ds rs → length ds ≡ length rs
same_length [] [] h = refl
same_length [] (r ∷ rs) h = absurd h
same_length (d ∷ ds) [] h = absurd h
same_length (d ∷ ds) (r ∷ rs) h = ap suc (same_length ds rs h.1)

after_row : (rows : Rows) (ds : List AdtDecl) (rs : Rows) (i : ℕ) (d : AdtDecl) (r : List Bool) → d ≡ get_or ds i d → r ≡ get_or rs i r → i < length ds → i < length rs
    → rows_grown rows (drop i ds) (drop i rs) ≡ row_grown rows d.variants 0 r ∷ rows_grown rows (drop (suc i) ds) (drop (suc i) rs)
after_row rows [] rs i d r e f l m = absurd (omega arith)
after_row rows (c ∷ ds) [] i d r e f l m = absurd (omega arith)
after_row rows (c ∷ ds) (q ∷ rs) zero d r e f l m = ap₂ (λ (x : AdtDecl) y. row_grown rows x.variants 0 y ∷ rows_grown rows ds rs) (sym e) (sym f)
after_row rows (c ∷ ds) (q ∷ rs) (suc i) d r e f l m = after_row rows ds rs i d r e f (omega arith) (omega arith)

pub next_row : (rows : Rows) (ds : List AdtDecl) (rs : Rows) (i : ℕ) (d : AdtDecl) (r : List Bool) → d ≡ get_or ds i d → r ≡ get_or rs i r → i < length ds → i < length rs
    → rows_grown rows (drop i ds) (drop i rs) ≡ row_grown rows d.variants 0 r ∷ rows_grown rows (drop (i + 1) ds) (drop (i + 1) rs)
next_row rows ds rs i d r e f l m =
    let more : suc i ≡ i + 1 = grind arith in
    after_row rows ds rs i d r e f l m ∙ ap (λ k. row_grown rows d.variants 0 r ∷ rows_grown rows (drop k ds) (drop k rs)) more

pub no_more : (rows : Rows) (ds : List AdtDecl) (rs : Rows) (n : ℕ) → HaveWidths ds rs → length ds ≤ n → rows_grown rows (drop n ds) (drop n rs) ≡ []
no_more rows [] [] zero h l = refl
no_more rows [] [] (suc n) h l = refl
no_more rows [] (r ∷ rs) n h l = absurd h
no_more rows (d ∷ ds) [] n h l = absurd h
no_more rows (d ∷ ds) (r ∷ rs) zero h l = absurd (omega arith)
no_more rows (d ∷ ds) (r ∷ rs) (suc n) h l = no_more rows ds rs n h.1 (omega arith)

pub one_row_more : (rows : Rows) (ds : List AdtDecl) (rs : Rows) (i : ℕ) (d : AdtDecl) (r g : List Bool) (new all whole : Rows) → d ≡ get_or ds i d → r ≡ get_or rs i r → i < length ds → i < length rs
    → g ≡ row_grown rows d.variants 0 r → all ≡ new ++ g ∷ [] → new ++ rows_grown rows (drop i ds) (drop i rs) ≡ whole → all ++ rows_grown rows (drop (i + 1) ds) (drop (i + 1) rs) ≡ whole
one_row_more rows ds rs i d r g new all whole e f l m is pushed so_far =
    ap (λ x. x ++ rows_grown rows (drop (i + 1) ds) (drop (i + 1) rs)) pushed
    ∙ append_assoc new (g ∷ []) (rows_grown rows (drop (i + 1) ds) (drop (i + 1) rs))
    ∙ ap (λ x. new ++ x ∷ rows_grown rows (drop (i + 1) ds) (drop (i + 1) rs)) is
    ∙ ap (λ x. new ++ x) (sym (next_row rows ds rs i d r e f l m))
    ∙ so_far

pub all_rows : (rows : Rows) (ds : List AdtDecl) (rs : Rows) (n : ℕ) (new whole : Rows) → HaveWidths ds rs → length ds ≤ n → new ++ rows_grown rows (drop n ds) (drop n rs) ≡ whole → new ≡ whole
all_rows rows ds rs n new whole h l so_far = sym (append-nil new) ∙ ap (λ x. new ++ x) (sym (no_more rows ds rs n h l)) ∙ so_far
