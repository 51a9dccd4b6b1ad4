-- Round by round: what is bounded, and what is endless when a round changes nothing.
use Rattle.std.proofs.Common.{◌≡◌, ℕ, zero, suc, ◌+◌, ◌<◌, ◌≤◌, ◌||◌, not, Bool, true, false, List, [], ◌∷◌, ◌++◌, append-nil, get_or, drop, length, replicate, Option, Some, None, slice_get, map, ◌⊎◌, inl, inr, refl, sym, ap, ap₂, ◌∙◌, subst, true≢false, arith}
use Rattle.std.proofs.lemmas.List.{append_assoc}
use Rattle.logic_term.specs.Sort.{nth_ty, instances}
use Rattle.logic_term.specs.Theory.{fields_of, variant_of, field_ty}
use Rattle.logic_term.specs.Ty.{Tys, adt}
use Rattle.logic_term.specs.TyView.{tys_of}
use Rattle.logic_term.specs.declared.declaration.AdtDecl.{AdtDecl}
use Rattle.logic_term.specs.declared.declaration.VariantDecl.{VariantDecl}
use Rattle.logic_term.specs.declared.kinds.AdtId.{AdtId}
use Rattle.rs_types.specs.Bounded.{Bounded, AllBounded, adt_bounded, params_from}
use Rattle.rs_types.specs.Endless.{IsBounded, IsEndless}
use Rattle.rs_types.specs.Growing.{declared_by, is, outside, bounded_grown, HaveWidths, AreHeld, AreAll, left_in}
use Rattle.rs_types.specs.Holding.{Rows, cell, in_some_variant, none}
use Rattle.rs_types.specs.Standing.{ParamIn, Stands, Edge}
use Rattle.rs_types.proofs.Endless.{cycle_unbounded}
use Rattle.rs_types.proofs.Fields.{AreBounded, variant_bounded}
use Rattle.rs_types.proofs.Grow.{bounded_falls}
use Rattle.rs_types.proofs.Ranked.{params_bounded}
use Rattle.rs_types.proofs.Rounds.{StandsAt, closed}
use Rattle.rs_types.proofs.Sound.{either, in_variant}
use Rattle.rs_types.proofs.Tests.{not_true, or_false}

-- ---- one round

abbrev pub NoneStandsAt : Rows → List AdtDecl → ℕ → (ℕ → Bool) → Type 0
NoneStandsAt rows ds d a = (c : AdtDecl) × (slice_get ds d ≡ Some c) × (in_some_variant rows none a c.variants ≡ false)

in_round : (rows : Rows) (set : List Bool) (ds : List AdtDecl) (bs : List Bool) (d : ℕ) → get_or (bounded_grown rows set ds bs) d true ≡ true
    → (get_or bs d true ≡ true) ⊎ NoneStandsAt rows ds d (outside set)
in_round rows set [] bs d e = inl e
in_round rows set (c ∷ ds) [] d e = inl e
in_round rows set (c ∷ ds) (b ∷ bs) zero e = here (either b (not (in_some_variant rows none (outside set) c.variants)) e)
  where
    here : (b ≡ true) ⊎ (not (in_some_variant rows none (outside set) c.variants) ≡ true) → (b ≡ true) ⊎ NoneStandsAt rows (c ∷ ds) 0 (outside set)
    here (inl q) = inl q
    here (inr q) = inr (c, refl, not_true _ q)
in_round rows set (c ∷ ds) (b ∷ bs) (suc d) e = in_round rows set ds bs d e

module _ (ds : List AdtDecl) (rows : Rows) where
  -- the fields that a declaration gives
  fields_are : (d : AdtId) (c : AdtDecl) → slice_get ds d.0 ≡ Some c → (k : ℕ) (fs : Tys) → declared_by ds d k ≡ Some fs
      → (v : VariantDecl) × (slice_get c.variants k ≡ Some v) × (fs ≡ tys_of (map field_ty v.fields))
  fields_are d c e k fs f = by (slice_get c.variants k) refl (sym (ap (λ o. fields_of (variant_of o k)) e) ∙ f)
    where
      by : (o : Option VariantDecl) → slice_get c.variants k ≡ o → fields_of o ≡ Some fs → (v : VariantDecl) × (slice_get c.variants k ≡ Some v) × (fs ≡ tys_of (map field_ty v.fields))
      by None g q = absurd (nothing q)
        where
          nothing : None ≡ Some fs → ⊥
          nothing r = grind (arith, r)
      by (Some v) g q = (v, g, cc)

  pub still_bounded : HaveWidths ds rows → AreAll ds rows → (set : List Bool) → AreBounded (declared_by ds) rows set → AreBounded (declared_by ds) rows (bounded_grown rows set ds set)
  still_bounded w all set up d rs ts e h = by (in_round rows set ds set d.0 e)
    where
      by : (get_or set d.0 true ≡ true) ⊎ NoneStandsAt rows ds d.0 (outside set) → Bounded (declared_by ds) (adt d rs ts)
      by (inl q) = up d rs ts q h
      by (inr (c, f, o)) = adt_bounded (λ k fs g.
          let v = fields_are d c f k fs g in
          subst (λ x. AllBounded (declared_by ds) (instances ts x)) (sym v.2)
          (variant_bounded (declared_by ds) rows set up (cell rows d.0) ts h c.variants (λ n s. closed rows ds rows w all d.0 n (c, f, s)) o k v.0 v.1))

  -- ---- the first set

  pub none_bounded_yet : AreBounded (declared_by ds) rows (replicate (length ds) false)
  none_bounded_yet d rs ts e h = adt_bounded (λ k fs f. absurd (past ds d.0 e k fs f))
    where
      past : (cs : List AdtDecl) (n : ℕ) → get_or (replicate (length cs) false) n true ≡ true → (k : ℕ) (fs : Tys) → fields_of (variant_of (slice_get cs n) k) ≡ Some fs → ⊥
      past [] n q k fs f = nothing n f
        where
          nothing : (n : ℕ) → fields_of (variant_of (slice_get [] n) k) ≡ Some fs → ⊥
          nothing zero r = grind (arith, r)
          nothing (suc n) r = grind (arith, r)
      past (c ∷ cs) zero q k fs f = true≢false (sym q)
      past (c ∷ cs) (suc n) q k fs f = past cs n q k fs f

  -- ---- the end

  stands_outside : (set : List Bool) → (cs : List AdtDecl) (bs : List Bool) → length bs ≡ length cs → bounded_grown rows set cs bs ≡ bs → (d : ℕ) → get_or bs d true ≡ false
      → StandsAt rows cs d none (outside set)
  stands_outside set [] [] l same d e = absurd (true≢false e)
  stands_outside set [] (b ∷ bs) l same d e = absurd (true≢false (absurd (omega arith)))
  stands_outside set (c ∷ cs) [] l same d e = absurd (true≢false e)
  stands_outside set (c ∷ cs) (b ∷ bs) l same zero e =
      let first : (b || not (in_some_variant rows none (outside set) c.variants)) ≡ b = ap (λ l. get_or l 0 false) same in
      (c, refl, not_not _ (or_false b (not (in_some_variant rows none (outside set) c.variants)) (first ∙ e)).1)
    where
      not_not : (x : Bool) → not x ≡ false → x ≡ true
      not_not true q = refl
      not_not false q = absurd (true≢false q)
  stands_outside set (c ∷ cs) (b ∷ bs) l same (suc d) e = stands_outside set cs bs (omega arith) (tails _ b _ bs same) d e
    where
      tails : (x y : Bool) (us vs : List Bool) → x ∷ us ≡ y ∷ vs → us ≡ vs
      tails x y us vs q = cc

  pub rest_endless : AreHeld (declared_by ds) rows → (set : List Bool) → length set ≡ length ds → bounded_grown rows set ds set ≡ set → (d : ℕ) → get_or set d true ≡ false → IsEndless ds d
  rest_endless h set l same d e rs ts b = cycle_unbounded (declared_by ds) (λ x. get_or set x.0 true ≡ false) more (record { 0 = d }) e rs ts b
    where
      Goal : AdtId → Type 0
      Goal x = (y : AdtId) × (get_or set y.0 true ≡ false) × Edge (declared_by ds) x y

      fields : (x : AdtId) (c : AdtDecl) (k : ℕ) (v : VariantDecl) → slice_get ds x.0 ≡ Some c → slice_get c.variants k ≡ Some v → declared_by ds x k ≡ Some (tys_of (map field_ty v.fields))
      fields x c k v f g = ap (λ o. fields_of (variant_of o k)) f ∙ ap fields_of g

      by : (x : AdtId) (c : AdtDecl) → slice_get ds x.0 ≡ Some c → (k : ℕ) × (v : VariantDecl) × (i : ℕ) × (slice_get c.variants k ≡ Some v)
          × (((m : ℕ) × (none m ≡ true) × ParamIn (declared_by ds) m (nth_ty (tys_of (map field_ty v.fields)) i)) ⊎ ((y : AdtId) × (outside set y.0 ≡ true) × Stands (declared_by ds) y (nth_ty (tys_of (map field_ty v.fields)) i)))
          → Goal x
      by x c f (k, v, i, g, inl (m, w, p)) = absurd (true≢false (sym w))
      by x c f (k, v, i, g, inr (y, w, p)) = (y, not_true (get_or set y.0 true) w, (k, tys_of (map field_ty v.fields), i, fields x c k v f g, p))

      more : (x : AdtId) → get_or set x.0 true ≡ false → Goal x
      more x q = let s = stands_outside set ds set l same x.0 q in by x s.0 s.1 (in_variant (declared_by ds) rows none (outside set) h s.0.variants s.2)

  pub first_bounded : (set : List Bool) → AreBounded (declared_by ds) rows set → (d : ℕ) → get_or set d true ≡ true → IsBounded ds d
  first_bounded set up d e rs m = up (record { 0 = d }) rs (params_from m 0) e (λ n q. params_bounded (declared_by ds) m 0 n)

pub less_bounded : (ds : List AdtDecl) (rows : Rows) (set : List Bool) → (bounded_grown rows set ds set ≡ set → ⊥) → left_in (bounded_grown rows set ds set) < left_in set
less_bounded ds rows set other = by (bounded_falls rows set ds set)
  where
    by : (bounded_grown rows set ds set ≡ set) ⊎ (left_in (bounded_grown rows set ds set) < left_in set) → left_in (bounded_grown rows set ds set) < left_in set
    by (inl e) = absurd (other e)
    by (inr l) = l

pub same_long : (rows : Rows) (set : List Bool) (ds : List AdtDecl) (bs : List Bool) → length (bounded_grown rows set ds bs) ≡ length bs
same_long rows set [] bs = refl
same_long rows set (d ∷ ds) [] = refl
same_long rows set (d ∷ ds) (b ∷ bs) = ap suc (same_long rows set ds bs)

pub next_bounded : (rows : Rows) (set : List Bool) (ds : List AdtDecl) (bs : List Bool) (i : ℕ) (d : AdtDecl) (b : Bool) → d ≡ get_or ds i d → b ≡ get_or bs i b → i < length ds → i < length bs
    → bounded_grown rows set (drop i ds) (drop i bs) ≡ (b || not (in_some_variant rows none (outside set) d.variants)) ∷ bounded_grown rows set (drop (i + 1) ds) (drop (i + 1) bs)
next_bounded rows set ds bs i d b e f l m =
    let more : suc i ≡ i + 1 = grind arith in
    after ds bs i e f l m ∙ ap (λ k. (b || not (in_some_variant rows none (outside set) d.variants)) ∷ bounded_grown rows set (drop k ds) (drop k bs)) more
  where
    after : (ds : List AdtDecl) (bs : List Bool) (i : ℕ) → d ≡ get_or ds i d → b ≡ get_or bs i b → i < length ds → i < length bs
        → bounded_grown rows set (drop i ds) (drop i bs) ≡ (b || not (in_some_variant rows none (outside set) d.variants)) ∷ bounded_grown rows set (drop (suc i) ds) (drop (suc i) bs)
    after [] bs i e f l m = absurd (omega arith)
    after (c ∷ ds) [] i e f l m = absurd (omega arith)
    after (c ∷ ds) (a ∷ bs) zero e f l m = ap₂ (λ (x : AdtDecl) y. (y || not (in_some_variant rows none (outside set) x.variants)) ∷ bounded_grown rows set ds bs) (sym e) (sym f)
    after (c ∷ ds) (a ∷ bs) (suc i) e f l m = after ds bs i e f (omega arith) (omega arith)

none_after : (rows : Rows) (set : List Bool) (ds : List AdtDecl) (bs : List Bool) (n : ℕ) → length bs ≡ length ds → length ds ≤ n → bounded_grown rows set (drop n ds) (drop n bs) ≡ []
none_after rows set [] [] zero h l = refl
none_after rows set [] [] (suc n) h l = refl
none_after rows set [] (b ∷ bs) n h l = absurd (omega arith)
none_after rows set (d ∷ ds) [] n h l = absurd (omega arith)
none_after rows set (d ∷ ds) (b ∷ bs) zero h l = absurd (omega arith)
none_after rows set (d ∷ ds) (b ∷ bs) (suc n) h l = none_after rows set ds bs n (omega arith) (omega arith)

pub all_bounded : (rows : Rows) (set : List Bool) (ds : List AdtDecl) (bs : List Bool) (n : ℕ) (new whole : List Bool) → length bs ≡ length ds → length ds ≤ n
    → new ++ bounded_grown rows set (drop n ds) (drop n bs) ≡ whole → new ≡ whole
all_bounded rows set ds bs n new whole h l so_far = sym (append-nil new) ∙ ap (λ x. new ++ x) (sym (none_after rows set ds bs n h l)) ∙ so_far

pub falses_long : (n : ℕ) → length (replicate n false) ≡ n
falses_long zero = refl
falses_long (suc n) = ap suc (falses_long n)

pub one_bounded_more : (rows : Rows) (set : List Bool) (ds : List AdtDecl) (bs : List Bool) (i : ℕ) (d : AdtDecl) (b g : Bool) (new all whole : List Bool)
    → d ≡ get_or ds i d → b ≡ get_or bs i b → i < length ds → i < length bs → g ≡ (b || not (in_some_variant rows none (outside set) d.variants)) → all ≡ new ++ g ∷ []
    → new ++ bounded_grown rows set (drop i ds) (drop i bs) ≡ whole → all ++ bounded_grown rows set (drop (i + 1) ds) (drop (i + 1) bs) ≡ whole
one_bounded_more rows set ds bs i d b g new all whole e f l m is pushed so_far =
    ap (λ x. x ++ bounded_grown rows set (drop (i + 1) ds) (drop (i + 1) bs)) pushed
    ∙ append_assoc new (g ∷ []) (bounded_grown rows set (drop (i + 1) ds) (drop (i + 1) bs))
    ∙ ap (λ x. new ++ x ∷ bounded_grown rows set (drop (i + 1) ds) (drop (i + 1) bs)) is
    ∙ ap (λ x. new ++ x) (sym (next_bounded rows set ds bs i d b e f l m))
    ∙ so_far

-- within the list no default counts
pub any_default : (bs : List Bool) (i : ℕ) (x y : Bool) → i < length bs → get_or bs i x ≡ get_or bs i y
any_default [] i x y l = absurd (omega arith)
any_default (b ∷ bs) zero x y l = refl
any_default (b ∷ bs) (suc i) x y l = any_default bs i x y (omega arith)
