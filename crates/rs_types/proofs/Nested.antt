-- How many references stand in one another, by cases.
use Rattle.std.proofs.Common.{◌≡◌, ℕ, zero, suc, ◌<◌, ◌≤◌, min, max, Bool, true, false, List, [], ◌∷◌, get_or, map, Some, slice_get, ◌⊎◌, inl, inr, refl, sym, subst, arith}
use Rattle.logic_term.specs.Sort.{Declarations, instance, instances, nth_ty}
use Rattle.logic_term.specs.Ty.{Ty, Tys, int, bool, math_int, tuple, adt, boxed, shared, unique, param, closure, viewed, snapshot, no_tys, and_ty}
use Rattle.logic_term.specs.declared.declaration.AdtDecl.{AdtDecl}
use Rattle.logic_term.specs.declared.declaration.VariantDecl.{VariantDecl}
use Rattle.logic_term.specs.declared.kinds.AdtId.{AdtId}
use Rattle.logic_term.specs.declared.kinds.Region.{Region}
use Rattle.rs_types.specs.declared.weighing.Case.{Case}
use Rattle.rs_types.specs.declared.weighing.Question.TheVariants.{References}
use Rattle.rs_types.specs.Growing.{declared_by}
use Rattle.rs_types.specs.Nesting.{Nests, no_nests, shared_nests, unique_nests, tuple_nests, boxed_nests, snapshot_nests, closure_nests, adt_nests}
use Rattle.rs_types.specs.Weighing.{known, is_among, weight, all_weights, weights, variants_weight, variants_at, field_types, reweighed, IsAsked, AreAsked, AllAsked, EachAsked, roots_from, ComesOf, at_first, round}
use Rattle.rs_types.proofs.Cases.{Each, each_of_both, each_new, found, unknown, order, fields_are, fields_at, roots_new, IsSame, all_same}

-- ---- fewer

pub lower : (Δ : Declarations) (n m : ℕ) (t : Ty) → m ≤ n → Nests Δ n t → Nests Δ m t
lower Δ n zero t l p = no_nests
lower Δ zero (suc m) t l p = absurd (omega arith)
lower Δ (suc n) (suc m) _ l (shared_nests p) = shared_nests (lower Δ n m _ (omega arith) p)
lower Δ (suc n) (suc m) _ l (unique_nests p) = unique_nests (lower Δ n m _ (omega arith) p)
lower Δ (suc n) (suc m) _ l (tuple_nests i p) = tuple_nests i (lower Δ (suc n) (suc m) _ l p)
lower Δ (suc n) (suc m) _ l (boxed_nests p) = boxed_nests (lower Δ (suc n) (suc m) _ l p)
lower Δ (suc n) (suc m) _ l (snapshot_nests p) = snapshot_nests (lower Δ (suc n) (suc m) _ l p)
lower Δ (suc n) (suc m) _ l (closure_nests i p) = closure_nests i (lower Δ (suc n) (suc m) _ l p)
lower Δ (suc n) (suc m) _ l (adt_nests k i fs e p) = adt_nests k i fs e (lower Δ (suc n) (suc m) _ l p)

referred_from : (n : ℕ) → suc (min 1 n) ≡ min 2 (suc n)
referred_from n = omega arith

-- ---- what cases say is so

module _ (ds : List AdtDecl) where
  -- in each type argument so many references stand in one another
  abbrev pub AtLeast : List ℕ → Tys → Type 0
  AtLeast g ts = (i : ℕ) → Nests (declared_by ds) (get_or g i 0) (nth_ty ts i)

  abbrev pub IsReached : Case → Type 0
  IsReached c = (d : AdtId) (rs : List Region) (ts : Tys) → d.0 ≡ c.adt → AtLeast c.given ts → Nests (declared_by ds) c.weight (adt d rs ts)

  module _ (cs : List Case) (up : Each IsReached cs) (g : List ℕ) (ts : Tys) (h : AtLeast g ts) where
    abbrev One : ℕ → Tys → Type 0
    One n us = (i : ℕ) × Nests (declared_by ds) n (nth_ty us i)

    one_of_two : (m n : ℕ) (t : Ty) (us : Tys) → Nests (declared_by ds) m t → One n us → (n ≤ m) ⊎ (m < n) → One (max m n) (and_ty t us)
    one_of_two m n t us p q (inl l) = let e : m ≡ max m n = omega arith in (0, subst (λ k. Nests (declared_by ds) k t) e p)
    one_of_two m n t us p q (inr l) = let e : n ≡ max m n = omega arith in (suc q.0, subst (λ k. Nests (declared_by ds) k (nth_ty us q.0)) e q.1)

    mutual
      pub nests_type : (f : Ty) → Nests (declared_by ds) (weight References cs g f) (instance ts f)
      nests_type (int k) = no_nests
      nests_type bool = no_nests
      nests_type math_int = no_nests
      nests_type (tuple us) = let r = nests_one us in tuple_nests r.0 r.1
      nests_type (adt d rs us) = by (is_among d.0 (weights References cs g us) cs) refl (λ i. nests_argument us i)
        where
          by : (b : Bool) → is_among d.0 (weights References cs g us) cs ≡ b → AtLeast (weights References cs g us) (instances ts us) → Nests (declared_by ds) (known d.0 (weights References cs g us) cs) (adt d rs (instances ts us))
          by true e arguments =
              let c = found IsReached d.0 (weights References cs g us) cs up e in
              subst (λ n. Nests (declared_by ds) n (adt d rs (instances ts us))) (sym c.3)
              (c.4 d rs (instances ts us) (sym c.1) (λ i. subst (λ ws. Nests (declared_by ds) (get_or ws i 0) (nth_ty (instances ts us) i)) (sym c.2) (arguments i)))
          by false e arguments = subst (λ n. Nests (declared_by ds) n (adt d rs (instances ts us))) (sym (unknown d.0 (weights References cs g us) cs e)) no_nests
      nests_type (boxed t) = boxed_nests (nests_type t)
      nests_type (shared r t) = subst (λ n. Nests (declared_by ds) n (shared r (instance ts t))) (referred_from (weight References cs g t)) (shared_nests (lower (declared_by ds) (weight References cs g t) (min 1 (weight References cs g t)) (instance ts t) (omega arith) (nests_type t)))
      nests_type (unique r t) = subst (λ n. Nests (declared_by ds) n (unique r (instance ts t))) (referred_from (weight References cs g t)) (unique_nests (lower (declared_by ds) (weight References cs g t) (min 1 (weight References cs g t)) (instance ts t) (omega arith) (nests_type t)))
      nests_type (param n) = h n
      nests_type (closure n us vs k ps r) = let s = nests_one vs in closure_nests s.0 s.1
      nests_type (viewed t) = no_nests
      nests_type (snapshot t) = snapshot_nests (nests_type t)

      nests_one : (us : Tys) → One (all_weights References cs g us) (instances ts us)
      nests_one no_tys = (0, no_nests)
      nests_one (and_ty t us) = one_of_two (weight References cs g t) (all_weights References cs g us) (instance ts t) (instances ts us) (nests_type t) (nests_one us) (order (all_weights References cs g us) (weight References cs g t))

      nests_argument : (us : Tys) (i : ℕ) → Nests (declared_by ds) (get_or (weights References cs g us) i 0) (nth_ty (instances ts us) i)
      nests_argument no_tys i = no_nests
      nests_argument (and_ty t us) zero = nests_type t
      nests_argument (and_ty t us) (suc i) = nests_argument us i

    -- in a field of a variant
    abbrev InVariant : ℕ → List VariantDecl → Type 0
    InVariant n vs = (n ≡ 0) ⊎ ((k : ℕ) × (v : VariantDecl) × (i : ℕ) × (slice_get vs k ≡ Some v) × Nests (declared_by ds) n (nth_ty (instances ts (field_types v)) i))

    nests_variant : (vs : List VariantDecl) → InVariant (variants_weight References cs g vs) vs
    nests_variant [] = inl refl
    nests_variant (v ∷ vs) = by (order (variants_weight References cs g vs) (all_weights References cs g (field_types v))) (nests_variant vs)
      where
        by : (variants_weight References cs g vs ≤ all_weights References cs g (field_types v)) ⊎ (all_weights References cs g (field_types v) < variants_weight References cs g vs) → InVariant (variants_weight References cs g vs) vs
            → InVariant (max (all_weights References cs g (field_types v)) (variants_weight References cs g vs)) (v ∷ vs)
        by (inl l) q =
            let e : all_weights References cs g (field_types v) ≡ max (all_weights References cs g (field_types v)) (variants_weight References cs g vs) = omega arith in
            let r = nests_one (field_types v) in
            inr (0, v, r.0, refl, subst (λ n. Nests (declared_by ds) n (nth_ty (instances ts (field_types v)) r.0)) e r.1)
        by (inr l) (inl q) = absurd (omega arith)
        by (inr l) (inr (k, w, i, f, p)) =
            let e : variants_weight References cs g vs ≡ max (all_weights References cs g (field_types v)) (variants_weight References cs g vs) = omega arith in
            inr (suc k, w, i, f, subst (λ n. Nests (declared_by ds) n (nth_ty (instances ts (field_types w)) i)) e p)

  reached_again : (cs : List Case) → Each IsReached cs → (c : Case) → IsReached (reweighed References ds cs c)
  reached_again cs up c d rs ts e h = by (nests_variant cs up c.given ts h (variants_at ds c.adt))
    where
      by : InVariant cs up c.given ts h (variants_weight References cs c.given (variants_at ds c.adt)) (variants_at ds c.adt) → Nests (declared_by ds) (variants_weight References cs c.given (variants_at ds c.adt)) (adt d rs ts)
      by (inl q) = subst (λ n. Nests (declared_by ds) n (adt d rs ts)) (sym q) no_nests
      by (inr (k, v, i, f, p)) = adt_nests k i (field_types v) (fields_are ds d k v (subst (λ n. slice_get (variants_at ds n) k ≡ Some v) (sym e) f)) p

  all_again : (cs : List Case) → Each IsReached cs → (left : List Case) → Each IsReached (map (reweighed References ds cs) left)
  all_again cs up [] = tt
  all_again cs up (c ∷ left) = (reached_again cs up c, all_again cs up left)

  no_more : (c : Case) → c.weight ≡ 0 → IsReached c
  no_more c e d rs ts f h = subst (λ n. Nests (declared_by ds) n (adt d rs ts)) (sym e) no_nests

  pub all_reached : (cs : List Case) → ComesOf References ds cs → Each IsReached cs
  all_reached cs at_first = each_new IsReached no_more (roots_from 0 ds) (roots_new 0 ds)
  all_reached cs (round {cs = before} c grows) =
      subst (Each IsReached) (sym grows.is)
      (each_of_both IsReached (map (reweighed References ds before) before) grows.more (all_again before (all_reached before c) before) (each_new IsReached no_more grows.more grows.new))

-- ---- what is so cases say

module _ (ds : List AdtDecl) where
  abbrev pub height : {n : ℕ} {t : Ty} → Nests (declared_by ds) n t → ℕ
  height no_nests = 0
  height (shared_nests p) = height p
  height (unique_nests p) = height p
  height (tuple_nests i p) = height p
  height (boxed_nests p) = height p
  height (snapshot_nests p) = height p
  height (closure_nests i p) = height p
  height (adt_nests k i fs e p) = suc (height p)

  -- as far as it is seen within b declared types in one another, no type argument has more references in one another than the list says
  abbrev pub AtMost : ℕ → List ℕ → Tys → Type 0
  AtMost b g ts = (i w : ℕ) (p : Nests (declared_by ds) w (nth_ty ts i)) → height p ≤ b → w ≤ 2 → w ≤ get_or g i 0

  abbrev pub IsWhole : ℕ → Case → Type 0
  IsWhole b c = (d : AdtId) (rs : List Region) (ts : Tys) → d.0 ≡ c.adt → AtMost b c.given ts → (w : ℕ) (p : Nests (declared_by ds) w (adt d rs ts)) → height p ≤ b → w ≤ 2 → w ≤ c.weight

  module _ (b : ℕ) (cs : List Case) (up : Each (IsWhole b) cs) (g : List ℕ) (ts : Tys) (h : AtMost b g ts) where
    mutual
      pub type_nests : (f : Ty) → IsAsked References cs g f → (w : ℕ) (p : Nests (declared_by ds) w (instance ts f)) → height p ≤ b → w ≤ 2 → w ≤ weight References cs g f
      type_nests (int k) a w no_nests l m = omega arith
      type_nests bool a w no_nests l m = omega arith
      type_nests math_int a w no_nests l m = omega arith
      type_nests (tuple us) a w no_nests l m = omega arith
      type_nests (tuple us) a w (tuple_nests i p) l m = one_nests us a i w p l m
      type_nests (adt d rs us) a w p l m =
          let c = found (IsWhole b) d.0 (weights References cs g us) cs up a.0 in
          let less : w ≤ c.0.weight = c.4 d rs (instances ts us) (sym c.1) (λ i v q k n. subst (λ ws. v ≤ get_or ws i 0) (sym c.2) (argument_nests us a.1 i v q k n)) w p l m in
          subst (λ n. w ≤ n) (sym c.3) less
      type_nests (boxed t) a w no_nests l m = omega arith
      type_nests (boxed t) a w (boxed_nests p) l m = type_nests t a w p l m
      type_nests (shared r t) a w no_nests l m = omega arith
      type_nests (shared r t) a (suc w) (shared_nests p) l m = let less : w ≤ weight References cs g t = type_nests t a w p l (omega arith) in omega arith
      type_nests (unique r t) a w no_nests l m = omega arith
      type_nests (unique r t) a (suc w) (unique_nests p) l m = let less : w ≤ weight References cs g t = type_nests t a w p l (omega arith) in omega arith
      type_nests (param n) a w p l m = h n w p l m
      type_nests (closure n us vs k ps r) a w no_nests l m = omega arith
      type_nests (closure n us vs k ps r) a w (closure_nests i p) l m = one_nests vs a i w p l m
      type_nests (viewed t) a w no_nests l m = omega arith
      type_nests (snapshot t) a w no_nests l m = omega arith
      type_nests (snapshot t) a w (snapshot_nests p) l m = type_nests t a w p l m

      one_nests : (us : Tys) → AreAsked References cs g us → (i w : ℕ) (p : Nests (declared_by ds) w (nth_ty (instances ts us) i)) → height p ≤ b → w ≤ 2 → w ≤ all_weights References cs g us
      one_nests no_tys a i w no_nests l m = omega arith
      one_nests (and_ty t us) a zero w p l m = let less : w ≤ weight References cs g t = type_nests t a.0 w p l m in omega arith
      one_nests (and_ty t us) a (suc i) w p l m = let less : w ≤ all_weights References cs g us = one_nests us a.1 i w p l m in omega arith

      argument_nests : (us : Tys) → AreAsked References cs g us → AtMost b (weights References cs g us) (instances ts us)
      argument_nests no_tys a i w no_nests l m = omega arith
      argument_nests (and_ty t us) a zero w p l m = type_nests t a.0 w p l m
      argument_nests (and_ty t us) a (suc i) w p l m = argument_nests us a.1 i w p l m

    variant_nests : (vs : List VariantDecl) → AllAsked References cs g vs → (k : ℕ) (v : VariantDecl) → slice_get vs k ≡ Some v
        → (i w : ℕ) (p : Nests (declared_by ds) w (nth_ty (instances ts (field_types v)) i)) → height p ≤ b → w ≤ 2 → w ≤ variants_weight References cs g vs
    variant_nests [] a k v e i w p l m = absurd (nothing k e)
      where
        nothing : (n : ℕ) → slice_get [] n ≡ Some v → ⊥
        nothing zero r = grind (arith, r)
        nothing (suc n) r = grind (arith, r)
    variant_nests (u ∷ vs) a zero v e i w p l m =
        let same : v ≡ u = cc in
        let less : w ≤ all_weights References cs g (field_types v) = one_nests (field_types v) (subst (λ x. AreAsked References cs g (field_types x)) (sym same) a.0) i w p l m in
        let more : w ≤ all_weights References cs g (field_types u) = subst (λ x. w ≤ all_weights References cs g (field_types x)) same less in
        omega arith
    variant_nests (u ∷ vs) a (suc k) v e i w p l m = let less : w ≤ variants_weight References cs g vs = variant_nests vs a.1 k v e i w p l m in omega arith

  module _ (cs : List Case) (same : map (reweighed References ds cs) cs ≡ cs) where
    whole_case : (b : ℕ) → ((e : ℕ) → suc e ≡ b → Each (IsWhole e) cs) → (c : Case) → IsSame References ds cs c → AllAsked References cs c.given (variants_at ds c.adt) → IsWhole b c
    whole_case b up c s a d rs ts e h w no_nests l m = omega arith
    whole_case zero up c s a d rs ts e h w (adt_nests k i fs f p) l m = absurd (omega arith)
    whole_case (suc b) up c s a d rs ts e h w (adt_nests k i fs f p) l m =
        let r = fields_at ds d k fs f in
        let at_c : slice_get (variants_at ds c.adt) k ≡ Some r.0 = subst (λ n. slice_get (variants_at ds n) k ≡ Some r.0) e r.1 in
        let within : AtMost b c.given ts = λ j v q lower_q n. h j v q (omega arith) n in
        let at_fields = subst (λ x. (p : Nests (declared_by ds) w (nth_ty (instances ts x) i)) → height p ≤ b → w ≤ 2 → w ≤ variants_weight References cs c.given (variants_at ds c.adt)) (sym r.2)
        (λ p l m. variant_nests b cs (up b refl) c.given ts within (variants_at ds c.adt) a k r.0 at_c i w p l m) in
        subst (λ n. w ≤ n) s (at_fields p (omega arith) m)

    whole_cases : (b : ℕ) → ((e : ℕ) → suc e ≡ b → Each (IsWhole e) cs) → (left : List Case) → Each (IsSame References ds cs) left → EachAsked References ds cs left → Each (IsWhole b) left
    whole_cases b up [] s a = tt
    whole_cases b up (c ∷ left) s a = (whole_case b up c s.0 a.0, whole_cases b up left s.1 a.1)

    pub all_whole : EachAsked References ds cs cs → (b : ℕ) → Each (IsWhole b) cs
    all_whole a zero = whole_cases 0 (λ e q. absurd (omega arith)) cs (all_same References ds cs cs same) a
    all_whole a (suc b) = whole_cases (suc b) (λ e q. subst (λ n. Each (IsWhole n) cs) (omega arith) (all_whole a b)) cs (all_same References ds cs cs same) a
