-- Which declared types have a value, by cases.
use Rattle.std.proofs.Common.{◌≡◌, ℕ, zero, suc, pos, ◌<◌, ◌≤◌, min, max, Bool, true, false, List, [], ◌∷◌, get_or, map, Some, slice_get, ◌⊎◌, inl, inr, refl, sym, subst, arith}
use Rattle.source_kinds.specs.declared.kinds.IntKind.{IntKind}
use Rattle.source_kinds.specs.declared.kinds.IntKind.TheVariants as kinds
use Rattle.source_kinds.specs.Range.{fits}
use Rattle.logic_term.specs.Sort.{Declarations, HasSort, HaveSorts, of_int, of_math_int, of_bool, of_tuple, of_adt, of_closure, of_boxed, of_shared, of_snapshot, of_unique, of_none, of_more, instance, instances, nth_ty}
use Rattle.logic_term.specs.Ty.{Ty, Tys, int, bool, math_int, tuple, adt, boxed, shared, unique, param, closure, viewed, snapshot, no_tys, and_ty}
use Rattle.logic_term.specs.Value.{Value, Values, Number, Flag, Made, Pair, no_values, and_value}
use Rattle.logic_term.specs.declared.declaration.AdtDecl.{AdtDecl}
use Rattle.logic_term.specs.declared.declaration.VariantDecl.{VariantDecl}
use Rattle.logic_term.specs.declared.kinds.AdtId.{AdtId}
use Rattle.logic_term.specs.declared.kinds.Ctor.TheVariants as ctors
use Rattle.logic_term.specs.declared.kinds.FnKind.{FnKind}
use Rattle.logic_term.specs.declared.kinds.Region.{Region}
use Rattle.rs_types.specs.declared.weighing.Case.{Case}
use Rattle.rs_types.specs.declared.weighing.Question.TheVariants as question
use Rattle.rs_types.specs.Growing.{declared_by}
use Rattle.rs_types.specs.Inhabited.{HasValue}
use Rattle.rs_types.specs.Weighing.{known, is_among, weight, all_weights, weights, variants_weight, variants_at, field_types, reweighed, IsAsked, AreAsked, AllAsked, EachAsked, roots_from, ComesOf, at_first, round}
use Rattle.rs_types.proofs.Cases.{Each, each_of_both, each_new, found, unknown, order, fields_are, fields_at, roots_new, IsSame, all_same}

-- ---- types at hand

zero_fits : (k : IntKind) → fits k (pos 0) ≡ true
zero_fits kinds.I8 = refl
zero_fits kinds.I16 = refl
zero_fits kinds.I32 = refl
zero_fits kinds.I64 = refl
zero_fits kinds.Isize = refl
zero_fits kinds.U8 = refl
zero_fits kinds.U16 = refl
zero_fits kinds.U32 = refl
zero_fits kinds.U64 = refl
zero_fits kinds.Usize = refl

module _ (Δ : Declarations) where
  -- of the weight 0 nothing is said
  abbrev pub IsValued : ℕ → Ty → Type 0
  IsValued zero t = Unit {0}
  IsValued (suc n) t = HasValue Δ t

  abbrev pub AreValued : ℕ → Tys → Type 0
  AreValued zero ts = Unit {0}
  AreValued (suc n) ts = (vs : Values) × HaveSorts Δ vs ts

  two_valued : (m n : ℕ) (t : Ty) (ts : Tys) → IsValued m t → AreValued n ts → AreValued (min m n) (and_ty t ts)
  two_valued zero n t ts v vs = let e : 0 ≡ min 0 n = omega arith in subst (λ k. AreValued k (and_ty t ts)) e tt
  two_valued (suc m) zero t ts v vs = let e : 0 ≡ min (suc m) 0 = omega arith in subst (λ k. AreValued k (and_ty t ts)) e tt
  two_valued (suc m) (suc n) t ts v vs =
      let e : suc (min m n) ≡ min (suc m) (suc n) = omega arith in
      subst (λ k. AreValued k (and_ty t ts)) e (and_value v.0 vs.0, of_more v.1 vs.1)

  boxed_valued : (n : ℕ) (t : Ty) → IsValued n t → IsValued n (boxed t)
  boxed_valued zero t v = tt
  boxed_valued (suc n) t v = (v.0, of_boxed v.1)

  shared_valued : (n : ℕ) (r : Region) (t : Ty) → IsValued n t → IsValued n (shared r t)
  shared_valued zero r t v = tt
  shared_valued (suc n) r t v = (v.0, of_shared v.1)

  unique_valued : (n : ℕ) (r : Region) (t : Ty) → IsValued n t → IsValued n (unique r t)
  unique_valued zero r t v = tt
  unique_valued (suc n) r t v = (Pair v.0 v.0, of_unique v.1 v.1)

  snapshot_valued : (n : ℕ) (t : Ty) → IsValued n t → IsValued n (snapshot t)
  snapshot_valued zero t v = tt
  snapshot_valued (suc n) t v = (v.0, of_snapshot v.1)

  tuple_valued : (n : ℕ) (ts : Tys) → AreValued n ts → IsValued n (tuple ts)
  tuple_valued zero ts v = tt
  tuple_valued (suc n) ts v = (Made ctors.Tuple v.0, of_tuple v.1)

  closure_valued : (n m : ℕ) (ts cs ps : Tys) (k : FnKind) (r : Ty) → AreValued n cs → IsValued n (closure m ts cs k ps r)
  closure_valued zero m ts cs ps k r v = tt
  closure_valued (suc n) m ts cs ps k r v = (Made (ctors.Closure m) v.0, of_closure v.1)

  adt_valued : (n : ℕ) (d : AdtId) (rs : List Region) (ts : Tys) (k : ℕ) (fs : Tys) → Δ d k ≡ Some fs → AreValued n (instances ts fs) → IsValued n (adt d rs ts)
  adt_valued zero d rs ts k fs e v = tt
  adt_valued (suc n) d rs ts k fs e v = (Made (ctors.Variant d k) v.0, of_adt e v.1)

-- ---- what cases say is so

module _ (ds : List AdtDecl) where
  -- the type arguments for which the list has another number than 0 have values
  abbrev pub AtLeast : List ℕ → Tys → Type 0
  AtLeast g ts = (i : ℕ) → IsValued (declared_by ds) (get_or g i 1) (nth_ty ts i)

  abbrev pub IsReached : Case → Type 0
  IsReached c = (d : AdtId) (rs : List Region) (ts : Tys) → d.0 ≡ c.adt → AtLeast c.given ts → IsValued (declared_by ds) c.weight (adt d rs ts)

  module _ (cs : List Case) (up : Each IsReached cs) (g : List ℕ) (ts : Tys) (h : AtLeast g ts) where
    mutual
      pub valued_type : (f : Ty) → IsValued (declared_by ds) (weight question.Value cs g f) (instance ts f)
      valued_type (int k) = (Number (pos 0), of_int (zero_fits k))
      valued_type bool = (Flag true, of_bool)
      valued_type math_int = (Number (pos 0), of_math_int)
      valued_type (tuple us) = tuple_valued (declared_by ds) (all_weights question.Value cs g us) (instances ts us) (valued_types us)
      valued_type (adt d rs us) = by (is_among d.0 (weights question.Value cs g us) cs) refl (λ i. valued_argument us i)
        where
          by : (b : Bool) → is_among d.0 (weights question.Value cs g us) cs ≡ b → AtLeast (weights question.Value cs g us) (instances ts us)
              → IsValued (declared_by ds) (known d.0 (weights question.Value cs g us) cs) (adt d rs (instances ts us))
          by true e arguments =
              let c = found IsReached d.0 (weights question.Value cs g us) cs up e in
              subst (λ n. IsValued (declared_by ds) n (adt d rs (instances ts us))) (sym c.3)
              (c.4 d rs (instances ts us) (sym c.1) (λ i. subst (λ ws. IsValued (declared_by ds) (get_or ws i 1) (nth_ty (instances ts us) i)) (sym c.2) (arguments i)))
          by false e arguments = subst (λ n. IsValued (declared_by ds) n (adt d rs (instances ts us))) (sym (unknown d.0 (weights question.Value cs g us) cs e)) tt
      valued_type (boxed t) = boxed_valued (declared_by ds) (weight question.Value cs g t) (instance ts t) (valued_type t)
      valued_type (shared r t) = shared_valued (declared_by ds) (weight question.Value cs g t) r (instance ts t) (valued_type t)
      valued_type (unique r t) = unique_valued (declared_by ds) (weight question.Value cs g t) r (instance ts t) (valued_type t)
      valued_type (param n) = h n
      valued_type (closure n us vs k ps r) = closure_valued (declared_by ds) (all_weights question.Value cs g vs) n (instances ts us) (instances ts vs) (instances ts ps) k (instance ts r) (valued_types vs)
      valued_type (viewed t) = tt
      valued_type (snapshot t) = snapshot_valued (declared_by ds) (weight question.Value cs g t) (instance ts t) (valued_type t)

      valued_types : (us : Tys) → AreValued (declared_by ds) (all_weights question.Value cs g us) (instances ts us)
      valued_types no_tys = (no_values, of_none)
      valued_types (and_ty t us) = two_valued (declared_by ds) (weight question.Value cs g t) (all_weights question.Value cs g us) (instance ts t) (instances ts us) (valued_type t) (valued_types us)

      valued_argument : (us : Tys) (i : ℕ) → IsValued (declared_by ds) (get_or (weights question.Value cs g us) i 1) (nth_ty (instances ts us) i)
      valued_argument no_tys i = (Number (pos 0), of_math_int)
      valued_argument (and_ty t us) zero = valued_type t
      valued_argument (and_ty t us) (suc i) = valued_argument us i

    -- of the fields of a variant
    abbrev InVariant : ℕ → List VariantDecl → Type 0
    InVariant n vs = (n ≡ 0) ⊎ ((k : ℕ) × (v : VariantDecl) × (slice_get vs k ≡ Some v) × AreValued (declared_by ds) n (instances ts (field_types v)))

    valued_variant : (vs : List VariantDecl) → InVariant (variants_weight question.Value cs g vs) vs
    valued_variant [] = inl refl
    valued_variant (v ∷ vs) = by (order (variants_weight question.Value cs g vs) (all_weights question.Value cs g (field_types v))) (valued_variant vs)
      where
        by : (variants_weight question.Value cs g vs ≤ all_weights question.Value cs g (field_types v)) ⊎ (all_weights question.Value cs g (field_types v) < variants_weight question.Value cs g vs)
            → InVariant (variants_weight question.Value cs g vs) vs → InVariant (max (all_weights question.Value cs g (field_types v)) (variants_weight question.Value cs g vs)) (v ∷ vs)
        by (inl l) q =
            let e : all_weights question.Value cs g (field_types v) ≡ max (all_weights question.Value cs g (field_types v)) (variants_weight question.Value cs g vs) = omega arith in
            inr (0, v, refl, subst (λ n. AreValued (declared_by ds) n (instances ts (field_types v))) e (valued_types (field_types v)))
        by (inr l) (inl q) = absurd (omega arith)
        by (inr l) (inr (k, w, f, p)) =
            let e : variants_weight question.Value cs g vs ≡ max (all_weights question.Value cs g (field_types v)) (variants_weight question.Value cs g vs) = omega arith in
            inr (suc k, w, f, subst (λ n. AreValued (declared_by ds) n (instances ts (field_types w))) e p)

  reached_again : (cs : List Case) → Each IsReached cs → (c : Case) → IsReached (reweighed question.Value ds cs c)
  reached_again cs up c d rs ts e h = by (valued_variant cs up c.given ts h (variants_at ds c.adt))
    where
      by : InVariant cs up c.given ts h (variants_weight question.Value cs c.given (variants_at ds c.adt)) (variants_at ds c.adt) → IsValued (declared_by ds) (variants_weight question.Value cs c.given (variants_at ds c.adt)) (adt d rs ts)
      by (inl q) = subst (λ n. IsValued (declared_by ds) n (adt d rs ts)) (sym q) tt
      by (inr (k, v, f, p)) =
          adt_valued (declared_by ds) (variants_weight question.Value cs c.given (variants_at ds c.adt)) d rs ts k (field_types v) (fields_are ds d k v (subst (λ n. slice_get (variants_at ds n) k ≡ Some v) (sym e) f)) p

  all_again : (cs : List Case) → Each IsReached cs → (left : List Case) → Each IsReached (map (reweighed question.Value ds cs) left)
  all_again cs up [] = tt
  all_again cs up (c ∷ left) = (reached_again cs up c, all_again cs up left)

  no_more : (c : Case) → c.weight ≡ 0 → IsReached c
  no_more c e d rs ts f h = subst (λ n. IsValued (declared_by ds) n (adt d rs ts)) (sym e) tt

  pub all_reached : (cs : List Case) → ComesOf question.Value ds cs → Each IsReached cs
  all_reached cs at_first = each_new IsReached no_more (roots_from 0 ds) (roots_new 0 ds)
  all_reached cs (round {cs = before} c grows) =
      subst (Each IsReached) (sym grows.is)
      (each_of_both IsReached (map (reweighed question.Value ds before) before) grows.more (all_again before (all_reached before c) before) (each_new IsReached no_more grows.more grows.new))

-- ---- what is so cases say

abbrev mutual
  pub depth : Value → ℕ
  depth (Number z) = 0
  depth (Flag b) = 0
  depth (Made c vs) = suc (depths vs)
  depth (Pair v w) = max (depth v) (depth w)

  pub depths : Values → ℕ
  depths no_values = 0
  depths (and_value v vs) = max (depth v) (depths vs)

module _ (ds : List AdtDecl) where
  -- the list says of each type argument that has a value of at most this depth that it has one
  abbrev pub AtMost : ℕ → List ℕ → Tys → Type 0
  AtMost b g ts = (i : ℕ) (v : Value) → HasSort (declared_by ds) v (nth_ty ts i) → depth v ≤ b → 1 ≤ get_or g i 1

  abbrev pub IsWhole : ℕ → Case → Type 0
  IsWhole b c = (d : AdtId) (rs : List Region) (ts : Tys) → d.0 ≡ c.adt → AtMost b c.given ts → (v : Value) → HasSort (declared_by ds) v (adt d rs ts) → depth v ≤ b → 1 ≤ c.weight

  module _ (b : ℕ) (cs : List Case) (up : Each (IsWhole b) cs) (g : List ℕ) (ts : Tys) (h : AtMost b g ts) where
    mutual
      pub type_valued : (f : Ty) → IsAsked question.Value cs g f → (v : Value) → HasSort (declared_by ds) v (instance ts f) → depth v ≤ b → 1 ≤ weight question.Value cs g f
      type_valued (int k) a v p l = omega arith
      type_valued bool a v p l = omega arith
      type_valued math_int a v p l = omega arith
      type_valued (tuple us) a v (of_tuple {vs = vs} p) l = types_valued us a vs p (omega arith)
      type_valued (adt d rs us) a v p l =
          let c = found (IsWhole b) d.0 (weights question.Value cs g us) cs up a.0 in
          let less : 1 ≤ c.0.weight = c.4 d rs (instances ts us) (sym c.1) (λ i w q k. subst (λ ws. 1 ≤ get_or ws i 1) (sym c.2) (argument_valued us a.1 i w q k)) v p l in
          subst (λ n. 1 ≤ n) (sym c.3) less
      type_valued (boxed t) a v (of_boxed p) l = type_valued t a v p l
      type_valued (shared r t) a v (of_shared p) l = type_valued t a v p l
      type_valued (unique r t) a v (of_unique {v = x} p q) l = type_valued t a x p (omega arith)
      type_valued (param n) a v p l = h n v p l
      type_valued (closure n us ws k ps r) a v (of_closure {vs = vs} p) l = types_valued ws a vs p (omega arith)
      type_valued (viewed t) a v p l = elim p [ ]
      type_valued (snapshot t) a v (of_snapshot p) l = type_valued t a v p l

      types_valued : (us : Tys) → AreAsked question.Value cs g us → (vs : Values) → HaveSorts (declared_by ds) vs (instances ts us) → depths vs ≤ b → 1 ≤ all_weights question.Value cs g us
      types_valued no_tys a vs p l = omega arith
      types_valued (and_ty t us) a vs (of_more {v = x} {vs = xs} p q) l =
          let one : 1 ≤ weight question.Value cs g t = type_valued t a.0 x p (omega arith) in
          let others : 1 ≤ all_weights question.Value cs g us = types_valued us a.1 xs q (omega arith) in
          omega arith

      argument_valued : (us : Tys) → AreAsked question.Value cs g us → AtMost b (weights question.Value cs g us) (instances ts us)
      argument_valued no_tys a i v p l = omega arith
      argument_valued (and_ty t us) a zero v p l = type_valued t a.0 v p l
      argument_valued (and_ty t us) a (suc i) v p l = argument_valued us a.1 i v p l

    variant_valued : (ws : List VariantDecl) → AllAsked question.Value cs g ws → (k : ℕ) (w : VariantDecl) → slice_get ws k ≡ Some w
        → (vs : Values) → HaveSorts (declared_by ds) vs (instances ts (field_types w)) → depths vs ≤ b → 1 ≤ variants_weight question.Value cs g ws
    variant_valued [] a k w e vs p l = absurd (nothing k e)
      where
        nothing : (n : ℕ) → slice_get [] n ≡ Some w → ⊥
        nothing zero r = grind (arith, r)
        nothing (suc n) r = grind (arith, r)
    variant_valued (u ∷ ws) a zero w e vs p l =
        let same : w ≡ u = cc in
        let less : 1 ≤ all_weights question.Value cs g (field_types w) = types_valued (field_types w) (subst (λ x. AreAsked question.Value cs g (field_types x)) (sym same) a.0) vs p l in
        let more : 1 ≤ all_weights question.Value cs g (field_types u) = subst (λ x. 1 ≤ all_weights question.Value cs g (field_types x)) same less in
        omega arith
    variant_valued (u ∷ ws) a (suc k) w e vs p l = let less : 1 ≤ variants_weight question.Value cs g ws = variant_valued ws a.1 k w e vs p l in omega arith

  module _ (cs : List Case) (same : map (reweighed question.Value ds cs) cs ≡ cs) where
    whole_case : (b : ℕ) → ((e : ℕ) → suc e ≡ b → Each (IsWhole e) cs) → (c : Case) → IsSame question.Value ds cs c → AllAsked question.Value cs c.given (variants_at ds c.adt) → IsWhole b c
    whole_case zero up c s a d rs ts e h v (of_adt p q) l = absurd (omega arith)
    whole_case (suc b) up c s a d rs ts e h v (of_adt {k = k} {fs = fs} {vs = vs} f p) l =
        let r = fields_at ds d k fs f in
        let at_c : slice_get (variants_at ds c.adt) k ≡ Some r.0 = subst (λ n. slice_get (variants_at ds n) k ≡ Some r.0) e r.1 in
        let within : AtMost b c.given ts = λ j w q n. h j w q (omega arith) in
        subst (λ n. 1 ≤ n) s (variant_valued b cs (up b refl) c.given ts within (variants_at ds c.adt) a k r.0 at_c vs (subst (λ x. HaveSorts (declared_by ds) vs (instances ts x)) r.2 p) (omega arith))

    whole_cases : (b : ℕ) → ((e : ℕ) → suc e ≡ b → Each (IsWhole e) cs) → (left : List Case) → Each (IsSame question.Value ds cs) left → EachAsked question.Value ds cs left → Each (IsWhole b) left
    whole_cases b up [] s a = tt
    whole_cases b up (c ∷ left) s a = (whole_case b up c s.0 a.0, whole_cases b up left s.1 a.1)

    pub all_whole : EachAsked question.Value ds cs cs → (b : ℕ) → Each (IsWhole b) cs
    all_whole a zero = whole_cases 0 (λ e q. absurd (omega arith)) cs (all_same question.Value ds cs cs same) a
    all_whole a (suc b) = whole_cases (suc b) (λ e q. subst (λ n. Each (IsWhole n) cs) (omega arith) (all_whole a b)) cs (all_same question.Value ds cs cs same) a
