-- What the rows find stands in a type.
use Rattle.std.proofs.Common.{◌≡◌, ℕ, suc, ◌&&◌, ◌||◌, Bool, true, false, List, [], ◌∷◌, get_or, Some, slice_get, map, true≢false, ◌⊎◌, inl, inr, refl, sym}
use Rattle.logic_term.specs.Sort.{Declarations, nth_ty}
use Rattle.logic_term.specs.Theory.{field_ty}
use Rattle.logic_term.specs.Ty.{Ty, Tys, int, bool, math_int, tuple, adt, boxed, shared, unique, param, closure, viewed, snapshot, no_tys, and_ty}
use Rattle.logic_term.specs.TyView.{tys_of}
use Rattle.logic_term.specs.declared.declaration.FieldDecl.{FieldDecl}
use Rattle.logic_term.specs.declared.declaration.VariantDecl.{VariantDecl}
use Rattle.logic_term.specs.declared.kinds.AdtId.{AdtId}
use Rattle.logic_term.specs.declared.kinds.Region.{Region}
use Rattle.rs_types.specs.Growing.{AreHeld}
use Rattle.rs_types.specs.Holding.{Rows, stands, one_stands, argument_stands, in_some_field, in_some_variant}
use Rattle.rs_types.specs.Standing.{ParamIn, Stands, at_param, param_in_tuple, param_in_argument, param_in_shared, param_in_unique, param_in_snapshot, stands_here, stands_in_tuple, stands_in_argument, stands_in_shared, stands_in_unique, stands_in_snapshot}

pub either : (b c : Bool) → (b || c) ≡ true → (b ≡ true) ⊎ (c ≡ true)
either true c e = inl refl
either false c e = inr e

pub both : (b c : Bool) → (b && c) ≡ true → (b ≡ true) × (c ≡ true)
both true c e = (refl, e)
both false c e = absurd (true≢false (sym e))

module _ (Δ : Declarations) (rows : Rows) (p a : ℕ → Bool) where
  -- something that is wanted
  abbrev pub Found : Ty → Type 0
  Found t = ((n : ℕ) × (p n ≡ true) × ParamIn Δ n t) ⊎ ((e : AdtId) × (a e.0 ≡ true) × Stands Δ e t)

  found_by : (t u : Ty) → ((n : ℕ) → ParamIn Δ n t → ParamIn Δ n u) → ((e : AdtId) → Stands Δ e t → Stands Δ e u) → Found t → Found u
  found_by t u f g (inl (n, w, s)) = inl (n, w, f n s)
  found_by t u f g (inr (e, w, s)) = inr (e, w, g e s)

  -- in an argument that counts
  abbrev pub Counted : List Bool → Tys → Type 0
  Counted held ts = (i : ℕ) × (get_or held i false ≡ true) × Found (nth_ty ts i)

  at_adt : AreHeld Δ rows → (d : AdtId) (rs : List Region) (ts : Tys) → (a d.0 ≡ true) ⊎ (argument_stands rows p a (get_or rows d.0 []) ts ≡ true)
      → (argument_stands rows p a (get_or rows d.0 []) ts ≡ true → Counted (get_or rows d.0 []) ts) → Found (adt d rs ts)
  at_adt h d rs ts (inl w) f = inr (d, w, stands_here)
  at_adt h d rs ts (inr s) f =
      let c = f s in
      found_by (nth_ty ts c.0) (adt d rs ts) (λ n q. param_in_argument c.0 (h d c.0 c.1) q) (λ e q. stands_in_argument c.0 (h d c.0 c.1) q) c.2

  one_of : (t : Ty) (ts : Tys) → (stands rows p a t ≡ true) ⊎ (one_stands rows p a ts ≡ true) → (stands rows p a t ≡ true → Found t) → (one_stands rows p a ts ≡ true → (i : ℕ) × Found (nth_ty ts i))
      → (i : ℕ) × Found (nth_ty (and_ty t ts) i)
  one_of t ts (inl e) f g = (0, f e)
  one_of t ts (inr e) f g = let r = g e in (suc r.0, r.1)

  counted_of : (b : Bool) (held : List Bool) (t : Ty) (ts : Tys) → ((b && stands rows p a t) ≡ true) ⊎ (argument_stands rows p a held ts ≡ true)
      → (stands rows p a t ≡ true → Found t) → (argument_stands rows p a held ts ≡ true → Counted held ts) → Counted (b ∷ held) (and_ty t ts)
  counted_of b held t ts (inl e) f g = let q = both b (stands rows p a t) e in (0, q.0, f q.1)
  counted_of b held t ts (inr e) f g = let r = g e in (suc r.0, r.1, r.2)

  mutual
    pub stands_sound : AreHeld Δ rows → (t : Ty) → stands rows p a t ≡ true → Found t
    stands_sound h (int k) e = absurd (true≢false (sym e))
    stands_sound h bool e = absurd (true≢false (sym e))
    stands_sound h math_int e = absurd (true≢false (sym e))
    stands_sound h (tuple ts) e =
        let f = one_sound h ts e in
        found_by (nth_ty ts f.0) (tuple ts) (λ n s. param_in_tuple f.0 s) (λ d s. stands_in_tuple f.0 s) f.1
    stands_sound h (adt d rs ts) e = at_adt h d rs ts (either (a d.0) (argument_stands rows p a (get_or rows d.0 []) ts) e) (λ f. argument_sound h (get_or rows d.0 []) ts f)
    stands_sound h (boxed t) e = absurd (true≢false (sym e))
    stands_sound h (shared r t) e = found_by t (shared r t) (λ n s. param_in_shared s) (λ d s. stands_in_shared s) (stands_sound h t e)
    stands_sound h (unique r t) e = found_by t (unique r t) (λ n s. param_in_unique s) (λ d s. stands_in_unique s) (stands_sound h t e)
    stands_sound h (param n) e = inl (n, e, at_param)
    stands_sound h (closure n ts cs k ps r) e = absurd (true≢false (sym e))
    stands_sound h (viewed t) e = absurd (true≢false (sym e))
    stands_sound h (snapshot t) e = found_by t (snapshot t) (λ n s. param_in_snapshot s) (λ d s. stands_in_snapshot s) (stands_sound h t e)

    pub one_sound : AreHeld Δ rows → (ts : Tys) → one_stands rows p a ts ≡ true → (i : ℕ) × Found (nth_ty ts i)
    one_sound h no_tys e = absurd (true≢false (sym e))
    one_sound h (and_ty t ts) e = one_of t ts (either (stands rows p a t) (one_stands rows p a ts) e) (λ f. stands_sound h t f) (λ f. one_sound h ts f)

    pub argument_sound : AreHeld Δ rows → (held : List Bool) (ts : Tys) → argument_stands rows p a held ts ≡ true → Counted held ts
    argument_sound h held no_tys e = absurd (true≢false (sym e))
    argument_sound h [] (and_ty t ts) e = absurd (true≢false (sym e))
    argument_sound h (b ∷ held) (and_ty t ts) e =
        counted_of b held t ts (either (b && stands rows p a t) (argument_stands rows p a held ts) e) (λ f. stands_sound h t f) (λ f. argument_sound h held ts f)

  -- where it stands in a field
  pub in_field : AreHeld Δ rows → (fs : List FieldDecl) → in_some_field rows p a fs ≡ true → (i : ℕ) × Found (nth_ty (tys_of (map field_ty fs)) i)
  in_field h [] e = absurd (true≢false (sym e))
  in_field h (f ∷ fs) e = by (either (stands rows p a f.ty) (in_some_field rows p a fs) e) (λ q. in_field h fs q)
    where
      by : (stands rows p a f.ty ≡ true) ⊎ (in_some_field rows p a fs ≡ true) → (in_some_field rows p a fs ≡ true → (i : ℕ) × Found (nth_ty (tys_of (map field_ty fs)) i))
          → (i : ℕ) × Found (nth_ty (tys_of (map field_ty (f ∷ fs))) i)
      by (inl q) g = (0, stands_sound h f.ty q)
      by (inr q) g = let r = g q in (suc r.0, r.1)

  pub in_variant : AreHeld Δ rows → (vs : List VariantDecl) → in_some_variant rows p a vs ≡ true
      → (k : ℕ) × (v : VariantDecl) × (i : ℕ) × (slice_get vs k ≡ Some v) × Found (nth_ty (tys_of (map field_ty v.fields)) i)
  in_variant h [] e = absurd (true≢false (sym e))
  in_variant h (v ∷ vs) e = by (either (in_some_field rows p a v.fields) (in_some_variant rows p a vs) e) (λ q. in_variant h vs q)
    where
      by : (in_some_field rows p a v.fields ≡ true) ⊎ (in_some_variant rows p a vs ≡ true)
          → (in_some_variant rows p a vs ≡ true → (k : ℕ) × (w : VariantDecl) × (i : ℕ) × (slice_get vs k ≡ Some w) × Found (nth_ty (tys_of (map field_ty w.fields)) i))
          → (k : ℕ) × (w : VariantDecl) × (i : ℕ) × (slice_get (v ∷ vs) k ≡ Some w) × Found (nth_ty (tys_of (map field_ty w.fields)) i)
      by (inl q) g = let r = in_field h v.fields q in (0, v, r.0, refl, r.1)
      by (inr q) g = let r = g q in (suc r.0, r.1, r.2, r.3, r.4)
