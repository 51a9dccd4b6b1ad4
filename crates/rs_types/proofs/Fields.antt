-- The fields of a declared type are bounded where no declared type that may be unbounded stands in them.
use Rattle.std.proofs.Common.{◌≡◌, ℕ, zero, suc, ◌==◌, ◌&&◌, Bool, true, false, List, [], ◌∷◌, get_or, Some, None, slice_get, map, sym, subst, true≢false, arith}
use Rattle.std.proofs.lemmas.Bool.Decides.{nat_tests}
use Rattle.logic_term.specs.Sort.{Declarations, instance, instances, nth_ty}
use Rattle.logic_term.specs.Theory.{field_ty}
use Rattle.logic_term.specs.Ty.{Ty, Tys, int, bool, math_int, tuple, adt, boxed, shared, unique, param, closure, viewed, snapshot, no_tys, and_ty}
use Rattle.logic_term.specs.TyView.{tys_of}
use Rattle.logic_term.specs.declared.declaration.FieldDecl.{FieldDecl}
use Rattle.logic_term.specs.declared.declaration.VariantDecl.{VariantDecl}
use Rattle.logic_term.specs.declared.kinds.AdtId.{AdtId}
use Rattle.logic_term.specs.declared.kinds.Region.{Region}
use Rattle.rs_types.specs.Bounded.{Bounded, AllBounded, int_bounded, bool_bounded, math_bounded, viewed_bounded, closure_bounded, boxed_bounded, shared_bounded, unique_bounded, snapshot_bounded, tuple_bounded, none_bounded, more_bounded}
use Rattle.rs_types.specs.Growing.{is, outside}
use Rattle.rs_types.specs.Holding.{Rows, cell, stands, one_stands, argument_stands, in_some_field, in_some_variant, none}
use Rattle.rs_types.proofs.Ranked.{BoundedAt}
use Rattle.rs_types.proofs.Tests.{or_false, or_left, or_right, and_true, second_false, not_false}

-- declared types in the set are bounded where the arguments that they hold are
abbrev pub AreBounded : Declarations → Rows → List Bool → Type 0
AreBounded Δ rows set = (d : AdtId) (rs : List Region) (ts : Tys) → get_or set d.0 true ≡ true → BoundedAt Δ (cell rows d.0) ts → Bounded Δ (adt d rs ts)

module _ (Δ : Declarations) (rows : Rows) (set : List Bool) (up : AreBounded Δ rows set) (P : ℕ → Bool) (ts : Tys) (h : BoundedAt Δ P ts) where
  itself : (n : ℕ) → (n == n) ≡ true
  itself n = grind (arith, nat_tests)

  mutual
    field_bounded : (f : Ty) → ((n : ℕ) → stands rows (is n) none f ≡ true → P n ≡ true) → stands rows none (outside set) f ≡ false → Bounded Δ (instance ts f)
    field_bounded (int k) g o = int_bounded
    field_bounded bool g o = bool_bounded
    field_bounded math_int g o = math_bounded
    field_bounded (tuple us) g o = tuple_bounded (each_bounded us g o)
    field_bounded (adt d rs us) g o =
        let q = or_false (outside set d.0) (argument_stands rows none (outside set) (get_or rows d.0 []) us) o in
        up d rs (instances ts us) (not_false (get_or set d.0 true) q.0) (arguments_bounded (get_or rows d.0 []) us g q.1)
    field_bounded (boxed t) g o = boxed_bounded
    field_bounded (shared r t) g o = shared_bounded (field_bounded t g o)
    field_bounded (unique r t) g o = unique_bounded (field_bounded t g o)
    field_bounded (param n) g o = h n (g n (itself n))
    field_bounded (closure n us cs k ps t) g o = closure_bounded
    field_bounded (viewed t) g o = viewed_bounded
    field_bounded (snapshot t) g o = snapshot_bounded (field_bounded t g o)

    each_bounded : (us : Tys) → ((n : ℕ) → one_stands rows (is n) none us ≡ true → P n ≡ true) → one_stands rows none (outside set) us ≡ false → AllBounded Δ (instances ts us)
    each_bounded no_tys g o = none_bounded
    each_bounded (and_ty t us) g o =
        let q = or_false (stands rows none (outside set) t) (one_stands rows none (outside set) us) o in
        more_bounded (field_bounded t (λ n e. g n (or_left (stands rows (is n) none t) (one_stands rows (is n) none us) e)) q.0)
        (each_bounded us (λ n e. g n (or_right (stands rows (is n) none t) (one_stands rows (is n) none us) e)) q.1)

    arguments_bounded : (held : List Bool) (us : Tys) → ((n : ℕ) → argument_stands rows (is n) none held us ≡ true → P n ≡ true) → argument_stands rows none (outside set) held us ≡ false
        → (i : ℕ) → get_or held i false ≡ true → Bounded Δ (nth_ty (instances ts us) i)
    arguments_bounded held no_tys g o i e = math_bounded
    arguments_bounded [] (and_ty t us) g o i e = absurd (true≢false (sym e))
    arguments_bounded (b ∷ held) (and_ty t us) g o zero e =
        let q = or_false (b && stands rows none (outside set) t) (argument_stands rows none (outside set) held us) o in
        field_bounded t (λ n s. g n (or_left (b && stands rows (is n) none t) (argument_stands rows (is n) none held us) (and_true b (stands rows (is n) none t) e s)))
        (second_false b (stands rows none (outside set) t) e q.0)
    arguments_bounded (b ∷ held) (and_ty t us) g o (suc i) e =
        let q = or_false (b && stands rows none (outside set) t) (argument_stands rows none (outside set) held us) o in
        arguments_bounded held us (λ n s. g n (or_right (b && stands rows (is n) none t) (argument_stands rows (is n) none held us) s)) q.1 i e

  fields_bounded : (fs : List FieldDecl) → ((n : ℕ) → in_some_field rows (is n) none fs ≡ true → P n ≡ true) → in_some_field rows none (outside set) fs ≡ false
      → AllBounded Δ (instances ts (tys_of (map field_ty fs)))
  fields_bounded [] g o = none_bounded
  fields_bounded (f ∷ fs) g o =
      let q = or_false (stands rows none (outside set) f.ty) (in_some_field rows none (outside set) fs) o in
      more_bounded (field_bounded f.ty (λ n e. g n (or_left (stands rows (is n) none f.ty) (in_some_field rows (is n) none fs) e)) q.0)
      (fields_bounded fs (λ n e. g n (or_right (stands rows (is n) none f.ty) (in_some_field rows (is n) none fs) e)) q.1)

  pub variant_bounded : (vs : List VariantDecl) → ((n : ℕ) → in_some_variant rows (is n) none vs ≡ true → P n ≡ true) → in_some_variant rows none (outside set) vs ≡ false
      → (k : ℕ) (v : VariantDecl) → slice_get vs k ≡ Some v → AllBounded Δ (instances ts (tys_of (map field_ty v.fields)))
  variant_bounded [] g o k v e = absurd (nothing e)
    where
      nothing : None ≡ Some v → ⊥
      nothing q = grind (arith, q)
  variant_bounded (u ∷ vs) g o zero v e =
      let q = or_false (in_some_field rows none (outside set) u.fields) (in_some_variant rows none (outside set) vs) o in
      subst (λ w. AllBounded Δ (instances ts (tys_of (map field_ty w.fields)))) (same e)
      (fields_bounded u.fields (λ n s. g n (or_left (in_some_field rows (is n) none u.fields) (in_some_variant rows (is n) none vs) s)) q.0)
    where
      same : Some u ≡ Some v → u ≡ v
      same q = cc
  variant_bounded (u ∷ vs) g o (suc k) v e =
      let q = or_false (in_some_field rows none (outside set) u.fields) (in_some_variant rows none (outside set) vs) o in
      variant_bounded vs (λ n s. g n (or_right (in_some_field rows (is n) none u.fields) (in_some_variant rows (is n) none vs) s)) q.1 k v e
