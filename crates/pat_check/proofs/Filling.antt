-- Pattern values stand for values.
use Rattle.std.proofs.Common.{◌≡◌, refl, sym, ap, ◌∙◌, subst, ℤ, true, ◌&&◌, Option, Some, None}
use Rattle.source_kinds.specs.declared.kinds.IntKind.{IntKind}
use Rattle.logic_term.specs.Matches.{seen, is_made}
use Rattle.logic_term.specs.Sort.{Declarations, HasSort, HaveSorts, instance, instances, of_int, of_math_int, of_bool, of_tuple, of_adt, of_boxed, of_shared, of_snapshot, of_unique, of_none, of_more}
use Rattle.logic_term.specs.Ty.{Ty, Tys, int, bool, math_int, tuple, adt, boxed, shared, unique, param, closure, viewed, snapshot, no_tys, and_ty}
use Rattle.logic_term.specs.Value.{Value, Values, Number, Flag, Made, Pair, no_values, and_value, parts_of}
use Rattle.logic_term.specs.declared.kinds.Ctor.{Ctor}
use Rattle.logic_term.specs.declared.kinds.Ctor.TheVariants.{Tuple, Variant}
use Rattle.pat_check.proofs.Sorts.{instances_twice, parts_same}
use Rattle.pat_check.proofs.Sound.{number_at, flag_at}
use Rattle.pat_check.proofs.Tests.{and_of, ctor_self}
use Rattle.pat_check.specs.PatValue.{truth, PatValue, PatValues, any, integer, made, no_parts, and_part, stands_for, stand_for_all, IsPatValue, ArePatValues, Fillable, AreFillable}
use Rattle.pat_check.specs.Typed.{core, integers, is_integer, PartsOf}

-- ---- filling

-- a value of the type behind references has one in front of them
in_front : (Δ : Declarations) (θ : Tys) (t : Ty) (u : Value) → HasSort Δ u (instance θ (core t)) → (v : Value) × HasSort Δ v (instance θ t) × (seen v ≡ seen u)
in_front Δ θ (boxed t) u h = let g = in_front Δ θ t u h in (g.0, of_boxed g.1, g.2)
in_front Δ θ (shared r t) u h = let g = in_front Δ θ t u h in (g.0, of_shared g.1, g.2)
in_front Δ θ (unique r t) u h = let g = in_front Δ θ t u h in (Pair g.0 g.0, of_unique g.1 g.1, g.2)
in_front Δ θ (snapshot t) u h = let g = in_front Δ θ t u h in (g.0, of_snapshot g.1, g.2)
in_front Δ θ (int k) u h = (u, h, refl)
in_front Δ θ bool u h = (u, h, refl)
in_front Δ θ math_int u h = (u, h, refl)
in_front Δ θ (tuple ts) u h = (u, h, refl)
in_front Δ θ (adt d rs ts) u h = (u, h, refl)
in_front Δ θ (param n) u h = (u, h, refl)
in_front Δ θ (closure n ts cs k ps r) u h = (u, h, refl)
in_front Δ θ (viewed t) u h = (u, h, refl)

made_sort : (Δ : Declarations) (θ : Tys) (s : Ty) (c : Ctor) (fs : Tys) (vs : Values) → PartsOf Δ s c fs → HaveSorts Δ vs (instances θ fs) → HasSort Δ (Made c vs) (instance θ s)
made_sort Δ θ (tuple ts) Tuple fs vs e h = of_tuple (subst (λ x. HaveSorts Δ vs (instances θ x)) (sym e) h)
made_sort Δ θ (adt d rs ts) (Variant e k) fs vs (gs, same, has, inst) h =
    subst (λ x. HasSort Δ (Made (Variant x k) vs) (adt d rs (instances θ ts))) same
    (of_adt has (subst (λ x. HaveSorts Δ vs x) (ap (instances θ) (sym inst) ∙ instances_twice θ ts gs) h))
made_sort Δ θ s c fs vs p h = absurd p

number_sort : (Δ : Declarations) (θ : Tys) (t : Ty) (k : Option IntKind) (z : ℤ) → core t ≡ integers k → is_integer k z ≡ true → (v : Value) × HasSort Δ v (instance θ t) × (seen v ≡ Number z)
number_sort Δ θ t None z e f = in_front Δ θ t (Number z) (subst (λ s. HasSort Δ (Number z) (instance θ s)) (sym e) of_math_int)
number_sort Δ θ t (Some k) z e f = in_front Δ θ t (Number z) (subst (λ s. HasSort Δ (Number z) (instance θ s)) (sym e) (of_int f))

mutual
  -- where each open part can be filled, the whole stands for a value of the type
  pub filled : (Δ : Declarations) (θ : Tys) (w : PatValue) (t : Ty) → IsPatValue Δ w t → Fillable Δ θ w t → (v : Value) × HasSort Δ v (instance θ t) × (stands_for w v ≡ true)
  filled Δ θ any t h f = (f.0, f.1, refl)
  filled Δ θ (integer z) t (k, e, i) f =
      let g = number_sort Δ θ t k z e i in
      (g.0, g.1, number_at z (seen g.0) g.2)
  filled Δ θ (truth b) t e f =
      let g = in_front Δ θ t (Flag b) (subst (λ s. HasSort Δ (Flag b) (instance θ s)) (sym e) of_bool) in
      (g.0, g.1, flag_at b (seen g.0) g.2)
  filled Δ θ (made c ws) t (fs, po, h) (gs, pg, f) =
      let same : gs ≡ fs = parts_same Δ (core t) c gs fs pg po in
      let vs = filled_all Δ θ ws fs h (subst (λ x. AreFillable Δ θ ws x) same f) in
      let g = in_front Δ θ t (Made c vs.0) (made_sort Δ θ (core t) c fs vs.0 po vs.1) in
      (g.0, g.1, subst (λ u. is_made c u && stand_for_all ws (parts_of u) ≡ true) (sym g.2) (and_of _ _ (ctor_self c) vs.2))

  filled_all : (Δ : Declarations) (θ : Tys) (ws : PatValues) (ts : Tys) → ArePatValues Δ ws ts → AreFillable Δ θ ws ts → (vs : Values) × HaveSorts Δ vs (instances θ ts) × (stand_for_all ws vs ≡ true)
  filled_all Δ θ no_parts no_tys h f = (no_values, of_none, refl)
  filled_all Δ θ no_parts (and_ty t ts) h f = absurd h
  filled_all Δ θ (and_part w ws) no_tys h f = absurd h
  filled_all Δ θ (and_part w ws) (and_ty t ts) h f =
      let g = filled Δ θ w t h.0 f.0 in
      let e = filled_all Δ θ ws ts h.1 f.1 in
      (and_value g.0 e.0, of_more g.1 e.1, and_of _ _ g.2 e.2)
