-- Types that are built in functions, by the test and by the relation.
use Rattle.std.proofs.Common.{◌≡◌, ◌∙◌, ℕ, suc, ◌+◌, ◌<◌, Bool, true, false, ◌&&◌, List, [], ◌∷◌, length, get_or, drop, refl, ap, sym, add-one, drop-cons}
use Rattle.std.specs.Prelude.{slice_get}
use Rattle.logic_term.specs.declared.declaration.AdtDecl.{AdtDecl}
use Rattle.logic_term.specs.declared.kinds.AdtId.{AdtId}
use Rattle.logic_term.specs.declared.kinds.Region.{Region}
use Rattle.logic_term.specs.Ty.{Ty, Tys, int, bool, tuple, adt, boxed, no_tys, and_ty}
use Rattle.logic_term.specs.TyView.{tys_of, ty_size, tys_size}
use Rattle.logic_term.specs.TyFalls as falls
use Rattle.type_check.specs.Types.{is_built, are_built, may_name}
use Rattle.type_check.specs.WellTyped.{IsBuilt, PartsAreBuilt}

pub each_smaller : (ts : List Ty) (i : ℕ) (t : Ty) → t ≡ get_or ts i t → i < length ts → ty_size t < tys_size (tys_of ts)
each_smaller ts i t e l = falls.each_smaller ts i t e l

-- a type with a lifetime is none
pub with_lifetimes : (ds : List AdtDecl) (d : AdtId) (r : Region) (rs : List Region) (ts : Tys) → is_built ds (adt d (r ∷ rs) ts) ≡ false
with_lifetimes ds d r rs ts = refl

pub both : (a b : Bool) → (a && b) ≡ true → (a ≡ true) × (b ≡ true)
both true b p = (refl, p)
both false b p = absurd (cc)

mutual
  pub built_is_built : (ds : List AdtDecl) (t : Ty) → is_built ds t ≡ true → IsBuilt t
  built_is_built ds (int k) p = tt
  built_is_built ds bool p = tt
  built_is_built ds (tuple ts) p = all_are_built ds ts p
  built_is_built ds (boxed t) p = built_is_built ds t p
  built_is_built ds (adt d [] ts) p = all_are_built ds ts (both (may_name (slice_get ds d.0)) (are_built ds ts) p).1
  built_is_built ds t p = absurd (cc)

  all_are_built : (ds : List AdtDecl) (ts : Tys) → are_built ds ts ≡ true → PartsAreBuilt ts
  all_are_built ds no_tys p = tt
  all_are_built ds (and_ty t ts) p = let b = both (is_built ds t) (are_built ds ts) p in (built_is_built ds t b.0, all_are_built ds ts b.1)

-- ---- part by part

-- these types and all behind them
pub built_at : (ds : List AdtDecl) (ts : List Ty) (i : ℕ) (t : Ty) → t ≡ get_or ts i t → i < length ts → is_built ds t ≡ true → are_built ds (tys_of (drop i ts)) ≡ are_built ds (tys_of (drop (i + 1) ts))
built_at ds ts i t e l p = rw (add-one, drop-cons ts i t l) (ap (λ u. is_built ds u && are_built ds (tys_of (drop (suc i) ts))) (sym e) ∙ ap (λ b. b && are_built ds (tys_of (drop (suc i) ts))) p)

pub unbuilt_at : (ds : List AdtDecl) (ts : List Ty) (i : ℕ) (t : Ty) → t ≡ get_or ts i t → i < length ts → is_built ds t ≡ false → are_built ds (tys_of (drop i ts)) ≡ false
unbuilt_at ds ts i t e l p = rw (drop-cons ts i t l) (ap (λ u. is_built ds u && are_built ds (tys_of (drop (suc i) ts))) (sym e) ∙ ap (λ b. b && are_built ds (tys_of (drop (suc i) ts))) p)
