-- What a sound outcome of typing is: it fits, it is of the type that is expected, and that is a built one.
use Rattle.std.proofs.Common.{◌≡◌, ℕ, zero, suc, Bool, true, false, List, [], ◌∷◌, ◌++◌, Option, Some, None, Ok, refl, ap, subst}
use Rattle.std.specs.Prelude.{slice_get, if◌then◌else◌}
use Rattle.text_core.specs.declared.span.Span.{Span}
use Rattle.logic_term.specs.Ty.{Ty}
use Rattle.type_check.specs.declared.scope.Variable.{Variable}
use Rattle.type_check.specs.Answers.{mismatch}
pub use Rattle.type_check.specs.Around.{Around, MayAsk}
use Rattle.type_check.specs.Setting.{Setting}
use Rattle.type_check.specs.TypedExpr.{TypedExpr}
use Rattle.type_check.specs.TypedExprView.{ty_of}
use Rattle.type_check.specs.Types.{same_ty}
use Rattle.type_check.specs.Typing.{fit, asked}
use Rattle.type_check.specs.WellTyped.{IsBuilt, AllBuilt, IsWellTyped}
use Rattle.type_check.proofs.Bound.{held, same_ok}
use Rattle.type_check.proofs.Lookups.{types, surroundings}
use Rattle.logic_elab.proofs.SameSorts.{equal_types}

abbrev pub Meets : Option Ty → TypedExpr → Type 0
Meets None e = Unit {0}
Meets (Some t) e = ty_of e ≡ t

pub record Sound (σ : Setting) (Γ : List Variable) (t : Option Ty) (e : TypedExpr) : Type 0 where
  pub well : IsWellTyped (surroundings σ) (types Γ) e
  pub meets : Meets t e
  pub built : IsBuilt (ty_of e)

pub built_at : (ts : List Ty) (j : ℕ) (t : Ty) → AllBuilt ts → slice_get ts j ≡ Some t → IsBuilt t
built_at [] j t h p = absurd (cc)
built_at (u ∷ ts) zero t h p = let q : u ≡ t = cc in subst IsBuilt q h.0
built_at (u ∷ ts) (suc j) t h p = built_at ts j t h.1 p

pub fit_same : (t : Option Ty) (s : Span) (e r : TypedExpr) → fit t s e ≡ Ok r → (e ≡ r) × Meets t e
unfolding fit
fit_same None s e r p = (same_ok _ _ p, tt)
fit_same (Some t) s e r p =
    let c = held (same_ty (ty_of e) t) (Ok e) (mismatch s) r p in
    (same_ok _ _ c.1, equal_types (ty_of e) t c.0)

pub fit_sound : (σ : Setting) (Γ : List Variable) (t : Option Ty) (s : Span) (e r : TypedExpr) → IsWellTyped (surroundings σ) (types Γ) e → IsBuilt (ty_of e) → fit t s e ≡ Ok r → Sound σ Γ t r
fit_sound σ Γ t s e r w b p =
    let c = fit_same t s e r p in
    subst (Sound σ Γ t) c.0 (record { well = w; meets = c.1; built = b })

-- ---- types that are asked

pub asked_built : (t : Option Ty) → MayAsk t → IsBuilt (asked t)
asked_built None h = tt
asked_built (Some u) h = h

pub given_built : (b : Bool) (t : Option Ty) (u : Ty) → MayAsk t → IsBuilt u → MayAsk (if b then t else Some u)
given_built true t u h k = h
given_built false t u h k = k

-- ---- types of scopes

pub types-append : (Γ : List Variable) (v : Variable) → types (Γ ++ v ∷ []) ≡ types Γ ++ v.ty ∷ []
types-append [] v = refl
types-append (u ∷ Γ) v = ap (λ ts. u.ty ∷ ts) (types-append Γ v)

pub all_built_append : (ts : List Ty) (t : Ty) → AllBuilt ts → IsBuilt t → AllBuilt (ts ++ t ∷ [])
all_built_append [] t h k = (k, tt)
all_built_append (u ∷ ts) t h k = (h.0, all_built_append ts t h.1 k)
