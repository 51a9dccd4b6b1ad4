-- What leaves, in plain trees that fit: it serves for a value of any type that runs.
use Rattle.std.proofs.Common.{◌≡◌, ◌⊎◌, inl, inr, refl, ◌∙◌, subst, ℕ, ◌&&◌, Bool, true, List}
use Rattle.text_core.specs.declared.refusal.Cause.{Cause}
use Rattle.text_core.specs.declared.span.Span.{Span}
use Rattle.logic_term.specs.declared.declaration.AdtDecl.{AdtDecl}
use Rattle.logic_term.specs.Ty.{Ty}
use Rattle.type_check.specs.Leaves.{leaves}
use Rattle.type_check.specs.TypedExpr.{TypedExpr, panics, leaving}
use Rattle.type_check.specs.TypedExprView.{ty_of}
use Rattle.runnable.specs.Runs.{Runs}
use Rattle.type_check.specs.WellTyped.{Surroundings}
use Rattle.mir_build.proofs.Accepted.{both_hold}
use Rattle.mir_build.proofs.PlainTyping.{IsPlainlyTyped, StatementsFitPlainly, IsOfOrRuns}

-- ---- plain trees that fit

pub panics_runs : (σ : Surroundings) (Γ : List Ty) (T : Ty) (s : Span) (k : Cause) → IsPlainlyTyped σ Γ (panics T s k) → Runs σ.types T
panics_runs σ Γ T s k h = h

pub leaving_value : (σ : Surroundings) (Γ : List Ty) (T : Ty) (e : TypedExpr) → StatementsFitPlainly σ Γ T (leaving e) → IsPlainlyTyped σ Γ e
leaving_value σ Γ T e h = h.2

pub leaving_leaves : (σ : Surroundings) (Γ : List Ty) (T : Ty) (e : TypedExpr) → StatementsFitPlainly σ Γ T (leaving e) → leaves e ≡ true
leaving_leaves σ Γ T e h = h.1

pub leaving_runs : (σ : Surroundings) (Γ : List Ty) (T : Ty) (e : TypedExpr) → StatementsFitPlainly σ Γ T (leaving e) → Runs σ.types T
leaving_runs σ Γ T e h = h.0

-- ---- what serves

module _ (ds : List AdtDecl) where
  -- what writes a value of type T to local d does so for U and d', or it leaves, which serves for every type that runs
  abbrev pub Serves : Bool → ℕ → Ty → ℕ → Ty → Type 0
  Serves leaves d T d' U = ((d ≡ d') × (T ≡ U)) ⊎ ((leaves ≡ true) × Runs ds U)

  pub itself : {b : Bool} {d : ℕ} {T : Ty} → Serves b d T d T
  itself = inl (refl, refl)

  pub at_type : {b : Bool} {d : ℕ} {T U : Ty} → T ≡ U → Serves b d T d U
  at_type e = inl (refl, e)

  pub serves_runs : (b : Bool) (d : ℕ) (T : Ty) (d' : ℕ) (U : Ty) → Runs ds T → Serves b d T d' U → Runs ds U
  serves_runs b d T d' U h (inl w) = subst (Runs ds) w.1 h
  serves_runs b d T d' U h (inr w) = w.1

  -- a value of another type
  pub last_serves : (b : Bool) (d : ℕ) (S T : Ty) (d' : ℕ) (U : Ty) → S ≡ T → Serves b d T d' U → Serves b d S d' U
  last_serves b d S T d' U e (inl w) = inl (w.0, e ∙ w.1)
  last_serves b d S T d' U e (inr w) = inr w

  -- a side of an `if`
  pub side_serves : (e : TypedExpr) (d : ℕ) (T : Ty) (d' : ℕ) (U : Ty) → d ≡ d' → T ≡ U → IsOfOrRuns ds T e → Serves (leaves e) d (ty_of e) d' U
  side_serves e d T d' U p q (inl w) = inl (p, w ∙ q)
  side_serves e d T d' U p q (inr w) = inr (w.0, subst (Runs ds) q w.1)

  -- both of them, where both leave
  pub sides_serve : (a b : TypedExpr) (d : ℕ) (T : Ty) (d' : ℕ) (U : Ty) → leaves a && leaves b ≡ true → IsOfOrRuns ds T a → IsOfOrRuns ds T b → Serves (leaves a && leaves b) d T d' U
      → Serves (leaves a) d (ty_of a) d' U × Serves (leaves b) d (ty_of b) d' U
  sides_serve a b d T d' U n f g (inl w) = (side_serves a d T d' U w.0 w.1 f, side_serves b d T d' U w.0 w.1 g)
  sides_serve a b d T d' U n f g (inr w) = let l = both_hold (leaves a) (leaves b) n in (inr (l.0, w.1), inr (l.1, w.1))

  -- an arm of a match, whose arms all leave where this says so
  pub arm_serves : (e : TypedExpr) (all : Bool) (d : ℕ) (T : Ty) (d' : ℕ) (U : Ty) → IsOfOrRuns ds T e → Serves (leaves e && all) d T d' U → Serves (leaves e) d (ty_of e) d' U
  arm_serves e all d T d' U h (inl w) = side_serves e d T d' U w.0 w.1 h
  arm_serves e all d T d' U h (inr w) = inr ((both_hold (leaves e) all w.0).0, w.1)

  pub later_serve : (e : TypedExpr) (all : Bool) (d : ℕ) (T : Ty) (d' : ℕ) (U : Ty) → Serves (leaves e && all) d T d' U → Serves all d T d' U
  later_serve e all d T d' U (inl w) = inl w
  later_serve e all d T d' U (inr w) = inr ((both_hold (leaves e) all w.0).1, w.1)
