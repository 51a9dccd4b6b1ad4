-- What fits in no loop fits in one: no `break` and no `continue` in it leaves the loop around.
use Rattle.std.proofs.Common.{List, [], ◌∷◌, ◌++◌, refl}
use Rattle.logic_term.specs.Ty.{Ty}
use Rattle.type_check.specs.TypedExpr.{TypedExpr, TypedStmts, TypedExprs, integer, truth, variable, negative, denied, cast, binary, lazy, assign, update, call, make, part, block, branch, choice, matched, repeat, panics, returned}
use Rattle.type_check.specs.TypedExpr.{endless, until_break, break_off, go_on, done, last, leaving, bind, run, none, more, TypedArms, no_arms, with_arm}
use Rattle.type_check.specs.TypedExprView.{ty_of}
use Rattle.type_check.specs.WellTyped.{Surroundings, looping, outside, tys_bound, IsWellTyped, StatementsFit, ArgumentsFit, PartsFit, ArmsFit}

mutual
  pub looped : (σ : Surroundings) (Γ : List Ty) (e : TypedExpr) → IsWellTyped (outside σ) Γ e → IsWellTyped (looping σ) Γ e
  looped σ Γ (integer t s z k) h = h
  looped σ Γ (truth t s b) h = h
  looped σ Γ (variable t s x) h = h
  looped σ Γ (negative t s e) h = (h.0, h.1, h.2, h.3, looped σ Γ e h.4)
  looped σ Γ (denied t s e) h = (h.0, h.1, looped σ Γ e h.2)
  looped σ Γ (cast t s e) h = (h.0, h.1, h.2, h.3, h.4, looped σ Γ e h.5)
  looped σ Γ (binary t s op a b) h = (h.0, h.1, looped σ Γ a h.2, looped σ Γ b h.3)
  looped σ Γ (lazy t s op a b) h = (h.0, h.1, h.2, looped σ Γ a h.3, looped σ Γ b h.4)
  looped σ Γ (assign t s a e) h = (h.0, h.1, looped σ Γ a h.2, looped σ Γ e h.3)
  looped σ Γ (update t s op a e) h = (h.0, h.1, h.2, looped σ Γ a h.3, looped σ Γ e h.4)
  looped σ Γ (call t s f es) h = (h.0, h.1, h.2, args_looped σ Γ es h.0.params h.3)
  looped σ Γ (make t s c es) h = (h.0, parts_looped σ Γ es h.1)
  looped σ Γ (part t s e n) h = (h.0, looped σ Γ e h.1)
  looped σ Γ (block t s ss) h = stmts_looped σ Γ t ss h
  looped σ Γ (branch t s c a) h = (h.0, h.1, h.2, looped σ Γ c h.3, looped σ Γ a h.4)
  looped σ Γ (choice t s c a b) h = (h.0, h.1, h.2, looped σ Γ c h.3, looped σ Γ a h.4, looped σ Γ b h.5)
  looped σ Γ (matched t s e as') h = (looped σ Γ e h.0, arms_looped σ Γ (ty_of e) t as' h.1)
  looped σ Γ (repeat t s is c b) h = h
  looped σ Γ (panics t s k) h = h
  looped σ Γ (returned t s e) h = (h.0, h.1, looped σ Γ e h.2)
  looped σ Γ (endless t s is b) h = h
  looped σ Γ (until_break t s is b) h = h
  looped σ Γ (break_off t s) h = (h.0, refl)
  looped σ Γ (go_on t s) h = (h.0, refl)

  stmts_looped : (σ : Surroundings) (Γ : List Ty) (t : Ty) (ss : TypedStmts) → StatementsFit (outside σ) Γ t ss → StatementsFit (looping σ) Γ t ss
  stmts_looped σ Γ t done h = h
  stmts_looped σ Γ t (last e) h = (h.0, looped σ Γ e h.1)
  stmts_looped σ Γ t (leaving e) h = (h.0, h.1, looped σ Γ e h.2)
  stmts_looped σ Γ t (bind e ss) h = (looped σ Γ e h.0, stmts_looped σ (Γ ++ ty_of e ∷ []) t ss h.1)
  stmts_looped σ Γ t (run e ss) h = (looped σ Γ e h.0, stmts_looped σ Γ t ss h.1)

  args_looped : (σ : Surroundings) (Γ : List Ty) (es : TypedExprs) (ts : List Ty) → ArgumentsFit (outside σ) Γ es ts → ArgumentsFit (looping σ) Γ es ts
  args_looped σ Γ none [] h = h
  args_looped σ Γ none (t ∷ ts) h = h
  args_looped σ Γ (more e es) [] h = h
  args_looped σ Γ (more e es) (t ∷ ts) h = (h.0, looped σ Γ e h.1, args_looped σ Γ es ts h.2)

  parts_looped : (σ : Surroundings) (Γ : List Ty) (es : TypedExprs) → PartsFit (outside σ) Γ es → PartsFit (looping σ) Γ es
  parts_looped σ Γ none h = h
  parts_looped σ Γ (more e es) h = (looped σ Γ e h.0, parts_looped σ Γ es h.1)

  arms_looped : (σ : Surroundings) (Γ : List Ty) (u t : Ty) (as' : TypedArms) → ArmsFit (outside σ) Γ u t as' → ArmsFit (looping σ) Γ u t as'
  arms_looped σ Γ u t no_arms h = h
  arms_looped σ Γ u t (with_arm p xs e as') h = (h.0, h.1, looped σ (Γ ++ tys_bound xs) e h.2, arms_looped σ Γ u t as' h.3)
