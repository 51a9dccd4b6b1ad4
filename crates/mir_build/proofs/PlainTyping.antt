-- Typing of plain trees: that of `IsWellTyped` where each type runs, and what is assigned to or matched is no part of a value. What is proved of bodies speaks of them.
use Rattle.std.proofs.Common.{◌≡◌, ◌⊎◌, inl, inr, refl, ap, sym, subst, true, false, List, [], ◌∷◌, ◌++◌, length, Some, slice_get}
use Rattle.source_kinds.specs.declared.kinds.IntKind.{IntKind}
use Rattle.source_kinds.specs.Range.{fits, widens}
use Rattle.logic_term.specs.declared.declaration.AdtDecl.{AdtDecl}
use Rattle.logic_term.specs.Ty.{Ty, int, bool, and_ty}
use Rattle.logic_term.specs.TyView.{tys_of}
use Rattle.type_check.specs.declared.program.Signature.{Signature}
use Rattle.type_check.specs.declared.program.TypedFunction.{TypedFunction}
use Rattle.type_check.specs.Breaks.{breaks}
use Rattle.type_check.specs.Leaves.{leaves}
use Rattle.runnable.specs.Plain.{IsPlain, StatementsArePlain, ArePlain, ArmsArePlain, FunctionIsPlain}
use Rattle.runnable.specs.Runs.{Runs, AllRun, is_part}
use Rattle.type_check.specs.TypedExpr.{TypedExpr, TypedStmts, TypedExprs, integer, truth, variable, negative, denied, cast, binary, lazy, assign, update, call, make, part, block, branch, choice, matched, repeat, panics, returned, endless}
use Rattle.type_check.specs.TypedExpr.{until_break, break_off, go_on, done, last, leaving, bind, run, none, more, TypedArms, no_arms, with_arm}
use Rattle.type_check.specs.TypedExprView.{ty_of}
use Rattle.type_check.specs.WellTyped.{unit, is_signed, operation_ty, EachSpeaks, Surroundings, looping, outside, surroundings_of, IsOf, IsOfOrLeaves, ClausesSpeak, MakesOf, part_ty, tys_of_exprs, IsWellTyped, StatementsFit, ArgumentsFit, PartsFit, ArmsFit, tys_bound, FunctionFits}

-- it has the type, or never a value, whichever type that runs is asked
abbrev pub IsOfOrRuns : List AdtDecl → Ty → TypedExpr → Type 0
IsOfOrRuns ds t e = IsOf t e ⊎ ((leaves e ≡ true) × Runs ds t)

abbrev mutual
  pub IsPlainlyTyped : Surroundings → List Ty → TypedExpr → Type 0
  IsPlainlyTyped σ Γ (integer t s z k) = (t ≡ int k) × (fits k z ≡ true)
  IsPlainlyTyped σ Γ (truth t s b) = t ≡ bool
  IsPlainlyTyped σ Γ (variable t s x) = (slice_get Γ x ≡ Some t) × Runs σ.types t
  IsPlainlyTyped σ Γ (negative t s e) = (k : IntKind) × (is_signed k ≡ true) × (t ≡ int k) × IsOf (int k) e × IsPlainlyTyped σ Γ e
  IsPlainlyTyped σ Γ (denied t s e) = (t ≡ bool) × IsOf bool e × IsPlainlyTyped σ Γ e
  IsPlainlyTyped σ Γ (cast t s e) = (j : IntKind) × (k : IntKind) × (widens j k ≡ true) × (t ≡ int k) × IsOf (int j) e × IsPlainlyTyped σ Γ e
  IsPlainlyTyped σ Γ (binary t s op a b) = (operation_ty op (ty_of a) ≡ Some t) × IsOf (ty_of a) b × IsPlainlyTyped σ Γ a × IsPlainlyTyped σ Γ b
  IsPlainlyTyped σ Γ (lazy t s op a b) = (t ≡ bool) × IsOf bool a × IsOf bool b × IsPlainlyTyped σ Γ a × IsPlainlyTyped σ Γ b
  IsPlainlyTyped σ Γ (assign t s a e) = (t ≡ unit) × IsOf (ty_of a) e × IsPlainlyTyped σ Γ a × IsPlainlyTyped σ Γ e × (is_part a ≡ false)
  IsPlainlyTyped σ Γ (update t s op a e) = (t ≡ unit) × IsOf (ty_of a) e × (operation_ty op (ty_of e) ≡ Some (ty_of e)) × IsPlainlyTyped σ Γ a × IsPlainlyTyped σ Γ e × (is_part a ≡ false)
  IsPlainlyTyped σ Γ (call t s f es) = (g : Signature) × (slice_get σ.signatures f ≡ Some g) × (t ≡ g.answer) × ArgumentsFitPlainly σ Γ es g.params
  -- the parts are like arguments
  IsPlainlyTyped σ Γ (make t s c es) = (ts : List Ty) × Runs σ.types t × MakesOf σ.types c (tys_of ts) t × ArgumentsFitPlainly σ Γ es ts
  IsPlainlyTyped σ Γ (part t s e n) = Runs σ.types t × (part_ty σ.types (ty_of e) n ≡ Some t) × IsPlainlyTyped σ Γ e
  IsPlainlyTyped σ Γ (block t s ss) = StatementsFitPlainly σ Γ t ss
  IsPlainlyTyped σ Γ (branch t s c a) = (t ≡ unit) × IsOf bool c × IsOf unit a × IsPlainlyTyped σ Γ c × IsPlainlyTyped σ Γ a
  -- a side that leaves fits any type
  IsPlainlyTyped σ Γ (choice t s c a b) = IsOf bool c × IsOfOrRuns σ.types t a × IsOfOrRuns σ.types t b × IsPlainlyTyped σ Γ c × IsPlainlyTyped σ Γ a × IsPlainlyTyped σ Γ b
  IsPlainlyTyped σ Γ (matched t s e as') = Runs σ.types (ty_of e) × IsPlainlyTyped σ Γ e × ArmsFitPlainly σ Γ t as' × (is_part e ≡ false)
  IsPlainlyTyped σ Γ (repeat t s is c b) = (t ≡ unit) × EachSpeaks (length Γ) is × IsOf bool c × IsOf unit b × IsPlainlyTyped (outside σ) Γ c × IsPlainlyTyped (looping σ) Γ b
  -- what leaves is of any type that runs
  IsPlainlyTyped σ Γ (panics t s k) = Runs σ.types t
  IsPlainlyTyped σ Γ (returned t s e) = Runs σ.types t × IsOf σ.answer e × IsPlainlyTyped σ Γ e
  IsPlainlyTyped σ Γ (endless t s is b) = Runs σ.types t × (breaks b ≡ false) × EachSpeaks (length Γ) is × IsOf unit b × IsPlainlyTyped (looping σ) Γ b
  IsPlainlyTyped σ Γ (until_break t s is b) = (t ≡ unit) × (breaks b ≡ true) × EachSpeaks (length Γ) is × IsOf unit b × IsPlainlyTyped (looping σ) Γ b
  IsPlainlyTyped σ Γ (break_off t s) = Runs σ.types t × (σ.in_loop ≡ true)
  IsPlainlyTyped σ Γ (go_on t s) = Runs σ.types t × (σ.in_loop ≡ true)

  -- the statements of a block of the type, and its last expression
  pub StatementsFitPlainly : Surroundings → List Ty → Ty → TypedStmts → Type 0
  StatementsFitPlainly σ Γ t done = t ≡ unit
  StatementsFitPlainly σ Γ t (last e) = IsOf t e × IsPlainlyTyped σ Γ e
  StatementsFitPlainly σ Γ t (leaving e) = Runs σ.types t × (leaves e ≡ true) × IsPlainlyTyped σ Γ e
  StatementsFitPlainly σ Γ t (bind e ss) = IsPlainlyTyped σ Γ e × StatementsFitPlainly σ (Γ ++ ty_of e ∷ []) t ss
  StatementsFitPlainly σ Γ t (run e ss) = IsPlainlyTyped σ Γ e × StatementsFitPlainly σ Γ t ss

  -- one argument for each parameter
  pub ArgumentsFitPlainly : Surroundings → List Ty → TypedExprs → List Ty → Type 0
  ArgumentsFitPlainly σ Γ none [] = Unit {0}
  ArgumentsFitPlainly σ Γ (more e es) (t ∷ ts) = IsOf t e × IsPlainlyTyped σ Γ e × ArgumentsFitPlainly σ Γ es ts
  ArgumentsFitPlainly σ Γ _ _ = ⊥

  -- the arms of a match of the type
  pub ArmsFitPlainly : Surroundings → List Ty → Ty → TypedArms → Type 0
  ArmsFitPlainly σ Γ t no_arms = Unit {0}
  ArmsFitPlainly σ Γ t (with_arm p xs e as') = IsOfOrRuns σ.types t e × IsPlainlyTyped σ (Γ ++ tys_bound xs) e × ArmsFitPlainly σ Γ t as'

pub record FunctionFitsPlainly (ds : List AdtDecl) (σ : List Signature) (f : TypedFunction) : Type 0 where
  pub params : AllRun ds f.signature.params
  pub answer : Runs ds f.signature.answer
  pub clauses : ClausesSpeak (length f.signature.params) f.clauses
  pub body : IsPlainlyTyped (surroundings_of ds σ f.signature) f.signature.params f.body
  pub of_answer : IsOf f.signature.answer f.body

-- ---- trees that fit and are plain

side : (ds : List AdtDecl) (t : Ty) (e : TypedExpr) → Runs ds t → IsOfOrLeaves t e → IsOfOrRuns ds t e
side ds t e s (inl h) = inl h
side ds t e s (inr h) = inr (h.0, s)

plain_runs : (ds : List AdtDecl) (e : TypedExpr) → IsPlain ds e → Runs ds (ty_of e)
plain_runs ds (integer t s z k) p = p
plain_runs ds (truth t s b) p = p
plain_runs ds (variable t s x) p = p
plain_runs ds (negative t s e) p = p.0
plain_runs ds (denied t s e) p = p.0
plain_runs ds (cast t s e) p = p.0
plain_runs ds (binary t s op a b) p = p.0
plain_runs ds (lazy t s op a b) p = p.0
plain_runs ds (assign t s a e) p = p.0
plain_runs ds (update t s op a e) p = p.0
plain_runs ds (call t s f es) p = p.0
plain_runs ds (make t s c es) p = p.0
plain_runs ds (part t s e n) p = p.0
plain_runs ds (block t s ss) p = p.0
plain_runs ds (branch t s c a) p = p.0
plain_runs ds (choice t s c a b) p = p.0
plain_runs ds (matched t s e as') p = p.0
plain_runs ds (repeat t s is c b) p = p.0
plain_runs ds (panics t s k) p = p
plain_runs ds (returned t s e) p = p.0
plain_runs ds (endless t s is b) p = p.0
plain_runs ds (until_break t s is b) p = p.0
plain_runs ds (break_off t s) p = p
plain_runs ds (go_on t s) p = p

-- the types of expressions, listed
abbrev tys_in : TypedExprs → List Ty
tys_in none = []
tys_in (more e es) = ty_of e ∷ tys_in es

tys_listed : (es : TypedExprs) → tys_of (tys_in es) ≡ tys_of_exprs es
tys_listed none = refl
tys_listed (more e es) = ap (and_ty (ty_of e)) (tys_listed es)

mutual
  pub plainly : (σ : Surroundings) (Γ : List Ty) (e : TypedExpr) → IsPlain σ.types e → IsWellTyped σ Γ e → IsPlainlyTyped σ Γ e
  plainly σ Γ (integer t s z k) p h = h
  plainly σ Γ (truth t s b) p h = h
  plainly σ Γ (variable t s x) p h = (h, p)
  plainly σ Γ (negative t s e) p h = (h.0, h.1, h.2, h.3, plainly σ Γ e p.1 h.4)
  plainly σ Γ (denied t s e) p h = (h.0, h.1, plainly σ Γ e p.1 h.2)
  plainly σ Γ (cast t s e) p h = (h.0, h.1, h.2, h.3, h.4, plainly σ Γ e p.1 h.5)
  plainly σ Γ (binary t s op a b) p h = (h.0, h.1, plainly σ Γ a p.1 h.2, plainly σ Γ b p.2 h.3)
  plainly σ Γ (lazy t s op a b) p h = (h.0, h.1, h.2, plainly σ Γ a p.1 h.3, plainly σ Γ b p.2 h.4)
  plainly σ Γ (assign t s a e) p h = (h.0, h.1, plainly σ Γ a p.1 h.2, plainly σ Γ e p.2 h.3, p.3)
  plainly σ Γ (update t s op a e) p h = (h.0, h.1, h.2, plainly σ Γ a p.1 h.3, plainly σ Γ e p.2 h.4, p.3)
  plainly σ Γ (call t s f es) p h = (h.0, h.1, h.2, plain_arguments σ Γ es h.0.params p.1 h.3)
  plainly σ Γ (make t s c es) p h = (tys_in es, p.0, subst (λ ts. MakesOf σ.types c ts t) (sym (tys_listed es)) h.0, plain_parts σ Γ es p.1 h.1)
  plainly σ Γ (part t s e n) p h = (p.0, h.0, plainly σ Γ e p.1 h.1)
  plainly σ Γ (block t s ss) p h = plain_statements σ Γ t ss p.0 p.1 h
  plainly σ Γ (branch t s c a) p h = (h.0, h.1, h.2, plainly σ Γ c p.1 h.3, plainly σ Γ a p.2 h.4)
  plainly σ Γ (choice t s c a b) p h = (h.0, side σ.types t a p.0 h.1, side σ.types t b p.0 h.2, plainly σ Γ c p.1 h.3, plainly σ Γ a p.2 h.4, plainly σ Γ b p.3 h.5)
  plainly σ Γ (matched t s e as') p h = (plain_runs σ.types e p.1, plainly σ Γ e p.1 h.0, plain_arms σ Γ (ty_of e) t as' p.0 p.2 h.1, p.3)
  plainly σ Γ (repeat t s is c b) p h = (h.0, h.1, h.2, h.3, plainly (outside σ) Γ c p.1 h.4, plainly (looping σ) Γ b p.2 h.5)
  plainly σ Γ (panics t s k) p h = p
  plainly σ Γ (returned t s e) p h = (p.0, h.1, plainly σ Γ e p.1 h.2)
  plainly σ Γ (endless t s is b) p h = (p.0, h.1, h.2, h.3, plainly (looping σ) Γ b p.1 h.4)
  plainly σ Γ (until_break t s is b) p h = (h.0, h.1, h.2, h.3, plainly (looping σ) Γ b p.1 h.4)
  plainly σ Γ (break_off t s) p h = (p, h.1)
  plainly σ Γ (go_on t s) p h = (p, h.1)

  plain_statements : (σ : Surroundings) (Γ : List Ty) (t : Ty) (ss : TypedStmts) → Runs σ.types t → StatementsArePlain σ.types ss → StatementsFit σ Γ t ss → StatementsFitPlainly σ Γ t ss
  plain_statements σ Γ t done s p h = h
  plain_statements σ Γ t (last e) s p h = (h.0, plainly σ Γ e p h.1)
  plain_statements σ Γ t (leaving e) s p h = (s, h.1, plainly σ Γ e p h.2)
  plain_statements σ Γ t (bind e ss) s p h = (plainly σ Γ e p.0 h.0, plain_statements σ (Γ ++ ty_of e ∷ []) t ss s p.1 h.1)
  plain_statements σ Γ t (run e ss) s p h = (plainly σ Γ e p.0 h.0, plain_statements σ Γ t ss s p.1 h.1)

  plain_arguments : (σ : Surroundings) (Γ : List Ty) (es : TypedExprs) (ts : List Ty) → ArePlain σ.types es → ArgumentsFit σ Γ es ts → ArgumentsFitPlainly σ Γ es ts
  plain_arguments σ Γ none [] p h = h
  plain_arguments σ Γ none (t ∷ ts) p h = h
  plain_arguments σ Γ (more e es) [] p h = h
  plain_arguments σ Γ (more e es) (t ∷ ts) p h = (h.0, plainly σ Γ e p.0 h.1, plain_arguments σ Γ es ts p.1 h.2)

  plain_parts : (σ : Surroundings) (Γ : List Ty) (es : TypedExprs) → ArePlain σ.types es → PartsFit σ Γ es → ArgumentsFitPlainly σ Γ es (tys_in es)
  plain_parts σ Γ none p h = tt
  plain_parts σ Γ (more e es) p h = (refl, plainly σ Γ e p.0 h.0, plain_parts σ Γ es p.1 h.1)

  plain_arms : (σ : Surroundings) (Γ : List Ty) (u t : Ty) (as' : TypedArms) → Runs σ.types t → ArmsArePlain σ.types as' → ArmsFit σ Γ u t as' → ArmsFitPlainly σ Γ t as'
  plain_arms σ Γ u t no_arms s p h = tt
  plain_arms σ Γ u t (with_arm q xs e as') s p h = (side σ.types t e s h.1, plainly σ (Γ ++ tys_bound xs) e p.0 h.2, plain_arms σ Γ u t as' s p.1 h.3)

pub fits_plainly : (ds : List AdtDecl) (σ : List Signature) (f : TypedFunction) → FunctionIsPlain ds f → FunctionFits ds σ f → FunctionFitsPlainly ds σ f
fits_plainly ds σ f p h = record { params = p.params; answer = p.answer; clauses = h.clauses; body = plainly (surroundings_of ds σ f.signature) f.signature.params f.body p.body h.body; of_answer = h.of_answer }
