-- A program is plain where nothing in it does not run, and only there.
use Rattle.std.proofs.Common.{◌≡◌, ◌&&◌, not, Bool, true, false, List, [], ◌∷◌, ◌∙◌, refl, ap, Option, Some, None}
use Rattle.text_core.specs.declared.span.Span.{Span}
use Rattle.logic_term.specs.declared.declaration.AdtDecl.{AdtDecl}
use Rattle.logic_term.specs.Ty.{Ty}
use Rattle.type_check.specs.declared.program.TypedFunction.{TypedFunction}
use Rattle.type_check.specs.TypedExpr.{TypedExpr, TypedStmts, TypedExprs, integer, truth, variable, negative, denied, cast, binary, lazy, assign, update, call, make, part, block, branch, choice}
use Rattle.type_check.specs.TypedExpr.{matched, repeat, panics, returned, endless, until_break, break_off, go_on, done, last, leaving, bind, run, none, more, TypedArms, no_arms, with_arm}
use Rattle.runnable.specs.Plain.{IsPlain, StatementsArePlain, ArePlain, ArmsArePlain, FunctionIsPlain, EachIsPlain}
use Rattle.runnable.specs.Runs.{Runs, AllRun, runs, all_run, is_part}
use Rattle.runnable.specs.Unrun.{earlier, unless, unrun_among, unrun_function, unrun_in, unrun_in_arms, unrun_in_statements, unrun_of}

pub both : (a b : Bool) → (a && b) ≡ true → (a ≡ true) × (b ≡ true)
both true b p = (refl, p)
both false b p = absurd (cc)

no_part : (b : Bool) → not b ≡ true → b ≡ false
no_part true p = absurd (cc)
no_part false p = refl

none_of : (b : Bool) (s : Span) → unless b s ≡ None → b ≡ true
none_of true s p = refl
none_of false s p = absurd (cc)

neither : (a b : Option Span) → earlier a b ≡ None → (a ≡ None) × (b ≡ None)
neither None b p = (refl, p)
neither (Some s) b p = absurd (cc)

no_two : (a b : Option Span) → a ≡ None → b ≡ None → earlier a b ≡ None
no_two a b p q = ap (λ x. earlier x b) p ∙ q

module _ (ds : List AdtDecl) where
  -- ---- types

  all_by_test : (ts : List Ty) → all_run ds ts ≡ true → AllRun ds ts
  all_by_test [] p = tt
  all_by_test (t ∷ ts) p = let b = both (runs ds t) (all_run ds ts) p in (b.0, all_by_test ts b.1)

  all_tested : (ts : List Ty) → AllRun ds ts → all_run ds ts ≡ true
  all_tested [] h = refl
  all_tested (t ∷ ts) h = ap (λ b. b && all_run ds ts) h.0 ∙ all_tested ts h.1

  -- ---- places

  run_of : (t : Ty) (s : Span) → unless (runs ds t) s ≡ None → Runs ds t
  run_of t s p = none_of (runs ds t) s p

  runs_of : (t : Ty) (s : Span) → Runs ds t → unless (runs ds t) s ≡ None
  runs_of t s h = ap (λ b. unless b s) h

  -- two parts, and then the whole
  two : (t : Ty) (s : Span) (a b : Option Span) → earlier a (earlier b (unless (runs ds t) s)) ≡ None → Runs ds t × (a ≡ None) × (b ≡ None)
  two t s a b p =
      let n = neither a (earlier b (unless (runs ds t) s)) p in
      let m = neither b (unless (runs ds t) s) n.1 in
      (run_of t s m.1, n.0, m.0)

  no_three : (t : Ty) (s : Span) (a b : Option Span) → Runs ds t → a ≡ None → b ≡ None → earlier a (earlier b (unless (runs ds t) s)) ≡ None
  no_three t s a b h p q = no_two a (earlier b (unless (runs ds t) s)) p (no_two b (unless (runs ds t) s) q (runs_of t s h))

  -- two parts, and then the whole, where the first is no part of a value
  whole : (e : TypedExpr) (t : Ty) (s : Span) (a b : Option Span) → earlier a (earlier b (unless (not (is_part e) && runs ds t) s)) ≡ None → Runs ds t × (a ≡ None) × (b ≡ None) × (is_part e ≡ false)
  whole e t s a b p =
      let n = neither a (earlier b (unless (not (is_part e) && runs ds t) s)) p in
      let m = neither b (unless (not (is_part e) && runs ds t) s) n.1 in
      let k = both (not (is_part e)) (runs ds t) (none_of (not (is_part e) && runs ds t) s m.1) in
      (k.1, n.0, m.0, no_part (is_part e) k.0)

  whole_three : (e : TypedExpr) (t : Ty) (s : Span) (a b : Option Span) → Runs ds t → a ≡ None → b ≡ None → is_part e ≡ false → earlier a (earlier b (unless (not (is_part e) && runs ds t) s)) ≡ None
  whole_three e t s a b h p q w =
      no_two a (earlier b (unless (not (is_part e) && runs ds t) s)) p
      (no_two b (unless (not (is_part e) && runs ds t) s) q (ap (λ x. unless (not x && runs ds t) s) w ∙ runs_of t s h))

  -- ---- expressions

  mutual
    plain_expr : (e : TypedExpr) → unrun_in ds e ≡ None → IsPlain ds e
    plain_expr (integer t s z k) p = run_of t s p
    plain_expr (truth t s b) p = run_of t s p
    plain_expr (variable t s x) p = run_of t s p
    plain_expr (negative t s e) p = let n = neither (unrun_in ds e) (unless (runs ds t) s) p in (run_of t s n.1, plain_expr e n.0)
    plain_expr (denied t s e) p = let n = neither (unrun_in ds e) (unless (runs ds t) s) p in (run_of t s n.1, plain_expr e n.0)
    plain_expr (cast t s e) p = let n = neither (unrun_in ds e) (unless (runs ds t) s) p in (run_of t s n.1, plain_expr e n.0)
    plain_expr (binary t s op a b) p = let n = two t s (unrun_in ds a) (unrun_in ds b) p in (n.0, plain_expr a n.1, plain_expr b n.2)
    plain_expr (lazy t s op a b) p = let n = two t s (unrun_in ds a) (unrun_in ds b) p in (n.0, plain_expr a n.1, plain_expr b n.2)
    plain_expr (assign t s a b) p = let n = whole a t s (unrun_in ds a) (unrun_in ds b) p in (n.0, plain_expr a n.1, plain_expr b n.2, n.3)
    plain_expr (update t s op a b) p = let n = whole a t s (unrun_in ds a) (unrun_in ds b) p in (n.0, plain_expr a n.1, plain_expr b n.2, n.3)
    plain_expr (call t s f es) p = let n = neither (unrun_among ds es) (unless (runs ds t) s) p in (run_of t s n.1, plain_exprs es n.0)
    plain_expr (make t s c es) p = let n = neither (unrun_among ds es) (unless (runs ds t) s) p in (run_of t s n.1, plain_exprs es n.0)
    plain_expr (part t s e k) p = let n = neither (unrun_in ds e) (unless (runs ds t) s) p in (run_of t s n.1, plain_expr e n.0)
    plain_expr (block t s ss) p = let n = neither (unrun_in_statements ds ss) (unless (runs ds t) s) p in (run_of t s n.1, plain_statements ss n.0)
    plain_expr (branch t s c a) p = let n = two t s (unrun_in ds c) (unrun_in ds a) p in (n.0, plain_expr c n.1, plain_expr a n.2)
    plain_expr (choice t s c a b) p =
        let n = neither (unrun_in ds c) (earlier (unrun_in ds a) (earlier (unrun_in ds b) (unless (runs ds t) s))) p in
        let m = two t s (unrun_in ds a) (unrun_in ds b) n.1 in
        (m.0, plain_expr c n.0, plain_expr a m.1, plain_expr b m.2)
    plain_expr (matched t s e as') p = let n = whole e t s (unrun_in ds e) (unrun_in_arms ds as') p in (n.0, plain_expr e n.1, plain_arms as' n.2, n.3)
    plain_expr (repeat t s is c b) p = let n = two t s (unrun_in ds c) (unrun_in ds b) p in (n.0, plain_expr c n.1, plain_expr b n.2)
    plain_expr (panics t s k) p = run_of t s p
    plain_expr (returned t s e) p = let n = neither (unrun_in ds e) (unless (runs ds t) s) p in (run_of t s n.1, plain_expr e n.0)
    plain_expr (endless t s is b) p = let n = neither (unrun_in ds b) (unless (runs ds t) s) p in (run_of t s n.1, plain_expr b n.0)
    plain_expr (until_break t s is b) p = let n = neither (unrun_in ds b) (unless (runs ds t) s) p in (run_of t s n.1, plain_expr b n.0)
    plain_expr (break_off t s) p = run_of t s p
    plain_expr (go_on t s) p = run_of t s p

    plain_statements : (ss : TypedStmts) → unrun_in_statements ds ss ≡ None → StatementsArePlain ds ss
    plain_statements done p = tt
    plain_statements (last e) p = plain_expr e p
    plain_statements (leaving e) p = plain_expr e p
    plain_statements (bind e ss) p = let n = neither (unrun_in ds e) (unrun_in_statements ds ss) p in (plain_expr e n.0, plain_statements ss n.1)
    plain_statements (run e ss) p = let n = neither (unrun_in ds e) (unrun_in_statements ds ss) p in (plain_expr e n.0, plain_statements ss n.1)

    plain_exprs : (es : TypedExprs) → unrun_among ds es ≡ None → ArePlain ds es
    plain_exprs none p = tt
    plain_exprs (more e es) p = let n = neither (unrun_in ds e) (unrun_among ds es) p in (plain_expr e n.0, plain_exprs es n.1)

    plain_arms : (as' : TypedArms) → unrun_in_arms ds as' ≡ None → ArmsArePlain ds as'
    plain_arms no_arms p = tt
    plain_arms (with_arm q xs e as') p = let n = neither (unrun_in ds e) (unrun_in_arms ds as') p in (plain_expr e n.0, plain_arms as' n.1)

  mutual
    expr_runs : (e : TypedExpr) → IsPlain ds e → unrun_in ds e ≡ None
    expr_runs (integer t s z k) h = runs_of t s h
    expr_runs (truth t s b) h = runs_of t s h
    expr_runs (variable t s x) h = runs_of t s h
    expr_runs (negative t s e) h = no_two (unrun_in ds e) (unless (runs ds t) s) (expr_runs e h.1) (runs_of t s h.0)
    expr_runs (denied t s e) h = no_two (unrun_in ds e) (unless (runs ds t) s) (expr_runs e h.1) (runs_of t s h.0)
    expr_runs (cast t s e) h = no_two (unrun_in ds e) (unless (runs ds t) s) (expr_runs e h.1) (runs_of t s h.0)
    expr_runs (binary t s op a b) h = no_three t s (unrun_in ds a) (unrun_in ds b) h.0 (expr_runs a h.1) (expr_runs b h.2)
    expr_runs (lazy t s op a b) h = no_three t s (unrun_in ds a) (unrun_in ds b) h.0 (expr_runs a h.1) (expr_runs b h.2)
    expr_runs (assign t s a b) h = whole_three a t s (unrun_in ds a) (unrun_in ds b) h.0 (expr_runs a h.1) (expr_runs b h.2) h.3
    expr_runs (update t s op a b) h = whole_three a t s (unrun_in ds a) (unrun_in ds b) h.0 (expr_runs a h.1) (expr_runs b h.2) h.3
    expr_runs (call t s f es) h = no_two (unrun_among ds es) (unless (runs ds t) s) (exprs_run es h.1) (runs_of t s h.0)
    expr_runs (make t s c es) h = no_two (unrun_among ds es) (unless (runs ds t) s) (exprs_run es h.1) (runs_of t s h.0)
    expr_runs (part t s e n) h = no_two (unrun_in ds e) (unless (runs ds t) s) (expr_runs e h.1) (runs_of t s h.0)
    expr_runs (block t s ss) h = no_two (unrun_in_statements ds ss) (unless (runs ds t) s) (statements_run ss h.1) (runs_of t s h.0)
    expr_runs (branch t s c a) h = no_three t s (unrun_in ds c) (unrun_in ds a) h.0 (expr_runs c h.1) (expr_runs a h.2)
    expr_runs (choice t s c a b) h =
        no_two (unrun_in ds c) (earlier (unrun_in ds a) (earlier (unrun_in ds b) (unless (runs ds t) s))) (expr_runs c h.1) (no_three t s (unrun_in ds a) (unrun_in ds b) h.0 (expr_runs a h.2) (expr_runs b h.3))
    expr_runs (matched t s e as') h = whole_three e t s (unrun_in ds e) (unrun_in_arms ds as') h.0 (expr_runs e h.1) (arms_run as' h.2) h.3
    expr_runs (repeat t s is c b) h = no_three t s (unrun_in ds c) (unrun_in ds b) h.0 (expr_runs c h.1) (expr_runs b h.2)
    expr_runs (panics t s k) h = runs_of t s h
    expr_runs (returned t s e) h = no_two (unrun_in ds e) (unless (runs ds t) s) (expr_runs e h.1) (runs_of t s h.0)
    expr_runs (endless t s is b) h = no_two (unrun_in ds b) (unless (runs ds t) s) (expr_runs b h.1) (runs_of t s h.0)
    expr_runs (until_break t s is b) h = no_two (unrun_in ds b) (unless (runs ds t) s) (expr_runs b h.1) (runs_of t s h.0)
    expr_runs (break_off t s) h = runs_of t s h
    expr_runs (go_on t s) h = runs_of t s h

    statements_run : (ss : TypedStmts) → StatementsArePlain ds ss → unrun_in_statements ds ss ≡ None
    statements_run done h = refl
    statements_run (last e) h = expr_runs e h
    statements_run (leaving e) h = expr_runs e h
    statements_run (bind e ss) h = no_two (unrun_in ds e) (unrun_in_statements ds ss) (expr_runs e h.0) (statements_run ss h.1)
    statements_run (run e ss) h = no_two (unrun_in ds e) (unrun_in_statements ds ss) (expr_runs e h.0) (statements_run ss h.1)

    exprs_run : (es : TypedExprs) → ArePlain ds es → unrun_among ds es ≡ None
    exprs_run none h = refl
    exprs_run (more e es) h = no_two (unrun_in ds e) (unrun_among ds es) (expr_runs e h.0) (exprs_run es h.1)

    arms_run : (as' : TypedArms) → ArmsArePlain ds as' → unrun_in_arms ds as' ≡ None
    arms_run no_arms h = refl
    arms_run (with_arm q xs e as') h = no_two (unrun_in ds e) (unrun_in_arms ds as') (expr_runs e h.0) (arms_run as' h.1)

  -- ---- functions

  abbrev types_run : TypedFunction → Bool
  types_run f = all_run ds f.signature.params && runs ds f.signature.answer

  plain_function : (f : TypedFunction) → unrun_function ds f ≡ None → FunctionIsPlain ds f
  plain_function f p =
      let n = neither (unless (types_run f) f.span) (unrun_in ds f.body) p in
      let types = both (all_run ds f.signature.params) (runs ds f.signature.answer) (none_of (types_run f) f.span n.0) in
      record { params = all_by_test f.signature.params types.0; answer = types.1; body = plain_expr f.body n.1 }

  function_runs : (f : TypedFunction) → FunctionIsPlain ds f → unrun_function ds f ≡ None
  function_runs f h =
      no_two (unless (types_run f) f.span) (unrun_in ds f.body)
      (ap (λ b. unless b f.span) (ap (λ b. b && runs ds f.signature.answer) (all_tested f.signature.params h.params) ∙ h.answer)) (expr_runs f.body h.body)

  pub each_is_plain : (fs : List TypedFunction) → unrun_of ds fs ≡ None → EachIsPlain ds fs
  each_is_plain [] p = tt
  each_is_plain (f ∷ fs) p = let n = neither (unrun_function ds f) (unrun_of ds fs) p in (plain_function f n.0, each_is_plain fs n.1)

  pub each_runs : (fs : List TypedFunction) → EachIsPlain ds fs → unrun_of ds fs ≡ None
  each_runs [] h = refl
  each_runs (f ∷ fs) h = no_two (unrun_function ds f) (unrun_of ds fs) (function_runs f h.0) (each_runs fs h.1)
