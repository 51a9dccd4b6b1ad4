-- What does not run in typed blocks and calls, part by part.
use Rattle.std.proofs.Common.{◌≡◌, ◌∙◌, ℕ, suc, ◌+◌, ◌<◌, Bool, true, false, List, [], ◌∷◌, length, get_or, drop, drop-cons, add-one, refl, ap, sym, Option, Some, None}
use Rattle.text_core.specs.declared.span.Span.{Span}
use Rattle.logic_term.specs.declared.declaration.AdtDecl.{AdtDecl}
use Rattle.type_check.specs.declared.typed.TypedArm.{TypedArm}
use Rattle.type_check.specs.declared.typed.TypedStmt.{TypedStmt}
use Rattle.type_check.specs.TypedExpr.{TypedExpr, TypedStmts, done, last, leaving}
use Rattle.type_check.specs.TypedExprFalls.{each_smaller}
use Rattle.type_check.specs.TypedExprView.{arms_of, exprs_of, stmt_of, stmts_of}
use Rattle.runnable.specs.Unrun.{earlier, unrun_among, unrun_in, unrun_in_arms, unrun_in_statements}
use Rattle.type_check.proofs.ArmParts.{arm_smaller}
use Rattle.type_check.proofs.TypedParts.{begin_smaller, last_smaller, leaving_smaller, stmt_smaller}

pub joined : (a b c : Option Span) → earlier a (earlier b c) ≡ earlier (earlier a b) c
joined (Some s) b c = refl
joined None b c = refl

stmt_unrun : (ds : List AdtDecl) → (b : Bool) (e : TypedExpr) (ss : TypedStmts) → unrun_in_statements ds (stmt_of b e ss) ≡ earlier (unrun_in ds e) (unrun_in_statements ds ss)
stmt_unrun ds true e ss = refl
stmt_unrun ds false e ss = refl

-- the statements, and then the last expression
pub unrun_at_last : (ds : List AdtDecl) → (ss : List TypedStmt) (e : TypedExpr) → unrun_in_statements ds (stmts_of ss (last e)) ≡ earlier (unrun_in_statements ds (stmts_of ss done)) (unrun_in ds e)
unrun_at_last ds [] e = refl
unrun_at_last ds (s ∷ ss) e =
    stmt_unrun ds s.binds s.value (stmts_of ss (last e))
    ∙ ap (earlier (unrun_in ds s.value)) (unrun_at_last ds ss e)
    ∙ joined (unrun_in ds s.value) (unrun_in_statements ds (stmts_of ss done)) (unrun_in ds e)
    ∙ ap (λ m. earlier m (unrun_in ds e)) (sym (stmt_unrun ds s.binds s.value (stmts_of ss done)))

-- the statements, and then the last one, which leaves
pub unrun_at_leaving : (ds : List AdtDecl) → (ss : List TypedStmt) (e : TypedExpr) → unrun_in_statements ds (stmts_of ss (leaving e)) ≡ earlier (unrun_in_statements ds (stmts_of ss done)) (unrun_in ds e)
unrun_at_leaving ds [] e = refl
unrun_at_leaving ds (s ∷ ss) e =
    stmt_unrun ds s.binds s.value (stmts_of ss (leaving e))
    ∙ ap (earlier (unrun_in ds s.value)) (unrun_at_leaving ds ss e)
    ∙ joined (unrun_in ds s.value) (unrun_in_statements ds (stmts_of ss done)) (unrun_in ds e)
    ∙ ap (λ m. earlier m (unrun_in ds e)) (sym (stmt_unrun ds s.binds s.value (stmts_of ss done)))

pub unrun_exprs_at : (ds : List AdtDecl) → (es : List TypedExpr) (i : ℕ) (e : TypedExpr) → e ≡ get_or es i e → i < length es → unrun_among ds (exprs_of (drop i es)) ≡ earlier (unrun_in ds e) (unrun_among ds (exprs_of (drop (i + 1) es)))
unrun_exprs_at ds es i e q h = rw (add-one, drop-cons es i e h) (ap (λ x. earlier (unrun_in ds x) (unrun_among ds (exprs_of (drop (suc i) es)))) (sym q))

pub unrun_stmts_at : (ds : List AdtDecl) → (ss : List TypedStmt) (i : ℕ) (s : TypedStmt) → s ≡ get_or ss i s → i < length ss → unrun_in_statements ds (stmts_of (drop i ss) done) ≡ earlier (unrun_in ds s.value) (unrun_in_statements ds (stmts_of (drop (i + 1) ss) done))
unrun_stmts_at ds ss i s q h =
    rw (add-one, drop-cons ss i s h)
    (stmt_unrun ds (get_or ss i s).binds (get_or ss i s).value (stmts_of (drop (suc i) ss) done)
    ∙ ap (λ (x : TypedStmt). earlier (unrun_in ds x.value) (unrun_in_statements ds (stmts_of (drop (suc i) ss) done))) (sym q))

pub unrun_arms_at : (ds : List AdtDecl) → (xs : List TypedArm) (i : ℕ) (x : TypedArm) → x ≡ get_or xs i x → i < length xs → unrun_in_arms ds (arms_of (drop i xs)) ≡ earlier (unrun_in ds x.body) (unrun_in_arms ds (arms_of (drop (i + 1) xs)))
unrun_arms_at ds xs i x q h = rw (add-one, drop-cons xs i x h) (ap (λ (y : TypedArm). earlier (unrun_in ds y.body) (unrun_in_arms ds (arms_of (drop (suc i) xs)))) (sym q))

pub ruleset unrun_parts = (arm_smaller, unrun_arms_at, joined, each_smaller, begin_smaller, last_smaller, leaving_smaller, stmt_smaller, unrun_at_last, unrun_at_leaving, unrun_exprs_at, unrun_stmts_at)
