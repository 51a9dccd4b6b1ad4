-- Whether a `break` stands in typed blocks and calls, part by part.
use Rattle.std.proofs.Common.{◌≡◌, ◌∙◌, ℕ, suc, ◌+◌, ◌<◌, Bool, true, false, List, [], ◌∷◌, length, get_or, drop, drop-cons, add-one, refl, ap, sym}
use Rattle.std.specs.Prelude.{◌||◌}
use Rattle.type_check.specs.declared.typed.TypedArm.{TypedArm}
use Rattle.type_check.specs.declared.typed.TypedStmt.{TypedStmt}
use Rattle.type_check.specs.Breaks.{breaks, some_statement_breaks, some_breaks, some_arm_breaks}
use Rattle.type_check.specs.TypedExpr.{TypedExpr, TypedStmts, done, last, leaving}
use Rattle.type_check.specs.TypedExprFalls.{each_smaller}
use Rattle.type_check.specs.TypedExprView.{arms_of, exprs_of, stmt_of, stmts_of}
use Rattle.type_check.proofs.ArmParts.{arm_smaller}
use Rattle.type_check.proofs.TypedParts.{begin_smaller, last_smaller, leaving_smaller, stmt_smaller}

or-assoc : (a b c : Bool) → (a || (b || c)) ≡ ((a || b) || c)
or-assoc true b c = refl
or-assoc false b c = refl

pub or_true : (a b : Bool) → b ≡ true → (a || b) ≡ true
or_true true b h = refl
or_true false b h = h

pub or_false : (a b : Bool) → b ≡ false → (a || b) ≡ a
or_false true b h = refl
or_false false b h = h

pub ruleset right_parts = (or_true, or_false)

stmt_breaks : (b : Bool) (e : TypedExpr) (ss : TypedStmts) → some_statement_breaks (stmt_of b e ss) ≡ (breaks e || some_statement_breaks ss)
stmt_breaks true e ss = refl
stmt_breaks false e ss = refl

-- the statements, and then the last expression
pub breaks_at_last : (ss : List TypedStmt) (e : TypedExpr) → some_statement_breaks (stmts_of ss (last e)) ≡ (some_statement_breaks (stmts_of ss done) || breaks e)
breaks_at_last [] e = refl
breaks_at_last (s ∷ ss) e =
    stmt_breaks s.binds s.value (stmts_of ss (last e))
    ∙ ap (λ b. breaks s.value || b) (breaks_at_last ss e)
    ∙ or-assoc (breaks s.value) (some_statement_breaks (stmts_of ss done)) (breaks e)
    ∙ ap (λ b. b || breaks e) (sym (stmt_breaks s.binds s.value (stmts_of ss done)))

-- the statements, and then the last one, which leaves
pub breaks_at_leaving : (ss : List TypedStmt) (e : TypedExpr) → some_statement_breaks (stmts_of ss (leaving e)) ≡ (some_statement_breaks (stmts_of ss done) || breaks e)
breaks_at_leaving [] e = refl
breaks_at_leaving (s ∷ ss) e =
    stmt_breaks s.binds s.value (stmts_of ss (leaving e))
    ∙ ap (λ b. breaks s.value || b) (breaks_at_leaving ss e)
    ∙ or-assoc (breaks s.value) (some_statement_breaks (stmts_of ss done)) (breaks e)
    ∙ ap (λ b. b || breaks e) (sym (stmt_breaks s.binds s.value (stmts_of ss done)))

pub breaks_exprs_at : (es : List TypedExpr) (i : ℕ) (e : TypedExpr) → e ≡ get_or es i e → i < length es → some_breaks (exprs_of (drop i es)) ≡ (breaks e || some_breaks (exprs_of (drop (i + 1) es)))
breaks_exprs_at es i e q h = rw (add-one, drop-cons es i e h) (ap (λ x. breaks x || some_breaks (exprs_of (drop (suc i) es))) (sym q))

pub breaks_stmts_at : (ss : List TypedStmt) (i : ℕ) (s : TypedStmt) → s ≡ get_or ss i s → i < length ss → some_statement_breaks (stmts_of (drop i ss) done) ≡ (breaks s.value || some_statement_breaks (stmts_of (drop (i + 1) ss) done))
breaks_stmts_at ss i s q h =
    rw (add-one, drop-cons ss i s h)
    (stmt_breaks (get_or ss i s).binds (get_or ss i s).value (stmts_of (drop (suc i) ss) done)
    ∙ ap (λ (x : TypedStmt). breaks x.value || some_statement_breaks (stmts_of (drop (suc i) ss) done)) (sym q))

or_first : (a b : Bool) → a ≡ true → true ≡ (a || b)
or_first a b h = rw h refl

-- a `break` in one of the statements
pub break_at : (ss : List TypedStmt) (i : ℕ) (s : TypedStmt) → s ≡ get_or ss i s → i < length ss → breaks s.value ≡ true → some_statement_breaks (stmts_of (drop i ss) done) ≡ some_statement_breaks (stmts_of ss done)
    → true ≡ some_statement_breaks (stmts_of ss done)
break_at ss i s q h p r = or_first (breaks s.value) (some_statement_breaks (stmts_of (drop (i + 1) ss) done)) p ∙ sym (breaks_stmts_at ss i s q h) ∙ r

pub breaks_arms_at : (xs : List TypedArm) (i : ℕ) (x : TypedArm) → x ≡ get_or xs i x → i < length xs → some_arm_breaks (arms_of (drop i xs)) ≡ (breaks x.body || some_arm_breaks (arms_of (drop (i + 1) xs)))
breaks_arms_at xs i x q h = rw (add-one, drop-cons xs i x h) (ap (λ (y : TypedArm). breaks y.body || some_arm_breaks (arms_of (drop (suc i) xs))) (sym q))

pub ruleset break_parts = (arm_smaller, breaks_arms_at, each_smaller, begin_smaller, last_smaller, leaving_smaller, stmt_smaller, breaks_at_last, breaks_at_leaving, breaks_exprs_at, breaks_stmts_at)
