-- The parts of typed blocks and calls: their sizes, and the first refusals in them.
use Rattle.std.proofs.Common.{◌≡◌, ◌∙◌, ℕ, zero, suc, ◌+◌, ◌≤◌, ◌<◌, Bool, true, false, max, List, [], ◌∷◌, length, get_or, drop, drop-cons, add-one, arith, refl, ap, sym, Option, Some, None}
use Rattle.text_core.specs.declared.refusal.SourceError.{SourceError}
use Rattle.type_check.specs.declared.typed.TypedArm.{TypedArm}
use Rattle.type_check.specs.declared.typed.TypedStmt.{TypedStmt}
use Rattle.type_check.specs.FirstBad.{bad_in, bad_in_stmts, bad_in_exprs, bad_in_arms}
use Rattle.type_check.specs.Answers.{or_else}
use Rattle.type_check.specs.TypedExpr.{TypedExpr, TypedStmts, done, last, leaving, bind, run}
use Rattle.type_check.specs.TypedExprFalls.{each_smaller}
use Rattle.type_check.specs.TypedExprView.{typed_size, stmts_size, arms_of, exprs_of, stmt_of, stmts_of}
use Rattle.type_check.proofs.ArmParts.{arm_smaller}

some_size : (ss : TypedStmts) → 1 ≤ stmts_size ss
some_size done = omega arith
some_size (last e) = omega arith
some_size (leaving e) = omega arith
some_size (bind e ss) = omega arith
some_size (run e ss) = omega arith

stmt_size : (b : Bool) (e : TypedExpr) (ss : TypedStmts) → stmts_size (stmt_of b e ss) ≡ suc (max (typed_size e) (stmts_size ss))
stmt_size true e ss = refl
stmt_size false e ss = refl

pub begin_smaller : (ss : List TypedStmt) (end : TypedStmts) → stmts_size (stmts_of ss done) ≤ stmts_size (stmts_of ss end)
begin_smaller [] end = some_size end
begin_smaller (s ∷ ss) end = omega (arith, begin_smaller ss end, stmt_size s.binds s.value (stmts_of ss end), stmt_size s.binds s.value (stmts_of ss done))

pub last_smaller : (ss : List TypedStmt) (e : TypedExpr) → typed_size e < stmts_size (stmts_of ss (last e))
last_smaller [] e = omega arith
last_smaller (s ∷ ss) e = omega (arith, last_smaller ss e, stmt_size s.binds s.value (stmts_of ss (last e)))

pub leaving_smaller : (ss : List TypedStmt) (e : TypedExpr) → typed_size e < stmts_size (stmts_of ss (leaving e))
leaving_smaller [] e = omega arith
leaving_smaller (s ∷ ss) e = omega (arith, leaving_smaller ss e, stmt_size s.binds s.value (stmts_of ss (leaving e)))

smaller : (ss : List TypedStmt) (i : ℕ) (d : TypedStmt) → i < length ss → typed_size (get_or ss i d).value < stmts_size (stmts_of ss done)
smaller [] i d h = absurd (omega arith)
smaller (s ∷ ss) zero d h = omega (arith, stmt_size s.binds s.value (stmts_of ss done))
smaller (s ∷ ss) (suc i) d h = omega (arith, smaller ss i d (omega arith), stmt_size s.binds s.value (stmts_of ss done))

pub stmt_smaller : (ss : List TypedStmt) (i : ℕ) (s : TypedStmt) → s ≡ get_or ss i s → i < length ss → typed_size s.value < stmts_size (stmts_of ss done)
stmt_smaller ss i s q h = let f : TypedStmt → ℕ = λ s. typed_size s.value in omega (arith, ap f q, smaller ss i s h)

stmt_bad : (b : Bool) (e : TypedExpr) (ss : TypedStmts) → bad_in_stmts (stmt_of b e ss) ≡ or_else (bad_in e) (bad_in_stmts ss)
stmt_bad true e ss = refl
stmt_bad false e ss = refl

or_else-assoc : (a b c : Option SourceError) → or_else a (or_else b c) ≡ or_else (or_else a b) c
or_else-assoc (Some e) b c = refl
or_else-assoc None b c = refl

-- the statements, and then the last expression
pub bad_at_last : (ss : List TypedStmt) (e : TypedExpr) → bad_in_stmts (stmts_of ss (last e)) ≡ or_else (bad_in_stmts (stmts_of ss done)) (bad_in e)
bad_at_last [] e = refl
bad_at_last (s ∷ ss) e =
    stmt_bad s.binds s.value (stmts_of ss (last e))
    ∙ ap (or_else (bad_in s.value)) (bad_at_last ss e)
    ∙ or_else-assoc (bad_in s.value) (bad_in_stmts (stmts_of ss done)) (bad_in e)
    ∙ ap (λ m. or_else m (bad_in e)) (sym (stmt_bad s.binds s.value (stmts_of ss done)))

-- the statements, and then the last one, which leaves
pub bad_at_leaving : (ss : List TypedStmt) (e : TypedExpr) → bad_in_stmts (stmts_of ss (leaving e)) ≡ or_else (bad_in_stmts (stmts_of ss done)) (bad_in e)
bad_at_leaving [] e = refl
bad_at_leaving (s ∷ ss) e =
    stmt_bad s.binds s.value (stmts_of ss (leaving e))
    ∙ ap (or_else (bad_in s.value)) (bad_at_leaving ss e)
    ∙ or_else-assoc (bad_in s.value) (bad_in_stmts (stmts_of ss done)) (bad_in e)
    ∙ ap (λ m. or_else m (bad_in e)) (sym (stmt_bad s.binds s.value (stmts_of ss done)))

pub bad_exprs_at : (es : List TypedExpr) (i : ℕ) (e : TypedExpr) → e ≡ get_or es i e → i < length es → bad_in_exprs (exprs_of (drop i es)) ≡ or_else (bad_in e) (bad_in_exprs (exprs_of (drop (i + 1) es)))
bad_exprs_at es i e q h = rw (add-one, drop-cons es i e h) (ap (λ x. or_else (bad_in x) (bad_in_exprs (exprs_of (drop (suc i) es)))) (sym q))

pub bad_stmts_at : (ss : List TypedStmt) (i : ℕ) (s : TypedStmt) → s ≡ get_or ss i s → i < length ss → bad_in_stmts (stmts_of (drop i ss) done) ≡ or_else (bad_in s.value) (bad_in_stmts (stmts_of (drop (i + 1) ss) done))
bad_stmts_at ss i s q h =
    rw (add-one, drop-cons ss i s h)
    (stmt_bad (get_or ss i s).binds (get_or ss i s).value (stmts_of (drop (suc i) ss) done)
    ∙ ap (λ (x : TypedStmt). or_else (bad_in x.value) (bad_in_stmts (stmts_of (drop (suc i) ss) done))) (sym q))

pub bad_arms_at : (xs : List TypedArm) (i : ℕ) (x : TypedArm) → x ≡ get_or xs i x → i < length xs → bad_in_arms (arms_of (drop i xs)) ≡ or_else (bad_in x.body) (bad_in_arms (arms_of (drop (i + 1) xs)))
bad_arms_at xs i x q h = rw (add-one, drop-cons xs i x h) (ap (λ (y : TypedArm). or_else (bad_in y.body) (bad_in_arms (arms_of (drop (suc i) xs)))) (sym q))

pub ruleset typed_parts = (arm_smaller, bad_arms_at, each_smaller, begin_smaller, last_smaller, leaving_smaller, stmt_smaller, bad_at_last, bad_at_leaving, bad_exprs_at, bad_stmts_at)
