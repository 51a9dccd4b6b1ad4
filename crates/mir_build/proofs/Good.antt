-- Where nothing of a list is refused, no part of it is.
use Rattle.std.proofs.Common.{◌≡◌, ap, ◌∙◌, get_or, ℕ, zero, suc, ◌<◌, Bool, true, false, List, [], ◌∷◌, length, None, arith}
use Rattle.type_check.specs.FirstBad.{bad_in, bad_in_stmts, bad_in_exprs}
use Rattle.type_check.specs.declared.typed.TypedStmt.{TypedStmt}
use Rattle.type_check.specs.TypedExpr.{TypedExpr, TypedStmts}
use Rattle.type_check.specs.TypedExprView.{stmt_of, stmts_of, exprs_of}
use Rattle.mir_build.proofs.Accepted.{first_none, second_none}

-- ---- arguments

each_at : (es : List TypedExpr) (i : ℕ) (d : TypedExpr) → i < length es → bad_in_exprs (exprs_of es) ≡ None → bad_in (get_or es i d) ≡ None
each_at [] i d h g = absurd (omega arith)
each_at (e ∷ es) zero d h g = first_none (bad_in e) (bad_in_exprs (exprs_of es)) g
each_at (e ∷ es) (suc i) d h g = each_at es i d (omega arith) (second_none (bad_in e) (bad_in_exprs (exprs_of es)) g)

pub each_good : (es : List TypedExpr) (i : ℕ) (e : TypedExpr) → e ≡ get_or es i e → i < length es → bad_in_exprs (exprs_of es) ≡ None → bad_in e ≡ None
each_good es i e q h g = ap bad_in q ∙ each_at es i e h g

-- ---- statements

value_good : (b : Bool) (e : TypedExpr) (ss : TypedStmts) → bad_in_stmts (stmt_of b e ss) ≡ None → bad_in e ≡ None
value_good true e ss g = first_none (bad_in e) (bad_in_stmts ss) g
value_good false e ss g = first_none (bad_in e) (bad_in_stmts ss) g

others_good : (b : Bool) (e : TypedExpr) (ss : TypedStmts) → bad_in_stmts (stmt_of b e ss) ≡ None → bad_in_stmts ss ≡ None
others_good true e ss g = second_none (bad_in e) (bad_in_stmts ss) g
others_good false e ss g = second_none (bad_in e) (bad_in_stmts ss) g

value_at : (ss : List TypedStmt) (i : ℕ) (d : TypedStmt) (end : TypedStmts) → i < length ss → bad_in_stmts (stmts_of ss end) ≡ None → bad_in (get_or ss i d).value ≡ None
value_at [] i d end h g = absurd (omega arith)
value_at (s ∷ ss) zero d end h g = value_good s.binds s.value (stmts_of ss end) g
value_at (s ∷ ss) (suc i) d end h g = value_at ss i d end (omega arith) (others_good s.binds s.value (stmts_of ss end) g)

pub statement_good : (ss : List TypedStmt) (i : ℕ) (s : TypedStmt) (end : TypedStmts) → s ≡ get_or ss i s → i < length ss → bad_in_stmts (stmts_of ss end) ≡ None → bad_in s.value ≡ None
statement_good ss i s end q h g = ap (λ (x : TypedStmt). bad_in x.value) q ∙ value_at ss i s end h g

pub end_good : (ss : List TypedStmt) (end : TypedStmts) → bad_in_stmts (stmts_of ss end) ≡ None → bad_in_stmts end ≡ None
end_good [] end g = g
end_good (s ∷ ss) end g = end_good ss end (others_good s.binds s.value (stmts_of ss end) g)
