-- How many variables have to be in scope around an expression.
use Rattle.std.proofs.Common.{◌≡◌, refl, ap, get_or, ℕ, suc, ◌+◌, ◌<◌, ◌≤◌, Bool, true, false, List, [], ◌∷◌, ◌++◌, drop, length, length-append, arith}
use Rattle.std.proofs.lemmas.List.{drop_all}
use Rattle.std.proofs.lemmas.Option.{slice_get_within}
use Rattle.logic_term.specs.Ty.{Ty}
use Rattle.pat_types.specs.declared.names.BoundName.{BoundName}
use Rattle.type_check.specs.declared.typed.TypedStmt.{TypedStmt}
use Rattle.type_check.specs.TypedExpr.{TypedExpr, TypedStmts, TypedExprs, integer, truth, variable, negative, denied, cast, binary, lazy, assign, update, call, make, part, block, branch, choice, matched, repeat, panics, returned, endless}
use Rattle.type_check.specs.TypedExpr.{until_break, break_off, go_on, done, last, leaving, bind, run, none, more, TypedArms, no_arms, with_arm}
use Rattle.type_check.specs.TypedExprView.{ty_of, stmt_of, stmts_of}
use Rattle.type_check.specs.WellTyped.{Surroundings, within_loop, IsWellTyped, StatementsFit, ArgumentsFit, PartsFit, ArmsFit, tys_bound}
use Rattle.mir_build.specs.Lowering.{Around, whole}
use Rattle.mir_build.specs.Reach.{reach, reach_of, reach_in, reach_in_arms}
use Rattle.mir_build.proofs.Bindings.{stmts_at}
use Rattle.mir_build.proofs.Statements.{around_behind}

-- ---- what fits reaches no further than its scope

as_many : (xs : List BoundName) → length (tys_bound xs) ≡ length xs
as_many [] = refl
as_many (x ∷ xs) = ap (λ n. suc n) (as_many xs)

mutual
  pub within_scope : (σ : Surroundings) (Γ : List Ty) (e : TypedExpr) → IsWellTyped σ Γ e → reach e ≤ length Γ
  within_scope σ Γ (integer ty s z k) w = omega arith
  within_scope σ Γ (truth ty s b) w = omega arith
  within_scope σ Γ (variable ty s v) w = omega (arith, slice_get_within Γ v ty w)
  within_scope σ Γ (negative ty s e) w = within_scope σ Γ e w.4
  within_scope σ Γ (denied ty s e) w = within_scope σ Γ e w.2
  within_scope σ Γ (cast ty s e) w = within_scope σ Γ e w.5
  within_scope σ Γ (binary ty s op a b) w = omega (arith, within_scope σ Γ a w.2, within_scope σ Γ b w.3)
  within_scope σ Γ (lazy ty s op a b) w = omega (arith, within_scope σ Γ a w.3, within_scope σ Γ b w.4)
  within_scope σ Γ (assign ty s a e) w = omega (arith, within_scope σ Γ a w.2, within_scope σ Γ e w.3)
  within_scope σ Γ (update ty s op a e) w = omega (arith, within_scope σ Γ a w.3, within_scope σ Γ e w.4)
  within_scope σ Γ (call ty s f es) w = arguments_within σ Γ es w.0.params w.3
  within_scope σ Γ (make ty s k es) w = parts_within σ Γ es w.1
  within_scope σ Γ (part ty s e n) w = within_scope σ Γ e w.1
  within_scope σ Γ (block ty s ss) w = statements_within σ Γ ty ss w
  within_scope σ Γ (branch ty s e a) w = omega (arith, within_scope σ Γ e w.3, within_scope σ Γ a w.4)
  within_scope σ Γ (choice ty s e a b) w = omega (arith, within_scope σ Γ e w.3, within_scope σ Γ a w.4, within_scope σ Γ b w.5)
  within_scope σ Γ (matched ty s e as') w = omega (arith, within_scope σ Γ e w.0, arms_within σ Γ (ty_of e) ty as' w.1)
  within_scope σ Γ (repeat ty s is e b) w = omega (arith, within_scope (within_loop false σ) Γ e w.4, within_scope (within_loop true σ) Γ b w.5)
  within_scope σ Γ (panics ty s k) w = omega arith
  within_scope σ Γ (returned ty s e) w = within_scope σ Γ e w.2
  within_scope σ Γ (endless ty s is b) w = within_scope (within_loop true σ) Γ b w.4
  within_scope σ Γ (until_break ty s is b) w = within_scope (within_loop true σ) Γ b w.4
  within_scope σ Γ (break_off ty s) w = omega arith
  within_scope σ Γ (go_on ty s) w = omega arith

  statements_within : (σ : Surroundings) (Γ : List Ty) (ty : Ty) (ss : TypedStmts) → StatementsFit σ Γ ty ss → reach_of ss ≤ length Γ
  statements_within σ Γ ty done w = omega arith
  statements_within σ Γ ty (last e) w = within_scope σ Γ e w.1
  statements_within σ Γ ty (leaving e) w = within_scope σ Γ e w.2
  statements_within σ Γ ty (bind e ss) w = omega (arith, within_scope σ Γ e w.0, statements_within σ (Γ ++ ty_of e ∷ []) ty ss w.1, length-append Γ (ty_of e ∷ []))
  statements_within σ Γ ty (run e ss) w = omega (arith, within_scope σ Γ e w.0, statements_within σ Γ ty ss w.1)

  arguments_within : (σ : Surroundings) (Γ : List Ty) (es : TypedExprs) (ts : List Ty) → ArgumentsFit σ Γ es ts → reach_in es ≤ length Γ
  arguments_within σ Γ none ts w = omega arith
  arguments_within σ Γ (more e es) [] w = absurd w
  arguments_within σ Γ (more e es) (t ∷ ts) w = omega (arith, within_scope σ Γ e w.1, arguments_within σ Γ es ts w.2)

  parts_within : (σ : Surroundings) (Γ : List Ty) (es : TypedExprs) → PartsFit σ Γ es → reach_in es ≤ length Γ
  parts_within σ Γ none w = omega arith
  parts_within σ Γ (more e es) w = omega (arith, within_scope σ Γ e w.0, parts_within σ Γ es w.1)

  arms_within : (σ : Surroundings) (Γ : List Ty) (u t : Ty) (as' : TypedArms) → ArmsFit σ Γ u t as' → reach_in_arms as' ≤ length Γ
  arms_within σ Γ u t no_arms w = omega arith
  arms_within σ Γ u t (with_arm p xs e as') w = omega (arith, within_scope σ (Γ ++ tys_bound xs) e w.2, length-append Γ (tys_bound xs), as_many xs, arms_within σ Γ u t as' w.3)

-- ---- parts of lists

reach_on : (b : Bool) (e : TypedExpr) (ss : TypedStmts) → reach e ≤ reach_of (stmt_of b e ss)
reach_on true e ss = omega arith
reach_on false e ss = omega arith

pub statement_reaches : (ss : List TypedStmt) (i : ℕ) (s : TypedStmt) (end : TypedStmts) → s ≡ get_or ss i s → i < length ss → reach s.value ≤ reach_of (stmts_of (drop i ss) end)
statement_reaches ss i s end q h = rw (stmts_at ss i s s.binds end q h refl) (reach_on s.binds s.value (stmts_of (drop (i + 1) ss) end))

pub end_reaches : (ss : List TypedStmt) (i : ℕ) (end : TypedStmts) → length ss ≤ i → reach_of (stmts_of (drop i ss) end) ≡ reach_of end
end_reaches ss i end h = ap (λ xs. reach_of (stmts_of xs end)) (drop_all i ss h)

behind_statement : (b : Bool) (c : Around) (t : ℕ) (e : TypedExpr) (ss : TypedStmts) → reach_of (stmt_of b e ss) ≤ length c.scope → reach_of ss ≤ length (around_behind b c t).scope
behind_statement true c t e ss h = omega (arith, h, length-append c.scope (whole t ∷ []))
behind_statement false c t e ss h = omega (arith, h)

-- behind the i-th statement
pub next_reaches : (ss : List TypedStmt) (i : ℕ) (st : TypedStmt) (end : TypedStmts) → st ≡ get_or ss i st → i < length ss → (b : Bool) → st.binds ≡ b → (c around : Around) (t : ℕ) → around ≡ around_behind b c t
    → reach_of (stmts_of (drop i ss) end) ≤ length c.scope → reach_of (stmts_of (drop (i + 1) ss) end) ≤ length around.scope
next_reaches ss i st end q h b e c around t a n =
    let k : reach_of (stmt_of b st.value (stmts_of (drop (i + 1) ss) end)) ≤ length c.scope = omega (arith, ap reach_of (stmts_at ss i st b end q h e), n) in
    omega (arith, behind_statement b c t st.value (stmts_of (drop (i + 1) ss) end) k, ap (λ (x : Around). length x.scope) a)
