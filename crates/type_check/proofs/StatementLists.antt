-- The statements of a block, one after another.
use Rattle.std.proofs.Common.{◌≡◌, ◌∙◌, ℕ, suc, ◌+◌, ◌<◌, Bool, true, false, List, [], ◌∷◌, ◌++◌, length, get_or, take, drop, refl, ap, sym, arith, add-one, drop-cons, append_assoc, append-nil, Option, Some, None, Result, Ok, Err}
use Rattle.std.specs.Prelude.{◌-◌, if◌then◌else◌, slice_get}
use Rattle.std.proofs.Math.Seq.{take-append_seam}
use Rattle.text_core.specs.declared.refusal.SourceError.{SourceError}
use Rattle.text_core.specs.declared.fault.PassError.{PassError}
use Rattle.logic_term.specs.Ty.{Ty}
use Rattle.source_trees.specs.declared.expr.Stmt.{Stmt}
use Rattle.source_trees.specs.Expr.{Expr, Stmts, no_stmts, with_stmt}
use Rattle.source_trees.specs.ExprView.{stmts_of}
use Rattle.type_check.specs.declared.scope.Declared.{Declared}
use Rattle.type_check.specs.declared.scope.Variable.{Variable}
use Rattle.type_check.specs.declared.statements.Step.{Step}
use Rattle.type_check.specs.declared.typed.TypedStmt.{TypedStmt}
use Rattle.type_check.specs.Answers.{◌>>=◌, Refuses}
use Rattle.type_check.specs.Leaves.{leaves, value_leaves, ends_leaving}
use Rattle.type_check.specs.Setting.{Setting}
use Rattle.type_check.specs.TypedExpr.{TypedExpr, TypedStmts, done, leaving}
use Rattle.type_check.specs.TypedExprView.{ty_of, stmt_of as typed_stmt_of, stmts_of as typed_stmts_of}
use Rattle.type_check.specs.Typing.{Typed, Opened, opened, behind, block_ty, declared, end_of, without_last, typed, typed_stmt, typed_stmts, typed_statement}
use Rattle.type_check.specs.Written.{step_of}
use Rattle.type_check.proofs.Bound.{bound, same_ok}
use Rattle.type_check.proofs.PartByPart.{along, refuses_then}

pub stmt_ty : (t : Option Ty) (b : Bool) (e : TypedExpr) (ss : TypedStmts) → block_ty t (typed_stmt_of b e ss) ≡ block_ty t ss
stmt_ty t true e ss = refl
stmt_ty t false e ss = refl

-- a block has the type of what stands after its statements
pub block_ty_after : (t : Option Ty) (ss : List TypedStmt) (end : TypedStmts) → block_ty t (typed_stmts_of ss end) ≡ block_ty t end
block_ty_after t [] end = refl
block_ty_after t (s ∷ ss) end = stmt_ty t s.binds s.value (typed_stmts_of ss end) ∙ block_ty_after t ss end

-- ---- the last statement

-- the last of some statements is the last of those behind the first
last_behind : (s r : TypedStmt) (ss : List TypedStmt) → slice_get (s ∷ r ∷ ss) (length (s ∷ r ∷ ss) - 1) ≡ slice_get (r ∷ ss) (length (r ∷ ss) - 1)
last_behind s r ss =
    let here : length (s ∷ r ∷ ss) - 1 ≡ suc (length ss) = omega arith in
    let there : length (r ∷ ss) - 1 ≡ length ss = omega arith in
    rw (here, there) refl

-- the statements of a block whose last one does not leave are no others
pub last_stays : (ss : List TypedStmt) → ends_leaving ss ≡ false → without_last ss ≡ typed_stmts_of ss done
last_stays [] h = refl
last_stays (s ∷ []) h = ap (λ b. if b then leaving s.value else typed_stmt_of s.binds s.value done) h
last_stays (s ∷ r ∷ ss) h = ap (typed_stmt_of s.binds s.value) (last_stays (r ∷ ss) (ap value_leaves (sym (last_behind s r ss)) ∙ h))

-- the last of them ends the block
last_ends : (ss : List TypedStmt) (s : TypedStmt) → without_last (ss ++ s ∷ []) ≡ typed_stmts_of ss (end_of s)
last_ends [] s = refl
last_ends (r ∷ []) s = refl
last_ends (r ∷ q ∷ ss) s = ap (typed_stmt_of r.binds r.value) (last_ends (q ∷ ss) s)

last_is : (ss : List TypedStmt) (s : TypedStmt) → slice_get (ss ++ s ∷ []) (length (ss ++ s ∷ []) - 1) ≡ Some s
last_is [] s = refl
last_is (r ∷ []) s = refl
last_is (r ∷ q ∷ ss) s = last_behind r q (ss ++ s ∷ []) ∙ last_is (q ∷ ss) s

-- where the last one leaves, it is apart
pub last_apart : (all ss : List TypedStmt) (s : TypedStmt) → all ≡ ss ++ s ∷ [] → ends_leaving all ≡ true → without_last all ≡ typed_stmts_of ss (leaving s.value)
last_apart all ss s q h =
    let leaves_there : leaves s.value ≡ true = ap value_leaves (sym (last_is ss s)) ∙ ap ends_leaving (sym q) ∙ h in
    ap without_last q ∙ last_ends ss s ∙ ap (λ b. typed_stmts_of ss (if b then leaving s.value else typed_stmt_of s.binds s.value done)) leaves_there

pub ruleset last_of = (last_stays, last_apart)

-- these statements, and then the others
abbrev pub onto : List TypedStmt → Opened → Result Opened SourceError
onto vs o = Ok (opened o.scope (vs ++ o.stmts))

-- what is left, after these statements
abbrev pub continued : Setting → List Variable → List Stmt → List TypedStmt → Result Opened SourceError
continued σ Γ ss vs = typed_stmts σ Γ (stmts_of ss) >>= onto vs

nothing_yet : (m : Result Opened SourceError) → m ≡ (m >>= onto [])
nothing_yet (Ok o) = refl
nothing_yet (Err e) = refl

pub statements_start : (σ : Setting) (Γ Γ' : List Variable) (ss : List Stmt) (vs : List TypedStmt) → Γ' ≡ Γ → vs ≡ [] → typed_stmts σ Γ (stmts_of ss) ≡ continued σ Γ' (drop 0 ss) vs
statements_start σ Γ Γ' ss vs p q = rw (p, q) (nothing_yet (typed_stmts σ Γ (stmts_of ss)))

-- ---- one statement, and then the others

abbrev one : TypedStmt → Opened → Result Opened SourceError
one s o = Ok (behind s o)

abbrev then_rest : Setting → Stmts → List Variable × TypedStmt → Result Opened SourceError
then_rest σ ss q = typed_stmts σ q.0 ss >>= one q.1

by_value : (σ : Setting) (Γ : List Variable) (p : Step) (ss : Stmts) (n : Typed)
    → (n >>= λ a. typed_stmts σ (declared Γ p.declares a) ss >>= λ o. Ok (behind (typed_stmt p a) o)) ≡ ((n >>= λ a. Ok (declared Γ p.declares a, typed_stmt p a)) >>= then_rest σ ss)
by_value σ Γ p ss (Ok a) = refl
by_value σ Γ p ss (Err e) = refl

by_step : (σ : Setting) (Γ : List Variable) (e : Expr) (ss : Stmts) (m : Result Step SourceError)
    → (m >>= λ p. typed σ Γ e p.expected >>= λ a. typed_stmts σ (declared Γ p.declares a) ss >>= λ o. Ok (behind (typed_stmt p a) o)) ≡ ((m >>= λ p. typed σ Γ e p.expected >>= λ a. Ok (declared Γ p.declares a, typed_stmt p a)) >>= then_rest σ ss)
by_step σ Γ e ss (Ok p) = by_value σ Γ p ss (typed σ Γ e p.expected)
by_step σ Γ e ss (Err f) = refl

step : (σ : Setting) (Γ : List Variable) (s : Stmt) (ss : Stmts) → typed_stmts σ Γ (with_stmt s.span s.kind s.value ss) ≡ (typed_statement σ Γ s >>= then_rest σ ss)
step σ Γ s ss = by_step σ Γ s.value ss (step_of σ.types s.kind)

stmts_at : (ss : List Stmt) (i : ℕ) (s : Stmt) → s ≡ get_or ss i s → i < length ss → stmts_of (drop i ss) ≡ with_stmt s.span s.kind s.value (stmts_of (drop (suc i) ss))
stmts_at ss i s q h = rw (drop-cons ss i s h) (ap (λ (x : Stmt). with_stmt x.span x.kind x.value (stmts_of (drop (suc i) ss))) (sym q))

next : (σ : Setting) (Γ : List Variable) (ss : List Stmt) (i : ℕ) (s : Stmt) → s ≡ get_or ss i s → i < length ss → typed_stmts σ Γ (stmts_of (drop i ss)) ≡ (typed_statement σ Γ s >>= then_rest σ (stmts_of (drop (suc i) ss)))
next σ Γ ss i s q h = ap (typed_stmts σ Γ) (stmts_at ss i s q h) ∙ step σ Γ s (stmts_of (drop (suc i) ss))

one_more : (vs : List TypedStmt) (s : TypedStmt) (m : Result Opened SourceError) → ((m >>= one s) >>= onto vs) ≡ (m >>= onto (vs ++ s ∷ []))
one_more vs s (Ok o) = ap (λ xs. Ok (opened o.scope xs)) (sym (append_assoc vs (s ∷ []) o.stmts))
one_more vs s (Err e) = refl

pub statements_more : (σ : Setting) (Γ Γ' : List Variable) (ss : List Stmt) (i : ℕ) (s : Stmt) (vs : List TypedStmt) (v : TypedStmt) → s ≡ get_or ss i s → i < length ss → typed_statement σ Γ s ≡ Ok (Γ', v) → continued σ Γ (drop i ss) vs ≡ continued σ Γ' (drop (i + 1) ss) (vs ++ v ∷ [])
statements_more σ Γ Γ' ss i s vs v q h p =
    rw add-one
    (ap (λ m. m >>= onto vs) (next σ Γ ss i s q h)
    ∙ ap (λ (m : Result (List Variable × TypedStmt) SourceError). (m >>= then_rest σ (stmts_of (drop (suc i) ss))) >>= onto vs) p
    ∙ one_more vs v (typed_stmts σ Γ' (stmts_of (drop (suc i) ss))))

pub statements_stop : (f : PassError) (σ : Setting) (Γ Γ₀ : List Variable) (ss : List Stmt) (i : ℕ) (s : Stmt) (vs : List TypedStmt) → s ≡ get_or ss i s → i < length ss → typed_stmts σ Γ₀ (stmts_of ss) ≡ continued σ Γ (drop i ss) vs
    → Refuses f (typed_statement σ Γ s) → Refuses f (typed_stmts σ Γ₀ (stmts_of ss))
statements_stop f σ Γ Γ₀ ss i s vs q h r p =
    along f _ _ r
    (refuses_then f _ (onto vs)
    (along f _ _ (next σ Γ ss i s q h)
    (refuses_then f (typed_statement σ Γ s) (then_rest σ (stmts_of (drop (suc i) ss))) p)))

drop_all : (ss : List Stmt) (n : ℕ) → n ≡ length ss → drop n ss ≡ []
drop_all [] n q = rw q refl
drop_all (s ∷ ss) n q = rw q (drop_all ss (length ss) refl)

pub statements_end : (σ : Setting) (Γ : List Variable) (ss : List Stmt) (n : ℕ) (vs : List TypedStmt) → n ≡ length ss → continued σ Γ (drop n ss) vs ≡ Ok (opened Γ vs)
statements_end σ Γ ss n vs q = rw (drop_all ss n q) (ap (λ xs. Ok (opened Γ xs)) (append-nil vs))

-- ---- what was in scope before stays there

abbrev Grown : List Variable → List Variable → Type 0
Grown Γ Δ = (more : List Variable) × (Δ ≡ Γ ++ more)

grown_by : (Γ Δ : List Variable) (d : Option Declared) (a : TypedExpr) → Grown (declared Γ d a) Δ → Grown Γ Δ
grown_by Γ Δ None a g = g
grown_by Γ Δ (Some d) a g =
    let v : Variable = record { name = d.name; ty = ty_of a; mutable = d.mutable } in
    (v ∷ g.0, g.1 ∙ append_assoc Γ (v ∷ []) g.0)

grown_as : (Γ : List Variable) (o : Opened) (s : TypedStmt) (r : Opened) → Grown Γ o.scope → behind s o ≡ r → Grown Γ r.scope
grown_as Γ o s r g q = (g.0, ap (λ (o : Opened). o.scope) (sym q) ∙ g.1)

grown : (σ : Setting) (Γ : List Variable) (ss : Stmts) (o : Opened) → typed_stmts σ Γ ss ≡ Ok o → Grown Γ o.scope
grown σ Γ no_stmts o p = ([], ap (λ (o : Opened). o.scope) (sym (same_ok _ _ p)) ∙ sym (append-nil Γ))
grown σ Γ (with_stmt s k e ss) o p =
    let w = bound (step_of σ.types k) _ o p in
    let a = bound (typed σ Γ e w.0.expected) _ o w.2 in
    let r = bound (typed_stmts σ (declared Γ w.0.declares a.0) ss) _ o a.2 in
    grown_as Γ r.0 (typed_stmt w.0 a.0) o (grown_by Γ r.0.scope w.0.declares a.0 (grown σ (declared Γ w.0.declares a.0) ss r.0 r.1)) (same_ok _ _ r.2)

pub scope_stays : (σ : Setting) (Γ : List Variable) (ss : List Stmt) (Δ : List Variable) (vs : List TypedStmt) → typed_stmts σ Γ (stmts_of ss) ≡ Ok (opened Δ vs) → take (length Γ) Δ ≡ Γ
scope_stays σ Γ ss Δ vs p =
    let g = grown σ Γ (stmts_of ss) (opened Δ vs) p in
    ap (take (length Γ)) g.1 ∙ take-append_seam Γ g.0
