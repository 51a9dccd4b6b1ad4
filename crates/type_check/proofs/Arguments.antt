-- Arguments, one after another.
use Rattle.std.proofs.Common.{◌≡◌, ◌∙◌, ℕ, zero, suc, ◌+◌, ◌<◌, List, [], ◌∷◌, ◌++◌, length, get_or, drop, refl, ap, ap₂, sym, add-one, drop-cons, Result, Ok, Err, slice_get}
use Rattle.text_core.specs.declared.refusal.SourceError.{SourceError}
use Rattle.logic_term.specs.Ty.{Ty}
use Rattle.text_core.specs.declared.fault.PassError.{PassError}
use Rattle.source_trees.specs.Expr.{Expr, Exprs, more}
use Rattle.source_trees.specs.ExprView.{exprs_of as written_exprs}
use Rattle.type_check.specs.declared.scope.Variable.{Variable}
use Rattle.type_check.specs.Answers.{◌>>=◌, Refuses}
use Rattle.type_check.specs.Setting.{Setting}
use Rattle.type_check.specs.TypedExpr.{TypedExpr, TypedExprs}
use Rattle.type_check.specs.TypedExpr as tree
use Rattle.type_check.specs.TypedExprView.{exprs_of}
use Rattle.type_check.specs.Typing.{how_many, first_of, rest_of, typed, typed_args}
use Rattle.type_check.proofs.PartByPart.{along, refuses_then}

pub how_many_are : (es : List TypedExpr) → how_many (exprs_of es) ≡ length es
how_many_are [] = refl
how_many_are (e ∷ es) = ap suc (how_many_are es)

-- these arguments, and then the others
abbrev pub onto : List TypedExpr → TypedExprs → TypedExprs
onto [] end = end
onto (v ∷ vs) end = tree.more v (onto vs end)

abbrev pub and_args : List TypedExpr → TypedExprs → Result TypedExprs SourceError
and_args vs end = Ok (onto vs end)

-- what is left, after these arguments
abbrev pub continued : Setting → List Variable → List Expr → List Ty → ℕ → List TypedExpr → Result TypedExprs SourceError
continued σ Γ es ts i vs = typed_args σ Γ (written_exprs (drop i es)) (drop i ts) >>= and_args vs

onto_more : (vs : List TypedExpr) (v : TypedExpr) (end : TypedExprs) → onto vs (tree.more v end) ≡ onto (vs ++ v ∷ []) end
onto_more [] v end = refl
onto_more (w ∷ vs) v end = ap (tree.more w) (onto_more vs v end)

pub onto_end : (vs : List TypedExpr) → onto vs tree.none ≡ exprs_of vs
onto_end [] = refl
onto_end (v ∷ vs) = ap (tree.more v) (onto_end vs)

pub nothing_yet : (m : Result TypedExprs SourceError) → m ≡ (m >>= and_args [])
nothing_yet (Ok r) = refl
nothing_yet (Err e) = refl

first_at : (ts : List Ty) (i : ℕ) → first_of (drop i ts) ≡ slice_get ts i
first_at [] zero = refl
first_at [] (suc i) = refl
first_at (t ∷ ts) zero = refl
first_at (t ∷ ts) (suc i) = first_at ts i

rest_at : (ts : List Ty) (i : ℕ) → rest_of (drop i ts) ≡ drop (suc i) ts
rest_at [] zero = refl
rest_at [] (suc i) = refl
rest_at (t ∷ ts) zero = refl
rest_at (t ∷ ts) (suc i) = rest_at ts i

exprs_at : (es : List Expr) (i : ℕ) (e : Expr) → e ≡ get_or es i e → i < length es → written_exprs (drop i es) ≡ more e (written_exprs (drop (suc i) es))
exprs_at es i e q h = rw (drop-cons es i e h) (ap (λ x. more x (written_exprs (drop (suc i) es))) (sym q))

abbrev pub one : TypedExpr → TypedExprs → Result TypedExprs SourceError
one v r = Ok (tree.more v r)

pub one_more : (vs : List TypedExpr) (v : TypedExpr) (m : Result TypedExprs SourceError) → ((m >>= one v) >>= and_args vs) ≡ (m >>= and_args (vs ++ v ∷ []))
one_more vs v (Ok r) = ap Ok (onto_more vs v r)
one_more vs v (Err e) = refl

pub args_start : (σ : Setting) (Γ : List Variable) (es : List Expr) (ts : List Ty) → typed_args σ Γ (written_exprs es) ts ≡ continued σ Γ es ts 0 []
args_start σ Γ es ts = nothing_yet (typed_args σ Γ (written_exprs es) ts)

abbrev then_args : Setting → List Variable → Exprs → List Ty → TypedExpr → Result TypedExprs SourceError
then_args σ Γ es ts a = typed_args σ Γ es ts >>= one a

next : (σ : Setting) (Γ : List Variable) (es : List Expr) (ts : List Ty) (i : ℕ) (e : Expr) → e ≡ get_or es i e → i < length es → typed_args σ Γ (written_exprs (drop i es)) (drop i ts) ≡ (typed σ Γ e (slice_get ts i) >>= then_args σ Γ (written_exprs (drop (suc i) es)) (drop (suc i) ts))
next σ Γ es ts i e q h =
    ap (λ x. typed_args σ Γ x (drop i ts)) (exprs_at es i e q h)
    ∙ ap₂ (λ t us. typed σ Γ e t >>= then_args σ Γ (written_exprs (drop (suc i) es)) us) (first_at ts i) (rest_at ts i)

pub args_more : (σ : Setting) (Γ : List Variable) (es : List Expr) (ts : List Ty) (i : ℕ) (e : Expr) (vs : List TypedExpr) (v : TypedExpr) → e ≡ get_or es i e → i < length es → typed σ Γ e (slice_get ts i) ≡ Ok v → continued σ Γ es ts i vs ≡ continued σ Γ es ts (i + 1) (vs ++ v ∷ [])
args_more σ Γ es ts i e vs v q h p =
    rw add-one
    (ap (λ m. m >>= and_args vs) (next σ Γ es ts i e q h)
    ∙ ap (λ (m : Result TypedExpr SourceError). (m >>= then_args σ Γ (written_exprs (drop (suc i) es)) (drop (suc i) ts)) >>= and_args vs) p
    ∙ one_more vs v (typed_args σ Γ (written_exprs (drop (suc i) es)) (drop (suc i) ts)))

-- from the start
pub args_more_all : (σ : Setting) (Γ : List Variable) (es : List Expr) (ts : List Ty) (i : ℕ) (e : Expr) (vs ws : List TypedExpr) (v : TypedExpr) → e ≡ get_or es i e → i < length es → typed σ Γ e (slice_get ts i) ≡ Ok v
    → ws ≡ vs ++ v ∷ [] → typed_args σ Γ (written_exprs es) ts ≡ continued σ Γ es ts i vs → typed_args σ Γ (written_exprs es) ts ≡ continued σ Γ es ts (i + 1) ws
args_more_all σ Γ es ts i e vs ws v q h p pushed r = r ∙ args_more σ Γ es ts i e vs v q h p ∙ ap (continued σ Γ es ts (i + 1)) (sym pushed)

pub args_stop : (f : PassError) (σ : Setting) (Γ : List Variable) (es : List Expr) (ts : List Ty) (i : ℕ) (e : Expr) (vs : List TypedExpr) → e ≡ get_or es i e → i < length es → Refuses f (typed σ Γ e (slice_get ts i)) → Refuses f (continued σ Γ es ts i vs)
args_stop f σ Γ es ts i e vs q h p =
    refuses_then f _ (and_args vs)
    (along f _ _ (next σ Γ es ts i e q h)
    (refuses_then f (typed σ Γ e (slice_get ts i)) (then_args σ Γ (written_exprs (drop (suc i) es)) (drop (suc i) ts)) p))

-- from the start
pub args_stop_all : (f : PassError) (σ : Setting) (Γ : List Variable) (es : List Expr) (ts : List Ty) (i : ℕ) (e : Expr) (vs : List TypedExpr) → e ≡ get_or es i e → i < length es
    → typed_args σ Γ (written_exprs es) ts ≡ continued σ Γ es ts i vs → Refuses f (typed σ Γ e (slice_get ts i)) → Refuses f (typed_args σ Γ (written_exprs es) ts)
args_stop_all f σ Γ es ts i e vs q h r p = along f _ _ r (args_stop f σ Γ es ts i e vs q h p)

drop_all : (es : List Expr) (n : ℕ) → n ≡ length es → drop n es ≡ []
drop_all [] n q = rw q refl
drop_all (e ∷ es) n q = rw q (drop_all es (length es) refl)

pub args_end : (σ : Setting) (Γ : List Variable) (es : List Expr) (ts : List Ty) (n : ℕ) (vs : List TypedExpr) → n ≡ length es → continued σ Γ es ts n vs ≡ Ok (exprs_of vs)
args_end σ Γ es ts n vs q = rw (drop_all es n q) (ap Ok (onto_end vs))
