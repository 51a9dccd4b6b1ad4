-- The arms of a `match`, one after another.
use Rattle.std.proofs.Common.{◌≡◌, ◌∙◌, ℕ, zero, suc, ◌+◌, ◌<◌, List, [], ◌∷◌, ◌++◌, length, get_or, drop, refl, ap, sym, add-one, arith, drop-cons, Option, Result, Ok}
use Rattle.text_core.specs.declared.refusal.SourceError.{SourceError}
use Rattle.text_core.specs.declared.fault.PassError.{PassError}
use Rattle.logic_term.specs.Ty.{Ty}
use Rattle.source_trees.specs.declared.expr.Arm.{Arm}
use Rattle.source_trees.specs.Expr.{Arms}
use Rattle.source_trees.specs.ExprView.{expr_size, arms_size, arms_of}
use Rattle.type_check.specs.declared.scope.Variable.{Variable}
use Rattle.type_check.specs.declared.typed.TypedArm.{TypedArm as RustArm}
use Rattle.type_check.specs.Answers.{◌>>=◌, Refuses}
use Rattle.type_check.specs.Arms.{TypedArm, and_arm, arm_by}
use Rattle.type_check.specs.Setting.{Setting}
use Rattle.type_check.specs.TypedExpr.{TypedArms}
use Rattle.type_check.specs.TypedExpr as tree
use Rattle.type_check.specs.TypedExprView.{arms_of as typed_arms_of}
use Rattle.type_check.specs.Typing.{given, typed_arm, typed_arms}
use Rattle.type_check.proofs.PartByPart.{along, refuses_then}

body_smaller : (xs : List Arm) (i : ℕ) (d : Arm) → i < length xs → expr_size (get_or xs i d).body < arms_size (arms_of xs)
body_smaller [] i d h = absurd (omega arith)
body_smaller (x ∷ xs) zero d h = omega arith
body_smaller (x ∷ xs) (suc i) d h = omega (arith, body_smaller xs i d (omega arith))

pub arm_smaller : (xs : List Arm) (i : ℕ) (x : Arm) → x ≡ get_or xs i x → i < length xs → expr_size x.body < arms_size (arms_of xs)
arm_smaller xs i x q h = let f : Arm → ℕ = λ x. expr_size x.body in omega (arith, ap f q, body_smaller xs i x h)

pub ruleset parts = (arm_smaller)

abbrev pub Typing : Type 0
Typing = Result (TypedArms × Option Ty) SourceError

-- the arms behind one that is typed
abbrev after : Setting → List Variable → Ty → Option Ty → TypedArms → Arms → TypedArm → Typing
after σ Γ u t made xs a = typed_arms σ Γ u (given t a.body) (and_arm made a) xs

next : (σ : Setting) (Γ : List Variable) (u : Ty) (t : Option Ty) (made : TypedArms) (xs : List Arm) (i : ℕ) (x : Arm) → x ≡ get_or xs i x → i < length xs
    → typed_arms σ Γ u t made (arms_of (drop i xs)) ≡ (typed_arm σ Γ u t x.pattern x.body >>= after σ Γ u t made (arms_of (drop (suc i) xs)))
next σ Γ u t made xs i x q h = rw (drop-cons xs i x h) (ap (λ (y : Arm). typed_arm σ Γ u t y.pattern y.body >>= after σ Γ u t made (arms_of (drop (suc i) xs))) (sym q))

-- an arm is put behind those that are made
pub put : (made : List RustArm) (a : RustArm) → and_arm (typed_arms_of made) (arm_by a) ≡ typed_arms_of (made ++ a ∷ [])
put [] a = refl
put (b ∷ made) a = ap (tree.with_arm b.pattern b.names.items b.body) (put made a)

pub arms_more : (σ : Setting) (Γ : List Variable) (u : Ty) (t : Option Ty) (made all : List RustArm) (a : RustArm) (xs : List Arm) (i : ℕ) (x : Arm) → x ≡ get_or xs i x → i < length xs
    → typed_arm σ Γ u t x.pattern x.body ≡ Ok (arm_by a) → all ≡ made ++ a ∷ []
    → typed_arms σ Γ u t (typed_arms_of made) (arms_of (drop i xs)) ≡ typed_arms σ Γ u (given t a.body) (typed_arms_of all) (arms_of (drop (i + 1) xs))
arms_more σ Γ u t made all a xs i x q h p pushed =
    rw add-one
    (next σ Γ u t (typed_arms_of made) xs i x q h
    ∙ ap (λ (m : Result TypedArm SourceError). m >>= after σ Γ u t (typed_arms_of made) (arms_of (drop (suc i) xs))) p
    ∙ ap (λ v. typed_arms σ Γ u (given t a.body) v (arms_of (drop (suc i) xs))) (put made a ∙ ap typed_arms_of (sym pushed)))

pub arms_stop : (f : PassError) (σ : Setting) (Γ : List Variable) (u : Ty) (t : Option Ty) (made : TypedArms) (xs : List Arm) (i : ℕ) (x : Arm) → x ≡ get_or xs i x → i < length xs
    → Refuses f (typed_arm σ Γ u t x.pattern x.body) → Refuses f (typed_arms σ Γ u t made (arms_of (drop i xs)))
arms_stop f σ Γ u t made xs i x q h p = along f _ _ (next σ Γ u t made xs i x q h) (refuses_then f (typed_arm σ Γ u t x.pattern x.body) (after σ Γ u t made (arms_of (drop (suc i) xs))) p)

drop_all : (xs : List Arm) (n : ℕ) → n ≡ length xs → drop n xs ≡ []
drop_all [] n q = rw q refl
drop_all (x ∷ xs) n q = rw q (drop_all xs (length xs) refl)

pub arms_end : (σ : Setting) (Γ : List Variable) (u : Ty) (t : Option Ty) (made : TypedArms) (xs : List Arm) (n : ℕ) → n ≡ length xs → typed_arms σ Γ u t made (arms_of (drop n xs)) ≡ Ok (made, t)
arms_end σ Γ u t made xs n q = rw (drop_all xs n q) refl
