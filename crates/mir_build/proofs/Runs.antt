-- A text that is written in parts.
use Rattle.std.proofs.Common.{◌≡◌, ◌<◌, refl, ap, sym, ◌∙◌, get_or, add-one, drop-cons, ℕ, ◌+◌, ◌-◌, List, [], ◌∷◌, ◌++◌, drop, take, length, length-append, arith}
use Rattle.std.proofs.Math.Seq.{take-append_seam}
use Rattle.type_check.specs.TypedExpr.{TypedExpr, more}
use Rattle.type_check.specs.TypedExprView.{exprs_of}
use Rattle.type_check.specs.TypedExprFalls.{each_smaller}
use Rattle.mir_build.specs.declared.builder.BodyText.{BodyText}
use Rattle.mir_build.specs.Text.{Line, Puts, Makes, Turns, Leaves, Owns}
use Rattle.mir_build.specs.Built.{written}
use Rattle.mir_build.proofs.Accepted.{first_none, second_none, both_none}
use Rattle.mir_build.proofs.Arguments.{each_reaches}

pub written-append : (xs ys : List Line) (x : BodyText) → written (xs ++ ys) x ≡ written ys (written xs x)
written-append [] ys x = refl
written-append (Puts s ∷ xs) ys x = written-append xs ys _
written-append (Makes n t ∷ xs) ys x = written-append xs ys _
written-append (Turns e b ∷ xs) ys x = written-append xs ys _
written-append (Leaves e ∷ xs) ys x = written-append xs ys _
written-append (Owns l ns ∷ xs) ys x = written-append xs ys _

args_at_suc : (es : List TypedExpr) (i : ℕ) (d : TypedExpr) → i < length es → exprs_of (drop i es) ≡ more (get_or es i d) (exprs_of (drop (i + 1) es))
args_at_suc es i d h = rw (add-one, drop-cons es i d h) refl

-- the arguments from the i-th on
pub args_at : (es : List TypedExpr) (i : ℕ) (e : TypedExpr) → e ≡ get_or es i e → i < length es → exprs_of (drop i es) ≡ more e (exprs_of (drop (i + 1) es))
args_at es i e q h = args_at_suc es i e h ∙ ap (λ x. more x (exprs_of (drop (i + 1) es))) (sym q)

-- outside a loop that was entered here
pub take_front : {A : Type 0} (xs : List A) (x : A) → take (length (xs ++ x ∷ []) - 1) (xs ++ x ∷ []) ≡ xs
take_front xs x =
    let n : length (xs ++ x ∷ []) - 1 ≡ length xs = omega (arith, length-append xs (x ∷ [])) in
    rw n (take-append_seam xs (x ∷ []))

pub ruleset running = (written-append, take_front, each_smaller, each_reaches, first_none, second_none, both_none)
