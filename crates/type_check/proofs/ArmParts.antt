-- The arms of typed matches leave where all of them do.
use Rattle.std.proofs.Common.{◌≡◌, ℕ, zero, suc, ◌+◌, ◌<◌, ◌&&◌, List, [], ◌∷◌, length, get_or, drop, drop-cons, add-one, arith, ap, sym}
use Rattle.type_check.specs.declared.typed.TypedArm.{TypedArm}
use Rattle.type_check.specs.Leaves.{all_arms_leave, leaves}
use Rattle.type_check.specs.TypedExprView.{typed_size, arms_size, arms_of}

body_smaller : (xs : List TypedArm) (i : ℕ) (d : TypedArm) → i < length xs → typed_size (get_or xs i d).body < arms_size (arms_of xs)
body_smaller [] i d h = absurd (omega arith)
body_smaller (x ∷ xs) zero d h = omega arith
body_smaller (x ∷ xs) (suc i) d h = omega (arith, body_smaller xs i d (omega arith))

pub arm_smaller : (xs : List TypedArm) (i : ℕ) (x : TypedArm) → x ≡ get_or xs i x → i < length xs → typed_size x.body < arms_size (arms_of xs)
arm_smaller xs i x q h = let f : TypedArm → ℕ = λ x. typed_size x.body in omega (arith, ap f q, body_smaller xs i x h)

pub leave_at : (xs : List TypedArm) (i : ℕ) (x : TypedArm) → x ≡ get_or xs i x → i < length xs → all_arms_leave (arms_of (drop i xs)) ≡ (leaves x.body && all_arms_leave (arms_of (drop (i + 1) xs)))
leave_at xs i x q h = rw (add-one, drop-cons xs i x h) (ap (λ (y : TypedArm). leaves y.body && all_arms_leave (arms_of (drop (suc i) xs))) (sym q))

pub ruleset leaving_arms = (arm_smaller, leave_at)
