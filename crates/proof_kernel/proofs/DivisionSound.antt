-- What is said of a division is true.
use Rattle.std.proofs.Common.{◌≡◌, ℕ, zero, suc, ◌<◌, Bool, true, false, cond, refl, sym, ◌∙◌, ap, subst, arith}
use Rattle.std.specs.Prelude.{ℤ, pos, negsuc, neg_ℤ, ◌+ℤ◌, ◌*ℤ◌, ◌≤ℤ◌, ◌<ℤ◌, int_le, int_lt, int_div, int_rem, unsigned_abs}
use Rattle.std.specs.Ordering.{int_eq}
use Rattle.std.proofs.lemmas.Int.{ints, quot-rem, rem_below}
use Rattle.source_kinds.specs.declared.kinds.ArithOp.TheVariants.{Add, Mul, Div, Rem}
use Rattle.logic_term.specs.Meaning.{Sure, Structure, Env, Means, Holds, calculated}
use Rattle.logic_term.specs.Term.{Term, lit, negative, not, calculate, is_less, is_at_most, is_equal, and, implies}
use Rattle.logic_term.specs.Ty.{math_int}
use Rattle.logic_term.specs.Value.{Value, Number}
use Rattle.logic_term.proofs.Alike.{alike_same}
use Rattle.logic_term.proofs.Truth.{Exactly, computes_calculate, computes_negative, holds_less, holds_at_most, holds_not, holds_and, holds_implies, holds_equal_exactly}
use Rattle.logic_term.proofs.Unique.{has_value}
use Rattle.proof_kernel.specs.TermRules.{zero_term, is_not_zero, divides_back, remainder_not_below, remainder_not_above, remainder_near, remainder_near_negative, division}
use Rattle.proof_kernel.proofs.Facts.{AllTrue, surely_true}
use Rattle.proof_kernel.proofs.LinearSound.{exact, at_most_true, true_at_most, less_true, true_less}

-- ---- integers

not_zero : (y : ℤ) → (y ≡ pos 0 → ⊥) → int_eq y (pos 0) ≡ false
not_zero y n = decide (int_eq y (pos 0)) refl
  where
    decide : (b : Bool) → int_eq y (pos 0) ≡ b → int_eq y (pos 0) ≡ false
    decide true e = absurd (n (grind (arith, ints)))
    decide false e = e

quotient_is : (x y : ℤ) → (y ≡ pos 0 → ⊥) → calculated Div x y ≡ int_div x y
quotient_is x y n = ap (λ (b : Bool). cond b (pos 0) (int_div x y)) (not_zero y n)

remainder_is : (x y : ℤ) → (y ≡ pos 0 → ⊥) → calculated Rem x y ≡ int_rem x y
remainder_is x y n = ap (λ (b : Bool). cond b x (int_rem x y)) (not_zero y n)

gives_back : (x y d r : ℤ) → d *ℤ y +ℤ r ≡ x → x ≡ y *ℤ d +ℤ r
gives_back x y d r e = sym e ∙ ap (λ p. p +ℤ r) (commutes d y)
  where
    commutes : (d y : ℤ) → d *ℤ y ≡ y *ℤ d
    commutes d y = grind (arith, ints)

adds_back : (x y : ℤ) → (y ≡ pos 0 → ⊥) → x ≡ calculated Add (calculated Mul y (calculated Div x y)) (calculated Rem x y)
adds_back x y n = rw (quotient_is x y n, remainder_is x y n) (gives_back x y (int_div x y) (int_rem x y) (quot-rem x y))

rem_not_below : (x y : ℤ) → pos 0 ≤ℤ x → pos 0 ≤ℤ int_rem x y
rem_not_below (pos a) y h = omega (arith, ints)
rem_not_below (negsuc a) y h = absurd (omega (arith, ints))

rem_not_above : (x y : ℤ) → x ≤ℤ pos 0 → int_rem x y ≤ℤ pos 0
rem_not_above (pos zero) y h = omega (arith, ints)
rem_not_above (pos (suc a)) y h = absurd (omega (arith, ints))
rem_not_above (negsuc a) y h = omega (arith, ints)

some_size : (y : ℤ) → (y ≡ pos 0 → ⊥) → 0 < unsigned_abs y
some_size (pos zero) n = absurd (n refl)
some_size (pos (suc a)) n = omega arith
some_size (negsuc a) n = omega arith

near : (r y : ℤ) → unsigned_abs r < unsigned_abs y → pos 0 <ℤ y → (neg_ℤ y <ℤ r) × (r <ℤ y)
near r y h p = (omega (arith, ints), omega (arith, ints))

near_negative : (r y : ℤ) → unsigned_abs r < unsigned_abs y → y <ℤ pos 0 → (y <ℤ r) × (r <ℤ neg_ℤ y)
near_negative r y h p = (omega (arith, ints), omega (arith, ints))

-- ---- terms that have these integers

module _ (S : Structure) (ρ : Env) (a b : Term) (x y : ℤ) (f : Exactly (Means S a ρ) (Number x)) (g : Exactly (Means S b ρ) (Number y)) where
  zero_is : Exactly (Means S zero_term ρ) (Number (pos 0))
  zero_is = alike_same _

  rem_is : Exactly (Means S (calculate Rem a b) ρ) (Number (calculated Rem x y))
  rem_is = computes_calculate S Rem a b ρ x y f g

  negative_is : Exactly (Means S (negative b) ρ) (Number (neg_ℤ y))
  negative_is = computes_negative S b ρ y g

  differs : Holds S (is_not_zero b) ρ → y ≡ pos 0 → ⊥
  differs h e = (holds_not S (is_equal b zero_term) ρ).0 h ((holds_equal_exactly S b zero_term ρ (Number y) (Number (pos 0)) g zero_is).1 (λ n. n (ap Number e)))

  back : Holds S (divides_back a b) ρ
  back = (holds_implies S (is_not_zero b) (is_equal a (calculate Add (calculate Mul b (calculate Div a b)) (calculate Rem a b))) ρ).1 (λ h.
      (holds_equal_exactly S a (calculate Add (calculate Mul b (calculate Div a b)) (calculate Rem a b)) ρ (Number x) (Number (calculated Add (calculated Mul y (calculated Div x y)) (calculated Rem x y))) f
      (computes_calculate S Add (calculate Mul b (calculate Div a b)) (calculate Rem a b) ρ (calculated Mul y (calculated Div x y)) (calculated Rem x y) (computes_calculate S Mul b (calculate Div a b) ρ y (calculated Div x y) g (computes_calculate S Div a b ρ x y f g)) rem_is)).1
      (λ n. n (ap Number (adds_back x y (differs h)))))

  not_below : Holds S (remainder_not_below a b) ρ
  not_below = (holds_implies S (and (is_at_most zero_term a) (is_not_zero b)) (is_at_most zero_term (calculate Rem a b)) ρ).1 (λ h.
      let p = (holds_and S (is_at_most zero_term a) (is_not_zero b) ρ).0 h in
      let d : y ≡ pos 0 → ⊥ = differs p.1 in
      let l = at_most_true (pos 0) x ((holds_at_most S zero_term a ρ (Number (pos 0)) (Number x) zero_is f).0 p.0) in
      (holds_at_most S zero_term (calculate Rem a b) ρ (Number (pos 0)) (Number (calculated Rem x y)) zero_is rem_is).1
      (true_at_most (pos 0) (calculated Rem x y) (subst (λ r. pos 0 ≤ℤ r) (sym (remainder_is x y d)) (rem_not_below x y l))))

  not_above : Holds S (remainder_not_above a b) ρ
  not_above = (holds_implies S (and (is_at_most a zero_term) (is_not_zero b)) (is_at_most (calculate Rem a b) zero_term) ρ).1 (λ h.
      let p = (holds_and S (is_at_most a zero_term) (is_not_zero b) ρ).0 h in
      let d : y ≡ pos 0 → ⊥ = differs p.1 in
      let l = at_most_true x (pos 0) ((holds_at_most S a zero_term ρ (Number x) (Number (pos 0)) f zero_is).0 p.0) in
      (holds_at_most S (calculate Rem a b) zero_term ρ (Number (calculated Rem x y)) (Number (pos 0)) rem_is zero_is).1
      (true_at_most (calculated Rem x y) (pos 0) (subst (λ r. r ≤ℤ pos 0) (sym (remainder_is x y d)) (rem_not_above x y l))))

  smaller : (y ≡ pos 0 → ⊥) → unsigned_abs (calculated Rem x y) < unsigned_abs y
  smaller d = subst (λ r. unsigned_abs r < unsigned_abs y) (sym (remainder_is x y d)) (rem_below x y (some_size y d))

  above_zero : pos 0 <ℤ y → y ≡ pos 0 → ⊥
  above_zero l e = omega (arith, ints)

  below_zero : y <ℤ pos 0 → y ≡ pos 0 → ⊥
  below_zero l e = omega (arith, ints)

  nearer : Holds S (remainder_near a b) ρ
  nearer = (holds_implies S (is_less zero_term b) (and (is_less (negative b) (calculate Rem a b)) (is_less (calculate Rem a b) b)) ρ).1 (λ h.
      let l = less_true (pos 0) y ((holds_less S zero_term b ρ (Number (pos 0)) (Number y) zero_is g).0 h) in
      let n = near (calculated Rem x y) y (smaller (above_zero l)) l in
      (holds_and S (is_less (negative b) (calculate Rem a b)) (is_less (calculate Rem a b) b) ρ).1 (
        (holds_less S (negative b) (calculate Rem a b) ρ (Number (neg_ℤ y)) (Number (calculated Rem x y)) negative_is rem_is).1 (true_less _ _ n.0),
        (holds_less S (calculate Rem a b) b ρ (Number (calculated Rem x y)) (Number y) rem_is g).1 (true_less _ _ n.1),
      ))

  nearer_negative : Holds S (remainder_near_negative a b) ρ
  nearer_negative = (holds_implies S (is_less b zero_term) (and (is_less b (calculate Rem a b)) (is_less (calculate Rem a b) (negative b))) ρ).1 (λ h.
      let l = less_true y (pos 0) ((holds_less S b zero_term ρ (Number y) (Number (pos 0)) g zero_is).0 h) in
      let n = near_negative (calculated Rem x y) y (smaller (below_zero l)) l in
      (holds_and S (is_less b (calculate Rem a b)) (is_less (calculate Rem a b) (negative b)) ρ).1 (
        (holds_less S b (calculate Rem a b) ρ (Number y) (Number (calculated Rem x y)) g rem_is).1 (true_less _ _ n.0),
        (holds_less S (calculate Rem a b) (negative b) ρ (Number (calculated Rem x y)) (Number (neg_ℤ y)) rem_is negative_is).1 (true_less _ _ n.1),
      ))

  all_true : AllTrue S (division a b) ρ
  all_true = (back, (not_below, (not_above, (nearer, (nearer_negative, tt)))))

-- terms whose values are numbers
pub division_holds : (S : Structure) (ρ : Env) (a b : Term) → ((v : Value) → Means S a ρ v → (n : ℤ) × (v ≡ Number n)) → ((v : Value) → Means S b ρ v → (n : ℤ) × (v ≡ Number n)) → AllTrue S (division a b) ρ
division_holds S ρ a b f g = surely_true S (division a b) ρ (λ n. has_value S a ρ (λ p. has_value S b ρ (λ r.
    let x = f p.0 p.1 in
    let y = g r.0 r.1 in
    n (all_true S ρ a b x.0 y.0 (exact S ρ a x.0 (Number x.0, subst (Means S a ρ) x.1 p.1, refl)) (exact S ρ b y.0 (Number y.0, subst (Means S b ρ) y.1 r.1, refl))))))
