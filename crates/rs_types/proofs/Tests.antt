-- Truth values.
use Rattle.std.proofs.Common.{◌≡◌, ◌&&◌, ◌||◌, not, Bool, true, false, refl, sym, true≢false}

pub or_false : (b c : Bool) → (b || c) ≡ false → (b ≡ false) × (c ≡ false)
or_false true c e = absurd (true≢false e)
or_false false c e = (refl, e)

pub or_left : (b c : Bool) → b ≡ true → (b || c) ≡ true
or_left true c e = refl
or_left false c e = absurd (true≢false (sym e))

pub or_right : (b c : Bool) → c ≡ true → (b || c) ≡ true
or_right true c e = refl
or_right false c e = e

pub and_true : (b c : Bool) → b ≡ true → c ≡ true → (b && c) ≡ true
and_true true c e f = f
and_true false c e f = absurd (true≢false (sym e))

pub second_false : (b c : Bool) → b ≡ true → (b && c) ≡ false → c ≡ false
second_false true c e f = f
second_false false c e f = absurd (true≢false (sym e))

pub not_false : (b : Bool) → not b ≡ false → b ≡ true
not_false true e = refl
not_false false e = absurd (true≢false e)

pub not_true : (b : Bool) → not b ≡ true → b ≡ false
not_true true e = absurd (true≢false (sym e))
not_true false e = refl

pub first_off : (b c : Bool) → b ≡ false → (b || c) ≡ c
first_off true c e = absurd (true≢false e)
first_off false c e = refl
