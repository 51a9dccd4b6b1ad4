-- Numbers by their digits.
use Rattle.std.proofs.Common.{◌≡◌, ◌≢◌, ℕ, ◌+◌, ◌*◌, ◌<◌, ◌≤◌, true, List, length, take, get_or, refl, sym, ap, ◌∙◌, not, arith}
use Rattle.std.specs.Prelude.{filter}
use Rattle.std.specs.Char.{digit_value}
use Rattle.std.specs.Str.Parse.{digits_value}
use Rattle.rs_tokens.proofs.IntegerLaws.{is_no_low, value_digit, value_take_le}
use Rattle.rs_tokens.proofs.ListLaws.{eqb_unlike}

-- with one digit more, which is no more than with all
pub next_value : (base : ℕ) (ds : List ℕ) (k value d : ℕ) → 0 < base → k < length ds → value ≡ digits_value base (filter is_no_low (take k ds)) → d ≡ digit_value (get_or ds k 0) → get_or ds k 0 ≢ 95
    → (value * base + d ≡ digits_value base (filter is_no_low (take (k + 1) ds))) × (value * base + d ≤ digits_value base (filter is_no_low ds))
next_value base ds k value d some within so_far digit other =
    let e : is_no_low (get_or ds k 0) ≡ true = ap not (eqb_unlike (get_or ds k 0) 95 other) in
    let sum : value * base + d ≡ digits_value base (filter is_no_low (take (k + 1) ds)) =
    ap (λ (v : ℕ). value * base + v) digit ∙ ap (λ (v : ℕ). v * base + digit_value (get_or ds k 0)) so_far ∙ sym (value_digit base ds k (get_or ds k 0) within refl e) in
    (sum, omega (arith, sum, value_take_le base ds (k + 1) some))
