-- Laws of the ring of integers.
use Rattle.std.proofs.Common.{◌≡◌, sym, ◌∙◌, ap, ap₂, arith}
use Rattle.std.specs.Prelude.{ℤ, pos, negsuc, neg_ℤ, ◌+ℤ◌, ◌-ℤ◌, ◌*ℤ◌}
use Rattle.std.proofs.lemmas.Int.{ints}
use Rattle.std.proofs.Math.IntN.{ℤ_ind, +ℤ_assoc, +ℤ_idl, +ℤ_idr, +ℤ_one, -ℤ_one, zero-*ℤ, suc_ℤ-*ℤ, pred_ℤ-*ℤ, *ℤ_comm, *ℤ-zero}

pub plus_times : (a b c : ℤ) → (a +ℤ b) *ℤ c ≡ a *ℤ c +ℤ b *ℤ c
plus_times a b c = ℤ_ind (λ x. (a +ℤ x) *ℤ c ≡ a *ℤ c +ℤ x *ℤ c) none (λ n. up (pos n)) (λ n. down (neg_ℤ (pos n))) b
  where
    none : (a +ℤ pos 0) *ℤ c ≡ a *ℤ c +ℤ pos 0 *ℤ c
    none = ap (λ t. t *ℤ c) (+ℤ_idr a) ∙ sym (+ℤ_idr (a *ℤ c)) ∙ ap (λ t. a *ℤ c +ℤ t) (sym (zero-*ℤ c))

    up : (x : ℤ) → (a +ℤ x) *ℤ c ≡ a *ℤ c +ℤ x *ℤ c → (a +ℤ (x +ℤ pos 1)) *ℤ c ≡ a *ℤ c +ℤ (x +ℤ pos 1) *ℤ c
    up x h =
        ap (λ t. t *ℤ c) (sym (+ℤ_assoc a x (pos 1)) ∙ +ℤ_one (a +ℤ x))
        ∙ suc_ℤ-*ℤ (a +ℤ x) c
        ∙ ap (λ t. t +ℤ c) h
        ∙ +ℤ_assoc (a *ℤ c) (x *ℤ c) c
        ∙ ap (λ t. a *ℤ c +ℤ t) (sym (suc_ℤ-*ℤ x c) ∙ ap (λ t. t *ℤ c) (sym (+ℤ_one x)))

    down : (x : ℤ) → (a +ℤ x) *ℤ c ≡ a *ℤ c +ℤ x *ℤ c → (a +ℤ (x +ℤ negsuc 0)) *ℤ c ≡ a *ℤ c +ℤ (x +ℤ negsuc 0) *ℤ c
    down x h =
        ap (λ t. t *ℤ c) (sym (+ℤ_assoc a x (negsuc 0)) ∙ -ℤ_one (a +ℤ x))
        ∙ pred_ℤ-*ℤ (a +ℤ x) c
        ∙ ap (λ t. t +ℤ neg_ℤ c) h
        ∙ +ℤ_assoc (a *ℤ c) (x *ℤ c) (neg_ℤ c)
        ∙ ap (λ t. a *ℤ c +ℤ t) (sym (pred_ℤ-*ℤ x c) ∙ ap (λ t. t *ℤ c) (sym (-ℤ_one x)))

-- what adds up to x, and to 0
opposite : (x y : ℤ) → x +ℤ y ≡ pos 0 → y ≡ neg_ℤ x
opposite x y e = omega (arith, ints)

pub neg_times : (a c : ℤ) → neg_ℤ a *ℤ c ≡ neg_ℤ (a *ℤ c)
neg_times a c = opposite (a *ℤ c) (neg_ℤ a *ℤ c) (sym (plus_times a (neg_ℤ a) c) ∙ ap (λ t. t *ℤ c) (inverse a) ∙ zero-*ℤ c)
  where
    inverse : (x : ℤ) → x +ℤ neg_ℤ x ≡ pos 0
    inverse x = omega (arith, ints)

pub minus_times : (a b c : ℤ) → (a -ℤ b) *ℤ c ≡ a *ℤ c -ℤ b *ℤ c
minus_times a b c = plus_times a (neg_ℤ b) c ∙ ap (λ t. a *ℤ c +ℤ t) (neg_times b c)

pub one_times : (c : ℤ) → pos 1 *ℤ c ≡ c
one_times c = suc_ℤ-*ℤ (pos 0) c ∙ ap (λ t. t +ℤ c) (zero-*ℤ c) ∙ +ℤ_idl c

pub times_one : (c : ℤ) → c *ℤ pos 1 ≡ c
times_one c = *ℤ_comm c (pos 1) ∙ one_times c

pub times_swap : (a b c : ℤ) → (a *ℤ b) *ℤ c ≡ (a *ℤ c) *ℤ b
times_swap a b c = ℤ_ind (λ x. (a *ℤ x) *ℤ c ≡ (a *ℤ c) *ℤ x) none (λ n. up (pos n)) (λ n. down (neg_ℤ (pos n))) b
  where
    right_plus : (x y w : ℤ) → x *ℤ (y +ℤ w) ≡ x *ℤ y +ℤ x *ℤ w
    right_plus x y w = *ℤ_comm x (y +ℤ w) ∙ plus_times y w x ∙ ap₂ (λ s t. s +ℤ t) (*ℤ_comm y x) (*ℤ_comm w x)

    none : (a *ℤ pos 0) *ℤ c ≡ (a *ℤ c) *ℤ pos 0
    none = ap (λ t. t *ℤ c) (*ℤ-zero a) ∙ zero-*ℤ c ∙ sym (*ℤ-zero (a *ℤ c))

    up : (x : ℤ) → (a *ℤ x) *ℤ c ≡ (a *ℤ c) *ℤ x → (a *ℤ (x +ℤ pos 1)) *ℤ c ≡ (a *ℤ c) *ℤ (x +ℤ pos 1)
    up x h =
        ap (λ t. t *ℤ c) (right_plus a x (pos 1) ∙ ap (λ t. a *ℤ x +ℤ t) (times_one a))
        ∙ plus_times (a *ℤ x) a c
        ∙ ap (λ t. t +ℤ a *ℤ c) h
        ∙ ap (λ t. (a *ℤ c) *ℤ x +ℤ t) (sym (times_one (a *ℤ c)))
        ∙ sym (right_plus (a *ℤ c) x (pos 1))

    minus_one : (y : ℤ) → y *ℤ negsuc 0 ≡ neg_ℤ y
    minus_one y = *ℤ_comm y (negsuc 0) ∙ neg_times (pos 1) y ∙ ap neg_ℤ (one_times y)

    down : (x : ℤ) → (a *ℤ x) *ℤ c ≡ (a *ℤ c) *ℤ x → (a *ℤ (x +ℤ negsuc 0)) *ℤ c ≡ (a *ℤ c) *ℤ (x +ℤ negsuc 0)
    down x h =
        ap (λ t. t *ℤ c) (right_plus a x (negsuc 0) ∙ ap (λ t. a *ℤ x +ℤ t) (minus_one a))
        ∙ plus_times (a *ℤ x) (neg_ℤ a) c
        ∙ ap₂ (λ s t. s +ℤ t) h (neg_times a c)
        ∙ ap (λ t. (a *ℤ c) *ℤ x +ℤ t) (sym (minus_one (a *ℤ c)))
        ∙ sym (right_plus (a *ℤ c) x (negsuc 0))

pub times_assoc : (a b c : ℤ) → (a *ℤ b) *ℤ c ≡ a *ℤ (b *ℤ c)
times_assoc a b c = ap (λ t. t *ℤ c) (*ℤ_comm a b) ∙ times_swap b a c ∙ *ℤ_comm (b *ℤ c) a

pub times_plus : (a b c : ℤ) → a *ℤ (b +ℤ c) ≡ a *ℤ b +ℤ a *ℤ c
times_plus a b c = *ℤ_comm a (b +ℤ c) ∙ plus_times b c a ∙ ap₂ (λ x y. x +ℤ y) (*ℤ_comm b a) (*ℤ_comm c a)

-- (a b) (c d) = (a c) (b d)
pub times_mix : (a b c d : ℤ) → (a *ℤ b) *ℤ (c *ℤ d) ≡ (a *ℤ c) *ℤ (b *ℤ d)
times_mix a b c d =
    sym (times_assoc (a *ℤ b) c d) ∙ ap (λ t. t *ℤ d) (times_swap a b c) ∙ times_assoc (a *ℤ c) b d

pub add_step : (x y f g d : ℤ) → (x +ℤ f *ℤ d) +ℤ (y +ℤ g *ℤ d) ≡ (x +ℤ y) +ℤ (f +ℤ g) *ℤ d
add_step x y f g d = swap x y (f *ℤ d) (g *ℤ d) ∙ ap (λ t. (x +ℤ y) +ℤ t) (sym (plus_times f g d))
  where
    swap : (x y p q : ℤ) → (x +ℤ p) +ℤ (y +ℤ q) ≡ (x +ℤ y) +ℤ (p +ℤ q)
    swap x y p q = omega (arith, ints)
