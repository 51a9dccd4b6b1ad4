-- Quotients stay in their type, but for the least integer divided by -1.
use Rattle.std.proofs.Common.{◌≡◌, refl, ap, ℕ, zero, suc, ◌/◌, ◌%◌, ◌≤◌, ℤ, pos, negsuc, neg_ℤ, unsigned_abs, int_div, int_rem, true, arith}
use Rattle.std.proofs.Math.Nat.{div-le_self, mod-le}
use Rattle.source_kinds.specs.declared.kinds.IntKind.{IntKind}
use Rattle.source_kinds.specs.declared.kinds.IntKind.TheVariants.{I8, I16, I32, I64, Isize, U8, U16, U32, U64, Usize}
use Rattle.source_kinds.specs.Range.{lowest, fits}

-- a natural number that is no greater
smaller : (k : IntKind) (a m : ℕ) → m ≤ a → fits k (pos a) ≡ true → fits k (pos m) ≡ true
smaller I8 a m h e = grind arith
smaller I16 a m h e = grind arith
smaller I32 a m h e = grind arith
smaller I64 a m h e = grind arith
smaller Isize a m h e = grind arith
smaller U8 a m h e = grind arith
smaller U16 a m h e = grind arith
smaller U32 a m h e = grind arith
smaller U64 a m h e = grind arith
smaller Usize a m h e = grind arith

-- its negative, where the type has negative integers
negative_of_smaller : (k : IntKind) (a b m : ℕ) → m ≤ a → fits k (pos a) ≡ true → fits k (negsuc b) ≡ true → fits k (neg_ℤ (pos m)) ≡ true
negative_of_smaller I8 a b zero h e f = refl
negative_of_smaller I8 a b (suc m) h e f = grind arith
negative_of_smaller I16 a b zero h e f = refl
negative_of_smaller I16 a b (suc m) h e f = grind arith
negative_of_smaller I32 a b zero h e f = refl
negative_of_smaller I32 a b (suc m) h e f = grind arith
negative_of_smaller I64 a b zero h e f = refl
negative_of_smaller I64 a b (suc m) h e f = grind arith
negative_of_smaller Isize a b zero h e f = refl
negative_of_smaller Isize a b (suc m) h e f = grind arith
negative_of_smaller U8 a b zero h e f = refl
negative_of_smaller U8 a b (suc m) h e f = grind arith
negative_of_smaller U16 a b zero h e f = refl
negative_of_smaller U16 a b (suc m) h e f = grind arith
negative_of_smaller U32 a b zero h e f = refl
negative_of_smaller U32 a b (suc m) h e f = grind arith
negative_of_smaller U64 a b zero h e f = refl
negative_of_smaller U64 a b (suc m) h e f = grind arith
negative_of_smaller Usize a b zero h e f = refl
negative_of_smaller Usize a b (suc m) h e f = grind arith

-- a negative integer nearer to 0
nearer : (k : IntKind) (a m : ℕ) → m ≤ suc a → fits k (negsuc a) ≡ true → fits k (neg_ℤ (pos m)) ≡ true
nearer I8 a zero h e = refl
nearer I8 a (suc m) h e = grind arith
nearer I16 a zero h e = refl
nearer I16 a (suc m) h e = grind arith
nearer I32 a zero h e = refl
nearer I32 a (suc m) h e = grind arith
nearer I64 a zero h e = refl
nearer I64 a (suc m) h e = grind arith
nearer Isize a zero h e = refl
nearer Isize a (suc m) h e = grind arith
nearer U8 a zero h e = refl
nearer U8 a (suc m) h e = grind arith
nearer U16 a zero h e = refl
nearer U16 a (suc m) h e = grind arith
nearer U32 a zero h e = refl
nearer U32 a (suc m) h e = grind arith
nearer U64 a zero h e = refl
nearer U64 a (suc m) h e = grind arith
nearer Usize a zero h e = refl
nearer Usize a (suc m) h e = grind arith

-- the opposite of a negative integer that is not the least, or half of it
opposite : (k : IntKind) (a m : ℕ) → m ≤ a → fits k (negsuc a) ≡ true → fits k (pos m) ≡ true
opposite I8 a m h e = grind arith
opposite I16 a m h e = grind arith
opposite I32 a m h e = grind arith
opposite I64 a m h e = grind arith
opposite Isize a m h e = grind arith
opposite U8 a m h e = grind arith
opposite U16 a m h e = grind arith
opposite U32 a m h e = grind arith
opposite U64 a m h e = grind arith
opposite Usize a m h e = grind arith

not_least : (k : IntKind) (a : ℕ) → fits k (negsuc a) ≡ true → (negsuc a ≡ lowest k → ⊥) → fits k (pos (suc a)) ≡ true
not_least I8 a e d = let n : a ≡ 127 → ⊥ = λ p. d (ap negsuc p) in grind arith
not_least I16 a e d = let n : a ≡ 32767 → ⊥ = λ p. d (ap negsuc p) in grind arith
not_least I32 a e d = let n : a ≡ 2147483647 → ⊥ = λ p. d (ap negsuc p) in grind arith
not_least I64 a e d = let n : a ≡ 9223372036854775807 → ⊥ = λ p. d (ap negsuc p) in grind arith
not_least Isize a e d = let n : a ≡ 9223372036854775807 → ⊥ = λ p. d (ap negsuc p) in grind arith
not_least U8 a e d = grind arith
not_least U16 a e d = grind arith
not_least U32 a e d = grind arith
not_least U64 a e d = grind arith
not_least Usize a e d = grind arith

halved : (a b : ℕ) → suc a / suc (suc b) ≤ a
halved a b = omega (arith)

nonneg_divisor : (k : IntKind) (a b : ℕ) → fits k (negsuc a) ≡ true → (negsuc a ≡ lowest k → negsuc b ≡ negsuc 0 → ⊥) → fits k (pos (suc a / suc b)) ≡ true
nonneg_divisor k a zero e d = smaller k (suc a) (suc a / suc zero) (div-le_self (suc a) 1) (not_least k a e (λ p. d p refl))
nonneg_divisor k a (suc b) e d = opposite k a (suc a / suc (suc b)) (halved a b) e

-- the quotient of two integers of the type is one of the type, but for the least one divided by -1
pub quotient_fits : (k : IntKind) (x y : ℤ) → fits k x ≡ true → fits k y ≡ true → (x ≡ lowest k → y ≡ negsuc 0 → ⊥) → fits k (int_div x y) ≡ true
quotient_fits k (pos a) (pos b) e f d = smaller k a (a / b) (div-le_self a b) e
quotient_fits k (pos a) (negsuc b) e f d = negative_of_smaller k a b (a / suc b) (div-le_self a (suc b)) e f
quotient_fits k (negsuc a) (pos b) e f d = nearer k a (suc a / b) (div-le_self (suc a) b) e
quotient_fits k (negsuc a) (negsuc b) e f d = nonneg_divisor k a b e d

-- the remainder is no further from 0 than the integer that is divided
pub remainder_fits : (k : IntKind) (x y : ℤ) → fits k x ≡ true → fits k (int_rem x y) ≡ true
remainder_fits k (pos a) y e = smaller k a (a % unsigned_abs y) (mod-le a (unsigned_abs y)) e
remainder_fits k (negsuc a) y e = nearer k a (suc a % unsigned_abs y) (mod-le (suc a) (unsigned_abs y)) e
