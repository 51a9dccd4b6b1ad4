-- What the tests say.
use Rattle.std.proofs.Common.{◌≡◌, refl, sym, ap, ℕ, ℤ, Bool, true, false, ◌&&◌, ◌==◌}
use Rattle.std.proofs.lemmas.Bool.{eqb-true, eq-eqb}
use Rattle.std.proofs.lemmas.Bool.Decides.{Decides-int_eq}
use Rattle.std.specs.Ordering.{int_eq}
use Rattle.logic_term.specs.Matches.{same_ctor, same_flag, is_number, is_flag, is_made}
use Rattle.logic_term.specs.Value.{Value, Number, Flag, Made, Pair, parts_of}
use Rattle.logic_term.specs.declared.kinds.AdtId.{AdtId}
use Rattle.logic_term.specs.declared.kinds.Ctor.{Ctor}
use Rattle.logic_term.specs.declared.kinds.Ctor.TheVariants.{Tuple, Variant, Closure}

pub both : (a b : Bool) → a && b ≡ true → (a ≡ true) × (b ≡ true)
both true b e = (refl, e)
both false b e = absurd (cc)

pub and_of : (a b : Bool) → a ≡ true → b ≡ true → a && b ≡ true
and_of true b e f = f
and_of false b e f = absurd (cc)

pub and_left : (a b : Bool) → a ≡ false → a && b ≡ false
and_left true b e = absurd (cc)
and_left false b e = refl

pub and_right : (a b : Bool) → b ≡ false → a && b ≡ false
and_right true b e = e
and_right false b e = refl

pub int_same : (x y : ℤ) → int_eq x y ≡ true → x ≡ y
int_same x y e = (Decides-int_eq x y).0 e

pub int_self : (x : ℤ) → int_eq x x ≡ true
int_self x = (Decides-int_eq x x).1 refl

pub int_differ : (x y : ℤ) → (x ≡ y → ⊥) → int_eq x y ≡ false
int_differ x y d = by_test (int_eq x y) refl
  where
    by_test : (t : Bool) → int_eq x y ≡ t → int_eq x y ≡ false
    by_test true e = absurd (d (int_same x y e))
    by_test false e = e

pub number_is : (z : ℤ) (v : Value) → is_number z v ≡ true → v ≡ Number z
number_is z (Number y) e = ap Number (sym (int_same z y e))
number_is z (Flag b) e = absurd (cc)
number_is z (Made c vs) e = absurd (cc)
number_is z (Pair v w) e = absurd (cc)

pub flag_is : (b : Bool) (v : Value) → is_flag b v ≡ true → v ≡ Flag b
flag_is b (Number y) e = absurd (cc)
flag_is true (Flag true) e = refl
flag_is true (Flag false) e = absurd (cc)
flag_is false (Flag true) e = absurd (cc)
flag_is false (Flag false) e = refl
flag_is b (Made c vs) e = absurd (cc)
flag_is b (Pair v w) e = absurd (cc)

pub flags_same : (b c : Bool) → same_flag b c ≡ true → b ≡ c
flags_same true true e = refl
flags_same true false e = absurd (cc)
flags_same false true e = absurd (cc)
flags_same false false e = refl

pub flag_self : (b : Bool) → same_flag b b ≡ true
flag_self true = refl
flag_self false = refl

adt_ids : (d e : AdtId) → d.0 ≡ e.0 → d ≡ e
adt_ids d e p = λ i. record { 0 = p i }

pub ctor_same : (c e : Ctor) → same_ctor c e ≡ true → c ≡ e
ctor_same Tuple Tuple p = refl
ctor_same (Variant d k) (Variant e j) p = λ i. Variant (adt_ids d e (eqb-true d.0 e.0 (both _ _ p).0) i) (eqb-true k j (both (d.0 == e.0) _ p).1 i)
ctor_same (Closure n) (Closure m) p = ap Closure (eqb-true n m p)
ctor_same Tuple (Variant e j) p = absurd (cc)
ctor_same Tuple (Closure m) p = absurd (cc)
ctor_same (Variant d k) Tuple p = absurd (cc)
ctor_same (Variant d k) (Closure m) p = absurd (cc)
ctor_same (Closure n) Tuple p = absurd (cc)
ctor_same (Closure n) (Variant e j) p = absurd (cc)

eqb-self : (n : ℕ) → (n == n) ≡ true
eqb-self n = eq-eqb n n refl

pub ctor_self : (c : Ctor) → same_ctor c c ≡ true
ctor_self Tuple = refl
ctor_self (Variant d k) = and_of _ _ (eqb-self d.0) (eqb-self k)
ctor_self (Closure n) = eqb-self n

-- the value is made so, of these parts_of
pub made_is : (c : Ctor) (v : Value) → is_made c v ≡ true → v ≡ Made c (parts_of v)
made_is c (Number y) e = absurd (cc)
made_is c (Flag b) e = absurd (cc)
made_is c (Made d vs) e = ap (λ k. Made k vs) (sym (ctor_same c d e))
made_is c (Pair v w) e = absurd (cc)
