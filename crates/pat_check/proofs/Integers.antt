-- Integers that a list leaves out.
use Rattle.std.proofs.Common.{◌≡◌, refl, sym, subst, ℕ, ◌+◌, ℤ, pos, ◌+ℤ◌, ◌≤ℤ◌, ◌<ℤ◌, Bool, true, false, not, ◌&&◌, Option, Some, None, List, arith}
use Rattle.std.proofs.lemmas.Int.{ints}
use Rattle.std.specs.Ordering.{int_eq}
use Rattle.std.specs.Prelude.{int_le}
use Rattle.source_kinds.specs.Range.{lowest, highest}
use Rattle.source_kinds.specs.declared.kinds.IntKind.{IntKind}
use Rattle.pat_check.proofs.Tests.{both, int_same}
use Rattle.pat_check.specs.Known.{among}
use Rattle.pat_check.specs.KnownTypes.{AllAmong}
use Rattle.pat_check.specs.Settled.{first_integer, is_past}
use Rattle.pat_check.specs.Typed.{is_integer}

pub at_most_true : (x y : ℤ) → int_le x y ≡ true → x ≤ℤ y
at_most_true x y e = grind (arith, ints)

pub different : (x y : ℤ) → int_eq x y ≡ false → (x ≡ y → ⊥)
different x y e f = grind (arith, ints)

-- the integers from lo up to below hi are among these
abbrev pub BelowAmong : ℤ → ℤ → List ℤ → Type 0
BelowAmong lo hi zs = (y : ℤ) → lo ≤ℤ y → y <ℤ hi → among y zs ≡ true

pub below_none : (lo : ℤ) (zs : List ℤ) → BelowAmong lo (lo +ℤ pos 0) zs
below_none lo zs y a b = absurd (omega (arith, ints))

pub below_more : (lo : ℤ) (i : ℕ) (zs : List ℤ) → BelowAmong lo (lo +ℤ pos i) zs → among (lo +ℤ pos i) zs ≡ true → BelowAmong lo (lo +ℤ pos (i + 1)) zs
below_more lo i zs h e y a b = by_test (int_eq y (lo +ℤ pos i)) refl
  where
    by_test : (t : Bool) → int_eq y (lo +ℤ pos i) ≡ t → among y zs ≡ true
    by_test true f = subst (λ x. among x zs ≡ true) (sym (int_same y (lo +ℤ pos i) f)) e
    by_test false f = h y a (let d = different y (lo +ℤ pos i) f in omega (arith, ints))

not_true : (b : Bool) → not b ≡ true → b ≡ false
not_true true e = absurd (cc)
not_true false e = refl

at_most_false : (x y : ℤ) → int_le x y ≡ false → y <ℤ x
at_most_false x y e = grind (arith, ints)

-- past the greatest integer of the kind, from the least on: that is all
pub below_all : (k : Option IntKind) (hi : ℤ) (zs : List ℤ) → BelowAmong (first_integer k) hi zs → is_past k hi ≡ true → AllAmong k zs
below_all None hi zs h l y f = absurd (cc)
below_all (Some k) hi zs h l y f =
    let g = both (int_le (lowest k) y) (int_le y (highest k)) f in
    let a : lowest k ≤ℤ y = at_most_true (lowest k) y g.0 in
    let b : y ≤ℤ highest k = at_most_true y (highest k) g.1 in
    let c : highest k <ℤ hi = at_most_false hi (highest k) (not_true _ l) in
    h y a (omega (arith, ints))

and_of_le : (a b : Bool) → a ≡ true → b ≡ true → a && b ≡ true
and_of_le true b e f = f
and_of_le false b e f = absurd (cc)

at_least : (x : ℤ) (i : ℕ) → int_le x (x +ℤ pos i) ≡ true
at_least x i = grind (arith, ints)

-- an integer that is not past the greatest is one of the kind
pub nth_fits : (k : Option IntKind) (i : ℕ) → is_past k (first_integer k +ℤ pos i) ≡ false → is_integer k (first_integer k +ℤ pos i) ≡ true
nth_fits None i e = refl
nth_fits (Some k) i e = and_of_le _ _ (at_least (lowest k) i) (not_false _ e)
  where
    not_false : (b : Bool) → not b ≡ false → b ≡ true
    not_false true e = refl
    not_false false e = absurd (cc)
