-- All integers of a type are among those of a list, or one is not.
use Rattle.std.proofs.Common.{◌≡◌, refl, sym, subst, ℕ, zero, suc, ℤ, pos, ◌+ℤ◌, ◌≤ℤ◌, ◌<ℤ◌, Bool, true, false, ◌&&◌, Some, List, arith}
use Rattle.std.proofs.lemmas.Int.{ints}
use Rattle.std.specs.Ordering.{int_eq}
use Rattle.std.specs.Prelude.{int_le}
use Rattle.source_kinds.specs.Range.{fits, lowest, highest}
use Rattle.source_kinds.specs.declared.kinds.IntKind.{IntKind}
use Rattle.source_kinds.specs.declared.kinds.IntKind.TheVariants.{I8, I16, I32, I64, Isize, U8, U16, U32, U64, Usize}
use Rattle.pat_check.proofs.Integers.{at_most_true, different}
use Rattle.pat_check.proofs.Tests.{both, and_of, int_same}
use Rattle.pat_check.specs.Flat.{kind_size, run_among, all_among}
use Rattle.pat_check.specs.Known.{among}
use Rattle.pat_check.specs.KnownTypes.{SomeLeft, AllAmong}

ends_meet : (k : IntKind) → lowest k +ℤ pos (kind_size k) ≡ highest k +ℤ pos 1
unfolding kind_size
ends_meet I8 = refl
ends_meet I16 = refl
ends_meet I32 = refl
ends_meet I64 = refl
ends_meet Isize = refl
ends_meet U8 = refl
ends_meet U16 = refl
ends_meet U32 = refl
ends_meet U64 = refl
ends_meet Usize = refl

pub lowest_fits : (k : IntKind) → fits k (lowest k) ≡ true
lowest_fits I8 = refl
lowest_fits I16 = refl
lowest_fits I32 = refl
lowest_fits I64 = refl
lowest_fits Isize = refl
lowest_fits U8 = refl
lowest_fits U16 = refl
lowest_fits U32 = refl
lowest_fits U64 = refl
lowest_fits Usize = refl

-- one of the run is not among these
abbrev LeftOfRun : ℕ → ℤ → List ℤ → Type 0
LeftOfRun n y zs = (x : ℤ) × (y ≤ℤ x) × (x <ℤ (y +ℤ pos n)) × (among x zs ≡ false)

left_of_more : (n : ℕ) (y : ℤ) (zs : List ℤ) → LeftOfRun n (y +ℤ pos 1) zs → LeftOfRun (suc n) y zs
left_of_more n y zs (x, a, b, e) = (x, omega (arith, ints), omega (arith, ints), e)

left_of_first : (n : ℕ) (y : ℤ) (zs : List ℤ) → among y zs ≡ false → LeftOfRun (suc n) y zs
left_of_first n y zs e = (y, omega (arith, ints), omega (arith, ints), e)

run_left : (n : ℕ) (y : ℤ) (zs : List ℤ) → run_among n y zs ≡ false → LeftOfRun n y zs
unfolding run_among
run_left zero y zs e = absurd (cc)
run_left (suc n) y zs e = by_first (run_left n (y +ℤ pos 1) zs) (among y zs) refl e
  where
    by_first : (run_among n (y +ℤ pos 1) zs ≡ false → LeftOfRun n (y +ℤ pos 1) zs) → (b : Bool) → among y zs ≡ b → b && run_among n (y +ℤ pos 1) zs ≡ false
        → LeftOfRun (suc n) y zs
    by_first more true f g = left_of_more n y zs (more g)
    by_first more false f g = left_of_first n y zs f

run_all : (n : ℕ) (y : ℤ) (zs : List ℤ) → run_among n y zs ≡ true → (x : ℤ) → y ≤ℤ x → x <ℤ (y +ℤ pos n) → among x zs ≡ true
unfolding run_among
run_all zero y zs e x a b = absurd (omega (arith, ints))
run_all (suc n) y zs e x a b = by_test (run_all n (y +ℤ pos 1) zs (both (among y zs) _ e).1 x) (int_eq x y) refl
  where
    by_test : ((y +ℤ pos 1) ≤ℤ x → x <ℤ ((y +ℤ pos 1) +ℤ pos n) → among x zs ≡ true) → (t : Bool) → int_eq x y ≡ t → among x zs ≡ true
    by_test more true f = subst (λ u. among u zs ≡ true) (sym (int_same x y f)) (both (among y zs) _ e).0
    by_test more false f = let d = different x y f in more (omega (arith, ints)) (omega (arith, ints))

at_most : (x y : ℤ) → x ≤ℤ y → int_le x y ≡ true
at_most x y e = grind (arith, ints)

fits_between : (k : IntKind) (x : ℤ) → lowest k ≤ℤ x → x <ℤ (lowest k +ℤ pos (kind_size k)) → fits k x ≡ true
fits_between k x a b = let m = ends_meet k in and_of _ _ (at_most (lowest k) x a) (at_most x (highest k) (omega (arith, ints)))

pub all_are_among : (k : IntKind) (zs : List ℤ) → all_among k zs ≡ true → AllAmong (Some k) zs
unfolding all_among
all_are_among k zs e x f =
    let m = ends_meet k in
    let g = both (int_le (lowest k) x) (int_le x (highest k)) f in
    let a : lowest k ≤ℤ x = at_most_true (lowest k) x g.0 in
    let b : x ≤ℤ highest k = at_most_true x (highest k) g.1 in
    run_all (kind_size k) (lowest k) zs e x a (omega (arith, ints))

pub some_is_left : (k : IntKind) (zs : List ℤ) → all_among k zs ≡ false → SomeLeft (Some k) zs
unfolding all_among
some_is_left k zs e = let l = run_left (kind_size k) (lowest k) zs e in (l.0, fits_between k l.0 l.1 l.2, l.3)
