-- What a lossless cast keeps.
use Rattle.std.proofs.Common.{◌≡◌, ℤ, int_le, Bool, true, false, ◌&&◌, refl, arith}
use Rattle.std.proofs.lemmas.Int.{ints}
use Rattle.source_kinds.specs.declared.kinds.IntKind.{IntKind}
use Rattle.source_kinds.specs.Range.{lowest, highest, fits, widens}

int_le_trans : (a b c : ℤ) → int_le a b ≡ true → int_le b c ≡ true → int_le a c ≡ true
int_le_trans a b c h k = grind (arith, ints)

both : (a b : Bool) → (a && b) ≡ true → (a ≡ true) × (b ≡ true)
both true b h = (refl, h)
both false b h = absurd (cc)

-- an integer of the first type is one of the second
pub fits_wider : (from to : IntKind) (z : ℤ) → widens from to ≡ true → fits from z ≡ true → fits to z ≡ true
fits_wider from to z w f =
    let wide = both (int_le (lowest to) (lowest from)) (int_le (highest from) (highest to)) w in
    let fit = both (int_le (lowest from) z) (int_le z (highest from)) f in
    together (int_le (lowest to) z) (int_le z (highest to)) (int_le_trans (lowest to) (lowest from) z wide.0 fit.0) (int_le_trans z (highest from) (highest to) fit.1 wide.1)
  where
    together : (a b : Bool) → a ≡ true → b ≡ true → (a && b) ≡ true
    together true b h k = k
    together false b h k = absurd (cc)
