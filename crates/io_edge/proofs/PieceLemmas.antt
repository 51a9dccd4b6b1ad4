-- What is known of an output after several of its writes.
use Rattle.std.proofs.Common.{◌≡◌, ◌++◌, ◌+◌, ◌-◌, ℕ, List, Option, length, take, drop, subst, sym, ap, ◌∙◌, arith}
use Rattle.std.proofs.lemmas.Grind.{common_steps}
use Rattle.std.proofs.Math.Seq.{take-add}
use Rattle.std.proofs.KnownBytes.{Appends-trans}
use Rattle.std.specs.Io.KnownBytes.{Appends}

-- the rest of a list, as a slice to its end
rest_slice : (bytes : List ℕ) (at : ℕ) → take (length bytes - at) (drop at bytes) ≡ drop at bytes
rest_slice bytes at = grind (arith, common_steps)

-- after the first `at` bytes a piece of the rest was taken
pub Appends-piece : (a b c : Option (List ℕ)) (bytes : List ℕ) (at n : ℕ) → Appends a b (take at bytes)
    → Appends b c (take n (take (length bytes - at) (drop at bytes))) → Appends a c (take (at + n) bytes)
Appends-piece a b c bytes at n before piece =
    subst (Appends a c) (sym (take-add at n bytes ∙ ap (λ rest. take at bytes ++ take n rest) (sym (rest_slice bytes at))))
    (Appends-trans a b c _ _ before piece)
