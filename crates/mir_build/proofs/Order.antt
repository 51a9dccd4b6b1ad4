-- Texts that make their locals in order.
use Rattle.std.proofs.Common.{◌≡◌, refl, ap, ◌∙◌, ℕ, ◌+◌, List, [], ◌∷◌, ◌++◌, subst, arith}
use Rattle.std.specs.List.{range_with_len}
use Rattle.mir_build.specs.Text.{Line, Puts, Makes, Turns, Leaves, Owns, made}
use Rattle.mir_build.specs.Lowering.{numbers}
use Rattle.mir_build.proofs.Numbers.{makings}

-- the locals that the text makes are n, n + 1 and so on
abbrev pub InOrder : ℕ → List Line → Type 0
InOrder n [] = Unit {0}
InOrder n (Puts s ∷ xs) = InOrder n xs
InOrder n (Makes x ty ∷ xs) = (x ≡ n) × InOrder (n + 1) xs
InOrder n (Turns t b ∷ xs) = InOrder n xs
InOrder n (Leaves t ∷ xs) = InOrder n xs
InOrder n (Owns l ys ∷ xs) = InOrder n xs

same_order : (m n : ℕ) (xs : List Line) → m ≡ n → InOrder m xs → InOrder n xs
same_order m n xs q h = subst (λ k. InOrder k xs) q h

pub then_in_order : (n m : ℕ) (xs ys : List Line) → m ≡ n + makings xs → InOrder n xs → InOrder m ys → InOrder n (xs ++ ys)
then_in_order n m [] ys q h k = same_order m n ys (omega (arith, q)) k
then_in_order n m (Puts s ∷ xs) ys q h k = then_in_order n m xs ys q h k
then_in_order n m (Makes x ty ∷ xs) ys q h k = (h.0, then_in_order (n + 1) m xs ys (omega (arith, q)) h.1 k)
then_in_order n m (Turns t b ∷ xs) ys q h k = then_in_order n m xs ys q h k
then_in_order n m (Leaves t ∷ xs) ys q h k = then_in_order n m xs ys q h k
then_in_order n m (Owns l ns ∷ xs) ys q h k = then_in_order n m xs ys q h k

-- the numbers of the locals
pub numbers_in_order : (n : ℕ) (xs : List Line) → InOrder n xs → numbers (made xs) ≡ range_with_len n (makings xs)
numbers_in_order n [] h = refl
numbers_in_order n (Puts s ∷ xs) h = numbers_in_order n xs h
numbers_in_order n (Makes x ty ∷ xs) h = ap (λ y. y ∷ numbers (made xs)) h.0 ∙ ap (λ ys. n ∷ ys) (numbers_in_order (n + 1) xs h.1)
numbers_in_order n (Turns t b ∷ xs) h = numbers_in_order n xs h
numbers_in_order n (Leaves t ∷ xs) h = numbers_in_order n xs h
numbers_in_order n (Owns l ys ∷ xs) h = numbers_in_order n xs h
