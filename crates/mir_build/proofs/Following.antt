-- Numbers that follow one another, and locals that a text makes in such an order.
use Rattle.std.proofs.Common.{◌≡◌, refl, ap, sym, ◌∙◌, subst, ℕ, suc, ◌+◌, List, [], ◌∷◌, ◌++◌, length, arith}
use Rattle.std.specs.List.{range_with_len}
use Rattle.text_core.specs.declared.span.Span.{Span}
use Rattle.logic_term.specs.declared.kinds.Label.{Label}
use Rattle.logic_term.specs.Ty.{Ty}
use Rattle.source_kinds.specs.declared.kinds.LazyOp.{LazyOp}
use Rattle.source_kinds.specs.declared.kinds.LazyOp.TheVariants.{And, Or}
use Rattle.mir_build.specs.Text.{Line, Puts, Makes, Turns, Leaves, Owns, made}
use Rattle.mir_build.specs.Lowering.{Around, numbers, paired, lazily}
use Rattle.mir_build.proofs.Numbers.{count, makings, within, within_zero, within_split, within_one}
use Rattle.mir_build.proofs.Order.{InOrder}

-- the numbers are n, n + 1 and so on
abbrev pub From : ℕ → List ℕ → Type 0
From n [] = Unit {0}
From n (x ∷ xs) = (x ≡ n) × From (n + 1) xs

same_start : (n m : ℕ) (xs : List ℕ) → n ≡ m → From n xs → From m xs
same_start n m xs q h = subst (λ k. From k xs) q h

pub from_left : (n : ℕ) (xs ys : List ℕ) → From n (xs ++ ys) → From n xs
from_left n [] ys h = tt
from_left n (x ∷ xs) ys h = (h.0, from_left (n + 1) xs ys h.1)

pub from_right : (n m : ℕ) (xs ys : List ℕ) → m ≡ n + length xs → From n (xs ++ ys) → From m ys
from_right n m [] ys q h = same_start n m ys (omega (arith, q)) h
from_right n m (x ∷ xs) ys q h = from_right (n + 1) m xs ys (omega (arith, q)) h.1

pub from_both : (n m : ℕ) (xs ys : List ℕ) → m ≡ n + length xs → From n xs → From m ys → From n (xs ++ ys)
from_both n m [] ys q h k = same_start m n ys (omega (arith, q)) k
from_both n m (x ∷ xs) ys q h k = (h.0, from_both (n + 1) m xs ys (omega (arith, q)) h.1 k)

-- the two labels of a row, and those behind them
pub two : (n x y : ℕ) (ns : List ℕ) → From n (x ∷ y ∷ ns) → (x ≡ n) × (y ≡ n + 1) × From (n + 2) ns
two n x y ns h = (h.0, h.1.0, same_start (n + 1 + 1) (n + 2) ns (omega arith) h.1.1)

pub then_two : (n : ℕ) (ns : List ℕ) → From (n + 2) ns → From n (n ∷ (n + 1) ∷ ns)
then_two n ns h = (refl, (refl, same_start (n + 2) (n + 1 + 1) ns (omega arith) h))

-- the three labels of a row, and those behind them
pub three : (n x y z : ℕ) (ns : List ℕ) → From n (x ∷ y ∷ z ∷ ns) → (x ≡ n) × (y ≡ n + 1) × (z ≡ n + 2) × From (n + 3) ns
three n x y z ns h = (h.0, h.1.0, omega (arith, h.1.1.0), same_start (n + 1 + 1 + 1) (n + 3) ns (omega arith) h.1.1.1)

pub then_three : (n : ℕ) (ns : List ℕ) → From (n + 3) ns → From n (n ∷ (n + 1) ∷ (n + 2) ∷ ns)
then_three n ns h = (refl, (refl, (omega arith, same_start (n + 3) (n + 1 + 1 + 1) ns (omega arith) h)))

-- ---- ranges

abbrev first_or : ℕ → List ℕ → ℕ
first_or n [] = n
first_or n (x ∷ xs) = x

abbrev others : List ℕ → List ℕ
others [] = []
others (x ∷ xs) = xs

pub from_range : (n : ℕ) (xs : List ℕ) → xs ≡ range_with_len n (length xs) → From n xs
from_range n [] h = tt
from_range n (x ∷ xs) h = (ap (first_or n) h, from_range (n + 1) xs (ap others h))

pub range_from : (n : ℕ) (xs : List ℕ) → From n xs → xs ≡ range_with_len n (length xs)
range_from n [] h = refl
range_from n (x ∷ xs) h = ap (λ y. y ∷ xs) h.0 ∙ ap (λ ys. n ∷ ys) (range_from (n + 1) xs h.1)

pub from_count : (n : ℕ) (xs : List ℕ) (x : ℕ) → From n xs → count x xs ≡ within n (length xs) x
from_count n [] x h = within_zero n x
from_count n (y ∷ xs) x h =
    let e : suc (length xs) ≡ 1 + length xs = omega arith in
    let q : count x (n ∷ xs) ≡ within n (1 + length xs) x = omega (arith, from_count (n + 1) xs x h.1, within_split n 1 (length xs) (n + 1) x refl, within_one n x) in
    ap (λ z. count x (z ∷ xs)) h.0 ∙ q ∙ ap (λ k. within n k x) (sym e)

-- ---- locals

pub in_order_from : (n : ℕ) (xs : List Line) → From n (numbers (made xs)) → InOrder n xs
in_order_from n [] h = tt
in_order_from n (Puts s ∷ xs) h = in_order_from n xs h
in_order_from n (Makes x ty ∷ xs) h = (h.0, in_order_from (n + 1) xs h.1)
in_order_from n (Turns t b ∷ xs) h = in_order_from n xs h
in_order_from n (Leaves t ∷ xs) h = in_order_from n xs h
in_order_from n (Owns l ys ∷ xs) h = in_order_from n xs h

-- behind the parameters
pub behind_paired : (n m : ℕ) (ts : List Ty) (ms : List (ℕ × Ty)) → m ≡ n + length ts → From n (numbers (paired n ts ++ ms)) → From m (numbers ms)
behind_paired n m [] ms q h = same_start n m (numbers ms) (omega (arith, q)) h
behind_paired n m (t ∷ ts) ms q h = behind_paired (n + 1) m ts ms (omega (arith, q)) h.1

pub paired_from : (n : ℕ) (ts : List Ty) → From n (numbers (paired n ts))
paired_from n [] = tt
paired_from n (t ∷ ts) = (refl, paired_from (n + 1) ts)

pub order_left : (n : ℕ) (xs ys : List Line) → InOrder n (xs ++ ys) → InOrder n xs
order_left n [] ys h = tt
order_left n (Puts s ∷ xs) ys h = order_left n xs ys h
order_left n (Makes x ty ∷ xs) ys h = (h.0, order_left (n + 1) xs ys h.1)
order_left n (Turns t b ∷ xs) ys h = order_left n xs ys h
order_left n (Leaves t ∷ xs) ys h = order_left n xs ys h
order_left n (Owns l ns ∷ xs) ys h = order_left n xs ys h

pub order_right : (n m : ℕ) (xs ys : List Line) → m ≡ n + makings xs → InOrder n (xs ++ ys) → InOrder m ys
order_right n m [] ys q h = let e : n ≡ m = omega (arith, q) in subst (λ k. InOrder k ys) e h
order_right n m (Puts s ∷ xs) ys q h = order_right n m xs ys q h
order_right n m (Makes x ty ∷ xs) ys q h = order_right (n + 1) m xs ys (omega (arith, q)) h.1
order_right n m (Turns t b ∷ xs) ys q h = order_right n m xs ys q h
order_right n m (Leaves t ∷ xs) ys q h = order_right n m xs ys q h
order_right n m (Owns l ns ∷ xs) ys q h = order_right n m xs ys q h

-- the second operand of `&&` or `||`
pub order_lazy : (op : LazyOp) (c : Around) (s : Span) (t d n : ℕ) (yes' no' after : Label) (xs : List Line) → InOrder n (lazily op c s t d yes' no' after xs) → InOrder n xs
order_lazy And c s t d n yes' no' after xs h = order_left n xs _ h
order_lazy Or c s t d n yes' no' after xs h = order_left n xs _ h
