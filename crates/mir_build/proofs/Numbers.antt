-- How many blocks a text begins at a label, how many in all, and how many locals it makes.
use Rattle.std.proofs.Common.{◌≡◌, refl, ap, ℕ, zero, suc, ◌+◌, ◌<◌, ◌≤◌, ◌==◌, Bool, true, false, cond, List, [], ◌∷◌, ◌++◌, map, length, eqb-true, add-zero, add-suc, arith}
use Rattle.std.proofs.lemmas.Bool.Decides.{nat_tests}
use Rattle.text_core.specs.declared.span.Span.{Span}
use Rattle.mir_build.specs.Text.{Title, Line, Puts, Makes, Turns, Leaves, Owns, begun, made}
use Rattle.mir_build.specs.Lowering.{dies_in}

-- ---- labels

-- how often x stands in the list
abbrev pub count : ℕ → List ℕ → ℕ
count x [] = 0
count x (y ∷ ys) = cond (x == y) 1 0 + count x ys

abbrev pub labels_begun : List Line → List ℕ
labels_begun xs = map (λ (b : Title). b.label.0) (begun xs)

-- 1 where x is y
abbrev pub is : ℕ → ℕ → ℕ
is x y = cond (x == y) 1 0

-- 1 where x is one of the n numbers from l on
pub within : ℕ → ℕ → ℕ → ℕ
within l zero x = 0
within l (suc n) x = is x (l + n) + within l n x

pub within_split : (l a b m x : ℕ) → m ≡ l + a → within l (a + b) x ≡ within l a x + within m b x
unfolding within
within_split l a zero m x e = let q : a + 0 ≡ a = add-zero a in rw q (omega arith)
within_split l a (suc b) m x e =
    let s = within_split l a b m x e in
    rw add-suc (let q : l + (a + b) ≡ m + b = omega arith in rw q (omega arith))

pub within_one : (l x : ℕ) → within l 1 x ≡ is x l
unfolding within
within_one l x = let q : l + 0 ≡ l = add-zero l in rw q (omega arith)

pub within_two : (l x : ℕ) → within l 2 x ≡ is x l + is x (l + 1)
unfolding within
within_two l x = let q : l + 0 ≡ l = add-zero l in rw q (omega arith)

pub within_three : (l x : ℕ) → within l 3 x ≡ is x l + is x (l + 1) + is x (l + 2)
unfolding within
within_three l x = let q : l + 0 ≡ l = add-zero l in rw q (omega arith)

is_above : (x y : ℕ) → y < x → is x y ≡ 0
is_above x y h = grind (arith, nat_tests)

within_above : (l n x : ℕ) → l + n ≤ x → within l n x ≡ 0
unfolding within
within_above l zero x h = refl
within_above l (suc n) x h = omega (arith, is_above x (l + n) (omega arith), within_above l n x (omega arith))

pub within_zero : (l x : ℕ) → 0 ≡ within l 0 x
unfolding within
within_zero l x = refl

within_next : (b : Bool) (l n x : ℕ) → (x == (l + n)) ≡ b → within l n x ≤ 1 → within l (suc n) x ≤ 1
unfolding within
within_next false l n x e h = rw e (omega (arith, h))
within_next true l n x e h = let q : x ≡ l + n = eqb-true x (l + n) e in rw e (omega (arith, within_above l n x (omega arith)))

pub within_once : (l n x : ℕ) → within l n x ≤ 1
within_once l zero x = omega (arith, within_zero l x)
within_once l (suc n) x = within_next (x == (l + n)) l n x refl (within_once l n x)

-- how many blocks a text begins at the label x
abbrev pub begins : ℕ → List Line → ℕ
begins x [] = 0
begins x (Puts s ∷ xs) = begins x xs
begins x (Makes y ty ∷ xs) = begins x xs
begins x (Turns t b ∷ xs) = is x b.label.0 + begins x xs
begins x (Leaves t ∷ xs) = begins x xs
begins x (Owns l ys ∷ xs) = begins x xs

pub begins-append : (x : ℕ) (xs ys : List Line) → begins x (xs ++ ys) ≡ begins x xs + begins x ys
begins-append x [] ys = omega arith
begins-append x (Puts s ∷ xs) ys = begins-append x xs ys
begins-append x (Makes y ty ∷ xs) ys = begins-append x xs ys
begins-append x (Turns t b ∷ xs) ys = omega (arith, begins-append x xs ys)
begins-append x (Leaves t ∷ xs) ys = begins-append x xs ys
begins-append x (Owns l ns ∷ xs) ys = begins-append x xs ys

pub count_begun : (l : ℕ) (xs : List Line) → count l (labels_begun xs) ≡ begins l xs
count_begun l [] = refl
count_begun l (Puts s ∷ xs) = count_begun l xs
count_begun l (Makes x ty ∷ xs) = count_begun l xs
count_begun l (Turns t b ∷ xs) = ap (λ n. is l b.label.0 + n) (count_begun l xs)
count_begun l (Leaves t ∷ xs) = count_begun l xs
count_begun l (Owns m ys ∷ xs) = count_begun l xs

-- ---- how many blocks

abbrev pub turns : List Line → ℕ
turns xs = length (begun xs)

pub turns-append : (xs ys : List Line) → turns (xs ++ ys) ≡ turns xs + turns ys
turns-append [] ys = omega arith
turns-append (Puts s ∷ xs) ys = turns-append xs ys
turns-append (Makes y ty ∷ xs) ys = turns-append xs ys
turns-append (Turns t b ∷ xs) ys = omega (arith, turns-append xs ys)
turns-append (Leaves t ∷ xs) ys = turns-append xs ys
turns-append (Owns l ns ∷ xs) ys = turns-append xs ys

pub no_turns : (outer : Bool) (s : Span) (t : ℕ) → turns (dies_in outer s t) ≡ 0
no_turns true s t = refl
no_turns false s t = refl

-- ---- how many locals

abbrev pub makings : List Line → ℕ
makings xs = length (made xs)

pub makings-append : (xs ys : List Line) → makings (xs ++ ys) ≡ makings xs + makings ys
makings-append [] ys = omega arith
makings-append (Puts s ∷ xs) ys = makings-append xs ys
makings-append (Makes y ty ∷ xs) ys = omega (arith, makings-append xs ys)
makings-append (Turns t b ∷ xs) ys = makings-append xs ys
makings-append (Leaves t ∷ xs) ys = makings-append xs ys
makings-append (Owns l ns ∷ xs) ys = makings-append xs ys
