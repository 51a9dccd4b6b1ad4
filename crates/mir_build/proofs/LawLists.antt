-- Lists: what stands in them, how often, and what texts begin and make.
use Rattle.std.proofs.Common.{◌≡◌, refl, ap, sym, ◌∙◌, subst, ℕ, zero, suc, ◌+◌, ◌≤◌, ◌==◌, Bool, true, false, cond, List, [], ◌∷◌, ◌++◌, map, Some, slice_get, arith}
use Rattle.std.proofs.lemmas.Bool.{eqb-true, eq-eqb}
use Rattle.logic_term.specs.Ty.{Ty}
use Rattle.mir_build.specs.Text.{Line, Puts, Makes, Turns, Leaves, Owns, begun, made}
use Rattle.mir_build.specs.Lowering.{numbers}
use Rattle.mir_build.proofs.Numbers.{count}

pub data Has {A : Type 0} (x : A) : List A → Type 0 where
  here : {xs : List A} → Has x (x ∷ xs)
  there : {y : A} {xs : List A} → Has x xs → Has x (y ∷ xs)

pub has_left : {A : Type 0} {x : A} (xs ys : List A) → Has x xs → Has x (xs ++ ys)
has_left [] ys h = elim h [ ]
has_left (y ∷ xs) ys here = here
has_left (y ∷ xs) ys (there h) = there (has_left xs ys h)

pub has_right : {A : Type 0} {x : A} (xs ys : List A) → Has x ys → Has x (xs ++ ys)
has_right [] ys h = h
has_right (y ∷ xs) ys h = there (has_right xs ys h)

pub has_map : {A B : Type 0} (f : A → B) (x : A) (xs : List A) → Has x xs → Has (f x) (map f xs)
has_map f x xs here = here
has_map f x xs (there h) = there (has_map f x _ h)

pub has_get : {A : Type 0} (xs : List A) (i : ℕ) (x : A) → slice_get xs i ≡ Some x → Has x xs
has_get [] i x e = absurd (cc)
has_get (y ∷ ys) zero x e = let q : y ≡ x = cc in subst (λ z. Has x (z ∷ ys)) (sym q) here
has_get (y ∷ ys) (suc i) x e = there (has_get ys i x e)

-- ---- texts

pub begun-append : (xs ys : List Line) → begun (xs ++ ys) ≡ begun xs ++ begun ys
begun-append [] ys = refl
begun-append (Puts s ∷ xs) ys = begun-append xs ys
begun-append (Makes x t ∷ xs) ys = begun-append xs ys
begun-append (Turns t b ∷ xs) ys = ap (λ bs. b ∷ bs) (begun-append xs ys)
begun-append (Leaves t ∷ xs) ys = begun-append xs ys
begun-append (Owns l zs ∷ xs) ys = begun-append xs ys

pub made-append : (xs ys : List Line) → made (xs ++ ys) ≡ made xs ++ made ys
made-append [] ys = refl
made-append (Puts s ∷ xs) ys = made-append xs ys
made-append (Makes x t ∷ xs) ys = ap (λ ms. (x, t) ∷ ms) (made-append xs ys)
made-append (Turns t b ∷ xs) ys = made-append xs ys
made-append (Leaves t ∷ xs) ys = made-append xs ys
made-append (Owns l zs ∷ xs) ys = made-append xs ys

-- ---- how often

pub count-append : (x : ℕ) (xs ys : List ℕ) → count x (xs ++ ys) ≡ count x xs + count x ys
count-append x [] ys = omega arith
count-append x (y ∷ xs) ys = omega (arith, count-append x xs ys)

numbers-append : (xs ys : List (ℕ × Ty)) → numbers (xs ++ ys) ≡ numbers xs ++ numbers ys
numbers-append [] ys = refl
numbers-append (x ∷ xs) ys = ap (λ ms. x.0 ∷ ms) (numbers-append xs ys)

-- how often a text makes a local
abbrev pub makings : ℕ → List Line → ℕ
makings x xs = count x (numbers (made xs))

pub makings-append : (x : ℕ) (xs ys : List Line) → makings x (xs ++ ys) ≡ makings x xs + makings x ys
makings-append x xs ys = ap (λ ms. count x (numbers ms)) (made-append xs ys) ∙ ap (count x) (numbers-append (made xs) (made ys)) ∙ count-append x (numbers (made xs)) (numbers (made ys))

pub count_self : (x : ℕ) (xs : List ℕ) → 1 ≤ count x (x ∷ xs)
count_self x xs = let e : (x == x) ≡ true = eq-eqb x x refl in subst (λ t. 1 ≤ cond t 1 0 + count x xs) (sym e) (omega arith)

pub has_count : (x : ℕ) (xs : List ℕ) → Has x xs → 1 ≤ count x xs
has_count x xs here = count_self x _
has_count x xs (there {y = y} {xs = ys} h) = omega (arith, has_count x ys h)

-- what stands in the rest of a list without repetitions is not its first
pub differs : (x y : ℕ) (ys : List ℕ) → count x (y ∷ ys) ≤ 1 → 1 ≤ count x ys → (y == x) ≡ false
differs x y ys h g = by_test (y == x) refl
  where
    by_test : (t : Bool) → (y == x) ≡ t → (y == x) ≡ false
    by_test true e = let q : y ≡ x = eqb-true y x e in absurd (at_same (subst (λ z. count x (z ∷ ys) ≤ 1) q h))
      where
        at_same : count x (x ∷ ys) ≤ 1 → ⊥
        at_same k = let e : (x == x) ≡ true = eq-eqb x x refl in let k' : cond true 1 0 + count x ys ≤ 1 = subst (λ t. cond t 1 0 + count x ys ≤ 1) e k in absurd (omega arith)
    by_test false e = e

pub fewer : (x y : ℕ) (ys : List ℕ) → count x (y ∷ ys) ≤ 1 → count x ys ≤ 1
fewer x y ys h = omega arith
