-- Elements of lists, and of their fronts and rests.
use Rattle.std.proofs.Common.{◌≡◌, ◌∙◌, ◌⊎◌, inl, inr, refl, sym, ap, subst, eq-eqb, true≢false, ℕ, zero, suc, ◌+◌, ◌<◌, ◌==◌, Bool, true, false, cond, List, [], ◌∷◌, ◌++◌, length, map, take, drop, Some, None, arith}
use Rattle.std.proofs.lemmas.Bool.{eqb-true}
use Rattle.std.proofs.lemmas.Option.{same_Some}
use Rattle.std.specs.Prelude.{slice_get}
use Rattle.logic_term.specs.declared.kinds.Label.{Label}
use Rattle.mir_ir.specs.declared.body.Block.{Block}
use Rattle.mir_ir.specs.Body.{block_in}
use Rattle.mir_machine.specs.Good.{Each}

pub decide : (m n : ℕ) → (m ≡ n) ⊎ (m ≡ n → ⊥)
decide m n = by_test (m == n) refl
  where
    by_test : (t : Bool) → (m == n) ≡ t → (m ≡ n) ⊎ (m ≡ n → ⊥)
    by_test true e = inl (eqb-true m n e)
    by_test false e = inr (λ q. true≢false (sym (eq-eqb m n q) ∙ e))

-- what is so of each element, by its place
pub each_of : {A : Type 0} (P : A → Type 0) (xs : List A) → ((i : ℕ) (x : A) → slice_get xs i ≡ Some x → P x) → Each P xs
each_of P [] h = tt
each_of P (x ∷ xs) h = (h 0 x refl, each_of P xs (λ i y e. h (suc i) y e))

pub drop_get : {A : Type 0} (xs : List A) (i : ℕ) (x : A) → slice_get xs i ≡ Some x → drop i xs ≡ x ∷ drop (i + 1) xs
drop_get [] i x e = absurd (cc)
drop_get (y ∷ xs) zero x e = let same : y ≡ x = cc in ap (λ z. z ∷ xs) same
drop_get (y ∷ xs) (suc i) x e = subst (λ n. drop (suc i) (y ∷ xs) ≡ x ∷ drop n (y ∷ xs)) (next_suc i) (drop_get xs i x e)
  where
    next_suc : (i : ℕ) → suc (i + 1) ≡ suc i + 1
    next_suc i = omega arith

pub drop_none : {A : Type 0} (xs : List A) (i : ℕ) → slice_get xs i ≡ None → drop i xs ≡ []
drop_none [] zero e = refl
drop_none [] (suc i) e = refl
drop_none (y ∷ xs) zero e = absurd (cc)
drop_none (y ∷ xs) (suc i) e = drop_none xs i e

pub same_head : {A : Type 0} {x y : A} {xs ys : List A} → x ∷ xs ≡ y ∷ ys → x ≡ y
same_head e = cc

pub same_rest : {A : Type 0} {x y : A} {xs ys : List A} → x ∷ xs ≡ y ∷ ys → xs ≡ ys
same_rest e = cc

pub get_first : {A : Type 0} (xs : List A) (i : ℕ) → i < length xs → (x : A) × (slice_get xs i ≡ Some x)
get_first [] i h = absurd (omega arith)
get_first (x ∷ xs) zero h = (x, refl)
get_first (x ∷ xs) (suc i) h = get_first xs i (omega arith)

pub get_taken : {A : Type 0} (xs : List A) (p n : ℕ) (x : A) → slice_get (take p xs) n ≡ Some x → slice_get xs n ≡ Some x
get_taken [] zero n x e = absurd (cc)
get_taken [] (suc p) n x e = absurd (cc)
get_taken (y ∷ xs) zero n x e = absurd (cc)
get_taken (y ∷ xs) (suc p) zero x e = e
get_taken (y ∷ xs) (suc p) (suc n) x e = get_taken xs p n x e

pub get_behind : {A : Type 0} (xs : List A) (n : ℕ) (x : A) → slice_get (drop 1 xs) n ≡ Some x → slice_get xs (suc n) ≡ Some x
get_behind [] n x e = absurd (cc)
get_behind (y ∷ xs) n x e = e

pub get_append : {A : Type 0} (xs ys : List A) (n : ℕ) (x : A) → slice_get xs n ≡ Some x → slice_get (xs ++ ys) n ≡ Some x
get_append [] ys n x e = absurd (cc)
get_append (z ∷ xs) ys zero x e = e
get_append (z ∷ xs) ys (suc n) x e = get_append xs ys n x e

pub length_map : {A B : Type 0} (f : A → B) (xs : List A) → length (map f xs) ≡ length xs
length_map f [] = refl
length_map f (x ∷ xs) = ap suc (length_map f xs)

-- the block of a label stands somewhere
pub found_block : (bs : List (Label × Block)) (l : Label) (k : Block) → block_in bs l ≡ Some k → (i : ℕ) × (m : Label) × (slice_get bs i ≡ Some (m, k))
found_block [] l k e = absurd (let n : None ≡ Some k = e in cc)
found_block (b ∷ bs) l k e = here (b.0.0 == l.0) e (found_block bs l k)
  where
    Found : List (Label × Block) → Type 0
    Found xs = (i : ℕ) × (m : Label) × (slice_get xs i ≡ Some (m, k))

    here : (same : Bool) → cond same (Some b.1) (block_in bs l) ≡ Some k → (block_in bs l ≡ Some k → Found bs) → Found (b ∷ bs)
    here true e rest = (0, b.0, ap (λ (x : Block). Some (b.0, x)) (same_Some _ _ e))
    here false e rest = let f = rest e in (suc f.0, f.1, f.2)
