-- Lists at a place.
use Rattle.std.proofs.Common.{◌≡◌, ℕ, suc, ◌+◌, ◌<◌, ◌≤◌, Bool, true, false, ◌&&◌, cond, eqb, ◌-◌, Some, slice_get, List, [], ◌∷◌, ◌++◌, length, take, drop, get_or, refl, sym, ap, ◌∙◌, add-one, drop-cons, arith, inl, inr, ◌⊎◌, ◌||◌}
use Rattle.std.proofs.lemmas.List.{length-append, length-drop, drop-drop}
use Rattle.std.proofs.Math.Seq.{take-append_seam, take-length}
use Rattle.std.specs.List.{list_all, prefix_len}
use Rattle.std.proofs.lemmas.Bool.{eqb-true}
use Rattle.std.proofs.lemmas.Bool.Decides.{eqb_tells}
use Rattle.rs_tokens.specs.Blanks.{begins}

-- one list has one head and one tail
pub same_head : (text x y : List ℕ) (a b : ℕ) → text ≡ a ∷ x → text ≡ b ∷ y → a ≡ b
same_head text x y a b e f = cc

pub same_tail : (text x y : List ℕ) (a b : ℕ) → text ≡ a ∷ x → text ≡ b ∷ y → x ≡ y
same_tail text x y a b e f = cc

pub same_second : (text x y : List ℕ) (a b c d : ℕ) → text ≡ a ∷ (c ∷ x) → text ≡ b ∷ (d ∷ y) → x ≡ y
same_second text x y a b c d e f = cc

pub no_cons : (a : ℕ) (x : List ℕ) → [] ≡ a ∷ x → ⊥
no_cons a x e = cc

pub eqb_unlike : (a b : ℕ) → (a ≡ b → ⊥) → eqb a b ≡ false
eqb_unlike a b h = elim (eqb_tells a b) [ inl same ↦ absurd (h same.1) | inr other ↦ other.0 ]

-- the byte at a place stands before what follows it
pub drop_byte : (text : List ℕ) (at b : ℕ) → at < length text → b ≡ get_or text at 0 → drop at text ≡ b ∷ drop (at + 1) text
drop_byte text at b within is = rw (add-one, drop-cons text at 0) (ap (λ (x : ℕ). x ∷ drop (suc at) text) (sym is))

pub and_true : (a b : Bool) → (a && b) ≡ true → (a ≡ true) × (b ≡ true)
and_true true b h = (refl, h)
and_true false b h = absurd cc

pub or_true : (a b : Bool) → (a || b) ≡ true → (a ≡ true) ⊎ (b ≡ true)
or_true true b h = inl refl
or_true false b h = inr h

-- two bytes at the front
pub begins_true : (text : List ℕ) (a b : ℕ) → begins text a b ≡ true → text ≡ a ∷ (b ∷ drop 2 text)
begins_true [] a b h = absurd cc
begins_true (x ∷ []) a b h = absurd cc
begins_true (x ∷ y ∷ rest) a b h =
    let both = and_true _ _ h in
    let first = eqb-true x a both.0 in
    let second = eqb-true y b both.1 in
    cc

-- a front is what `take` gives at its length
pub front_take : (front back text : List ℕ) → front ++ back ≡ text → take (length front) text ≡ front
front_take front back text e = rw (← e) (take-append_seam front back)

pub front_le : (front back text : List ℕ) → front ++ back ≡ text → length front ≤ length text
front_le front back text e = omega (arith, ap length e, length-append front back)

-- a front whose elements all pass is no longer than the longest such front
pub run_at_least : (p : ℕ → Bool) (front back : List ℕ) → list_all p front ≡ true → length front ≤ prefix_len p (front ++ back)
run_at_least p [] back h = omega arith
run_at_least p (b ∷ front) back h =
    let both = and_true (p b) (list_all p front) h in
    rw both.0 (omega (arith, run_at_least p front back both.1))

pub run_passes : (p : ℕ → Bool) (bytes : List ℕ) → list_all p (take (prefix_len p bytes) bytes) ≡ true
run_passes p [] = refl
run_passes p (b ∷ bytes) =
    let by_first : (q : Bool) → p b ≡ q → list_all p (take (cond q (suc (prefix_len p bytes)) 0) (b ∷ bytes)) ≡ true =
    λ q. elim q as (λ q. p b ≡ q → list_all p (take (cond q (suc (prefix_len p bytes)) 0) (b ∷ bytes)) ≡ true) [
      | true ↦ λ e. rw e (run_passes p bytes)
      | false ↦ λ e. refl
    ] in
    let e : cond (p b) (1 + prefix_len p bytes) 0 ≡ cond (p b) (suc (prefix_len p bytes)) 0 = ap (λ (n : ℕ). cond (p b) n 0) (omega arith) in
    ap (λ (n : ℕ). list_all p (take n (b ∷ bytes))) e ∙ by_first (p b) refl

-- what a slice from a place on is
pub rest_of : {A : Type 0} (k : ℕ) (xs : List A) → take (length xs - k) (drop k xs) ≡ drop k xs
rest_of k xs = ap (λ (n : ℕ). take n (drop k xs)) (sym (length-drop k xs)) ∙ take-length (drop k xs)

-- two bytes at a place
pub begins_at : (text : List ℕ) (at a b : ℕ) → begins (take (length text - at) (drop at text)) a b ≡ true → drop at text ≡ a ∷ (b ∷ drop (at + 2) text)
begins_at text at a b h =
    begins_true (drop at text) a b (ap (λ (t : List ℕ). begins t a b) (sym (rest_of at text)) ∙ h) ∙ ap (λ (t : List ℕ). a ∷ (b ∷ t)) (drop-drop 2 at text)

pub two_within : (text rest : List ℕ) (at a b : ℕ) → drop at text ≡ a ∷ (b ∷ rest) → at + 2 ≤ length text
two_within text rest at a b e = omega (arith, ap length e, length-drop at text)

pub head_of : (text : List ℕ) (b : ℕ) → Some b ≡ slice_get text 0 → text ≡ b ∷ drop 1 text
head_of [] b e = absurd cc
head_of (x ∷ text) b e = let same : b ≡ x = cc in cc

-- the element between two lists
pub get_or_seam : (xs : List ℕ) (b : ℕ) (ys : List ℕ) → get_or (xs ++ (b ∷ ys)) (length xs) 0 ≡ b
get_or_seam [] b ys = refl
get_or_seam (x ∷ xs) b ys = get_or_seam xs b ys
