-- One step of a walk over a term that keeps its own stack.
use Rattle.std.proofs.Common.{◌≡◌, ℕ, zero, suc, ◌+◌, ◌≤◌, ◌<◌, length, ◌||◌, ◌&&◌, not, max, Bool, true, false, List, [], ◌∷◌, ◌++◌, map, reverse, refl, sym, ◌∙◌, ap, arith}
use Rattle.std.proofs.lemmas.List.{reverse-append, map-append}
use Rattle.std.specs.Borrow.{Bor}
use Rattle.std.specs.Prelude.{get_or}
use Rattle.logic_term.specs.Simplified.{nth_term}
use Rattle.logic_term.specs.Subst.{above, all_above}
use Rattle.logic_term.specs.Term.{Term, Terms, var, lit, truth, apply, bind, no_terms, and_term}
use Rattle.logic_term.specs.TermView.{terms_of}
use Rattle.logic_term.specs.Walk.{listed, parts, to_do, weight, weights, above_top, is_name, is_bound_by}
use Rattle.text_core.specs.declared.name.Name.{Name}
use Rattle.logic_term.specs.Free.{free, free_in_some}

pub pushed : {A B : Type 0} (f : A → B) (xs : List A) (x : A) → reverse (map f (xs ++ x ∷ [])) ≡ f x ∷ reverse (map f xs)
pushed f xs x = ap reverse (map-append f xs (x ∷ [])) ∙ reverse-append (map f xs) (f x ∷ [])

pub terms_listed : (ts : Terms) → terms_of (listed ts) ≡ ts
terms_listed no_terms = refl
terms_listed (and_term t ts) = ap (λ us. and_term t us) (terms_listed ts)

pub listed_terms : (ts : List Term) → listed (terms_of ts) ≡ ts
listed_terms [] = refl
listed_terms (t ∷ ts) = ap (λ us. t ∷ us) (listed_terms ts)

-- ---- the term of a number

pub nth_there : (ts : List Term) (n : ℕ) (t : Term) → t ≡ get_or ts n t → n < length ts → nth_term (terms_of ts) n ≡ t
nth_there [] n t e l = absurd (omega arith)
nth_there (t ∷ ts) zero u e l = sym e
nth_there (t ∷ ts) (suc n) u e l = nth_there ts n u e (omega arith)

pub nth_gone : (ts : List Term) (n : ℕ) → length ts ≤ n → nth_term (terms_of ts) n ≡ truth false
nth_gone [] n l = refl
nth_gone (t ∷ ts) zero l = absurd (omega arith)
nth_gone (t ∷ ts) (suc n) l = nth_gone ts n (omega arith)

-- ---- the walk of `above`

above_both : (xs ys : List Term) → all_above (terms_of (xs ++ ys)) ≡ max (all_above (terms_of xs)) (all_above (terms_of ys))
above_both [] ys = omega arith
above_both (x ∷ xs) ys = let e = above_both xs ys in omega (arith, e)

above_parts : (t : Term) → above t ≡ max (above_top t) (all_above (terms_of (parts t)))
above_parts (var x) = omega arith
above_parts (lit z s) = omega arith
above_parts (truth b) = omega arith
above_parts (apply op ts) = rw (terms_listed ts) (omega arith)
above_parts (bind q x s t) = omega arith

pub weights_both : (xs ys : List Term) → weights (terms_of (xs ++ ys)) ≡ weights (terms_of xs) + weights (terms_of ys)
weights_both [] ys = omega arith
weights_both (x ∷ xs) ys = let e = weights_both xs ys in omega (arith, e)

pub weights_last : (ts : List Term) (t : Term) → weights (terms_of (ts ++ t ∷ [])) ≡ weights (terms_of ts) + weight t
weights_last ts t = let e = weights_both ts (t ∷ []) in omega (arith, e)

pub parts_lighter : (t : Term) → weights (terms_of (parts t)) < weight t
parts_lighter (var x) = omega arith
parts_lighter (lit z s) = omega arith
parts_lighter (truth b) = omega arith
parts_lighter (apply op ts) = rw (terms_listed ts) (omega arith)
parts_lighter (bind q x s t) = omega arith

popped : (old new : List (Bor Term)) (t : Bor Term) → old ≡ new ++ t ∷ [] → to_do old ≡ t.now ∷ to_do new
popped old new t e = ap to_do e ∙ pushed (λ t. t.now) new t

pub above_step : (old rest new : List (Bor Term)) (t : Bor Term) (most here all : ℕ) → old ≡ rest ++ t ∷ [] → to_do new ≡ parts t.now ++ to_do rest → here ≡ above_top t.now
    → max most (all_above (terms_of (to_do old))) ≡ all → max (max most here) (all_above (terms_of (to_do new))) ≡ all
above_step old rest new t most here all e f g h =
    let a : all_above (terms_of (to_do old)) ≡ max (above t.now) (all_above (terms_of (to_do rest))) = ap (λ ts. all_above (terms_of ts)) (popped old rest t e) in
    let b : all_above (terms_of (to_do new)) ≡ max (all_above (terms_of (parts t.now))) (all_above (terms_of (to_do rest))) = ap (λ ts. all_above (terms_of ts)) f ∙ above_both (parts t.now) (to_do rest) in
    let c : above t.now ≡ max (above_top t.now) (all_above (terms_of (parts t.now))) = above_parts t.now in
    omega arith

pub above_lighter : (old rest new : List (Bor Term)) (t : Bor Term) → old ≡ rest ++ t ∷ [] → to_do new ≡ parts t.now ++ to_do rest
    → weights (terms_of (to_do new)) < weights (terms_of (to_do old))
above_lighter old rest new t e f =
    let a : weights (terms_of (to_do old)) ≡ weight t.now + weights (terms_of (to_do rest)) = ap (λ ts. weights (terms_of ts)) (popped old rest t e) in
    let b : weights (terms_of (to_do new)) ≡ weights (terms_of (parts t.now)) + weights (terms_of (to_do rest)) = ap (λ ts. weights (terms_of ts)) f ∙ weights_both (parts t.now) (to_do rest) in
    let c : weights (terms_of (parts t.now)) < weight t.now = parts_lighter t.now in
    omega arith

-- ---- the walk of `free_in`

free_both : (x : Name) (xs ys : List Term) → free_in_some x (terms_of (xs ++ ys)) ≡ (free_in_some x (terms_of xs) || free_in_some x (terms_of ys))
free_both x [] ys = refl
free_both x (t ∷ ts) ys = ap (λ b. free x t || b) (free_both x ts ys) ∙ turned (free x t) (free_in_some x (terms_of ts)) (free_in_some x (terms_of ys))
  where
    turned : (a b c : Bool) → (a || (b || c)) ≡ ((a || b) || c)
    turned true b c = refl
    turned false b c = refl

or_false : (b : Bool) → (b || false) ≡ b
or_false true = refl
or_false false = refl

free_parts : (x : Name) (t : Term) → is_name x t ≡ false → is_bound_by x t ≡ false → free x t ≡ free_in_some x (terms_of (parts t))
free_parts x (var y) e f = e
free_parts x (lit z s) e f = refl
free_parts x (truth b) e f = refl
free_parts x (apply op ts) e f = ap (free_in_some x) (sym (terms_listed ts))
free_parts x (bind q y s t) e f = ap (λ b. not b && free x t) f ∙ sym (or_false (free x t))

module _ (x : Name) (old rest : List (Bor Term)) (t : Bor Term) (e : old ≡ rest ++ t ∷ []) (all : Bool) (so_far : free_in_some x (terms_of (to_do old)) ≡ all) where
  free_next : (free x t.now || free_in_some x (terms_of (to_do rest))) ≡ all
  free_next = sym (ap (λ ts. free_in_some x (terms_of ts)) (popped old rest t e)) ∙ so_far

  pub free_step : (new : List (Bor Term)) → is_name x t.now ≡ false → is_bound_by x t.now ≡ false → to_do new ≡ parts t.now ++ to_do rest → free_in_some x (terms_of (to_do new)) ≡ all
  free_step new f g h =
      ap (λ ts. free_in_some x (terms_of ts)) h ∙ free_both x (parts t.now) (to_do rest)
      ∙ sym (ap (λ b. b || free_in_some x (terms_of (to_do rest))) (free_parts x t.now f g)) ∙ free_next
