-- One step of a walk over two terms at once.
use Rattle.std.proofs.Common.{◌≡◌, suc, ◌+◌, ◌<◌, ◌↔◌, List, [], ◌∷◌, ◌++◌, length, refl, sym, ◌∙◌, ap, ap₂, arith}
use Rattle.std.specs.Borrow.{Bor}
use Rattle.logic_term.specs.Pairs.{top, firsts, seconds}
use Rattle.logic_term.specs.Term.{Term, Terms, var, lit, truth, apply, bind, no_terms, and_term, count}
use Rattle.logic_term.specs.TermView.{terms_of}
use Rattle.logic_term.specs.Walk.{listed, parts, weight, weights}
use Rattle.logic_term.proofs.Walking.{pushed, terms_listed, weights_both, parts_lighter}

pub count_terms : (ts : List Term) → count (terms_of ts) ≡ length ts
count_terms [] = refl
count_terms (t ∷ ts) = ap suc (count_terms ts)

-- a term is its top and its parts
same_listed : (ts us : Terms) → listed ts ≡ listed us → ts ≡ us
same_listed ts us e = sym (terms_listed ts) ∙ ap terms_of e ∙ terms_listed us

joined : (a b : Term) → top a ≡ top b → parts a ≡ parts b → a ≡ b
joined (var x) (var y) e f = cc
joined (lit z s) (lit y q) e f = cc
joined (truth b) (truth c) e f = cc
joined (apply op ts) (apply oq us) e f = let g = same_listed ts us f in cc
joined (bind q x s t) (bind r y u v) e f = cc
joined a b e f = absurd (cc)

count_listed : (ts : Terms) → length (listed ts) ≡ count ts
count_listed no_terms = refl
count_listed (and_term t ts) = ap suc (count_listed ts)

as_many : (a b : Term) → top a ≡ top b → length (parts a) ≡ length (parts b)
as_many (var x) (var y) e = refl
as_many (lit z s) (lit y q) e = refl
as_many (truth b) (truth c) e = refl
as_many (apply op ts) (apply oq us) e = let m = count_listed ts in let n = count_listed us in cc
as_many (bind q x s t) (bind r y u v) e = refl
as_many a b e = absurd (cc)

-- lists are the same where their fronts, of one length, and their rests are
fronts : (xs ys us vs : List Term) → length xs ≡ length ys → xs ++ us ≡ ys ++ vs → (xs ≡ ys) × (us ≡ vs)
fronts [] [] us vs e f = (refl, f)
fronts [] (y ∷ ys) us vs e f = absurd (omega (arith, e))
fronts (x ∷ xs) [] us vs e f = absurd (omega (arith, e))
fronts (x ∷ xs) (y ∷ ys) us vs e f = let g : xs ++ us ≡ ys ++ vs = cc in let h : x ≡ y = cc in let p = fronts xs ys us vs (omega (arith, e)) g in (ap₂ (λ z zs. z ∷ zs) h p.0, p.1)

module _ (old rest new : List (Bor Term × Bor Term)) (p : Bor Term × Bor Term) (a b : Term) (popped : old ≡ rest ++ p ∷ []) (a_is : p.0.now ≡ a) (b_is : p.1.now ≡ b) where
  first_is : firsts old ≡ a ∷ firsts rest
  first_is = ap firsts popped ∙ pushed (λ q. q.0.now) rest p ∙ ap (λ t. t ∷ firsts rest) a_is

  second_is : seconds old ≡ b ∷ seconds rest
  second_is = ap seconds popped ∙ pushed (λ q. q.1.now) rest p ∙ ap (λ t. t ∷ seconds rest) b_is

  pub pairs_step : (s t : Term) → top a ≡ top b → firsts new ≡ parts a ++ firsts rest → seconds new ≡ parts b ++ seconds rest
      → (firsts old ≡ seconds old) ↔ (s ≡ t) → (firsts new ≡ seconds new) ↔ (s ≡ t)
  pairs_step s t e f g h = (there, back)
    where
      there : firsts new ≡ seconds new → s ≡ t
      there k =
          let q = fronts (parts a) (parts b) (firsts rest) (seconds rest) (as_many a b e) (sym f ∙ k ∙ g) in
          h.0 (first_is ∙ ap₂ (λ u us. u ∷ us) (joined a b e q.0) q.1 ∙ sym second_is)

      back : s ≡ t → firsts new ≡ seconds new
      back k =
          let o : a ∷ firsts rest ≡ b ∷ seconds rest = sym first_is ∙ h.1 k ∙ second_is in
          let x : a ≡ b = cc in
          let y : firsts rest ≡ seconds rest = cc in
          f ∙ ap₂ (λ u us. parts u ++ us) x y ∙ sym g

  pub pairs_lighter : firsts new ≡ parts a ++ firsts rest → weights (terms_of (firsts new)) < weights (terms_of (firsts old))
  pairs_lighter f =
      let c : weights (terms_of (firsts old)) ≡ weight a + weights (terms_of (firsts rest)) = ap (λ ts. weights (terms_of ts)) first_is in
      let d : weights (terms_of (firsts new)) ≡ weights (terms_of (parts a)) + weights (terms_of (firsts rest)) = ap (λ ts. weights (terms_of ts)) f ∙ weights_both (parts a) (firsts rest) in
      let e : weights (terms_of (parts a)) < weight a = parts_lighter a in
      omega arith
