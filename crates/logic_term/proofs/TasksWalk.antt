-- One step of the walk that places a term.
use Rattle.std.proofs.Common.{◌≡◌, ℕ, suc, ◌+◌, ◌-◌, ◌<◌, Bool, List, [], ◌∷◌, ◌++◌, length, take, map, refl, sym, ◌∙◌, ap, arith}
use Rattle.std.proofs.lemmas.List.{append-nil, append_assoc, take_at, drop_at, length-append}
use Rattle.logic_term.specs.declared.kinds.Ctor.{Ctor}
use Rattle.logic_term.specs.declared.placed.Task.{Task}
use Rattle.logic_term.specs.declared.subst.Renaming.{Renaming}
use Rattle.logic_term.specs.declared.subst.Replacement.{Replacement}
use Rattle.logic_term.specs.Placed.{Placing, placed, all_placed}
use Rattle.logic_term.specs.Simplified.{formed}
use Rattle.logic_term.specs.Subst.{look, numbers_before, placing}
use Rattle.logic_term.specs.Tasks.{Step, enter, apply_last, bind_last, step, steps, steps_of, binds_of, depth_in, made_of, with_last, applied, bound_over, after, steps_weight}
use Rattle.logic_term.specs.Term.{Operator, made, Quantifier, Term, Terms, var, lit, truth, apply, bind, no_terms, and_term, count}
use Rattle.logic_term.specs.TermView.{terms_of}
use Rattle.logic_term.specs.Ty.{Ty}
use Rattle.logic_term.specs.Walk.{listed, weight, weights}
use Rattle.logic_term.proofs.Bound.{last_first}
use Rattle.logic_term.proofs.Walking.{listed_terms, pushed, terms_listed}

-- ---- the last terms

pub last_at : (f : List Term → Term) (n : ℕ) (xs ys : List Term) → length ys ≡ n → with_last f n (xs ++ ys) ≡ xs ++ f ys ∷ []
last_at f n xs ys e =
    let m : length xs ≡ length (xs ++ ys) - n = omega (arith, length-append xs ys) in
    rw (take_at xs ys (length (xs ++ ys) - n) m, drop_at xs ys (length (xs ++ ys) - n) m) refl

pub one_last : (f : List Term → Term) (old rest : List Term) (t : Term) → old ≡ rest ++ t ∷ [] → with_last f 1 old ≡ rest ++ f (t ∷ []) ∷ []
one_last f old rest t e = ap (with_last f 1) e ∙ last_at f 1 rest (t ∷ []) refl

pub two_last : (f : List Term → Term) (old mid rest : List Term) (a b : Term) → old ≡ mid ++ b ∷ [] → mid ≡ rest ++ a ∷ [] → with_last f 2 old ≡ rest ++ f (a ∷ b ∷ []) ∷ []
two_last f old mid rest a b e g =
    ap (with_last f 2) (e ∙ ap (λ ts. ts ++ b ∷ []) g ∙ append_assoc rest (a ∷ []) (b ∷ [])) ∙ last_at f 2 rest (a ∷ b ∷ []) refl

pub three_last : (f : List Term → Term) (old after mid rest : List Term) (a b c : Term) → old ≡ after ++ c ∷ [] → after ≡ mid ++ b ∷ [] → mid ≡ rest ++ a ∷ [] → with_last f 3 old ≡ rest ++ f (a ∷ b ∷ c ∷ []) ∷ []
three_last f old after mid rest a b c e g h =
    ap (with_last f 3) (e ∙ ap (λ ts. ts ++ c ∷ []) (g ∙ ap (λ ts. ts ++ b ∷ []) h) ∙ ap (λ ts. ts ++ c ∷ []) (append_assoc rest (a ∷ []) (b ∷ [])) ∙ append_assoc rest (a ∷ b ∷ []) (c ∷ []))
    ∙ last_at f 3 rest (a ∷ b ∷ c ∷ []) refl

-- ---- what comes of a term's steps

count_listed : (r : Bool) (n : ℕ) (σ : Placing) (ts : Terms) → length (listed (all_placed r n σ ts)) ≡ count ts
count_listed r n σ no_terms = refl
count_listed r n σ (and_term t ts) = ap suc (count_listed r n σ ts)

entered_all : (r : Bool) (σ : List Replacement) (ts : Terms) (rest : List Step) (bs : List Renaming) (n : ℕ) (us : List Term)
    → after r σ (map enter (listed ts) ++ rest) bs n us ≡ after r σ rest bs n (us ++ listed (all_placed r n (placing (numbers_before bs σ)) ts))
entered_all r σ no_terms rest bs n us = ap (after r σ rest bs n) (sym (append-nil us))
entered_all r σ (and_term t ts) rest bs n us =
    let p : Term = placed r n (placing (numbers_before bs σ)) t in
    entered_all r σ ts rest bs n (us ++ p ∷ []) ∙ ap (after r σ rest bs n) (append_assoc us (p ∷ []) (listed (all_placed r n (placing (numbers_before bs σ)) ts)))

module _ (r : Bool) (σ : List Replacement) (rest : List Step) (bs : List Renaming) (n : ℕ) (us : List Term) where
  entered : (t : Term) → after r σ (steps_of n t ++ rest) (bs ++ binds_of n t) (depth_in n t) (us ++ made_of (numbers_before bs σ) t) ≡ after r σ (enter t ∷ rest) bs n us
  entered (var x) = ap (λ cs. after r σ rest cs n (us ++ look (numbers_before bs σ) x ∷ [])) (append-nil bs)
  entered (lit z s) = ap (λ cs. after r σ rest cs n (us ++ lit z s ∷ [])) (append-nil bs)
  entered (truth b) = ap (λ cs. after r σ rest cs n (us ++ truth b ∷ [])) (append-nil bs)
  entered (apply op ts) =
      let all : Terms = all_placed r n (placing (numbers_before bs σ)) ts in
      let one : List Step = apply_last op (count ts) ∷ [] in
      ap (λ cs. after r σ ((map enter (listed ts) ++ one) ++ rest) cs n (us ++ [])) (append-nil bs)
      ∙ ap (λ vs. after r σ ((map enter (listed ts) ++ one) ++ rest) bs n vs) (append-nil us)
      ∙ ap (λ ss. after r σ ss bs n us) (append_assoc (map enter (listed ts)) one rest)
      ∙ entered_all r σ ts (apply_last op (count ts) ∷ rest) bs n us
      ∙ ap (after r σ rest bs n) (last_at (applied r op) (count ts) us (listed all) (count_listed r n (placing (numbers_before bs σ)) ts) ∙ ap (λ vs. us ++ formed r op vs ∷ []) (terms_listed all))
  entered (bind q x s t) =
      let ρ : Renaming = record { from = x; to = record { 0 = n } } in
      let p : Term = placed r (suc n) (placing (numbers_before (bs ++ ρ ∷ []) σ)) t in
      let f : List Term → Term = bound_over q n s in
      ap (λ cs. after r σ rest cs n (with_last f 1 ((us ++ []) ++ p ∷ []))) (take_at bs (ρ ∷ []) (length (bs ++ ρ ∷ []) - 1) (omega (arith, length-append bs (ρ ∷ []))))
      ∙ ap (after r σ rest bs n) (ap (λ vs. with_last f 1 (vs ++ p ∷ [])) (append-nil us) ∙ last_at f 1 us (p ∷ []) refl
      ∙ ap (λ τ. us ++ bind q (record { 0 = n }) s (placed r (suc n) (placing τ) t) ∷ []) (last_first bs ρ σ))

count_terms : (ts : List Term) → count (terms_of ts) ≡ length ts
count_terms [] = refl
count_terms (t ∷ ts) = ap suc (count_terms ts)

-- what is made of parts, by its steps
pub make_steps : (n : ℕ) (c : Ctor) (ps qs : List Term) (t : Term) (new rest : List Step) → t ≡ apply (made c) (terms_of ps) → qs ≡ ps → new ≡ map enter qs ++ apply_last (made c) (length qs) ∷ rest → new ≡ steps_of n t ++ rest
make_steps n c ps qs t new rest e f g =
    g ∙ ap (λ rs. map enter rs ++ apply_last (made c) (length rs) ∷ rest) f
    ∙ sym (ap (λ u. steps_of n u ++ rest) e ∙ append_assoc (map enter (listed (terms_of ps))) (apply_last (made c) (count (terms_of ps)) ∷ []) rest ∙ (λ i. map enter (listed_terms ps i) ++ apply_last (made c) (count_terms ps i) ∷ rest))

weight_all : (ts : Terms) (rest : List Step) → steps_weight (map enter (listed ts) ++ rest) ≡ weights ts + steps_weight rest
weight_all no_terms rest = omega arith
weight_all (and_term t ts) rest = let e = weight_all ts rest in omega (arith, e)

lighter : (n : ℕ) (t : Term) (rest : List Step) → steps_weight (steps_of n t ++ rest) < weight t + steps_weight rest
lighter n (var x) rest = omega arith
lighter n (lit z s) rest = omega arith
lighter n (truth b) rest = omega arith
lighter n (apply op ts) rest =
    let a = append_assoc (map enter (listed ts)) (apply_last op (count ts) ∷ []) rest in
    let e = weight_all ts (apply_last op (count ts) ∷ rest) in
    rw a (omega (arith, e))
lighter n (bind q x s t) rest = omega arith

-- ---- the stacks

popped : (old rest : List Task) (s : Task) (p : Step) → old ≡ rest ++ s ∷ [] → step s ≡ p → steps old ≡ p ∷ steps rest
popped old rest s p e f = ap steps e ∙ pushed step rest s ∙ ap (λ q. q ∷ steps rest) f

module _ (r : Bool) (σ : List Replacement) (old rest : List Task) (s : Task) (e : old ≡ rest ++ s ∷ []) (bs : List Renaming) (n : ℕ) (us : List Term) (all : List Renaming × List Term) where
  pub enter_step : (t : Term) (new : List Task) (cs : List Renaming) (m : ℕ) (vs : List Term) → step s ≡ enter t → steps new ≡ steps_of n t ++ steps rest → cs ≡ bs ++ binds_of n t → m ≡ depth_in n t
      → vs ≡ us ++ made_of (numbers_before bs σ) t → after r σ (steps old) bs n us ≡ all → after r σ (steps new) cs m vs ≡ all
  enter_step t new cs m vs f a b c d h =
      (λ i. after r σ (a i) (b i) (c i) (d i)) ∙ entered r σ (steps rest) bs n us t ∙ ap (λ ss. after r σ ss bs n us) (sym (popped old rest s (enter t) e f)) ∙ h

  pub form_step : (op : Operator) (k : ℕ) (vs : List Term) → step s ≡ apply_last op k → vs ≡ with_last (applied r op) k us → after r σ (steps old) bs n us ≡ all → after r σ (steps rest) bs n vs ≡ all
  form_step op k vs f d h = ap (after r σ (steps rest) bs n) d ∙ ap (λ ss. after r σ ss bs n us) (sym (popped old rest s (apply_last op k) e f)) ∙ h

  pub bind_step : (q : Quantifier) (m : ℕ) (sort : Ty) (cs : List Renaming) (vs : List Term) → step s ≡ bind_last q m sort → cs ≡ take (length bs - 1) bs → vs ≡ with_last (bound_over q m sort) 1 us
      → after r σ (steps old) bs n us ≡ all → after r σ (steps rest) cs m vs ≡ all
  bind_step q m sort cs vs f b d h = (λ i. after r σ (steps rest) (b i) m (d i)) ∙ ap (λ ss. after r σ ss bs n us) (sym (popped old rest s (bind_last q m sort) e f)) ∙ h

pub enter_smaller : (old rest new : List Task) (s : Task) (n : ℕ) (t : Term) → old ≡ rest ++ s ∷ [] → step s ≡ enter t → steps new ≡ steps_of n t ++ steps rest → steps_weight (steps new) < steps_weight (steps old)
enter_smaller old rest new s n t e f a =
    let b : steps_weight (steps old) ≡ weight t + steps_weight (steps rest) = ap steps_weight (popped old rest s (enter t) e f) in
    let c : steps_weight (steps new) ≡ steps_weight (steps_of n t ++ steps rest) = ap steps_weight a in
    let d = lighter n t (steps rest) in
    omega (arith, d)

-- the last of one
pub only_one : (rest : List Term) (t u : Term) → rest ++ t ∷ [] ≡ u ∷ [] → t ≡ u
only_one [] t u e = cc
only_one (v ∷ []) t u e = absurd (cc)
only_one (v ∷ w ∷ vs) t u e = absurd (cc)
