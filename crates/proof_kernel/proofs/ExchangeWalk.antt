-- One step of the walk that exchanges subterms.
use Rattle.std.proofs.Common.{◌≡◌, ℕ, suc, ◌+◌, ◌-◌, ◌*◌, ◌<◌, ◌≤◌, Bool, true, false, List, [], ◌∷◌, ◌++◌, length, drop, get_or, map, Option, Some, None, refl, sym, ◌∙◌, ap, ap₂, arith}
use Rattle.std.proofs.lemmas.List.{append-nil, append_assoc, drop_more, length-map}
use Rattle.logic_term.specs.Tasks.{with_last}
use Rattle.logic_term.specs.Term.{choice, Term, Terms, var, lit, truth, apply, bind, no_terms, and_term}
use Rattle.logic_term.specs.TermView.{terms_of}
use Rattle.logic_term.specs.Walk.{listed, parts, weight, weights}
use Rattle.logic_term.proofs.TasksWalk.{last_at}
use Rattle.logic_term.proofs.Walking.{parts_lighter, pushed}
use Rattle.proof_kernel.specs.declared.exchange.Task.{Task}
use Rattle.proof_kernel.specs.Exchanged.{Exchange, Instead, put, side, or_else, exchanged, all_exchanged}
use Rattle.proof_kernel.specs.ExchangeSteps.{Step, enter, remake, step, steps, depth_in, part_steps, side_steps, steps_of, made_of, with_parts, after, steps_weight}

module _ (h : Exchange) where
  -- ---- what comes of a term's steps

  all_listed : (n : ℕ) (ts : Terms) → all_exchanged h n ts ≡ terms_of (map (exchanged h n) (listed ts))
  all_listed n no_terms = refl
  all_listed n (and_term t ts) = ap (λ us. and_term (exchanged h n t) us) (all_listed n ts)

  -- of the term itself
  here : (n : ℕ) (t u : Term) → h n t ≡ Some (put u) → exchanged h n t ≡ u
  here n (var x) u e = ap (λ o. or_else o (var x)) e
  here n (lit z s) u e = ap (λ o. or_else o (lit z s)) e
  here n (truth b) u e = ap (λ o. or_else o (truth b)) e
  here n (apply op ts) u e = ap (λ o. or_else o (apply op (all_exchanged h n ts))) e
  here n (bind q x s t) u e = ap (λ o. or_else o (bind q x s (exchanged h (suc n) t))) e

  -- or of its parts
  below : (n : ℕ) (t : Term) → h n t ≡ None → exchanged h n t ≡ with_parts t (map (exchanged h (depth_in n t)) (parts t))
  below n (var x) e = ap (λ o. or_else o (var x)) e
  below n (lit z s) e = ap (λ o. or_else o (lit z s)) e
  below n (truth b) e = ap (λ o. or_else o (truth b)) e
  below n (apply op ts) e = ap (λ o. or_else o (apply op (all_exchanged h n ts))) e ∙ ap (apply op) (all_listed n ts)
  below n (bind q x s t) e = ap (λ o. or_else o (bind q x s (exchanged h (suc n) t))) e

  entered_all : (n : ℕ) (ts : List Term) (rest : List Step) (us : List Term) → after h (map (enter n) ts ++ rest) us ≡ after h rest (us ++ map (exchanged h n) ts)
  entered_all n [] rest us = ap (after h rest) (sym (append-nil us))
  entered_all n (t ∷ ts) rest us = entered_all n ts rest (us ++ exchanged h n t ∷ []) ∙ ap (after h rest) (append_assoc us (exchanged h n t ∷ []) (map (exchanged h n) ts))

  parts_entered : (n : ℕ) (t : Term) (rest : List Step) (us : List Term) → exchanged h n t ≡ with_parts t (map (exchanged h (depth_in n t)) (parts t)) → after h (part_steps n t ++ rest) (us ++ []) ≡ after h (enter n t ∷ rest) us
  parts_entered n t rest us is =
      let new : List Term = map (exchanged h (depth_in n t)) (parts t) in
      ap (λ vs. after h ((map (enter (depth_in n t)) (parts t) ++ remake t ∷ []) ++ rest) vs) (append-nil us)
      ∙ ap (λ ss. after h ss us) (append_assoc (map (enter (depth_in n t)) (parts t)) (remake t ∷ []) rest)
      ∙ entered_all (depth_in n t) (parts t) (remake t ∷ rest) us
      ∙ ap (after h rest) (last_at (with_parts t) (length (parts t)) us new (length-map (parts t) (exchanged h (depth_in n t))) ∙ ap (λ v. us ++ v ∷ []) (sym is))

  -- of a side of an `if`; of another term, of its parts
  side_entered : (first : Bool) (n : ℕ) (t : Term) (rest : List Step) (us : List Term) → h n t ≡ Some (side first) → after h (side_steps first n t ++ rest) (us ++ []) ≡ after h (enter n t ∷ rest) us
  side_entered true n (apply choice (and_term c (and_term a (and_term b no_terms)))) rest us e =
      ap (λ vs. after h rest (vs ++ exchanged h n a ∷ [])) (append-nil us)
      ∙ ap (λ v. after h rest (us ++ v ∷ [])) (sym (ap (λ o. or_else o (apply choice (all_exchanged h n (and_term c (and_term a (and_term b no_terms)))))) e))
  side_entered false n (apply choice (and_term c (and_term a (and_term b no_terms)))) rest us e =
      ap (λ vs. after h rest (vs ++ exchanged h n b ∷ [])) (append-nil us)
      ∙ ap (λ v. after h rest (us ++ v ∷ [])) (sym (ap (λ o. or_else o (apply choice (all_exchanged h n (and_term c (and_term a (and_term b no_terms)))))) e))
  side_entered first n (var x) rest us e = parts_entered n (var x) rest us (ap (λ o. or_else o (var x)) e)
  side_entered first n (lit z s) rest us e = parts_entered n (lit z s) rest us (ap (λ o. or_else o (lit z s)) e)
  side_entered first n (truth b) rest us e = parts_entered n (truth b) rest us (ap (λ o. or_else o (truth b)) e)
  side_entered first n (bind q x s t) rest us e = parts_entered n (bind q x s t) rest us (ap (λ o. or_else o (bind q x s (exchanged h (suc n) t))) e)
  side_entered first n (apply op ts) rest us e = parts_entered n (apply op ts) rest us (ap (λ o. or_else o (apply op (all_exchanged h n ts))) e ∙ ap (apply op) (all_listed n ts))

  entered : (o : Option Instead) (n : ℕ) (t : Term) (rest : List Step) (us : List Term) → h n t ≡ o → after h (steps_of o n t ++ rest) (us ++ made_of o) ≡ after h (enter n t ∷ rest) us
  entered (Some (put u)) n t rest us e = ap (λ v. after h rest (us ++ v ∷ [])) (sym (here n t u e))
  entered (Some (side first)) n t rest us e = side_entered first n t rest us e
  entered None n t rest us e = parts_entered n t rest us (below n t e)

one_off : (ts : List Term) (i : ℕ) (t : Term) → 0 < i → i ≤ length ts → t ≡ get_or ts (i - 1) t → drop (i - 1) ts ≡ t ∷ drop i ts
one_off ts i t l m e =
    let back : i - 1 + 1 ≡ i = omega (arith, l) in
    drop_more ts (i - 1) t (omega (arith, l, m)) ∙ ap₂ (λ u k. u ∷ drop k ts) (sym e) back

-- one more of the terms stands on the stack
pub all_pushed : (n : ℕ) (ts : List Term) (i : ℕ) (t : Term) (new old rest : List Step) → 0 < i → i ≤ length ts → t ≡ get_or ts (i - 1) t → new ≡ enter n t ∷ old
    → old ≡ map (enter n) (drop i ts) ++ rest → new ≡ map (enter n) (drop (i - 1) ts) ++ rest
all_pushed n ts i t new old rest l m e f g = f ∙ ap (λ ss. enter n t ∷ ss) g ∙ sym (ap (λ us. map (enter n) us ++ rest) (one_off ts i t l m e))

pub none_last : (f : List Term → Term) (ts : List Term) → with_last f 0 ts ≡ ts ++ f [] ∷ []
none_last f ts = ap (with_last f 0) (sym (append-nil ts)) ∙ last_at f 0 ts [] refl

-- ---- how much there is left

weight_all : (n : ℕ) (ts : List Term) (rest : List Step) → steps_weight (map (enter n) ts ++ rest) ≡ 2 * weights (terms_of ts) + steps_weight rest
weight_all n [] rest = omega arith
weight_all n (t ∷ ts) rest = let e = weight_all n ts rest in omega (arith, e)

parts_weigh_less : (n : ℕ) (t : Term) (rest : List Step) → steps_weight (part_steps n t ++ rest) < steps_weight (enter n t ∷ rest)
parts_weigh_less n t rest =
    let a = append_assoc (map (enter (depth_in n t)) (parts t)) (remake t ∷ []) rest in
    let e = weight_all (depth_in n t) (parts t) (remake t ∷ rest) in
    let l = parts_lighter t in
    rw a (omega (arith, e, l))

side_weighs_less : (first : Bool) (n : ℕ) (t : Term) (rest : List Step) → steps_weight (side_steps first n t ++ rest) < steps_weight (enter n t ∷ rest)
side_weighs_less true n (apply choice (and_term c (and_term a (and_term b no_terms)))) rest = omega arith
side_weighs_less false n (apply choice (and_term c (and_term a (and_term b no_terms)))) rest = omega arith
side_weighs_less first n t rest = parts_weigh_less n t rest

lighter : (o : Option Instead) (n : ℕ) (t : Term) (rest : List Step) → steps_weight (steps_of o n t ++ rest) < steps_weight (enter n t ∷ rest)
lighter (Some (put u)) n t rest = let l = parts_lighter t in omega (arith, l)
lighter (Some (side first)) n t rest = side_weighs_less first n t rest
lighter None n t rest = parts_weigh_less n t rest

-- ---- the stacks

popped : (old rest : List Task) (s : Task) (p : Step) → old ≡ rest ++ s ∷ [] → step s ≡ p → steps old ≡ p ∷ steps rest
popped old rest s p e f = ap steps e ∙ pushed step rest s ∙ ap (λ q. q ∷ steps rest) f

module _ (h : Exchange) (old rest : List Task) (s : Task) (e : old ≡ rest ++ s ∷ []) (us all : List Term) (so_far : after h (steps old) us ≡ all) where
  pub enter_step : (n : ℕ) (t : Term) (new : List Task) (vs : List Term) → step s ≡ enter n t → steps new ≡ steps_of (h n t) n t ++ steps rest → vs ≡ us ++ made_of (h n t) → after h (steps new) vs ≡ all
  enter_step n t new vs f a d = (λ i. after h (a i) (d i)) ∙ entered h (h n t) n t (steps rest) us refl ∙ ap (λ ss. after h ss us) (sym (popped old rest s (enter n t) e f)) ∙ so_far

  pub remake_step : (t : Term) (vs : List Term) → step s ≡ remake t → vs ≡ with_last (with_parts t) (length (parts t)) us → after h (steps rest) vs ≡ all
  remake_step t vs f d = ap (after h (steps rest)) d ∙ ap (λ ss. after h ss us) (sym (popped old rest s (remake t) e f)) ∙ so_far

pub enter_smaller : (o : Option Instead) (old rest new : List Task) (s : Task) (n : ℕ) (t : Term) → old ≡ rest ++ s ∷ [] → step s ≡ enter n t → steps new ≡ steps_of o n t ++ steps rest
    → steps_weight (steps new) < steps_weight (steps old)
enter_smaller o old rest new s n t e f a =
    let b : steps_weight (steps old) ≡ steps_weight (enter n t ∷ steps rest) = ap steps_weight (popped old rest s (enter n t) e f) in
    let c : steps_weight (steps new) ≡ steps_weight (steps_of o n t ++ steps rest) = ap steps_weight a in
    let d = lighter o n t (steps rest) in
    omega (arith, b, c, d)

pub remake_smaller : (old rest : List Task) (s : Task) (t : Term) → old ≡ rest ++ s ∷ [] → step s ≡ remake t → steps_weight (steps rest) < steps_weight (steps old)
remake_smaller old rest s t e f =
    let b : steps_weight (steps old) ≡ 1 + steps_weight (steps rest) = ap steps_weight (popped old rest s (remake t) e f) in
    omega (arith, b)
