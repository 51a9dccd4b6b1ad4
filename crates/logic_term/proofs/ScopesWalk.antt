-- One step of a walk through the scopes of a term.
use Rattle.std.proofs.Common.{◌≡◌, ℕ, ◌+◌, ◌-◌, ◌<◌, max, List, [], ◌∷◌, ◌++◌, length, take, map, Option, Some, refl, ◌∙◌, ap, arith}
use Rattle.std.proofs.lemmas.List.{append-nil, take_at, length-append}
use Rattle.text_core.specs.declared.name.Name.{Name}
use Rattle.logic_term.specs.declared.canonical.Scoped.{Scoped}
use Rattle.logic_term.specs.Canonical.{above_free, all_above_free}
use Rattle.logic_term.specs.Scopes.{scope, scopes, binds, within, above_scopes, above_free_top, scopes_weight}
use Rattle.logic_term.specs.Term.{Term, Terms, var, lit, truth, apply, bind, no_terms, and_term}
use Rattle.logic_term.specs.Walk.{listed, weight, weights}
use Rattle.logic_term.proofs.Bound.{bound_last}
use Rattle.logic_term.proofs.Walking.{pushed}

above_listed : (ys : List Name) (ts : Terms) (rest : List (Option Term)) → above_scopes ys (map Some (listed ts) ++ rest) ≡ max (all_above_free ys ts) (above_scopes ys rest)
above_listed ys no_terms rest = omega arith
above_listed ys (and_term t ts) rest = let e = above_listed ys ts rest in omega (arith, e)

front : (ys : List Name) (x : Name) → take (length (ys ++ x ∷ []) - 1) (ys ++ x ∷ []) ≡ ys
front ys x = take_at ys (x ∷ []) (length (ys ++ x ∷ []) - 1) (omega (arith, length-append ys (x ∷ [])))

above_within : (ys : List Name) (t : Term) (rest : List (Option Term)) → max (above_free_top ys t) (above_scopes (ys ++ binds t) (within t ++ rest)) ≡ max (above_free ys t) (above_scopes ys rest)
above_within ys (var x) rest = rw append-nil refl
above_within ys (lit z s) rest = rw append-nil refl
above_within ys (truth b) rest = rw append-nil refl
above_within ys (apply op ts) rest = rw append-nil (let e = above_listed ys ts rest in omega (arith, e))
above_within ys (bind q x s t) rest =
    let e = bound_last ys x t in
    let f : above_scopes (take (length (ys ++ x ∷ []) - 1) (ys ++ x ∷ [])) rest ≡ above_scopes ys rest = ap (λ zs. above_scopes zs rest) (front ys x) in
    omega (arith, e, f)

weight_listed : (ts : Terms) (rest : List (Option Term)) → scopes_weight (map Some (listed ts) ++ rest) ≡ weights ts + scopes_weight rest
weight_listed no_terms rest = omega arith
weight_listed (and_term t ts) rest = let e = weight_listed ts rest in omega (arith, e)

within_lighter : (t : Term) (rest : List (Option Term)) → scopes_weight (within t ++ rest) < weight t + scopes_weight rest
within_lighter (var x) rest = omega arith
within_lighter (lit z s) rest = omega arith
within_lighter (truth b) rest = omega arith
within_lighter (apply op ts) rest = let e = weight_listed ts rest in omega (arith, e)
within_lighter (bind q x s t) rest = omega arith

popped : (old rest : List Scoped) (s : Scoped) (o : Option Term) → old ≡ rest ++ s ∷ [] → scope s ≡ o → scopes old ≡ o ∷ scopes rest
popped old rest s o e f = ap scopes e ∙ pushed scope rest s ∙ ap (λ p. p ∷ scopes rest) f

module _ (old rest : List Scoped) (s : Scoped) (e : old ≡ rest ++ s ∷ []) where
  pub within_step : (t : Term) (new : List Scoped) (ys zs : List Name) (most here all : ℕ) → scope s ≡ Some t → zs ≡ ys ++ binds t → scopes new ≡ within t ++ scopes rest → here ≡ above_free_top ys t
      → max most (above_scopes ys (scopes old)) ≡ all → max (max most here) (above_scopes zs (scopes new)) ≡ all
  within_step t new ys zs most here all f b g h i =
      let a : above_scopes ys (scopes old) ≡ max (above_free ys t) (above_scopes ys (scopes rest)) = ap (above_scopes ys) (popped old rest s (Some t) e f) in
      let c : above_scopes zs (scopes new) ≡ above_scopes (ys ++ binds t) (within t ++ scopes rest) = ap (λ us. above_scopes us (scopes new)) b ∙ ap (above_scopes (ys ++ binds t)) g in
      let d : max (above_free_top ys t) (above_scopes (ys ++ binds t) (within t ++ scopes rest)) ≡ max (above_free ys t) (above_scopes ys (scopes rest)) = above_within ys t (scopes rest) in
      omega arith

  pub within_smaller : (t : Term) (new : List Scoped) → scope s ≡ Some t → scopes new ≡ within t ++ scopes rest → scopes_weight (scopes new) < scopes_weight (scopes old)
  within_smaller t new f g =
      let a : scopes_weight (scopes old) ≡ weight t + scopes_weight (scopes rest) = ap scopes_weight (popped old rest s (Some t) e f) in
      let b : scopes_weight (scopes new) ≡ scopes_weight (within t ++ scopes rest) = ap scopes_weight g in
      let c = within_lighter t (scopes rest) in
      omega (arith, c)
