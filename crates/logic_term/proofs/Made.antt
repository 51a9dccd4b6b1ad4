-- The values of what is made of parts.
use Rattle.std.proofs.Common.{◌≡◌, refl, ◌∙◌, ap, ap₂}
use Rattle.logic_term.specs.declared.kinds.Ctor.{Ctor}
use Rattle.logic_term.specs.Value.{Values, Made, no_values, and_value}
use Rattle.logic_term.specs.Term.{made, Terms, apply, no_terms, and_term, count}
use Rattle.logic_term.proofs.Alike.{alike, to, from, sure_map}
use Rattle.logic_term.specs.Meaning.{Sure, Structure, Env, Argument, Each}
use Rattle.logic_term.specs.Laws.{HaveExactly, HasExactly}

module _ (S : Structure) where
  each_to : (ts : Terms) (ρ : Env) (vs : Values) → HaveExactly S ts ρ vs → (us : Values) → Each (count ts) (λ k. Argument S ts ρ k) us → Sure (us ≡ vs)
  each_to no_terms ρ no_values h us p n = n p
  each_to no_terms ρ (and_value v vs) h us p n = absurd h
  each_to (and_term t ts) ρ no_values h us p n = absurd h
  each_to (and_term t ts) ρ (and_value v vs) h us p n = to _ _ h.0 p.0 p.2 (λ e. each_to ts ρ vs h.1 p.1 p.3 (λ f. n (p.4 ∙ ap₂ and_value e f)))

  each_from : (ts : Terms) (ρ : Env) (vs : Values) → HaveExactly S ts ρ vs → Sure (Each (count ts) (λ k. Argument S ts ρ k) vs)
  each_from no_terms ρ no_values h n = n refl
  each_from no_terms ρ (and_value v vs) h n = absurd h
  each_from (and_term t ts) ρ no_values h n = absurd h
  each_from (and_term t ts) ρ (and_value v vs) h n = from _ _ h.0 v refl (λ p. each_from ts ρ vs h.1 (λ q. n (v, vs, p, q, refl)))

  pub made_exactly : (c : Ctor) (ts : Terms) (ρ : Env) (vs : Values) → HaveExactly S ts ρ vs → HasExactly S (apply (made c) ts) ρ (Made c vs)
  made_exactly c ts ρ vs h = alike _ _ (λ v p. sure_map _ _ (λ e. p.2 ∙ ap (λ us. Made c us) e) (each_to ts ρ vs h p.0 p.1)) (λ v e. sure_map _ _ (λ q. (vs, q, e)) (each_from ts ρ vs h))
