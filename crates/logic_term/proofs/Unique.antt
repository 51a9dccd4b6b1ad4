-- Each term has at most one value, and cannot fail to have one.
use Rattle.std.proofs.Common.{◌≡◌, ℕ, zero, suc, Bool, true, false, refl, sym, ◌∙◌, ap, ap₂}
use Rattle.logic_term.specs.declared.kinds.Ctor.{Ctor}
use Rattle.logic_term.specs.Value.{Value, Values, Number, Flag, Made, no_values, and_value}
use Rattle.logic_term.specs.Term.{Operator, modeled, negated, denied, field, arith, less, at_most, equal, both, either, implied, choice, made, Quantifier, every, some, Term, Terms, var, lit, truth, apply, bind, no_terms, and_term, count}
use Rattle.logic_term.specs.Meaning.{Sure, Has, Of, OfTwo, Decided, Says, Yes, Picked, Chosen, Each, MadeOf, Calls, AppliedBy, Quantified, Structure, Env, with_value, MeansBy, ArgumentBy, calls, Means}
use Rattle.logic_term.specs.Sort.{HasSort, instance}
use Rattle.logic_term.specs.Theory.{declared}
use Rattle.logic_term.specs.Ty.{Tys}
use Rattle.logic_term.proofs.Alike.{sure_map}

abbrev pub Single : Has → Type 0
Single A = (x y : Value) → A x → A y → x ≡ y

abbrev pub SomeValue : Has → Type 0
SomeValue A = Sure ((v : Value) × A v)

of_single : (f : Value → Value) (A : Has) → Single A → Single (Of f A)
of_single f A s x y p q = p.2 ∙ ap f (s p.0 q.0 p.1 q.1) ∙ sym q.2

of_two_single : (f : Value → Value → Value) (A B : Has) → Single A → Single B → Single (OfTwo f A B)
of_two_single f A B s t x y p q = p.4 ∙ ap₂ f (s p.0 q.0 p.2 q.2) (t p.1 q.1 p.3 q.3) ∙ sym q.4

same_decision : (P : Type 0) (b c : Bool) → Decided b P → Decided c P → b ≡ c
same_decision P true true d e = refl
same_decision P true false d e = absurd (e d)
same_decision P false true d e = absurd (d e)
same_decision P false false d e = refl

pub says_single : (P : Type 0) → Single (Says P)
says_single P x y p q = p.1 ∙ ap Flag (same_decision P p.0 q.0 p.2 q.2) ∙ sym q.1

picked_single : (b : Bool) (A B : Has) → Single A → Single B → Single (Picked b A B)
picked_single true A B s t = s
picked_single false A B s t = t

chosen_single : (C A B : Has) → Single A → Single B → Single (Chosen C A B)
chosen_single C A B s t x y p q = picked_single p.0 A B s t x y p.2 (rw (same_decision (Yes C) q.0 p.0 q.1 p.1) at q.2)

each_single : (n : ℕ) (A : ℕ → Has) → ((k : ℕ) → Single (A k)) → (us vs : Values) → Each n A us → Each n A vs → us ≡ vs
each_single zero A s us vs p q = p ∙ sym q
each_single (suc n) A s us vs p q = p.4 ∙ ap₂ and_value (s 0 p.0 q.0 p.2 q.2) (each_single n (λ k. A (suc k)) (λ k. s (suc k)) p.1 q.1 p.3 q.3) ∙ sym q.4

made_single : (c : Ctor) (P : Values → Type 0) → ((us vs : Values) → P us → P vs → us ≡ vs) → Single (MadeOf c P)
made_single c P s x y p q = p.2 ∙ ap (λ vs. Made c vs) (s p.0 q.0 p.1 q.1) ∙ sym q.2

pub applied_single : (C : Calls) (θ : Tys) (op : Operator) (n : ℕ) (A : ℕ → Has) → ((k : ℕ) → Single (A k)) → Single (AppliedBy C θ op n A)
applied_single C θ modeled n A s = of_single _ _ (s 0)
applied_single C θ negated n A s = of_single _ _ (s 0)
applied_single C θ denied n A s = says_single _
applied_single C θ (field i) n A s = of_single _ _ (s 0)
applied_single C θ (arith op) n A s = of_two_single _ _ _ (s 0) (s 1)
applied_single C θ less n A s = of_two_single _ _ _ (s 0) (s 1)
applied_single C θ at_most n A s = of_two_single _ _ _ (s 0) (s 1)
applied_single C θ equal n A s = says_single _
applied_single C θ both n A s = says_single _
applied_single C θ either n A s = says_single _
applied_single C θ implied n A s = says_single _
applied_single C θ choice n A s = chosen_single (A 0) _ _ (s 1) (s 2)
applied_single C θ (made c) n A s = made_single c (Each n A) (each_single n A s)

quantified_single : (q : Quantifier) (S : Value → Type 0) (A : Value → Has) → Single (Quantified q S A)
quantified_single every S A = says_single _
quantified_single some S A = says_single _

of_some : (f : Value → Value) (A : Has) → SomeValue A → SomeValue (Of f A)
of_some f A s = sure_map _ _ (λ (p : (v : Value) × A v). (f p.0, (p.0, p.1, refl))) s

of_two_some : (f : Value → Value → Value) (A B : Has) → SomeValue A → SomeValue B → SomeValue (OfTwo f A B)
of_two_some f A B s t n = s (λ p. t (λ q. n (f p.0 q.0, (p.0, q.0, p.1, q.1, refl))))

says_some : (P : Type 0) → SomeValue (Says P)
says_some P n = n (Flag false, (false, refl, λ p. n (Flag true, (true, refl, p))))

chosen_some : (C A B : Has) → SomeValue A → SomeValue B → SomeValue (Chosen C A B)
chosen_some C A B s t n = t (λ q. n (q.0, (false, (λ y. s (λ p. n (p.0, (true, y, p.1)))), q.1)))

pub each_some : (n : ℕ) (A : ℕ → Has) → ((k : ℕ) → SomeValue (A k)) → Sure ((vs : Values) × Each n A vs)
each_some zero A s m = m (no_values, refl)
each_some (suc n) A s m = s 0 (λ p. each_some n (λ k. A (suc k)) (λ k. s (suc k)) (λ q. m (and_value p.0 q.0, (p.0, q.0, p.1, q.1, refl))))

made_some : (c : Ctor) (P : Values → Type 0) → Sure ((vs : Values) × P vs) → SomeValue (MadeOf c P)
made_some c P s m = s (λ p. m (Made c p.0, (p.0, p.1, refl)))

applied_some : (C : Calls) (θ : Tys) (op : Operator) (n : ℕ) (A : ℕ → Has) → ((k : ℕ) → SomeValue (A k)) → SomeValue (AppliedBy C θ op n A)
applied_some C θ modeled n A s = of_some _ _ (s 0)
applied_some C θ negated n A s = of_some _ _ (s 0)
applied_some C θ denied n A s = says_some _
applied_some C θ (field i) n A s = of_some _ _ (s 0)
applied_some C θ (arith op) n A s = of_two_some _ _ _ (s 0) (s 1)
applied_some C θ less n A s = of_two_some _ _ _ (s 0) (s 1)
applied_some C θ at_most n A s = of_two_some _ _ _ (s 0) (s 1)
applied_some C θ equal n A s = says_some _
applied_some C θ both n A s = says_some _
applied_some C θ either n A s = says_some _
applied_some C θ implied n A s = says_some _
applied_some C θ choice n A s = chosen_some (A 0) _ _ (s 1) (s 2)
applied_some C θ (made c) n A s = made_some c (Each n A) (each_some n A s)

quantified_some : (q : Quantifier) (S : Value → Type 0) (A : Value → Has) → SomeValue (Quantified q S A)
quantified_some every S A = says_some _
quantified_some some S A = says_some _

-- whatever calls mean
module _ (C : Calls) (S : Structure) where
  mutual
    pub single_by : (t : Term) (ρ : Env) → Single (MeansBy C S t ρ)
    single_by (var x) ρ v w p q = p ∙ sym q
    single_by (lit z s) ρ v w p q = p ∙ sym q
    single_by (truth b) ρ v w p q = p ∙ sym q
    single_by (apply op ts) ρ v w p q = applied_single C S.types op (count ts) (λ n. ArgumentBy C S ts ρ n) (λ n. singles_by ts ρ n) v w p q
    single_by (bind q x s t) ρ v w p r = quantified_single q (λ u. HasSort (declared S.theory) u (instance S.types s)) (λ u. MeansBy C S t (with_value ρ x u)) v w p r

    pub singles_by : (ts : Terms) (ρ : Env) (n : ℕ) → Single (ArgumentBy C S ts ρ n)
    singles_by no_terms ρ n v w p q = p ∙ sym q
    singles_by (and_term t ts) ρ zero v w p q = single_by t ρ v w p q
    singles_by (and_term t ts) ρ (suc n) v w p q = singles_by ts ρ n v w p q

  mutual
    pub has_value_by : (t : Term) (ρ : Env) → SomeValue (MeansBy C S t ρ)
    has_value_by (var x) ρ n = n (ρ x, refl)
    has_value_by (lit z s) ρ n = n (Number z, refl)
    has_value_by (truth b) ρ n = n (Flag b, refl)
    has_value_by (apply op ts) ρ n = applied_some C S.types op (count ts) (λ k. ArgumentBy C S ts ρ k) (λ k. have_values_by ts ρ k) n
    has_value_by (bind q x s t) ρ n = quantified_some q (λ u. HasSort (declared S.theory) u (instance S.types s)) (λ u. MeansBy C S t (with_value ρ x u)) n

    pub have_values_by : (ts : Terms) (ρ : Env) (k : ℕ) → SomeValue (ArgumentBy C S ts ρ k)
    have_values_by no_terms ρ k = λ n. n (Flag false, refl)
    have_values_by (and_term t ts) ρ zero = has_value_by t ρ
    have_values_by (and_term t ts) ρ (suc k) = have_values_by ts ρ k

module _ (S : Structure) where
  pub single : (t : Term) (ρ : Env) → Single (Means S t ρ)
  single t ρ = single_by (calls S.theory) S t ρ

  pub has_value : (t : Term) (ρ : Env) → SomeValue (Means S t ρ)
  has_value t ρ = has_value_by (calls S.theory) S t ρ
