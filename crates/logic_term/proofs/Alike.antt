-- Terms that have the same values.
use Rattle.std.proofs.Common.{◌≡◌, ℕ, zero, suc, Bool, true, false, ◌↔◌, subst}
use Rattle.logic_term.specs.Ty.{Tys}
use Rattle.logic_term.specs.Value.{Value, Values, Flag}
use Rattle.logic_term.specs.declared.kinds.Ctor.{Ctor}
use Rattle.logic_term.specs.Term.{Operator, modeled, negated, denied, field, arith, less, at_most, equal, both, either, implied, choice, made, Quantifier, every, some}
use Rattle.logic_term.specs.Meaning.{Sure, Has, Of, OfTwo, Decided, Says, Yes, Picked, Chosen, Each, MadeOf, Calls, AppliedBy, Quantified}

pub sure_map : (P Q : Type 0) → (P → Q) → Sure P → Sure Q
sure_map P Q f p n = p (λ x. n (f x))

pub sure_then : (P Q : Type 0) → (P → Sure Q) → Sure P → Sure Q
sure_then P Q f p n = p (λ x. f x n)

-- each value that the one has, the other cannot fail to have
abbrev pub Into : Has → Has → Type 0
Into A B = (v : Value) → A v → Sure (B v)

abbrev pub Alike : Has → Has → Type 0
Alike A B = (v : Value) → Sure (A v) ↔ Sure (B v)

pub alike : (A B : Has) → Into A B → Into B A → Alike A B
alike A B f g v = (sure_then _ _ (f v), sure_then _ _ (g v))

-- the same values exactly
pub alike_exactly : (A B : Has) → ((v : Value) → A v ↔ B v) → Alike A B
alike_exactly A B e v = (sure_map _ _ (e v).0, sure_map _ _ (e v).1)

pub to : (A B : Has) → Alike A B → Into A B
to A B e v p = (e v).0 (λ n. n p)

pub from : (A B : Has) → Alike A B → Into B A
from A B e v p = (e v).1 (λ n. n p)

pub alike_same : (A : Has) → Alike A A
alike_same A v = ((λ p. p), (λ p. p))

pub alike_back : (A B : Has) → Alike A B → Alike B A
alike_back A B e v = ((e v).1, (e v).0)

pub alike_then : (A B C : Has) → Alike A B → Alike B C → Alike A C
alike_then A B C e f v = ((λ p. (f v).0 ((e v).0 p)), (λ p. (e v).1 ((f v).1 p)))

pub yes_alike : (A B : Has) → Alike A B → Yes A ↔ Yes B
yes_alike A B e = e (Flag true)

decided : (P Q : Type 0) → P ↔ Q → (b : Bool) → Decided b P → Decided b Q
decided P Q e true d = e.0 d
decided P Q e false d = λ q. d (e.1 q)

pub says_alike : (P Q : Type 0) → P ↔ Q → Alike (Says P) (Says Q)
says_alike P Q e v = (sure_map _ _ (λ s. (s.0, s.1, decided P Q e s.0 s.2)), sure_map _ _ (λ s. (s.0, s.1, decided Q P (e.1, e.0) s.0 s.2)))

of_into : (f : Value → Value) (A B : Has) → Into A B → Into (Of f A) (Of f B)
of_into f A B e v p n = e p.0 p.1 (λ q. n (p.0, q, p.2))

of_alike : (f : Value → Value) (A B : Has) → Alike A B → Alike (Of f A) (Of f B)
of_alike f A B e = alike _ _ (of_into f A B (to A B e)) (of_into f B A (from A B e))

of_two_into : (f : Value → Value → Value) (A B C D : Has) → Into A B → Into C D → Into (OfTwo f A C) (OfTwo f B D)
of_two_into f A B C D e g v p n = e p.0 p.2 (λ q. g p.1 p.3 (λ r. n (p.0, p.1, q, r, p.4)))

of_two_alike : (f : Value → Value → Value) (A B C D : Has) → Alike A B → Alike C D → Alike (OfTwo f A C) (OfTwo f B D)
of_two_alike f A B C D e g = alike _ _ (of_two_into f A B C D (to _ _ e) (to _ _ g)) (of_two_into f B A D C (from _ _ e) (from _ _ g))

picked_alike : (b : Bool) (A A' B B' : Has) → Alike A A' → Alike B B' → Alike (Picked b A B) (Picked b A' B')
picked_alike true A A' B B' e g = e
picked_alike false A A' B B' e g = g

chosen_into : (C D A A' B B' : Has) → Alike C D → Alike A A' → Alike B B' → Into (Chosen C A B) (Chosen D A' B')
chosen_into C D A A' B B' e g h v p n = to _ _ (picked_alike p.0 A A' B B' g h) v p.2 (λ q. n (p.0, decided _ _ (yes_alike C D e) p.0 p.1, q))

chosen_alike : (C D A A' B B' : Has) → Alike C D → Alike A A' → Alike B B' → Alike (Chosen C A B) (Chosen D A' B')
chosen_alike C D A A' B B' e g h = alike _ _ (chosen_into C D A A' B B' e g h) (chosen_into D C A' A B' B (alike_back _ _ e) (alike_back _ _ g) (alike_back _ _ h))

-- by the truth of the condition
pub chosen_true : (C A B : Has) → Yes C → Alike (Chosen C A B) A
chosen_true C A B y = alike _ _ (there C A B y) (λ v p n. n (true, y, p))
  where
    there : (C A B : Has) → Yes C → Into (Chosen C A B) A
    there C A B y v (true, d, p) n = n p
    there C A B y v (false, d, p) n = d y

pub chosen_false : (C A B : Has) → (Yes C → ⊥) → Alike (Chosen C A B) B
chosen_false C A B d = alike _ _ (there C A B d) (λ v p n. n (false, d, p))
  where
    there : (C A B : Has) → (Yes C → ⊥) → Into (Chosen C A B) B
    there C A B d v (true, y, p) n = d y
    there C A B d v (false, e, p) n = n p

each_into : (n : ℕ) (A B : ℕ → Has) → ((k : ℕ) → Into (A k) (B k)) → (vs : Values) → Each n A vs → Sure (Each n B vs)
each_into zero A B e vs p m = m p
each_into (suc n) A B e vs p m = e 0 p.0 p.2 (λ q. each_into n (λ k. A (suc k)) (λ k. B (suc k)) (λ k. e (suc k)) p.1 p.3 (λ r. m (p.0, p.1, q, r, p.4)))

made_into : (c : Ctor) (P Q : Values → Type 0) → ((vs : Values) → P vs → Sure (Q vs)) → Into (MadeOf c P) (MadeOf c Q)
made_into c P Q e v p n = e p.0 p.1 (λ q. n (p.0, q, p.2))

-- an operator's values are those of its arguments' values
pub applied_alike : (C : Calls) (θ : Tys) (op : Operator) (n : ℕ) (A B : ℕ → Has) → ((k : ℕ) → Alike (A k) (B k)) → Alike (AppliedBy C θ op n A) (AppliedBy C θ op n B)
applied_alike C θ modeled n A B e = of_alike _ _ _ (e 0)
applied_alike C θ negated n A B e = of_alike _ _ _ (e 0)
applied_alike C θ denied n A B e = says_alike _ _ ((λ d y. d ((yes_alike _ _ (e 0)).1 y)), (λ d y. d ((yes_alike _ _ (e 0)).0 y)))
applied_alike C θ (field i) n A B e = of_alike _ _ _ (e 0)
applied_alike C θ (arith op) n A B e = of_two_alike _ _ _ _ _ (e 0) (e 1)
applied_alike C θ less n A B e = of_two_alike _ _ _ _ _ (e 0) (e 1)
applied_alike C θ at_most n A B e = of_two_alike _ _ _ _ _ (e 0) (e 1)
applied_alike C θ equal n A B e = says_alike _ _ (
  (λ s x y p q k. from _ _ (e 0) x p (λ r. from _ _ (e 1) y q (λ t. s x y r t k))),
  (λ s x y p q k. to _ _ (e 0) x p (λ r. to _ _ (e 1) y q (λ t. s x y r t k))),
)
applied_alike C θ both n A B e = says_alike _ _ ((λ p. ((yes_alike _ _ (e 0)).0 p.0, (yes_alike _ _ (e 1)).0 p.1)), (λ p. ((yes_alike _ _ (e 0)).1 p.0, (yes_alike _ _ (e 1)).1 p.1)))
applied_alike C θ either n A B e = says_alike _ _ (
  (λ d p. d ((λ y. p.0 ((yes_alike _ _ (e 0)).0 y)), (λ y. p.1 ((yes_alike _ _ (e 1)).0 y)))),
  (λ d p. d ((λ y. p.0 ((yes_alike _ _ (e 0)).1 y)), (λ y. p.1 ((yes_alike _ _ (e 1)).1 y)))),
)
applied_alike C θ implied n A B e = says_alike _ _ (
  (λ f y. (yes_alike _ _ (e 1)).0 (f ((yes_alike _ _ (e 0)).1 y))),
  (λ f y. (yes_alike _ _ (e 1)).1 (f ((yes_alike _ _ (e 0)).0 y))),
)
applied_alike C θ choice n A B e = chosen_alike _ _ _ _ _ _ (e 0) (e 1) (e 2)
applied_alike C θ (made c) n A B e = alike _ _ (made_into c (Each n A) (Each n B) (each_into n A B (λ k. to _ _ (e k)))) (made_into c (Each n B) (Each n A) (each_into n B A (λ k. from _ _ (e k))))

-- the same where the numbers of arguments are equal by a law
pub applied_alike_at : (C : Calls) (θ : Tys) (op : Operator) (m n : ℕ) (A B : ℕ → Has) → m ≡ n → ((k : ℕ) → Alike (A k) (B k)) → Alike (AppliedBy C θ op m A) (AppliedBy C θ op n B)
applied_alike_at C θ op m n A B same e = subst (λ j. Alike (AppliedBy C θ op m A) (AppliedBy C θ op j B)) same (applied_alike C θ op m A B e)

pub quantified_alike : (q : Quantifier) (S : Value → Type 0) (A B : Value → Has) → ((w : Value) → Alike (A w) (B w)) → Alike (Quantified q S A) (Quantified q S B)
quantified_alike every S A B e = says_alike _ _
    ((λ f w s. (yes_alike _ _ (e w)).0 (f w s)), (λ f w s. (yes_alike _ _ (e w)).1 (f w s)))
quantified_alike some S A B e = says_alike _ _
    ((λ f g. f (λ w s y. g w s ((yes_alike _ _ (e w)).0 y))), (λ f g. f (λ w s y. g w s ((yes_alike _ _ (e w)).1 y))))
