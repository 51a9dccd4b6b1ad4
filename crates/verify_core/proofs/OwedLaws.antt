-- What one node owes, of all that is owed.
use Rattle.std.proofs.Common.{◌≡◌, ◌∙◌, refl, sym, ap, subst, ℕ, ◌<◌, ◌≤◌, ◌==◌, ◌⊎◌, inl, inr, Bool, true, false, List, [], ◌∷◌, ◌++◌, length, arith}
use Rattle.std.specs.List.{filter}
use Rattle.std.proofs.lemmas.Bool.{eqb-true, eq-eqb, cases_lt}
use Rattle.std.proofs.lemmas.List.{append-nil, map-append}
use Rattle.std.proofs.lemmas.List.Elements.{filter-append}
use Rattle.logic_term.specs.declared.obligation.Contract.{Contract}
use Rattle.logic_term.specs.declared.obligation.Obligation.{Obligation}
use Rattle.mir_ir.specs.declared.body.Contracts.{Contracts}
use Rattle.mir_ir.specs.declared.body.Bodies.{Bodies}
use Rattle.mir_ir.specs.declared.body.Initialised.{Initialised}
use Rattle.mir_machine.specs.Good.{Each}
use Rattle.prophecy_sim.specs.declared.node.Node.{Node}
use Rattle.prophecy_sim.specs.declared.node.Node.TheVariants.{Function}
use Rattle.verify_core.specs.declared.owed.Owed.{Owed}
use Rattle.verify_core.specs.Owed.{same_node, obligations_in, owed_by, owing, HasBody, HaveOwners}
use Rattle.verify_core.specs.Prepared.{FunctionOwes, FunctionsOwe}
use Rattle.verify_core.proofs.ReachLaws.{within}

-- ---- numbers

pub itself_is : (n : ℕ) → (n == n) ≡ true
itself_is n = eq-eqb n n refl

pub other_is_not : (n m : ℕ) → (n ≡ m → ⊥) → (n == m) ≡ false
other_is_not n m other = by_test (n == m) refl
  where
    by_test : (t : Bool) → (n == m) ≡ t → (n == m) ≡ false
    by_test false is = is
    by_test true is = absurd (other (eqb-true n m is))

-- ---- lists

pub each_both : {A : Type 0} (P : A → Type 0) (xs ys : List A) → Each P xs → Each P ys → Each P (xs ++ ys)
each_both P [] ys one other = other
each_both P (x ∷ xs) ys (here, one) other = (here, each_both P xs ys one other)

pub each_front : {A : Type 0} (P : A → Type 0) (xs ys : List A) → Each P (xs ++ ys) → Each P xs
each_front P [] ys each = tt
each_front P (x ∷ xs) ys (here, each) = (here, each_front P xs ys each)

pub each_behind : {A : Type 0} (P : A → Type 0) (xs ys : List A) → Each P (xs ++ ys) → Each P ys
each_behind P [] ys each = each
each_behind P (x ∷ xs) ys (here, each) = each_behind P xs ys each

pub owed_in_both : (n : Node) (os qs : List Owed) → owed_by n (os ++ qs) ≡ owed_by n os ++ owed_by n qs
owed_in_both n os qs =
    ap obligations_in (filter-append (λ (o : Owed). same_node n o.by) os qs)
    ∙ map-append (λ (o : Owed). o.obligation) (filter (λ (o : Owed). same_node n o.by) os) (filter (λ (o : Owed). same_node n o.by) qs)

-- ---- one function

own_all : (n : ℕ) (os : List Obligation) → owed_by (Function n) (owing (Function n) os) ≡ os
own_all n [] = refl
own_all n (o ∷ os) = rw (itself_is n) (ap (λ (xs : List Obligation). o ∷ xs) (own_all n os))

own_none : (n m : ℕ) → (n == m) ≡ false → (os : List Obligation) → owed_by (Function n) (owing (Function m) os) ≡ []
own_none n m other [] = refl
own_none n m other (o ∷ os) = rw other (own_none n m other os)

owners_of : (bodies : Bodies) (n : ℕ) (os : List Obligation) → n < length bodies.bodies → HaveOwners bodies (owing (Function n) os)
owners_of bodies n [] inside = tt
owners_of bodies n (o ∷ os) inside = (inside, owners_of bodies n os inside)

-- what has no body owes nothing
not_it : (bodies : Bodies) (n : ℕ) (by : Node) → length bodies.bodies ≤ n → HasBody bodies by → same_node (Function n) by ≡ false
not_it bodies n (Function m) past has = other_is_not n m (λ e. omega arith)

pub owes_nothing : (bodies : Bodies) (n : ℕ) → length bodies.bodies ≤ n → (os : List Owed) → HaveOwners bodies os → owed_by (Function n) os ≡ []
owes_nothing bodies n past [] has = refl
owes_nothing bodies n past (o ∷ os) (has, rest) = rw (not_it bodies n o.by past has) (owes_nothing bodies n past os rest)

-- ---- the functions of a program

module _ (bs : Bodies) (cs : Contracts) (gones : List Initialised) where
  pub have_owners : {many : ℕ} {owed : List Owed} → FunctionsOwe bs cs gones many owed → HaveOwners bs owed
  have_owners FunctionsOwe.none = tt
  have_owners (FunctionsOwe.and_function {n} {owed} {os} first own) =
      each_both (λ (o : Owed). HasBody bs o.by) owed (owing (Function n) os) (have_owners first) (owners_of bs n os (within bs.bodies n own.body own.is_body))

  owes_no_more : {many : ℕ} {owed : List Owed} → FunctionsOwe bs cs gones many owed → (n : ℕ) → many ≤ n → owed_by (Function n) owed ≡ []
  owes_no_more FunctionsOwe.none n past = refl
  owes_no_more (FunctionsOwe.and_function {n = m} {owed} {os} first own) n past =
      owed_in_both (Function n) owed (owing (Function m) os)
      ∙ ap (λ (xs : List Obligation). xs ++ owed_by (Function n) (owing (Function m) os)) (owes_no_more first n (omega arith))
      ∙ own_none n m (other_is_not n m (λ e. omega arith)) os

  -- each of the functions owes the obligations of its walk
  pub function_owes : {many : ℕ} {owed : List Owed} → FunctionsOwe bs cs gones many owed → (n : ℕ) → n < many → FunctionOwes bs cs gones n (owed_by (Function n) owed)
  function_owes FunctionsOwe.none n inside = absurd (omega arith)
  function_owes (FunctionsOwe.and_function {n = m} {owed} {os} first own) n inside =
      subst (FunctionOwes bs cs gones n) (sym (owed_in_both (Function n) owed (owing (Function m) os))) (which (cases_lt n m) (λ below. function_owes first n below))
    where
      Own : ℕ → Type 0
      Own k = FunctionOwes bs cs gones k (owed_by (Function k) owed ++ owed_by (Function k) (owing (Function m) os))

      which : (n < m) ⊎ (m ≤ n) → (n < m → FunctionOwes bs cs gones n (owed_by (Function n) owed)) → Own n
      which (inl below) earlier = rw (own_none n m (other_is_not n m (λ e. omega arith)) os, append-nil (owed_by (Function n) owed)) (earlier below)
      which (inr past) earlier =
          let same : m ≡ n = omega arith in
          subst Own same (rw (owes_no_more first m (omega arith), own_all m os) own)
