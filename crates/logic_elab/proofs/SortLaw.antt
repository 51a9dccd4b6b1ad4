-- What a term becomes has its sort, and speaks of its scope alone.
use Rattle.std.proofs.Common.{◌≡◌, ◌∙◌, ◌||◌, ◌&&◌, ◌==◌, not, cond, ℕ, Bool, true, false, List, [], ◌∷◌, Option, Some, None, ◌⊎◌, inl, inr, refl, ap, sym, subst, true≢false, arith}
use Rattle.std.proofs.lemmas.Bool.Decides.{nat_tests}
use Rattle.text_core.specs.declared.name.Name.{Name}
use Rattle.logic_term.specs.declared.declaration.AdtDecl.{AdtDecl}
use Rattle.logic_term.specs.Free.{free, free_in_some}
use Rattle.logic_term.specs.Sorted.{Sorted, AllSorted, FieldSort, OperatorSort, one_ty, two_tys, with_sort}
use Rattle.logic_term.specs.Sorted as sorts
use Rattle.logic_term.specs.Term.{Term, Terms, Operator, field, no_terms, and_term, var, one, two, modeled, negated, denied, arith as by_op, less, at_most, equal, both, either, implied, Quantifier, bind, if_else}
use Rattle.logic_term.specs.Theory.{Theory}
use Rattle.logic_term.specs.Ty.{Ty, Tys, int, bool, math_int, no_tys, and_ty}
use Rattle.logic_term.proofs.FreeLaw.{same_test, same_name}
use Rattle.logic_elab.specs.declared.scope.Symbol.{Symbol}
use Rattle.logic_elab.specs.Binders.{apart, under_one, meant_under}
use Rattle.logic_elab.specs.Elaborated.{answer_or}
use Rattle.logic_elab.specs.Laws.{IsSpokenOf, ElaboratedTermsSpeakOfTheirScope, GivesSorts, ElaboratedTermsAreSorted}
use Rattle.logic_elab.specs.Scope.{Scope}
use Rattle.logic_elab.proofs.Heard.{Each, IsKept, holds_of_each}

-- ---- what a name means

apart_at : (t : Bool) (c a : Symbol) → cond t None (Some c) ≡ Some a → (t ≡ false) × (c ≡ a)
apart_at true c a p = absurd (cc)
apart_at false c a p = (refl, cc)

-- what a binder leaves is not what it binds
apart_is : (y : Name) (o : Option Symbol) (a : Symbol) → apart y o ≡ Some a → (o ≡ Some a) × ((a.name.0 == y.0) ≡ false)
apart_is y None a p = absurd (cc)
apart_is y (Some c) a p =
    let q = apart_at (c.name.0 == y.0) c a p in
    (ap (λ (d : Symbol). Some d) q.1, subst (λ (d : Symbol). (d.name.0 == y.0) ≡ false) q.1 q.0)

under_at : (t : Bool) (b : Symbol) (o : Option Symbol) (a : Symbol) → cond t (Some b) (apart b.name o) ≡ Some a → (b ≡ a) ⊎ ((o ≡ Some a) × ((a.name.0 == b.name.0) ≡ false))
under_at true b o a p = inl cc
under_at false b o a p = inr (apart_is b.name o a p)

-- what is bound, or what was meant around the binder
under_is : (x : Name) (b : Symbol) (o : Option Symbol) (a : Symbol) → under_one x b o ≡ Some a → (b ≡ a) ⊎ ((o ≡ Some a) × ((a.name.0 == b.name.0) ≡ false))
under_is x b o a p = under_at (x.0 == b.name.0) b o a p

-- R holds of what may be meant
abbrev AllOf : (Symbol → Type 0) → Option Symbol → Type 0
AllOf R o = (a : Symbol) → o ≡ Some a → R a

all_of_answer : (R : Symbol → Type 0) (m o : Option Symbol) → AllOf R m → AllOf R o → AllOf R (answer_or m o)
all_of_answer R None o h k a p = k a p
all_of_answer R (Some b) o h k a p = h a p

-- ---- sorts

same_self : (n : ℕ) → (n == n) ≡ true
same_self n = grind (arith, nat_tests)

abbrev with_sorts : sorts.Scope → List Symbol → sorts.Scope
with_sorts Δ [] = Δ
with_sorts Δ (b ∷ bs) = with_sort (with_sorts Δ bs) b.name b.sort

abbrev HasItsSort : sorts.Scope → Symbol → Type 0
HasItsSort Δ a = Δ a.name ≡ Some a.sort

bound_sorted : (Δ : sorts.Scope) (b : Symbol) → HasItsSort (with_sort Δ b.name b.sort) b
bound_sorted Δ b = ap (λ t. cond t (Some b.sort) (Δ b.name)) (same_self b.name.0)

other_sorted : (Δ : sorts.Scope) (b a : Symbol) → (a.name.0 == b.name.0) ≡ false → HasItsSort Δ a → HasItsSort (with_sort Δ b.name b.sort) a
other_sorted Δ b a e h = ap (λ t. cond t (Some b.sort) (Δ a.name)) e ∙ h

under_sorted : (Δ : sorts.Scope) (x : Name) (b : Symbol) (o : Option Symbol) → AllOf (HasItsSort Δ) o → AllOf (HasItsSort (with_sort Δ b.name b.sort)) (under_one x b o)
under_sorted Δ x b o h a p = elim (under_is x b o a p) as (λ _. HasItsSort (with_sort Δ b.name b.sort) a) [
  | inl q ↦ subst (HasItsSort (with_sort Δ b.name b.sort)) q (bound_sorted Δ b)
  | inr q ↦ other_sorted Δ b a q.1 (h a q.0)
]

meant_sorted : (Δ : sorts.Scope) (x : Name) (bs : List Symbol) (o : Option Symbol) → AllOf (HasItsSort Δ) o → AllOf (HasItsSort (with_sorts Δ bs)) (meant_under x bs o)
meant_sorted Δ x [] o h = h
meant_sorted Δ x (b ∷ bs) o h = under_sorted (with_sorts Δ bs) x b (meant_under x bs o) (meant_sorted Δ x bs o h)

module _ (Θ : Theory) (Δ : sorts.Scope) where
  one_sorted : (op : Operator) (r s : Ty) (t : Term) → OperatorSort Θ op (one_ty r) s → Sorted Θ Δ t r → Sorted Θ Δ (one op t) s
  one_sorted op r s t o h = (one_ty r, o, (r, _, refl, h, refl))

  two_sorted : (op : Operator) (r s : Ty) (t u : Term) → OperatorSort Θ op (two_tys r r) s → Sorted Θ Δ t r → Sorted Θ Δ u r → Sorted Θ Δ (two op t u) s
  two_sorted op r s t u o h k = (two_tys r r, o, (r, one_ty r, refl, h, (r, _, refl, k, refl)))

  choice_sorted : (s : Ty) (c t u : Term) → Sorted Θ Δ c bool → Sorted Θ Δ t s → Sorted Θ Δ u s → Sorted Θ Δ (if_else c t u) s
  choice_sorted s c t u f h k = (and_ty bool (two_tys s s), refl, (bool, two_tys s s, refl, f, (s, one_ty s, refl, h, (s, _, refl, k, refl))))

  each_sorted : (ss : Tys) (ts : Terms) → Each (λ s t. Sorted Θ Δ t s) ss ts → AllSorted Θ Δ ts ss
  each_sorted no_tys no_terms h = refl
  each_sorted (and_ty s ss) (and_term t ts) h = (s, ss, refl, h.0, each_sorted ss ts h.1)
  each_sorted ss ts h = absurd h

sorts_are_kept : (Θ : Theory) (E : sorts.Scope) (Γ : Scope) → GivesSorts Θ E Γ → (bs : List Symbol) → IsKept (λ s t. Sorted Θ (with_sorts E bs) t s) Γ bs
sorts_are_kept Θ E Γ gives bs =
    let Δ = with_sorts E bs in
    record {
      variables = λ x. meant_sorted E x bs (Γ.variable x) (gives.variables x);
      answer = λ x. meant_sorted E x bs (answer_or Γ.answer (Γ.variable x)) (all_of_answer (HasItsSort E) Γ.answer (Γ.variable x) gives.answer (gives.variables x));
      integers = λ z. (refl, inl refl);
      machine_integers = λ z k e. (refl, inr (k, refl, e));
      truths = λ b. refl;
      models = λ k t h. one_sorted Θ Δ modeled (int k) math_int t (k, refl, refl) h;
      negatives = λ t h. one_sorted Θ Δ negated math_int math_int t (refl, refl) h;
      denials = λ t h. one_sorted Θ Δ denied bool bool t (refl, refl) h;
      operations = λ op t u h k. two_sorted Θ Δ (by_op op) math_int math_int t u (refl, refl) h k;
      lesses = λ t u h k. two_sorted Θ Δ less math_int bool t u (refl, refl) h k;
      at_mosts = λ t u h k. two_sorted Θ Δ at_most math_int bool t u (refl, refl) h k;
      equations = λ s t u h k. two_sorted Θ Δ equal s bool t u (s, refl, refl) h k;
      conjunctions = λ t u h k. two_sorted Θ Δ both bool bool t u (refl, refl) h k;
      disjunctions = λ t u h k. two_sorted Θ Δ either bool bool t u (refl, refl) h k;
      implications = λ t u h k. two_sorted Θ Δ implied bool bool t u (refl, refl) h k;
      choices = λ s c t u f h k. choice_sorted Θ Δ s c t u f h k;
      tuples = λ ss ts h. (ss, refl, each_sorted Θ Δ ss ts h);
      parts = λ r n s t e h. one_sorted Θ Δ (field n) r s t (r, refl, subst (λ (ds : List AdtDecl). FieldSort (record { adts = ds }) r n s) (sym gives.types) e) h;
    }

pub terms_are_sorted : ElaboratedTermsAreSorted
terms_are_sorted Θ Δ Γ gives t a p = holds_of_each (λ bs s u. Sorted Θ (with_sorts Δ bs) u s) Γ (sorts_are_kept Θ Δ Γ gives) (λ q bs b u h. (refl, h)) [] t a p

-- ---- free names

in_one : (a : Bool) → (a || false) ≡ true → a ≡ true
in_one true p = refl
in_one false p = p

in_two : (a b : Bool) → (a || (b || false)) ≡ true → (a ≡ true) ⊎ (b ≡ true)
in_two true b p = inl refl
in_two false true p = inr refl
in_two false false p = inr p

in_three : (a b c : Bool) → (a || (b || (c || false))) ≡ true → (a ≡ true) ⊎ ((b ≡ true) ⊎ (c ≡ true))
in_three true b c p = inl refl
in_three false b c p = inr (in_two b c p)

module _ (Q : Name → Type 0) where
  -- each free name is one of Q's
  abbrev Only : Term → Type 0
  Only t = (x : Name) → free x t ≡ true → Q x

  only_var : (y : Name) → Q y → Only (var y)
  only_var y q x p = subst Q (sym (same_name x y (same_test x.0 y.0 p))) q

  only_none : (x : Name) (b : Bool) → b ≡ false → b ≡ true → Q x
  only_none x b p q = absurd (true≢false (sym q ∙ p))

  only_one : (op : Operator) (t : Term) → Only t → Only (one op t)
  only_one op t h x p = h x (in_one (free x t) p)

  only_two : (op : Operator) (t u : Term) → Only t → Only u → Only (two op t u)
  only_two op t u h k x p = elim (in_two (free x t) (free x u) p) as (λ _. Q x) [ inl a ↦ h x a | inr b ↦ k x b ]

  only_choice : (c t u : Term) → Only c → Only t → Only u → Only (if_else c t u)
  only_choice c t u f h k x p = elim (in_three (free x c) (free x t) (free x u) p) as (λ _. Q x) [ inl a ↦ f x a | inr b ↦ elim b as (λ _. Q x) [ inl d ↦ h x d | inr d ↦ k x d ] ]

  in_either : (a b : Bool) → (a || b) ≡ true → (a ≡ true) ⊎ (b ≡ true)
  in_either true b p = inl refl
  in_either false b p = inr p

  only_each : (ss : Tys) (ts : Terms) → Each (λ s t. Only t) ss ts → (x : Name) → free_in_some x ts ≡ true → Q x
  only_each no_tys no_terms h x p = absurd (true≢false (sym p))
  only_each (and_ty s ss) (and_term t ts) h x p = elim (in_either (free x t) (free_in_some x ts) p) as (λ _. Q x) [ inl a ↦ h.0 x a | inr b ↦ only_each ss ts h.1 x b ]
  only_each ss ts h x p = absurd h

-- the names that are bound, and those that the scope gives
abbrev Spoken : Scope → List Symbol → Name → Type 0
Spoken Γ [] x = IsSpokenOf Γ x
Spoken Γ (b ∷ bs) x = (x ≡ b.name) ⊎ Spoken Γ bs x

abbrev IsNamed : (Name → Type 0) → Symbol → Type 0
IsNamed Q a = Q a.name

meant_spoken : (Γ : Scope) (x : Name) (bs : List Symbol) (o : Option Symbol) → AllOf (IsNamed (IsSpokenOf Γ)) o → AllOf (IsNamed (Spoken Γ bs)) (meant_under x bs o)
meant_spoken Γ x [] o h a p = h a p
meant_spoken Γ x (b ∷ bs) o h a p = elim (under_is x b (meant_under x bs o) a p) as (λ _. Spoken Γ (b ∷ bs) a.name) [
  | inl q ↦ inl (ap (λ (c : Symbol). c.name) (sym q))
  | inr q ↦ inr (meant_spoken Γ x bs o h a q.0)
]

both_hold : (a b : Bool) → (not a && b) ≡ true → (a ≡ false) × (b ≡ true)
both_hold true b e = absurd (true≢false (sym e))
both_hold false b e = (refl, e)

-- what is bound is not free outside
bound_apart : (Γ : Scope) (q : Quantifier) (bs : List Symbol) (b : Symbol) (t : Term) → Only (Spoken Γ (b ∷ bs)) t → Only (Spoken Γ bs) (bind q b.name b.sort t)
bound_apart Γ q bs b t h x p =
    let f = both_hold (x.0 == b.name.0) (free x t) p in
    elim (h x f.1) as (λ _. Spoken Γ bs x) [
      | inl e ↦ absurd (true≢false (sym (ap (λ (y : Name). y.0 == b.name.0) e ∙ same_self b.name.0) ∙ f.0))
      | inr s ↦ s
    ]

names_are_kept : (Γ : Scope) (bs : List Symbol) → IsKept (λ s t. Only (Spoken Γ bs) t) Γ bs
names_are_kept Γ bs =
    let Q = Spoken Γ bs in
    let given : (x : Name) → AllOf (IsNamed (IsSpokenOf Γ)) (Γ.variable x) = λ x a e. inl (x, a, e, refl) in
    record {
      variables = λ x a e. only_var Q a.name (meant_spoken Γ x bs (Γ.variable x) (given x) a e);
      answer = λ x a e. only_var Q a.name (meant_spoken Γ x bs (answer_or Γ.answer (Γ.variable x)) (all_of_answer (IsNamed (IsSpokenOf Γ)) Γ.answer (Γ.variable x) (λ b q. inr (b, q, refl)) (given x)) a e);
      integers = λ z x p. only_none Q x false refl p;
      machine_integers = λ z k e x p. only_none Q x false refl p;
      truths = λ b x p. only_none Q x false refl p;
      models = λ k t h. only_one Q modeled t h;
      negatives = λ t h. only_one Q negated t h;
      denials = λ t h. only_one Q denied t h;
      operations = λ op t u h k. only_two Q (by_op op) t u h k;
      lesses = λ t u h k. only_two Q less t u h k;
      at_mosts = λ t u h k. only_two Q at_most t u h k;
      equations = λ s t u h k. only_two Q equal t u h k;
      conjunctions = λ t u h k. only_two Q both t u h k;
      disjunctions = λ t u h k. only_two Q either t u h k;
      implications = λ t u h k. only_two Q implied t u h k;
      choices = λ s c t u f h k. only_choice Q c t u f h k;
      tuples = λ ss ts h. only_each Q ss ts h;
      parts = λ r n s t e h. only_one Q (field n) t h;
    }

pub terms_speak_of_their_scope : ElaboratedTermsSpeakOfTheirScope
terms_speak_of_their_scope Γ t a p = holds_of_each (λ bs s u. Only (Spoken Γ bs) u) Γ (names_are_kept Γ) (bound_apart Γ) [] t a p
