-- The rules by terms are sound.
use Rattle.std.proofs.Common.{◌≡◌, ℕ, ◌==◌, not, Bool, true, false, cond, List, [], Option, Some, None, refl, sym, ◌∙◌, ap, subst}
use Rattle.std.specs.Option.{option_map}
use Rattle.std.specs.Prelude.{ℤ, int_le, Result, Ok, Err}
use Rattle.text_core.specs.declared.name.Name.{Name}
use Rattle.text_core.specs.declared.refusal.SourceError.{SourceError}
use Rattle.source_kinds.specs.declared.kinds.IntKind.{IntKind}
use Rattle.source_kinds.specs.Range.{lowest, highest}
use Rattle.source_trees.specs.Pterm.{Pterm}
use Rattle.logic_term.specs.declared.declaration.AdtDecl.{AdtDecl}
use Rattle.logic_term.specs.Meaning.{Structure, Env, Means, Holds}
use Rattle.logic_term.specs.Sort.{HasSort, instance}
use Rattle.logic_term.specs.Sorted as sorts
use Rattle.logic_term.specs.Free.{free, free_in_some}
use Rattle.logic_term.specs.Term.{some, Term, Terms, var, lit, truth, apply, bind, no_terms, and_term, model}
use Rattle.logic_term.specs.Theory.{Theory, declared}
use Rattle.logic_term.specs.Ty.{Ty, Tys, int, bool, math_int}
use Rattle.logic_term.specs.Value.{Value, Number, integer_of}
use Rattle.logic_term.proofs.Alike.{alike_same}
use Rattle.logic_term.proofs.FreeLaw.{same_name, same_test, or_cases}
use Rattle.logic_term.proofs.SortLaw.{int_value}
use Rattle.logic_term.proofs.SortParts.{parts}
use Rattle.logic_term.proofs.SortSound.{sort_sound}
use Rattle.logic_term.proofs.Truth.{holds_not, holds_exists, holds_at_most, computes_model}
use Rattle.logic_term.proofs.Unique.{has_value}
use Rattle.logic_elab.specs.declared.scope.Symbol.{Symbol}
use Rattle.logic_elab.specs.declared.sorted.SortedTerm.{SortedTerm}
use Rattle.logic_elab.specs.Laws.{GivesSorts}
use Rattle.logic_elab.specs.Sorts.{is_math_int, same_ty}
use Rattle.logic_elab.proofs.SameSorts.{equal_types}
use Rattle.logic_elab.proofs.SortLaw.{terms_are_sorted}
use Rattle.proof_kernel.specs.Sequent.{Sequent, InSorts, AllHold, IsTrueAt, AllTrueAt}
use Rattle.proof_kernel.specs.declared.step.TermRule.{TermRule}
use Rattle.proof_kernel.specs.declared.step.TermRule.TheVariants.{Cut, On, Range, Witness, Eta}
use Rattle.proof_kernel.specs.Rules.{sort_of}
use Rattle.proof_kernel.specs.TermRules.{symbol, scope_of, if_sorted, term_at, at_term, witnessed, assuming_all, formula, shown_first, true_or_false, bounds, bounds_at, by_term, by_term_if, term_rule, division, number_if, division_of, division_rule}
use Rattle.proof_kernel.specs.EtaRule.{eta_at}
use Rattle.proof_kernel.specs.GoalRules.{to_show}
use Rattle.proof_kernel.proofs.AtTerm.{at_term_of}
use Rattle.proof_kernel.proofs.DivisionSound.{division_holds}
use Rattle.proof_kernel.proofs.EtaSound.{eta_holds}
use Rattle.proof_kernel.proofs.Facts.{AllTrue, surely_true, reduced_hold}
use Rattle.proof_kernel.proofs.FormsFound.{same_some, picked}
use Rattle.proof_kernel.proofs.GoalSound.{these_true}
use Rattle.proof_kernel.proofs.LinearSound.{exact}
use Rattle.proof_kernel.proofs.Sound.{and_true, hyps_more, sorted}

-- ---- what terms are at a sequent

abbrev scope_of_sorts : List (Name × Ty) → sorts.Scope
scope_of_sorts vars x = sort_of x vars

elaborates : (r : Result SortedTerm SourceError) (a : SortedTerm) → if_sorted r ≡ Some a → r ≡ Ok a
elaborates (Err e) a p = absurd (cc)
elaborates (Ok b) a p = ap Ok (same_some b a p)

symbols_sorted : (x : Name) (o : Option Ty) (a : Symbol) → option_map (symbol x) o ≡ Some a → (x ≡ a.name) × (o ≡ Some a.sort)
symbols_sorted x None a p = absurd (cc)
symbols_sorted x (Some s) a p = let e : symbol x s ≡ a = same_some (symbol x s) a p in (ap (λ (b : Symbol). b.name) e, ap (λ (b : Symbol). Some b.sort) e)

gives_sorts : (Θ : Theory) (adts : List AdtDecl) (vars : List (Name × Ty)) → Θ.adts ≡ adts → GivesSorts Θ (scope_of_sorts vars) (scope_of adts vars)
gives_sorts Θ adts vars is = record {
  types = is;
  variables = λ x a p. let e = symbols_sorted x (sort_of x vars) a p in subst (λ y. sort_of y vars ≡ Some a.sort) e.0 e.1;
  answer = λ a p. absurd (cc);
}

-- ---- free names

none_behind : (b : Bool) (o p : Option Ty) → not b ≡ true → p ≡ None → cond b o p ≡ None
none_behind true o p e n = absurd (cc)
none_behind false o p e n = n

mutual
  -- the free names of a term have sorts
  sorted_free : (Θ : Theory) (Γ : sorts.Scope) (t : Term) (s : Ty) (x : Name) → sorts.Sorted Θ Γ t s → free x t ≡ true → Γ x ≡ None → ⊥
  sorted_free Θ Γ (var y) s x h f n =
      let same : x ≡ y = same_name x y (same_test x.0 y.0 f) in
      let there : Γ x ≡ Some s = subst (λ (z : Name). Γ z ≡ Some s) (sym same) h in
      let no : None ≡ Some s = sym n ∙ there in
      absurd (cc)
  sorted_free Θ Γ (lit z r) s x h f n = absurd (cc)
  sorted_free Θ Γ (truth b) s x h f n = absurd (cc)
  sorted_free Θ Γ (apply op ts) s x h f n = all_sorted_free Θ Γ ts h.0 x h.2 f n
  sorted_free Θ Γ (bind q y r t) s x h f n =
      let p = and_true (not (x.0 == y.0)) (free x t) f in
      sorted_free Θ (sorts.with_sort Γ y r) t bool x h.1 p.1 (none_behind (x.0 == y.0) (Some r) (Γ x) p.0 n)

  all_sorted_free : (Θ : Theory) (Γ : sorts.Scope) (ts : Terms) (ss : Tys) (x : Name) → sorts.AllSorted Θ Γ ts ss → free_in_some x ts ≡ true → Γ x ≡ None → ⊥
  all_sorted_free Θ Γ no_terms ss x h f n = absurd (cc)
  all_sorted_free Θ Γ (and_term t ts) ss x h f n =
      or_cases (free x t) (free_in_some x ts) f (λ e. sorted_free Θ Γ t h.0 x h.3 e n) (λ e. all_sorted_free Θ Γ ts h.1 x h.4 e n)

-- the free names of a term at a sequent are its variables
pub term_names_there : (adts : List AdtDecl) (q : Sequent) (t : Pterm) (a : SortedTerm) → term_at adts q t ≡ Some a → (x : Name) → free x a.term ≡ true → (r : Ty) × (sort_of x q.vars ≡ Some r)
term_names_there adts q t a p x f = at (sort_of x q.vars) refl
  where
    Θ : Theory
    Θ = record { adts = adts }

    is : sorts.Sorted Θ (scope_of_sorts q.vars) a.term a.sort
    is = terms_are_sorted Θ (scope_of_sorts q.vars) (scope_of adts q.vars) (gives_sorts Θ adts q.vars refl) t a (elaborates _ a p)

    at : (o : Option Ty) → sort_of x q.vars ≡ o → (r : Ty) × (sort_of x q.vars ≡ Some r)
    at None e = absurd (sorted_free Θ (scope_of_sorts q.vars) a.term a.sort x is f e)
    at (Some r) e = (r, e)

module _ (S : Structure) (adts : List AdtDecl) (is : S.theory ≡ record { adts = adts }) (q : Sequent) (ρ : Env) (z : InSorts S q.vars ρ) where
  -- its value has its sort
  pub value_sorted : (t : Pterm) (a : SortedTerm) → term_at adts q t ≡ Some a → (v : Value) → Means S a.term ρ v → HasSort (declared S.theory) v (instance S.types a.sort)
  value_sorted t a p v m =
      let gives = gives_sorts S.theory adts q.vars (ap (λ (Θ : Theory). Θ.adts) is) in
      let here = terms_are_sorted S.theory (scope_of_sorts q.vars) (scope_of adts q.vars) gives t a (elaborates _ a p) in
      sort_sound S.theory S.types a.term (scope_of_sorts q.vars) a.sort ρ here (λ x s e. sorted S x q.vars s ρ e z) v m

-- ---- the bounds of a machine integer

bounds_hold : (S : Structure) (ρ : Env) (k : IntKind) (t : Term) → ((v : Value) → Means S t ρ v → HasSort (declared S.theory) v (int k)) → AllTrue S (bounds k t) ρ
bounds_hold S ρ k t is = surely_true S (bounds k t) ρ (λ n. has_value S t ρ (λ x. n (at x.0 x.1)))
  where
    at : (v : Value) → Means S t ρ v → AllTrue S (bounds k t) ρ
    at v m =
        let u = int_value (declared S.theory) v (int k) k (is v m) refl in
        let here : integer_of v ≡ u.0 = ap integer_of u.1 in
        let both = and_true (int_le (lowest k) u.0) (int_le u.0 (highest k)) u.2 in
        let model_is = computes_model S t ρ v (exact S ρ t (integer_of v) (v, m, refl)) in (
          (holds_at_most S (lit (lowest k) math_int) (model t) ρ (Number (lowest k)) (Number (integer_of v)) (alike_same _) model_is).1 (ap (λ i. int_le (lowest k) i) here ∙ both.0),
          (
            (holds_at_most S (model t) (lit (highest k) math_int) ρ (Number (integer_of v)) (Number (highest k)) model_is (alike_same _)).1 (ap (λ i. int_le i (highest k)) here ∙ both.1),
            tt,
          ),
        )

bounds_at_hold : (S : Structure) (ρ : Env) (s : Ty) (t : Term) (ts : List Term) → bounds_at s t ≡ Some ts → ((v : Value) → Means S t ρ v → HasSort (declared S.theory) v (instance S.types s)) → AllTrue S ts ρ
bounds_at_hold S ρ (int k) t ts e is = subst (λ us. AllTrue S us ρ) (same_some (bounds k t) ts e) (bounds_hold S ρ k t is)
bounds_at_hold S ρ s t ts e is = absurd (cc)

-- ---- the rules

module _ (S : Structure) (s : ℕ) (q : Sequent) (ps : List Sequent) (h : AllTrueAt S ps) where
  pub assuming_sound : (o : Option (List Term)) → assuming_all s q o ≡ Some ps → ((ts : List Term) → o ≡ Some ts → (ρ : Env) → InSorts S q.vars ρ → AllHold S q.hyps ρ → AllTrue S ts ρ) → IsTrueAt S q
  assuming_sound None e f = absurd (cc)
  assuming_sound (Some ts) e f = λ ρ z k. (these_true S _ ps e h).0 ρ z (hyps_more S q.hyps _ ρ k (reduced_hold S s 1 ts ρ (f ts refl ρ z k)))

  cut_sound : (o : Option Term) → option_map (shown_first s q) o ≡ Some ps → IsTrueAt S q
  cut_sound None e = absurd (cc)
  cut_sound (Some f) e = λ ρ z k. let g = these_true S _ ps e h in g.1.0 ρ z (hyps_more S q.hyps _ ρ k (g.0 ρ z k, tt))

  on_sound : (o : Option Term) → option_map (true_or_false s q) o ≡ Some ps → IsTrueAt S q
  on_sound None e = absurd (cc)
  on_sound (Some f) e = λ ρ z k n.
      let g = these_true S _ ps e h in
      let fails : Holds S f ρ → ⊥ = λ y. g.0 ρ z (hyps_more S q.hyps _ ρ k (y, tt)) n in
      g.1.0 ρ z (hyps_more S q.hyps _ ρ k ((holds_not S f ρ).1 fails, tt)) n

  -- an existential formula is true that is true at a term of the sort
  witnessed_holds : (a : SortedTerm) (g u : Term) (ρ : Env) → witnessed a g ≡ Some u → ((v : Value) → Means S a.term ρ v → HasSort (declared S.theory) v (instance S.types a.sort)) → Holds S u ρ → Holds S g ρ
  witnessed_holds a (bind some x r t) u ρ e is k =
      let c = picked (same_ty a.sort r) (at_term x a.term t) u e in
      (holds_exists S x r t ρ).1 (λ none. has_value S a.term ρ (λ (w : (v : Value) × Means S a.term ρ v).
      none w.0 (subst (λ (o : Ty). HasSort (declared S.theory) w.0 (instance S.types o)) (equal_types a.sort r c.0) (is w.0 w.1))
      (at_term_of S x a.term t ρ w.0 (exact S ρ a.term (integer_of w.0) (w.0, w.1, refl)) (subst (λ (v : Term). Holds S v ρ) (sym c.1) k))))
  witnessed_holds a g u ρ e is k = absurd (cc)

  module _ (adts : List AdtDecl) (is : S.theory ≡ record { adts = adts }) where
    witness_sound : (t : Pterm) (a : SortedTerm) → term_at adts q t ≡ Some a → (o : Option Term) → witnessed a q.goal ≡ o → to_show q o ≡ Some ps → IsTrueAt S q
    witness_sound t a p None c e = absurd (cc)
    witness_sound t a p (Some u) c e = λ ρ z k. witnessed_holds a q.goal u ρ c (value_sorted S adts is q ρ z t a p) ((these_true S _ ps e h).0 ρ z k)

    by_term_sound : (r : TermRule) (t : Pterm) (a : SortedTerm) → term_at adts q t ≡ Some a → by_term adts r s q a ≡ Some ps → IsTrueAt S q
    by_term_sound Cut t a p e = cut_sound (formula a) e
    by_term_sound On t a p e = on_sound (formula a) e
    by_term_sound Range t a p e = assuming_sound (bounds_at a.sort a.term) e (λ ts f ρ z k. bounds_at_hold S ρ a.sort a.term ts f (value_sorted S adts is q ρ z t a p))
    by_term_sound Witness t a p e = witness_sound t a p (witnessed a q.goal) refl e
    by_term_sound Eta t a p e = assuming_sound (eta_at adts a) e (λ ts f ρ z k. eta_holds S adts is ρ a ts f (value_sorted S adts is q ρ z t a p))

    by_term_if_sound : (r : TermRule) (t : Pterm) (o : Option SortedTerm) → term_at adts q t ≡ o → by_term_if adts r s q o ≡ Some ps → IsTrueAt S q
    by_term_if_sound r t None p e = absurd (cc)
    by_term_if_sound r t (Some a) p e = by_term_sound r t a p e

    pub term_sound : (r : TermRule) (t : Pterm) → term_rule adts r s q t ≡ Some ps → IsTrueAt S q
    term_sound r t e = by_term_if_sound r t (term_at adts q t) refl e

  -- ---- division

  math_int_sort : (t : Ty) → is_math_int t ≡ true → t ≡ math_int
  math_int_sort math_int e = refl
  math_int_sort t e = absurd (cc)

  division_found : (o p : Option Term) (ts : List Term) → division_of o p ≡ Some ts → (a : Term) × (b : Term) × (o ≡ Some a) × (p ≡ Some b) × (division a b ≡ ts)
  division_found None p ts e = absurd (cc)
  division_found (Some a) None ts e = absurd (cc)
  division_found (Some a) (Some b) ts e = (a, b, refl, refl, same_some (division a b) ts e)

  module _ (adts : List AdtDecl) (is : S.theory ≡ record { adts = adts }) where
    -- an unbounded integer at the sequent has a number
    number_value : (t : Pterm) (o : Option SortedTerm) (a : Term) → term_at adts q t ≡ o → number_if o ≡ Some a → (ρ : Env) → InSorts S q.vars ρ → (v : Value) → Means S a ρ v → (n : ℤ) × (v ≡ Number n)
    number_value t None a p e ρ z v m = absurd (cc)
    number_value t (Some b) a p e ρ z v m =
        let c = picked (is_math_int b.sort) b.term a e in
        let there : Means S b.term ρ v = subst (λ (u : Term). Means S u ρ v) (sym c.1) m in
        let here = value_sorted S adts is q ρ z t b p v there in
        parts (declared S.theory) v math_int (subst (λ (u : Ty). HasSort (declared S.theory) v (instance S.types u)) (math_int_sort b.sort c.0) here)

    pub division_sound : (t u : Pterm) → division_rule adts s q t u ≡ Some ps → IsTrueAt S q
    division_sound t u e = assuming_sound (division_of (number_if (term_at adts q t)) (number_if (term_at adts q u))) e (λ ts f ρ z k.
        let d = division_found (number_if (term_at adts q t)) (number_if (term_at adts q u)) ts f in
        subst (λ us. AllTrue S us ρ) d.4 (division_holds S ρ d.0 d.1 (number_value t (term_at adts q t) d.0 refl d.2 ρ z) (number_value u (term_at adts q u) d.1 refl d.3 ρ z)))
