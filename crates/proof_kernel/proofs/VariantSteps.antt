-- What is left while the code goes through variants and their fields.
use Rattle.std.proofs.Common.{◌≡◌, ◌≢◌, ℕ, suc, ◌+◌, ◌<◌, ◌≤◌, ◌==◌, Bool, true, false, cond, List, [], ◌∷◌, ◌++◌, length, get_or, drop, drop-cons, add-one, append_assoc, append-nil, map, Option, Some, None, refl, sym, ◌∙◌, ap, ap₂, eq-eqb, eqb-true, arith, subst}
use Rattle.std.specs.Prelude.{zip, ◌↔◌, Result, IfOk}
use Rattle.std.specs.Option.{option_map}
use Rattle.std.proofs.lemmas.List.{drop_all}
use Rattle.text_core.specs.declared.name.Name.{Name}
use Rattle.logic_term.specs.declared.declaration.AdtDecl.{AdtDecl}
use Rattle.logic_term.specs.declared.declaration.VariantDecl.{VariantDecl}
use Rattle.logic_term.specs.declared.kinds.TyUnary.{TyUnary}
use Rattle.logic_term.specs.declared.kinds.TyUnary.TheVariants as unary
use Rattle.text_core.specs.declared.fault.NoMemory.{NoMemory}
use Rattle.logic_term.specs.declared.kinds.AdtId.{AdtId}
use Rattle.logic_term.specs.Erased.{erased}
use Rattle.logic_term.specs.Normal.{reduced}
use Rattle.logic_term.specs.Term.{Term, var, is_equal}
use Rattle.logic_term.specs.Ty.{Ty, Tys}
use Rattle.logic_term.specs.TyView.{made_by}
use Rattle.logic_elab.specs.Sorts.{same_ty}
use Rattle.proof_kernel.specs.Sequent.{Sequent}
use Rattle.proof_kernel.specs.Intro.{declaring}
use Rattle.proof_kernel.specs.Rules.{AreNew, removing, with_goal, with_hyps}
use Rattle.proof_kernel.specs.TermRules.{at_term}
use Rattle.proof_kernel.specs.VariantRules.{enum_of, Case, case_of, cases_in, By, analysis, induction, variant_term, premise_of, at_each, with_variables, AllNew}

pub made_is_no_enum : (adts : List AdtDecl) (op : TyUnary) (t : Ty) → enum_of adts (made_by op t) ≡ None
made_is_no_enum adts unary.Boxed t = refl
made_is_no_enum adts (unary.Shared r) t = refl
made_is_no_enum adts (unary.Unique r) t = refl
made_is_no_enum adts unary.View t = refl
made_is_no_enum adts unary.Snapshot t = refl

-- what stands first of what is left
left_first : {A : Type 0} (xs : List A) (i : ℕ) (x d : A) → i < length xs → x ≡ get_or xs i d → drop i xs ≡ x ∷ drop (i + 1) xs
left_first xs i x d l is = rw (add-one, drop-cons xs i d) (ap (λ u. u ∷ drop (suc i) xs) (sym is))

left_pair : (xs : List Name) (ss : List Ty) (i : ℕ) (x d : Name) (s e : Ty) → i < length xs → length xs ≡ length ss → x ≡ get_or xs i d → s ≡ get_or ss i e → zip (drop i xs) (drop i ss) ≡ (x, s) ∷ zip (drop (i + 1) xs) (drop (i + 1) ss)
left_pair xs ss i x d s e l many first second =
    let within : i < length ss = omega (arith, l, many) in
    ap₂ (λ ys ts. zip ys ts) (left_first xs i x d l first) (left_first ss i s e within second)

no_pairs : (xs : List Name) (ss : List Ty) (i : ℕ) → length xs ≤ i → zip (drop i xs) (drop i ss) ≡ []
no_pairs xs ss i l = ap (λ ys. zip ys (drop i ss)) (drop_all i xs l)

-- ---- variables

pub one_variable : (xs : List Name) (ss : List Ty) (i : ℕ) (x d : Name) (s e : Ty) (q next whole : Sequent) → i < length xs → length xs ≡ length ss → x ≡ get_or xs i d → s ≡ get_or ss i e → next ≡ declaring q x s
    → with_variables q (zip (drop i xs) (drop i ss)) ≡ whole → with_variables next (zip (drop (i + 1) xs) (drop (i + 1) ss)) ≡ whole
one_variable xs ss i x d s e q next whole l many first second is h =
    ap (λ p. with_variables p (zip (drop (i + 1) xs) (drop (i + 1) ss))) is
    ∙ ap (λ vs. record { vars = vs; hyps = q.hyps; goal = q.goal }) (append_assoc q.vars ((x, s) ∷ []) (zip (drop (i + 1) xs) (drop (i + 1) ss)))
    ∙ ap (λ vs. with_variables q vs) (sym (left_pair xs ss i x d s e l many first second)) ∙ h

pub all_variables : (xs : List Name) (ss : List Ty) (i : ℕ) (q whole : Sequent) → length xs ≤ i → with_variables q (zip (drop i xs) (drop i ss)) ≡ whole → q ≡ whole
all_variables xs ss i q whole l h =
    sym (ap (λ vs. with_variables q vs) (no_pairs xs ss i l) ∙ ap (λ vs. record { vars = vs; hyps = q.hyps; goal = q.goal }) (append-nil q.vars)) ∙ h

-- ---- premises

pub analysed_is : (by : By) (t v : Term) (s k : ℕ) (q : Sequent) (d : AdtId) (xs : List Name) (ss : List Ty) (r : Result Sequent NoMemory) → by ≡ analysis t → v ≡ variant_term d k xs
    → IfOk r (λ p. p ≡ with_hyps s (with_variables q (zip xs ss)) (reduced (is_equal t v) ∷ [])) → IfOk r (λ p. p ≡ premise_of by s q d (record { number = k; names = xs; sorts = ss }))
analysed_is by t v s k q d xs ss r e f h =
    subst (λ (b : By). IfOk r (λ p. p ≡ premise_of b s q d (record { number = k; names = xs; sorts = ss }))) (sym e)
    (subst (λ (u : Term). IfOk r (λ p. p ≡ with_hyps s (with_variables q (zip xs ss)) (reduced (is_equal t u) ∷ []))) f h)

pub inducted_is : (by : By) (x : Name) (o : Ty) (v : Term) (s k : ℕ) (q : Sequent) (d : AdtId) (xs : List Name) (ss : List Ty) (r : Result Sequent NoMemory) → by ≡ induction x o → v ≡ variant_term d k xs
    → IfOk r (λ p. p ≡ with_goal (with_hyps s (with_variables (removing x q) (zip xs ss)) (at_each (erased o) x q.goal (zip xs ss))) (at_term x v q.goal))
    → IfOk r (λ p. p ≡ premise_of by s q d (record { number = k; names = xs; sorts = ss }))
inducted_is by x o v s k q d xs ss r e f h =
    subst (λ (b : By). IfOk r (λ p. p ≡ premise_of b s q d (record { number = k; names = xs; sorts = ss }))) (sym e)
    (subst (λ (u : Term). IfOk r (λ p. p ≡ with_goal (with_hyps s (with_variables (removing x q) (zip xs ss)) (at_each (erased o) x q.goal (zip xs ss))) (at_term x u q.goal))) f h)

-- ---- induction hypotheses

module _ (r : Ty) (y : Name) (t : Term) (xs : List Name) (ss : List Ty) (i : ℕ) (x d : Name) (s e : Ty) (us whole : List Term) (l : i < length xs) (many : length xs ≡ length ss) (first : x ≡ get_or xs i d) (second : s ≡ get_or ss i e) where
  abbrev rest : List Term
  rest = at_each r y t (zip (drop (i + 1) xs) (drop (i + 1) ss))

  opened : us ++ at_each r y t (zip (drop i xs) (drop i ss)) ≡ whole → us ++ cond (same_ty s r) (at_term y (var x) t ∷ rest) rest ≡ whole
  opened h = ap (λ vs. us ++ at_each r y t vs) (sym (left_pair xs ss i x d s e l many first second)) ∙ h

  -- what is added for one
  pub one_each : (more : List Term) → more ≡ us ++ at_each r y t ((x, s) ∷ []) → us ++ at_each r y t (zip (drop i xs) (drop i ss)) ≡ whole → more ++ rest ≡ whole
  one_each more made h = ap (λ ws. ws ++ rest) made ∙ at (same_ty s r) ∙ opened h
    where
      at : (b : Bool) → (us ++ cond b (at_term y (var x) t ∷ []) []) ++ rest ≡ us ++ cond b (at_term y (var x) t ∷ rest) rest
      at true = append_assoc us (at_term y (var x) t ∷ []) rest
      at false = ap (λ ws. ws ++ rest) (append-nil us)

pub all_of_them : (r : Ty) (y : Name) (t : Term) (xs : List Name) (ss : List Ty) (i : ℕ) (us whole : List Term) → length xs ≤ i → us ++ at_each r y t (zip (drop i xs) (drop i ss)) ≡ whole → us ≡ whole
all_of_them r y t xs ss i us whole l h = sym (append-nil us) ∙ ap (λ vs. us ++ at_each r y t vs) (sym (no_pairs xs ss i l)) ∙ h

-- ---- cases

-- the premises of cases behind those that are there
abbrev pub with_others : (Case → Sequent) → List Sequent → Option (List Case) → Option (List Sequent)
with_others f ps o = option_map (λ cs. ps ++ map f cs) o

module _ (f : Case → Sequent) (θ : Tys) where
  no_case : (k : ℕ) (vs : List VariantDecl) (names : List (List Name)) → length names ≢ length vs → cases_in θ k vs names ≡ None
  no_case k [] [] n = absurd (n refl)
  no_case k [] (xs ∷ names) n = refl
  no_case k (v ∷ vs) [] n = refl
  no_case k (v ∷ vs) (xs ∷ names) n = at (length xs == length v.fields) (no_case (suc k) vs names (λ e. n (ap suc e)))
    where
      at : (b : Bool) → cases_in θ (suc k) vs names ≡ None → cond b (option_map (λ cs. case_of θ k xs v.fields ∷ cs) (cases_in θ (suc k) vs names)) None ≡ None
      at true e = ap (option_map (λ cs. case_of θ k xs v.fields ∷ cs)) e
      at false e = refl

  pub too_few : (vs : List VariantDecl) (names : List (List Name)) → length names ≢ length vs → option_map (map f) (cases_in θ 0 vs names) ≡ None
  too_few vs names n = ap (option_map (map f)) (no_case 0 vs names n)

  module _ (vs : List VariantDecl) (names : List (List Name)) (i : ℕ) (v w : VariantDecl) (xs ys : List Name) (ps : List Sequent) (whole : Option (List Sequent)) (l : i < length vs) (many : length names ≡ length vs)
      (first : v ≡ get_or vs i w) (second : xs ≡ get_or names i ys) (h : with_others f ps (cases_in θ i (drop i vs) (drop i names)) ≡ whole) where
    abbrev others : Option (List Case)
    others = cases_in θ (i + 1) (drop (i + 1) vs) (drop (i + 1) names)

    open_case : with_others f ps (cond (length xs == length v.fields) (option_map (λ cs. case_of θ i xs v.fields ∷ cs) (cases_in θ (suc i) (drop (i + 1) vs) (drop (i + 1) names))) None) ≡ whole
    open_case =
        let within : i < length names = omega (arith, l, many) in
        ap (with_others f ps) (ap₂ (λ us ns. cases_in θ i us ns) (sym (left_first vs i v w l first)) (sym (left_first names i xs ys within second))) ∙ h

    pub wrong_case : length xs ≢ length v.fields → whole ≡ None
    wrong_case n = at (length xs == length v.fields) refl open_case
      where
        at : (b : Bool) → (length xs == length v.fields) ≡ b
            → with_others f ps (cond b (option_map (λ cs. case_of θ i xs v.fields ∷ cs) (cases_in θ (suc i) (drop (i + 1) vs) (drop (i + 1) names))) None) ≡ whole → whole ≡ None
        at true e g = absurd (n (eqb-true (length xs) (length v.fields) e))
        at false e g = sym g

    shifted : (o : Option (List Case)) (p : Sequent) (more : List Sequent) → p ≡ f (case_of θ i xs v.fields) → more ≡ ps ++ p ∷ [] → with_others f more o ≡ with_others f ps (option_map (λ cs. case_of θ i xs v.fields ∷ cs) o)
    shifted None p more is made = refl
    shifted (Some cs) p more is made = ap Some (ap (λ qs. qs ++ map f cs) (made ∙ ap (λ r. ps ++ r ∷ []) is) ∙ append_assoc ps (f (case_of θ i xs v.fields) ∷ []) (map f cs))

    pub one_case : (p : Sequent) (more : List Sequent) → length xs ≡ length v.fields → p ≡ f (case_of θ i xs v.fields) → more ≡ ps ++ p ∷ [] → with_others f more others ≡ whole
    one_case p more e is made =
        shifted others p more is made
        ∙ ap (λ n. with_others f ps (option_map (λ cs. case_of θ i xs v.fields ∷ cs) (cases_in θ n (drop (i + 1) vs) (drop (i + 1) names)))) (add-one i)
        ∙ ap (λ b. with_others f ps (cond b (option_map (λ cs. case_of θ i xs v.fields ∷ cs) (cases_in θ (suc i) (drop (i + 1) vs) (drop (i + 1) names))) None)) (sym (eq-eqb (length xs) (length v.fields) e))
        ∙ open_case

  pub all_cases_done : (vs : List VariantDecl) (names : List (List Name)) (i : ℕ) (ps : List Sequent) (whole : Option (List Sequent)) → length vs ≤ i → length names ≡ length vs
      → with_others f ps (cases_in θ i (drop i vs) (drop i names)) ≡ whole → whole ≡ Some ps
  all_cases_done vs names i ps whole l many h =
      let past : length names ≤ i = omega (arith, l, many) in
      sym h ∙ ap (with_others f ps) (ap₂ (λ us ns. cases_in θ i us ns) (drop_all i vs l) (drop_all i names past)) ∙ ap Some (append-nil ps)

  pub none_before : (o : Option (List Case)) → with_others f [] o ≡ option_map (map f) o
  none_before None = refl
  none_before (Some cs) = refl

-- ---- new names

pub one_list_new : (names : List (List Name)) (i : ℕ) (xs ys : List Name) (q : Sequent) → i < length names → xs ≡ get_or names i ys → AllNew (drop i names) q ↔ (AreNew xs q × AllNew (drop (i + 1) names) q)
one_list_new names i xs ys q l is =
    let e : drop i names ≡ xs ∷ drop (i + 1) names = left_first names i xs ys l is in
    ((λ h. subst (λ ns. AllNew ns q) e h), (λ h. subst (λ ns. AllNew ns q) (sym e) h))
