-- What the steps by variants add is their own.
use Rattle.std.proofs.Common.{◌≡◌, ℕ, suc, ◌==◌, Bool, true, false, cond, List, [], ◌∷◌, ◌++◌, length, map, flat_map, Option, Some, None, subst}
use Rattle.std.specs.Prelude.{zip}
use Rattle.std.specs.Option.{option_map}
use Rattle.text_core.specs.declared.name.Name.{Name}
use Rattle.logic_term.specs.declared.declaration.AdtDecl.{AdtDecl}
use Rattle.logic_term.specs.declared.declaration.VariantDecl.{VariantDecl}
use Rattle.logic_term.specs.declared.kinds.AdtId.{AdtId}
use Rattle.logic_term.specs.declared.kinds.Label2.{Label2}
use Rattle.logic_term.specs.Erased.{erased}
use Rattle.logic_term.specs.Normal.{reduced}
use Rattle.logic_term.specs.Term.{Term, is_equal}
use Rattle.logic_term.specs.Ty.{Ty, Tys}
use Rattle.logic_elab.specs.declared.sorted.SortedTerm.{SortedTerm}
use Rattle.source_trees.specs.Pterm.{Pterm}
use Rattle.proof_kernel.specs.Sequent.{Sequent}
use Rattle.proof_kernel.specs.Rules.{label, sort_of, without_variable}
use Rattle.proof_kernel.specs.TermRules.{term_at}
use Rattle.proof_kernel.specs.VariantRules.{Enum, enum_of, Case, case_of, cases_in, case_term, field_variables, By, analysis, induction, at_each, with_variables, premise_of, in_variants, on_sorted, variants_rule, induct_sorted, induction_rule}
use Rattle.proof_kernel.proofs.Each.{Each, Has, each_and}
use Rattle.proof_kernel.proofs.FormsAdd.{labels_own, more_has}
use Rattle.proof_kernel.proofs.FormsFound.{same_some, mapped}

abbrev Variables : (Name → Type 0) → List (Name × Ty) → Type 0
Variables N vs = Each (λ (v : Name × Ty). N v.0) vs

zip_each : (N : Name → Type 0) (xs : List Name) (ss : List Ty) → Each N xs → Variables N (zip xs ss)
zip_each N [] ss e = tt
zip_each N (x ∷ xs) [] e = tt
zip_each N (x ∷ xs) (s ∷ ss) e = (e.0, zip_each N xs ss e.1)

without_variable_each : (N : Name → Type 0) (x : Name) (vs : List (Name × Ty)) → Variables N vs → Variables N (without_variable x vs)
without_variable_each N x [] e = tt
without_variable_each N x (v ∷ vs) e = kept (x.0 == v.0.0) (without_variable_each N x vs e.1)
  where
    kept : (b : Bool) → Variables N (without_variable x vs) → Variables N (cond b (without_variable x vs) (v ∷ without_variable x vs))
    kept true r = r
    kept false r = (e.0, r)

flat_first : (N : Name → Type 0) (xs : List Name) (names : List (List Name)) → Each N (xs ++ flat_map (λ ys. ys) names) → Each N xs × Each N (flat_map (λ ys. ys) names)
flat_first N [] names e = (tt, e)
flat_first N (x ∷ xs) names e = let r = flat_first N xs names e.1 in ((e.0, r.0), r.1)

-- the names of the cases are those that are given
cases_named : (N : Name → Type 0) (θ : Tys) (k : ℕ) (vs : List VariantDecl) (names : List (List Name)) (cs : List Case) → cases_in θ k vs names ≡ Some cs → Each N (flat_map (λ ys. ys) names) → Each (λ (c : Case). Each N c.names) cs
cases_named N θ k [] [] cs e new = subst (Each (λ (c : Case). Each N c.names)) (same_some [] cs e) tt
cases_named N θ k [] (xs ∷ names) cs e new = absurd (cc)
cases_named N θ k (v ∷ vs) [] cs e new = absurd (cc)
cases_named N θ k (v ∷ vs) (xs ∷ names) cs e new = at (length xs == length v.fields) e (λ ds f more. cases_named N θ (suc k) vs names ds f more)
  where
    at : (b : Bool) → cond b (option_map (λ ds. case_of θ k xs v.fields ∷ ds) (cases_in θ (suc k) vs names)) None ≡ Some cs
        → ((ds : List Case) → cases_in θ (suc k) vs names ≡ Some ds → Each N (flat_map (λ ys. ys) names) → Each (λ (c : Case). Each N c.names) ds) → Each (λ (c : Case). Each N c.names) cs
    at false f others = absurd (cc)
    at true f others =
        let m = mapped (λ (ds : List Case). case_of θ k xs v.fields ∷ ds) (cases_in θ (suc k) vs names) cs f in
        let both = flat_first N xs names new in
        subst (Each (λ (c : Case). Each N c.names)) m.2 (both.0, others m.0 m.1 both.1)

module _ (P : Label2 → Type 0) (N : Name → Type 0) (s : ℕ) (own : (k : ℕ) → P (label s k)) (q : Sequent) (has : Has P N q) (ps : List Sequent) (names : List (List Name)) (new : Each N (flat_map (λ xs. xs) names)) where
  premise_has : (by : By) (d : AdtId) (c : Case) → Each N c.names → Has P N (premise_of by s q d c)
  premise_has (analysis t) d c e = more_has P N s own (with_variables q (field_variables c)) (has.0, each_and (λ (v : Name × Ty). N v.0) q.vars (field_variables c) has.1 (zip_each N c.names c.sorts e)) ps (reduced (is_equal t (case_term d c)) ∷ [])
  premise_has (induction x r) d c e = (
    each_and (λ (h : Label2 × Term). P h.0) q.hyps _ has.0 (labels_own P N s own q has ps 1 (at_each (erased r) x q.goal (field_variables c))),
    each_and (λ (v : Name × Ty). N v.0) (without_variable x q.vars) (field_variables c) (without_variable_each N x q.vars has.1) (zip_each N c.names c.sorts e),
  )

  premises_have : (by : By) (d : AdtId) (cs : List Case) → Each (λ (c : Case). Each N c.names) cs → Each (Has P N) (map (premise_of by s q d) cs)
  premises_have by d [] e = tt
  premises_have by d (c ∷ cs) e = (premise_has by d c e.0, premises_have by d cs e.1)

  in_variants_has : (by : By) (o : Option Enum) → in_variants by s q names o ≡ Some ps → Each (Has P N) ps
  in_variants_has by None e = absurd (cc)
  in_variants_has by (Some u) e =
      let m = mapped (map (premise_of by s q u.id)) (cases_in u.arguments 0 u.variants names) ps e in
      subst (Each (Has P N)) m.2 (premises_have by u.id m.0 (cases_named N u.arguments 0 u.variants names m.0 m.1 new))

  pub variants_have : (adts : List AdtDecl) (t : Pterm) → variants_rule adts s q t names ≡ Some ps → Each (Has P N) ps
  variants_have adts t e = at (term_at adts q t) e
    where
      at : (o : Option SortedTerm) → on_sorted adts s q names o ≡ Some ps → Each (Has P N) ps
      at None f = absurd (cc)
      at (Some a) f = in_variants_has (analysis a.term) (enum_of adts a.sort) f

  pub induction_has : (adts : List AdtDecl) (x : Name) → induction_rule adts s q x names ≡ Some ps → Each (Has P N) ps
  induction_has adts x e = at (sort_of x q.vars) e
    where
      at : (o : Option Ty) → induct_sorted adts s q x names o ≡ Some ps → Each (Has P N) ps
      at None f = absurd (cc)
      at (Some r) f = in_variants_has (induction x r) (enum_of adts r) f
