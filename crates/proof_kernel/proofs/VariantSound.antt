-- The steps by variants are sound: a value of an enum is one of its variants, and values are made of smaller ones.
use Rattle.std.proofs.Common.{◌≡◌, ℕ, zero, suc, ◌+◌, ◌==◌, Bool, true, false, cond, List, [], ◌∷◌, ◌++◌, length, map, Option, Some, None, slice_get, refl, sym, ◌∙◌, ap, subst, arith, eqb-true}
use Rattle.std.specs.Prelude.{zip}
use Rattle.std.specs.Option.{option_map}
use Rattle.text_core.specs.declared.name.Name.{Name}
use Rattle.logic_term.specs.declared.declaration.AdtDecl.{AdtDecl}
use Rattle.logic_term.specs.declared.declaration.FieldDecl.{FieldDecl}
use Rattle.logic_term.specs.declared.declaration.VariantDecl.{VariantDecl}
use Rattle.logic_term.specs.declared.kinds.AdtId.{AdtId}
use Rattle.logic_term.specs.declared.kinds.Ctor.TheVariants.{Variant}
use Rattle.logic_term.specs.declared.kinds.Region.{Region}
use Rattle.logic_term.specs.Canonical.{is_one_of}
use Rattle.logic_term.specs.Erased.{erased, all_erased}
use Rattle.logic_term.specs.Free.{free}
use Rattle.logic_term.specs.Meaning.{Each, Structure, Env, with_value, Means, Argument, Holds}
use Rattle.logic_term.specs.Sort.{Declarations, HasSort, HaveSorts, instance, instances}
use Rattle.logic_term.specs.Term.{Term, Terms, var, count, is_equal}
use Rattle.logic_term.specs.TermView.{terms_of}
use Rattle.logic_term.specs.Theory.{Theory, field_ty, fields_of, variant_of, declared}
use Rattle.logic_term.specs.Ty.{Ty, Tys, int, bool, math_int, tuple, adt, boxed, shared, unique, param, closure, viewed, snapshot, no_tys, and_ty}
use Rattle.logic_term.specs.TyView.{tys_of}
use Rattle.logic_term.specs.Value.{Value, Values, Number, Flag, Made, Pair, no_values, and_value, integer_of}
use Rattle.logic_term.proofs.Alike.{Alike, alike_same, sure_map, from, yes_alike}
use Rattle.logic_term.proofs.CanonicalLaw.{reduced_means}
use Rattle.logic_term.proofs.Coincide.{with_same}
use Rattle.logic_term.proofs.Erased.{has_erased, has_type}
use Rattle.logic_term.proofs.FreeLaw.{coincide_free, same_name, same_test}
use Rattle.logic_term.proofs.SortParts.{parts, all_parts, instance_instance}
use Rattle.logic_term.proofs.Truth.{Exactly, holds_equal}
use Rattle.logic_term.proofs.Unique.{single, has_value}
use Rattle.logic_elab.specs.declared.sorted.SortedTerm.{SortedTerm}
use Rattle.logic_elab.specs.Sorts.{same_ty}
use Rattle.logic_elab.proofs.SameSorts.{equal_types}
use Rattle.source_trees.specs.Pterm.{Pterm}
use Rattle.proof_kernel.specs.Sequent.{Sequent, InSorts, AllHold, IsTrueAt, AllTrueAt}
use Rattle.proof_kernel.specs.Rules.{sort_of, free_in_hyps, AreNew, labelled, without_variable}
use Rattle.proof_kernel.specs.TermRules.{term_at, at_term}
use Rattle.proof_kernel.specs.VariantRules.{Enum, enum_in, enum_of, field_sort, Case, case_of, cases_in, case_term, AllNew, By, analysis, induction, at_each, premise_of, in_variants, on_sorted, variants_rule, induct_sorted, induction_rule}
use Rattle.proof_kernel.proofs.AtTerm.{at_term_to, at_term_of}
use Rattle.proof_kernel.proofs.Each.{Each as All}
use Rattle.proof_kernel.proofs.FormsFound.{same_some, mapped}
use Rattle.proof_kernel.proofs.IntroSound.{apart, among_new, not_both, AreApart, new_apart, Off, off_more, sorts_off, hyps_off}
use Rattle.proof_kernel.proofs.LinearSound.{exact}
use Rattle.proof_kernel.proofs.Sound.{hyps_more, sorted}
use Rattle.proof_kernel.proofs.TermSound.{value_sorted, term_names_there}

-- ---- sorts of types

mutual
  erased_inside : (θ : Tys) (t : Ty) → erased (instance θ (erased t)) ≡ erased (instance θ t)
  erased_inside θ (int k) = refl
  erased_inside θ bool = refl
  erased_inside θ math_int = refl
  erased_inside θ (tuple ts) = ap tuple (all_erased_inside θ ts)
  erased_inside θ (adt d rs ts) = ap (adt d []) (all_erased_inside θ ts)
  erased_inside θ (boxed t) = erased_inside θ t
  erased_inside θ (shared r t) = erased_inside θ t
  erased_inside θ (unique r t) = ap (unique (record { 0 = 0 })) (erased_inside θ t)
  erased_inside θ (param n) = refl
  erased_inside θ (closure n ts cs k ps r) = λ i. closure n (all_erased_inside θ ts i) (all_erased_inside θ cs i) k (all_erased_inside θ ps i) (erased_inside θ r i)
  erased_inside θ (viewed t) = ap viewed (erased_inside θ t)
  erased_inside θ (snapshot t) = ap snapshot (erased_inside θ t)

  all_erased_inside : (θ : Tys) (ts : Tys) → all_erased (instances θ (all_erased ts)) ≡ all_erased (instances θ ts)
  all_erased_inside θ no_tys = refl
  all_erased_inside θ (and_ty t ts) = λ i. and_ty (erased_inside θ t i) (all_erased_inside θ ts i)

-- a value of a type at types for its parameters is one of its sort at these
to_sort : (Δ : Declarations) (θ : Tys) (v : Value) (t : Ty) → HasSort Δ v (instance θ t) → HasSort Δ v (instance θ (erased t))
to_sort Δ θ v t h = has_type Δ v (instance θ (erased t)) (subst (HasSort Δ v) (sym (erased_inside θ t)) (has_erased Δ v (instance θ t) h))

of_sort : (Δ : Declarations) (θ : Tys) (v : Value) (t : Ty) → HasSort Δ v (instance θ (erased t)) → HasSort Δ v (instance θ t)
of_sort Δ θ v t h = has_type Δ v (instance θ t) (subst (HasSort Δ v) (erased_inside θ t) (has_erased Δ v (instance θ (erased t)) h))

-- ---- what is found

-- the declaration of the enum
record Found (adts : List AdtDecl) (r : Ty) (e : Enum) : Type 0 where
  regions : List Region
  decl : AdtDecl
  sort : r ≡ adt e.id regions e.arguments
  there : slice_get adts e.id.0 ≡ Some decl
  variants : decl.variants ≡ e.variants

enum_found : (adts : List AdtDecl) (r : Ty) (e : Enum) → enum_of adts r ≡ Some e → Found adts r e
enum_found adts (adt d rs ts) e f = at (slice_get adts d.0) refl f
  where
    at : (o : Option AdtDecl) → slice_get adts d.0 ≡ o → enum_in d ts o ≡ Some e → Found adts (adt d rs ts) e
    at None p g = absurd (cc)
    at (Some decl) p g = by decl.is_struct g
      where
        by : (b : Bool) → cond b None (Some (record { id = d; arguments = ts; variants = decl.variants })) ≡ Some e → Found adts (adt d rs ts) e
        by true h = absurd (cc)
        by false h =
            let same : record { id = d; arguments = ts; variants = decl.variants } ≡ e = same_some _ e h in
            subst (Found adts (adt d rs ts)) same (record { regions = rs; decl = decl; sort = refl; there = p; variants = refl })
enum_found adts r e f = absurd (cc)

-- the case of a variant, with new names, of which P is so
case_at : (P : Case → Type 0) (q : Sequent) (θ : Tys) (k : ℕ) (vs : List VariantDecl) (names : List (List Name)) (cs : List Case) → cases_in θ k vs names ≡ Some cs → All P cs → AllNew names q
    → (i : ℕ) (v : VariantDecl) → slice_get vs i ≡ Some v → (xs : List Name) × (length xs ≡ length v.fields) × AreNew xs q × P (case_of θ (k + i) xs v.fields)
case_at P q θ k [] names cs e all new i v f = absurd (cc)
case_at P q θ k (w ∷ vs) [] cs e all new i v f = absurd (cc)
case_at P q θ k (w ∷ vs) (xs ∷ names) cs e all new i v f = by (length xs == length w.fields) refl e (λ ds h p j g. case_at P q θ (suc k) vs names ds h p new.1 j v g)
  where
    first : (i : ℕ) → slice_get (w ∷ vs) i ≡ Some v → length xs ≡ length w.fields → (ds : List Case) → cases_in θ (suc k) vs names ≡ Some ds → All P (case_of θ k xs w.fields ∷ ds)
        → ((ds : List Case) → cases_in θ (suc k) vs names ≡ Some ds → All P ds → (j : ℕ) → slice_get vs j ≡ Some v → (ys : List Name) × (length ys ≡ length v.fields) × AreNew ys q × P (case_of θ (suc k + j) ys v.fields))
        → (xs : List Name) × (length xs ≡ length v.fields) × AreNew xs q × P (case_of θ (k + i) xs v.fields)
    first zero g many ds h p later =
        let same : w ≡ v = same_some w v g in
        let here : k ≡ k + 0 = omega arith in
        (xs, many ∙ ap (λ (u : VariantDecl). length u.fields) same, new.0, subst (λ n. P (case_of θ n xs v.fields)) here (subst (λ (u : VariantDecl). P (case_of θ k xs u.fields)) same p.0))
    first (suc j) g many ds h p later =
        let r = later ds h p.1 j g in
        let here : suc k + j ≡ k + suc j = omega arith in
        (r.0, r.1, r.2, subst (λ n. P (case_of θ n r.0 v.fields)) here r.3)

    by : (b : Bool) → (length xs == length w.fields) ≡ b → cond b (option_map (λ ds. case_of θ k xs w.fields ∷ ds) (cases_in θ (suc k) vs names)) None ≡ Some cs
        → ((ds : List Case) → cases_in θ (suc k) vs names ≡ Some ds → All P ds → (j : ℕ) → slice_get vs j ≡ Some v → (ys : List Name) × (length ys ≡ length v.fields) × AreNew ys q × P (case_of θ (suc k + j) ys v.fields))
        → (xs : List Name) × (length xs ≡ length v.fields) × AreNew xs q × P (case_of θ (k + i) xs v.fields)
    by false m g later = absurd (cc)
    by true m g later =
        let d = mapped (λ (ds : List Case). case_of θ k xs w.fields ∷ ds) (cases_in θ (suc k) vs names) cs g in
        first i f (eqb-true (length xs) (length w.fields) m) d.0 d.1 (subst (All P) (sym d.2) all) later

each_true : (S : Structure) (f : Case → Sequent) (cs : List Case) → AllTrueAt S (map f cs) → All (λ c. IsTrueAt S (f c)) cs
each_true S f [] h = tt
each_true S f (c ∷ cs) h = (h.0, each_true S f cs h.1)

module _ (S : Structure) where
  abbrev Δ : Declarations
  Δ = declared S.theory

  sorts_join : (vs ws : List (Name × Ty)) (ρ : Env) → InSorts S vs ρ → InSorts S ws ρ → InSorts S (vs ++ ws) ρ
  sorts_join [] ws ρ h g = g
  sorts_join (v ∷ vs) ws ρ h g = (h.0, sorts_join vs ws ρ h.1 g)

  without_in : (x : Name) (vs : List (Name × Ty)) (ρ : Env) → InSorts S vs ρ → InSorts S (without_variable x vs) ρ
  without_in x [] ρ h = tt
  without_in x (v ∷ vs) ρ h = kept (x.0 == v.0.0) (without_in x vs ρ h.1)
    where
      kept : (b : Bool) → InSorts S (without_variable x vs) ρ → InSorts S (cond b (without_variable x vs) (v ∷ without_variable x vs)) ρ
      kept true r = r
      kept false r = (h.0, r)

  -- ---- names with values

  abbrev with_values : Env → List Name → Values → Env
  with_values ρ [] vs = ρ
  with_values ρ (x ∷ xs) no_values = ρ
  with_values ρ (x ∷ xs) (and_value v vs) = with_values (with_value ρ x v) xs vs

  values_off : (xs : List Name) (vs : Values) (ρ : Env) → Off S xs ρ (with_values ρ xs vs)
  values_off [] vs ρ z e = refl
  values_off (x ∷ xs) no_values ρ z e = refl
  values_off (x ∷ xs) (and_value v vs) ρ z e = off_more S x xs ρ v (with_values (with_value ρ x v) xs vs) (values_off xs vs (with_value ρ x v)) z e

  abbrev named : List Name → Terms
  named xs = terms_of (map var xs)

  -- the terms have the values
  abbrev HaveValues : List Name → Env → Values → Type 0
  HaveValues xs σ vs = Each (count (named xs)) (λ n. Argument S (named xs) σ n) vs

  -- names for fields have the values, which are of their sorts
  fields_have : (ts : Tys) (xs : List Name) (fs : List FieldDecl) (vs : Values) (ρ : Env) → length xs ≡ length fs → AreApart xs → HaveSorts Δ vs (instances (instances S.types ts) (tys_of (map field_ty fs)))
      → InSorts S (zip xs (map (field_sort ts) fs)) (with_values ρ xs vs) × HaveValues xs (with_values ρ xs vs) vs
  fields_have ts [] [] vs ρ e others h = (tt, all_parts Δ vs no_tys h)
  fields_have ts [] (f ∷ fs) vs ρ e others h = absurd (omega (arith, e))
  fields_have ts (x ∷ xs) [] vs ρ e others h = absurd (omega (arith, e))
  fields_have ts (x ∷ xs) (f ∷ fs) no_values ρ e others h =
      let p = all_parts Δ no_values (and_ty (instance (instances S.types ts) f.ty) (instances (instances S.types ts) (tys_of (map field_ty fs)))) h in
      let no : no_values ≡ and_value p.0 p.1 = p.2 in
      absurd (cc)
  fields_have ts (x ∷ xs) (f ∷ fs) (and_value v vs) ρ e others h =
      let p = all_parts Δ (and_value v vs) (and_ty (instance (instances S.types ts) f.ty) (instances (instances S.types ts) (tys_of (map field_ty fs)))) h in
      let whole : and_value v vs ≡ and_value p.0 p.1 = p.2 in
      let first : p.0 ≡ v = cc in
      let rest : p.1 ≡ vs = cc in
      let many : length xs ≡ length fs = omega (arith, e) in
      let r = fields_have ts xs fs vs (with_value ρ x v) many others.1 (subst (λ (us : Values). HaveSorts Δ us (instances (instances S.types ts) (tys_of (map field_ty fs)))) rest p.4) in
      let here : with_values (with_value ρ x v) xs vs x ≡ v = values_off xs vs (with_value ρ x v) x others.0 ∙ with_same ρ x v in
      let typed : HasSort Δ v (instance S.types (instance ts f.ty)) = subst (HasSort Δ v) (sym (instance_instance S.types ts f.ty)) (subst (λ (u : Value). HasSort Δ u (instance (instances S.types ts) f.ty)) first p.3) in
      ((subst (λ (u : Value). HasSort Δ u (instance S.types (field_sort ts f))) (sym here) (to_sort Δ S.types v (instance ts f.ty) typed), r.0), (v, vs, sym here, r.1, refl))

  -- ---- a case

  module _ (q : Sequent) (xs : List Name) (new : AreNew xs q) (ρ σ : Env) (off : Off S xs ρ σ) where
    vars_stay : InSorts S q.vars ρ → InSorts S q.vars σ
    vars_stay z = sorts_off S xs q.vars ρ σ (λ y e. (among_new xs q y new e).in_vars) off z

    hyps_stay : AllHold S q.hyps ρ → AllHold S q.hyps σ
    hyps_stay k = hyps_off S xs q.hyps ρ σ (λ y e. (among_new xs q y new e).in_hyps) off k

    same_free : (y : Name) → free y q.goal ≡ true → ρ y ≡ σ y
    same_free y f = sym (off y (apart xs y (λ e. not_both (free y q.goal) f (among_new xs q y new e).in_goal)))

  analysis_true : (t : Term) (s : ℕ) (q : Sequent) (d : AdtId) (ts : Tys) (k : ℕ) (xs : List Name) (fs : List FieldDecl) (vs : Values) (ρ : Env) → AreNew xs q → length xs ≡ length fs
      → ((y : Name) → is_one_of y xs ≡ true → free y t ≡ true → ⊥) → InSorts S q.vars ρ → AllHold S q.hyps ρ → Means S t ρ (Made (Variant d k) vs)
      → HaveSorts Δ vs (instances (instances S.types ts) (tys_of (map field_ty fs))) → IsTrueAt S (premise_of (analysis t) s q d (case_of ts k xs fs)) → Holds S q.goal ρ
  analysis_true t s q d ts k xs fs vs ρ new many none z h m sorts prem =
      let σ : Env = with_values ρ xs vs in
      let off : Off S xs ρ σ = values_off xs vs ρ in
      let value : Value = Made (Variant d k) vs in
      let fields = fields_have ts xs fs vs ρ many (new_apart xs q new) sorts in
      let case : Term = case_term d (case_of ts k xs fs) in
      let made_so : Means S case σ value = (vs, fields.1, refl) in
      let stays : Alike (Means S t ρ) (Means S t σ) = coincide_free S t ρ σ (λ y f. sym (off y (apart xs y (λ e. none y e f)))) in
      let equal : Holds S (is_equal t case) σ =
      (holds_equal S t case σ).1 (λ x y p r. sure_map _ _ (λ (there : Means S t ρ x). single S t ρ x value there m ∙ sym (single S case σ y value r made_so)) (from _ _ stays x p)) in
      let shown : Holds S q.goal σ = prem σ (sorts_join q.vars _ σ (vars_stay q xs new ρ σ off z) fields.0)
      (hyps_more S q.hyps _ σ (hyps_stay q xs new ρ σ off h) ((yes_alike _ _ (reduced_means S (is_equal t case) σ)).1 equal, tt)) in
      (yes_alike _ _ (coincide_free S q.goal ρ σ (same_free q xs new ρ σ off))).1 shown

  -- ---- induction

  module _ (q : Sequent) (x : Name) (r : Ty) (ρ : Env) where
    -- the goal is true of the value, if it is of the sort
    abbrev TrueOf : Value → Type 0
    TrueOf v = HasSort Δ v (instance S.types r) → Holds S q.goal (with_value ρ x v)

    abbrev TrueOfAll : Values → Type 0
    TrueOfAll no_values = Unit {0}
    TrueOfAll (and_value v vs) = TrueOf v × TrueOfAll vs

    moved : (xs : List Name) (σ : Env) (v : Value) → AreNew xs q → Off S xs ρ σ → Alike (Means S q.goal (with_value ρ x v)) (Means S q.goal (with_value σ x v))
    moved xs σ v new off = coincide_free S q.goal (with_value ρ x v) (with_value σ x v) (λ y f. ap (λ (u : Value). cond (y.0 == x.0) v u) (same_free q xs new ρ σ off y f))

    -- the induction hypotheses are true
    each_holds : (σ : Env) → ((v : Value) → Holds S q.goal (with_value ρ x v) → Holds S q.goal (with_value σ x v)) → (j k : ℕ) (ys : List Name) (ss : List Ty) (vs : Values) → HaveValues ys σ vs → InSorts S (zip ys ss) σ
        → TrueOfAll vs → AllHold S (labelled j k (at_each (erased r) x q.goal (zip ys ss))) σ
    each_holds σ move j k [] ss vs a z ih = tt
    each_holds σ move j k (y ∷ ys) [] vs a z ih = tt
    each_holds σ move j k (y ∷ ys) (s ∷ ss) no_values a z ih = let no : no_values ≡ and_value a.0 a.1 = a.4 in absurd (cc)
    each_holds σ move j k (y ∷ ys) (s ∷ ss) (and_value v vs) a z ih =
        by (same_ty s (erased r)) refl (λ i. each_holds σ move j i ys ss vs (subst (HaveValues ys σ) rest a.3) z.1 ih.1)
      where
        whole : and_value v vs ≡ and_value a.0 a.1
        whole = a.4

        rest : a.1 ≡ vs
        rest = cc

        value : v ≡ σ y
        value = let first : v ≡ a.0 = cc in first ∙ a.2

        by : (b : Bool) → same_ty s (erased r) ≡ b → ((i : ℕ) → AllHold S (labelled j i (at_each (erased r) x q.goal (zip ys ss))) σ)
            → AllHold S (labelled j k (cond b (at_term x (var y) q.goal ∷ at_each (erased r) x q.goal (zip ys ss)) (at_each (erased r) x q.goal (zip ys ss)))) σ
        by false e others = others k
        by true e others =
            let of_erased : HasSort Δ (σ y) (instance S.types (erased r)) = subst (λ (u : Ty). HasSort Δ (σ y) (instance S.types u)) (equal_types s (erased r) e) z.0 in
            let typed : HasSort Δ v (instance S.types r) = of_sort Δ S.types v r (subst (λ (u : Value). HasSort Δ u (instance S.types (erased r))) (sym value) of_erased) in
            (at_term_to S x (var y) q.goal σ v (subst (λ (u : Value). Alike (λ w. w ≡ σ y) (λ w. w ≡ u)) (sym value) (alike_same _)) (move v (ih.0 typed)), others (suc k))

    induction_true : (s : ℕ) (d : AdtId) (ts : Tys) (k : ℕ) (xs : List Name) (fs : List FieldDecl) (vs : Values) → AreNew xs q → length xs ≡ length fs → InSorts S q.vars ρ → AllHold S q.hyps ρ
        → HaveSorts Δ vs (instances (instances S.types ts) (tys_of (map field_ty fs))) → TrueOfAll vs → IsTrueAt S (premise_of (induction x r) s q d (case_of ts k xs fs)) → Holds S q.goal (with_value ρ x (Made (Variant d k) vs))
    induction_true s d ts k xs fs vs new many z h sorts ih prem =
        let σ : Env = with_values ρ xs vs in
        let off : Off S xs ρ σ = values_off xs vs ρ in
        let value : Value = Made (Variant d k) vs in
        let fields = fields_have ts xs fs vs ρ many (new_apart xs q new) sorts in
        let case : Term = case_term d (case_of ts k xs fs) in
        let here : Exactly (Means S case σ) value = exact S σ case (integer_of value) (value, (vs, fields.1, refl), refl) in
        let shown : Holds S (at_term x case q.goal) σ = prem σ (sorts_join (without_variable x q.vars) _ σ (without_in x q.vars σ (vars_stay q xs new ρ σ off z)) fields.0)
        (hyps_more S q.hyps _ σ (hyps_stay q xs new ρ σ off h)
        (each_holds σ (λ v. (yes_alike _ _ (moved xs σ v new off)).0) s 1 xs (map (field_sort ts) fs) vs fields.1 fields.0 ih)) in
        (yes_alike _ _ (moved xs σ value new off)).1 (at_term_of S x case q.goal σ value here shown)

  -- ---- the rules

  module _ (adts : List AdtDecl) (is : S.theory ≡ record { adts = adts }) where
    -- the variant that a value is of
    record InVariant (e : Enum) (v : Value) : Type 0 where
      number : ℕ
      decl : VariantDecl
      values : Values
      made : v ≡ Made (Variant e.id number) values
      there : slice_get e.variants number ≡ Some decl
      sorts : HaveSorts Δ values (instances (instances S.types e.arguments) (tys_of (map field_ty decl.fields)))

    variant_there : (o : Option AdtDecl) (decl : AdtDecl) (k : ℕ) (fs : Tys) → o ≡ Some decl → fields_of (variant_of o k) ≡ Some fs → (v : VariantDecl) × (slice_get decl.variants k ≡ Some v) × (tys_of (map field_ty v.fields) ≡ fs)
    variant_there None decl k fs p e = absurd (cc)
    variant_there (Some given) decl k fs p e = subst (λ (u : AdtDecl). (v : VariantDecl) × (slice_get u.variants k ≡ Some v) × (tys_of (map field_ty v.fields) ≡ fs)) (same_some given decl p) (at (slice_get given.variants k) refl e)
      where
        at : (o : Option VariantDecl) → slice_get given.variants k ≡ o → fields_of o ≡ Some fs → (v : VariantDecl) × (slice_get given.variants k ≡ Some v) × (tys_of (map field_ty v.fields) ≡ fs)
        at None p f = absurd (cc)
        at (Some v) p f = (v, p, same_some _ fs f)

    in_variant : (e : Enum) (r : Ty) (v : Value) → Found adts r e → HasSort Δ v (instance S.types r) → InVariant e v
    in_variant e r v found h =
        let p = parts Δ v (adt e.id found.regions (instances S.types e.arguments)) (subst (λ (u : Ty). HasSort Δ v (instance S.types u)) found.sort h) in
        let fields : fields_of (variant_of (slice_get adts e.id.0) p.0) ≡ Some p.1 = subst (λ (Θ : Theory). declared Θ e.id p.0 ≡ Some p.1) is p.4 in
        let w = variant_there (slice_get adts e.id.0) found.decl p.0 p.1 found.there fields in
        record {
          number = p.0;
          decl = w.0;
          values = p.2;
          made = p.3;
          there = subst (λ (vs : List VariantDecl). slice_get vs p.0 ≡ Some w.0) found.variants w.1;
          sorts = subst (λ (fs : Tys). HaveSorts Δ p.2 (instances (instances S.types e.arguments) fs)) (sym w.2) p.5;
        }

    module _ (s : ℕ) (q : Sequent) (names : List (List Name)) (ps : List Sequent) (new : AllNew names q) (h : AllTrueAt S ps) where
      -- the premise of the variant
      case_true : (by : By) (e : Enum) (v : Value) (i : InVariant e v) → in_variants by s q names (Some e) ≡ Some ps
          → (xs : List Name) × (length xs ≡ length i.decl.fields) × AreNew xs q × IsTrueAt S (premise_of by s q e.id (case_of e.arguments i.number xs i.decl.fields))
      case_true by e v i f =
          let m = mapped (map (premise_of by s q e.id)) (cases_in e.arguments 0 e.variants names) ps f in
          let all = each_true S (premise_of by s q e.id) m.0 (subst (AllTrueAt S) (sym m.2) h) in
          let c = case_at (λ (c : Case). IsTrueAt S (premise_of by s q e.id c)) q e.arguments 0 e.variants names m.0 m.1 all new i.number i.decl i.there in
          let here : 0 + i.number ≡ i.number = omega arith in
          (c.0, c.1, c.2, subst (λ n. IsTrueAt S (premise_of by s q e.id (case_of e.arguments n c.0 i.decl.fields))) here c.3)

      on_enum : (t : Pterm) (a : SortedTerm) (o : Option Enum) → term_at adts q t ≡ Some a → enum_of adts a.sort ≡ o → in_variants (analysis a.term) s q names o ≡ Some ps → IsTrueAt S q
      on_enum t a None p e f = absurd (cc)
      on_enum t a (Some e) p there f = λ ρ z k n. has_value S a.term ρ (λ (w : (v : Value) × Means S a.term ρ v).
          let i = in_variant e a.sort w.0 (enum_found adts a.sort e there) (value_sorted S adts is q ρ z t a p w.0 w.1) in
          let c = case_true (analysis a.term) e w.0 i f in
          analysis_true a.term s q e.id e.arguments i.number c.0 i.decl.fields i.values ρ c.2 c.1 (λ y among free_in. not_there (sort_of y q.vars) (term_names_there adts q t a p y free_in) (among_new c.0 q y c.2 among).in_vars) z k
          (subst (Means S a.term ρ) i.made w.1) i.sorts c.3 n)
        where
          not_there : (o : Option Ty) → (r : Ty) × (o ≡ Some r) → o ≡ None → ⊥
          not_there None g e = absurd (cc)
          not_there (Some r) g e = absurd (cc)

      pub variants_true : (t : Pterm) → variants_rule adts s q t names ≡ Some ps → IsTrueAt S q
      variants_true t e = at (term_at adts q t) refl e
        where
          at : (o : Option SortedTerm) → term_at adts q t ≡ o → on_sorted adts s q names o ≡ Some ps → IsTrueAt S q
          at None p f = absurd (cc)
          at (Some a) p f = on_enum t a (enum_of adts a.sort) p refl f

      module _ (x : Name) (r : Ty) (e : Enum) (found : Found adts r e) (f : in_variants (induction x r) s q names (Some e) ≡ Some ps) (ρ : Env) (z : InSorts S q.vars ρ) (k : AllHold S q.hyps ρ) where
        made_true : (v : Value) → ((vs : Values) (i : ℕ) → v ≡ Made (Variant e.id i) vs → TrueOfAll q x r ρ vs) → TrueOf q x r ρ v
        made_true v ih typed =
            let i = in_variant e r v found typed in
            let c = case_true (induction x r) e v i f in
            subst (λ (u : Value). Holds S q.goal (with_value ρ x u)) (sym i.made)
            (induction_true q x r ρ s e.id e.arguments i.number c.0 i.decl.fields i.values c.2 c.1 z k i.sorts (ih i.values i.number i.made) c.3)

        mutual
          true_of : (v : Value) → TrueOf q x r ρ v
          true_of (Number n) = made_true (Number n) (λ vs i e. absurd (cc))
          true_of (Flag b) = made_true (Flag b) (λ vs i e. absurd (cc))
          true_of (Made c vs) = made_true (Made c vs) (λ us i e. let same : vs ≡ us = cc in subst (TrueOfAll q x r ρ) same (true_of_all vs))
          true_of (Pair a b) = made_true (Pair a b) (λ vs i e. absurd (cc))

          true_of_all : (vs : Values) → TrueOfAll q x r ρ vs
          true_of_all no_values = tt
          true_of_all (and_value v vs) = (true_of v, true_of_all vs)

      own_value : (ρ : Env) (x y : Name) → with_value ρ x (ρ x) y ≡ ρ y
      own_value ρ x y = at (y.0 == x.0) refl
        where
          at : (b : Bool) → (y.0 == x.0) ≡ b → cond b (ρ x) (ρ y) ≡ ρ y
          at true e = ap ρ (sym (same_name y x (same_test y.0 x.0 e)))
          at false e = refl

      pub induction_is_true : (x : Name) → induction_rule adts s q x names ≡ Some ps → IsTrueAt S q
      induction_is_true x e = at (sort_of x q.vars) refl e
        where
          of_enum : (r : Ty) (o : Option Enum) → sort_of x q.vars ≡ Some r → enum_of adts r ≡ o → in_variants (induction x r) s q names o ≡ Some ps → IsTrueAt S q
          of_enum r None p g f = absurd (cc)
          of_enum r (Some e) p g f = λ ρ z k. (yes_alike _ _ (coincide_free S q.goal (with_value ρ x (ρ x)) ρ (λ y free_in. own_value ρ x y))).0
              (true_of x r e (enum_found adts r e g) f ρ z k (ρ x) (sorted S x q.vars r ρ p z))

          at : (o : Option Ty) → sort_of x q.vars ≡ o → induct_sorted adts s q x names o ≡ Some ps → IsTrueAt S q
          at None p f = absurd (cc)
          at (Some r) p f = of_enum r (enum_of adts r) p refl f

pub variants_sound : (S : Structure) (adts : List AdtDecl) → S.theory ≡ record { adts = adts } → (s : ℕ) (q : Sequent) (t : Pterm) (names : List (List Name)) (ps : List Sequent) → AllNew names q → variants_rule adts s q t names ≡ Some ps
    → AllTrueAt S ps → IsTrueAt S q
variants_sound S adts is s q t names ps new e h = variants_true S adts is s q names ps new h t e

pub induction_sound : (S : Structure) (adts : List AdtDecl) → S.theory ≡ record { adts = adts } → (s : ℕ) (q : Sequent) (x : Name) (names : List (List Name)) (ps : List Sequent) → AllNew names q → free_in_hyps x q.hyps ≡ false
    → induction_rule adts s q x names ≡ Some ps → AllTrueAt S ps → IsTrueAt S q
induction_sound S adts is s q x names ps new free e h = induction_is_true S adts is s q names ps new h x e
