-- An instance of a true universal formula is true.
use Rattle.std.proofs.Common.{◌≡◌, ℕ, ◌==◌, Bool, true, false, cond, List, [], ◌∷◌, Option, Some, None, refl, sym, ap, subst}
use Rattle.std.specs.Option.{option_map}
use Rattle.text_core.specs.declared.name.Name.{Name}
use Rattle.source_trees.specs.Pterm.{Pterm}
use Rattle.logic_term.specs.declared.declaration.AdtDecl.{AdtDecl}
use Rattle.logic_term.specs.declared.kinds.Label2.{Label2}
use Rattle.logic_term.specs.declared.subst.Replacement.{Replacement}
use Rattle.logic_term.specs.Meaning.{Structure, Env, with_value, Means, Holds}
use Rattle.logic_term.specs.Sort.{HasSort, instance as sort_instance}
use Rattle.logic_term.specs.Subst.{look, with_terms}
use Rattle.logic_term.specs.Term.{every, Term, bind, forall}
use Rattle.logic_term.specs.Theory.{declared}
use Rattle.logic_term.specs.Ty.{Ty}
use Rattle.logic_term.specs.Value.{Value, integer_of}
use Rattle.logic_term.proofs.Alike.{alike_same, yes_alike}
use Rattle.logic_term.proofs.PlacedLaw.{with_terms_means}
use Rattle.logic_term.proofs.Truth.{Exactly, holds_forall}
use Rattle.logic_term.proofs.Unique.{has_value}
use Rattle.logic_elab.specs.declared.sorted.SortedTerm.{SortedTerm}
use Rattle.logic_elab.specs.Sorts.{same_ty}
use Rattle.logic_elab.proofs.SameSorts.{equal_types}
use Rattle.proof_kernel.specs.Instances.{put_first, then_with, instance_of, instance, instance_if, instance_rule}
use Rattle.proof_kernel.specs.Rules.{hypothesis}
use Rattle.proof_kernel.specs.Sequent.{Sequent, InSorts, AllHold, IsTrueAt, AllTrueAt}
use Rattle.proof_kernel.specs.TermRules.{term_at, assuming_all}
use Rattle.proof_kernel.proofs.Facts.{AllTrue}
use Rattle.proof_kernel.proofs.FormsFound.{picked, mapped, same_some}
use Rattle.proof_kernel.proofs.LinearSound.{exact}
use Rattle.proof_kernel.proofs.Sound.{held}
use Rattle.proof_kernel.proofs.TermSound.{value_sorted, assuming_sound}

-- the quantifier, and the term that is put
record Put (o : Option SortedTerm) (t : Term) (r : Replacement × Term) : Type 0 where
  term : SortedTerm
  there : o ≡ Some term
  sort : Ty
  was : t ≡ forall r.0.name sort r.1
  fits : term.sort ≡ sort
  by : r.0.by ≡ term.term

put_found : (o : Option SortedTerm) (t : Term) (r : Replacement × Term) → put_first o t ≡ Some r → Put o t r
put_found (Some a) (bind every x s t) r e =
    let p = picked (same_ty a.sort s) (record { name = x; by = a.term }, t) r e in
    record {
      term = a;
      there = refl;
      sort = s;
      was = ap (λ (u : Replacement × Term). forall u.0.name s u.1) p.1;
      fits = equal_types a.sort s p.0;
      by = ap (λ (u : Replacement × Term). u.0.by) (sym p.1);
    }
put_found o t r e = absurd (cc)

module _ (S : Structure) (adts : List AdtDecl) (theory : S.theory ≡ record { adts = adts }) (q : Sequent) (ρ : Env) (z : InSorts S q.vars ρ) where
  -- the terms have, at ρ, the values that τ gives the names for which they stand
  abbrev StandFor : List Replacement → Env → Type 0
  StandFor σ τ = (x : Name) → Exactly (Means S (look σ x) ρ) (τ x)

  one_more : (e : Replacement) (σ : List Replacement) (τ : Env) (w : Value) → Exactly (Means S e.by ρ) w → StandFor σ τ → StandFor (e ∷ σ) (with_value τ e.name w)
  one_more e σ τ w h k y = by (y.0 == e.name.0)
    where
      by : (b : Bool) → Exactly (Means S (cond b e.by (look σ y)) ρ) (cond b w (τ y))
      by true = h
      by false = k y

  instance_holds : (ps : List Pterm) (σ : List Replacement) (τ : Env) (t u : Term) → instance_of adts q σ ps t ≡ Some u → StandFor σ τ → Holds S t τ → Holds S u ρ
  instance_holds [] σ τ t u e stand h = subst (λ (v : Term). Holds S v ρ) (same_some (with_terms σ t) u e) ((yes_alike _ _ (with_terms_means S t ρ τ σ (λ x f. stand x))).1 h)
  instance_holds (p ∷ ps) σ τ t u e stand h = by (put_first (term_at adts q p) t) refl e (λ r f g k. instance_holds ps (r.0 ∷ σ) (with_value τ r.0.name f) r.1 u g k)
    where
      by : (o : Option (Replacement × Term)) → put_first (term_at adts q p) t ≡ o → then_with (λ r. instance_of adts q (r.0 ∷ σ) ps r.1) o ≡ Some u →
          ((r : Replacement × Term) (w : Value) → instance_of adts q (r.0 ∷ σ) ps r.1 ≡ Some u → StandFor (r.0 ∷ σ) (with_value τ r.0.name w) → Holds S r.1 (with_value τ r.0.name w) → Holds S u ρ) → Holds S u ρ
      by None is g others = absurd (cc)
      by (Some r) is g others =
          let put = put_found (term_at adts q p) t r is in
          let whole : Holds S (forall r.0.name put.sort r.1) τ = subst (λ (v : Term). Holds S v τ) put.was h in
          λ n. has_value S put.term.term ρ (λ (w : (v : Value) × Means S put.term.term ρ v).
          let sorted : HasSort (declared S.theory) w.0 (sort_instance S.types put.sort) =
          subst (λ (s : Ty). HasSort (declared S.theory) w.0 (sort_instance S.types s)) put.fits (value_sorted S adts theory q ρ z p put.term put.there w.0 w.1) in
          let value : Exactly (Means S r.0.by ρ) w.0 = subst (λ (v : Term). Exactly (Means S v ρ) w.0) (sym put.by) (exact S ρ put.term.term (integer_of w.0) (w.0, w.1, refl)) in
          others r w.0 g (one_more r.0 σ τ w.0 value stand) ((holds_forall S r.0.name put.sort r.1 τ).0 whole w.0 sorted) n)

  whole_holds : (ps : List Pterm) (t u : Term) → instance adts q ps t ≡ Some u → Holds S t ρ → Holds S u ρ
  whole_holds [] t u e h = absurd (cc)
  whole_holds (p ∷ ps) t u e h = instance_holds (p ∷ ps) [] ρ t u e (λ x. alike_same _) h

module _ (S : Structure) (adts : List AdtDecl) (theory : S.theory ≡ record { adts = adts }) (s : ℕ) (q : Sequent) (ps : List Sequent) (h : AllTrueAt S ps) where
  pub instance_sound : (l : Label2) (ts : List Pterm) → instance_rule adts s q l ts ≡ Some ps → IsTrueAt S q
  instance_sound l ts e = assuming_sound S s q ps h (instance_if adts q ts (hypothesis l q.hyps)) e (λ us f ρ z k. by us ρ z k (hypothesis l q.hyps) refl f)
    where
      by : (us : List Term) (ρ : Env) → InSorts S q.vars ρ → AllHold S q.hyps ρ → (o : Option Term) → hypothesis l q.hyps ≡ o → instance_if adts q ts o ≡ Some us → AllTrue S us ρ
      by us ρ z k None is f = absurd (cc)
      by us ρ z k (Some t) is f =
          let m = mapped (λ (u : Term). u ∷ []) (instance adts q ts t) us f in
          subst (λ (vs : List Term). AllTrue S vs ρ) m.2 (whole_holds S adts theory q ρ z ts t m.0 m.1 (held S l q.hyps t ρ is k), tt)
