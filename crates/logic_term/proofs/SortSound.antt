-- A term's values have its sort.
use Rattle.std.proofs.Common.{◌≡◌, refl, ◌⊎◌, inl, inr, ◌∙◌, sym, ap, ℕ, zero, suc, ℤ, Bool, true, false, Some}
use Rattle.source_kinds.specs.declared.kinds.IntKind.{IntKind}
use Rattle.source_kinds.specs.Range.{fits}
use Rattle.logic_term.specs.declared.kinds.Ctor.{Ctor}
use Rattle.logic_term.specs.declared.kinds.Ctor.TheVariants.{Tuple, Variant, Closure}
use Rattle.logic_term.specs.Meaning.{Has, Structure, structure_of, Env, Says, Each, Chosen, Calls, AppliedBy, MeansBy, ArgumentBy, calls, Means}
use Rattle.logic_term.specs.Sort.{HasSort, HaveSorts, instance, instances, of_int, of_math_int, of_bool, of_tuple, of_adt, of_none, of_more}
use Rattle.logic_term.specs.Sorted.{Scope, MadeSort, FieldSort, sort_at, OperatorSort, Sorted, AllSorted, FitsScope}
use Rattle.logic_term.specs.Term.{Operator, modeled, negated, denied, field, arith, less, at_most, equal, both, either, implied, choice, made, every, some, Term, Terms, var, lit, truth, apply, bind, no_terms, and_term, count}
use Rattle.logic_term.specs.Theory.{Theory, declared}
use Rattle.logic_term.specs.Ty.{Ty, Tys, int, bool, math_int, tuple, adt, no_tys, and_ty}
use Rattle.logic_term.specs.Value.{Value, Values, Number, Flag, Made, nth_value, nth_part}
use Rattle.logic_term.proofs.SortParts.{instances_instances, parts, all_parts}

same_some : {A : Type 0} (x y : A) → Some x ≡ Some y → x ≡ y
same_some x y e = cc

-- whatever calls mean
module _ (C : Calls) (Θ : Theory) (θ : Tys) where
  abbrev S : Structure
  S = structure_of Θ θ

  abbrev H : Value → Ty → Type 0
  H v s = HasSort (declared Θ) v (instance θ s)

  abbrev Hs : Values → Tys → Type 0
  Hs vs ss = HaveSorts (declared Θ) vs (instances θ ss)

  number_sort : (v : Value) (z : ℤ) (s : Ty) → s ≡ math_int → v ≡ Number z → H v s
  number_sort v z s e q = rw e (rw q of_math_int)

  flag_sort : (v : Value) (b : Bool) (s : Ty) → s ≡ bool → v ≡ Flag b → H v s
  flag_sort v b s e q = rw e (rw q of_bool)

  says_sort : (P : Type 0) (v : Value) (s : Ty) → s ≡ bool → Says P v → H v s
  says_sort P v s e p = flag_sort v p.0 s e p.1

  lit_sort : (z : ℤ) (t : Ty) → (t ≡ math_int) ⊎ ((k : IntKind) × (t ≡ int k) × (fits k z ≡ true)) → H (Number z) t
  lit_sort z t (inl e) = rw e of_math_int
  lit_sort z t (inr (k, e, f)) = rw e (of_int f)

  made_sort : (c : Ctor) (ss : Tys) (s : Ty) (vs : Values) → MadeSort Θ c ss s → Hs vs ss → H (Made c vs) s
  made_sort Tuple ss s vs e h = rw e (of_tuple h)
  made_sort (Variant d k) ss s vs m h =
      let g : HaveSorts (declared Θ) vs (instances (instances θ m.1) m.2) = rw (← instances_instances θ m.1 m.2) (rw m.5 at h) in
      rw m.3 (of_adt {ts = instances θ m.1} m.4 g)
  made_sort (Closure n) ss s vs e h = absurd e

  nth_sort : (vs : Values) (ss : Tys) (i : ℕ) (s : Ty) → Hs vs ss → sort_at ss i ≡ Some s → H (nth_value vs i) s
  nth_sort vs no_tys i s h n = cc
  nth_sort vs (and_ty r rs) zero s h n = let q = all_parts (declared Θ) vs (and_ty (instance θ r) (instances θ rs)) h in rw q.2 (rw (← same_some r s n) q.3)
  nth_sort vs (and_ty r rs) (suc i) s h n = let q = all_parts (declared Θ) vs (and_ty (instance θ r) (instances θ rs)) h in rw q.2 (nth_sort q.1 rs i s q.4 n)

  part_sort : (x : Value) (r : Ty) (i : ℕ) (s : Ty) → FieldSort Θ r i s → H x r → H (nth_part i x) s
  part_sort x (tuple ts) i s n h = let p = parts (declared Θ) x (tuple (instances θ ts)) h in rw p.1 (nth_sort p.0 ts i s p.2 n)
  part_sort x (adt d rs ts) i s (fs, e, only, n) h =
      let p = parts (declared Θ) x (adt d rs (instances θ ts)) h in
      let same : p.1 ≡ fs = same_some p.1 fs (sym p.4 ∙ ap (declared Θ d) (only p.0 p.1 p.4) ∙ e) in
      rw p.3 (nth_sort p.2 (instances ts fs) i s (rw (instances_instances θ ts fs) (rw same at p.5)) n)
  part_sort x r i s f h = absurd f

  chosen_sort : (c : Has) (A B : Has) (v : Value) (s : Ty) → ((x : Value) → A x → H x s) → ((x : Value) → B x → H x s) → Chosen c A B v → H v s
  chosen_sort c A B v s f g (true, d, p) = f v p
  chosen_sort c A B v s f g (false, d, p) = g v p

  -- all: values of all arguments have the sorts; each: those of each argument its own
  operator_sound : (op : Operator) (n : ℕ) (A : ℕ → Has) (ss : Tys) (s : Ty) → OperatorSort Θ op ss s → ((vs : Values) → Each n A vs → Hs vs ss) → ((k : ℕ) (r : Ty) → sort_at ss k ≡ Some r → (x : Value) → A k x → H x r) → (v : Value) → AppliedBy C θ op n A v → H v s
  operator_sound modeled n A ss s o all each v p = number_sort v _ s o.2 p.2
  operator_sound negated n A ss s o all each v p = number_sort v _ s o.1 p.2
  operator_sound denied n A ss s o all each v p = says_sort _ v s o.1 p
  operator_sound (field i) n A ss s o all each v p = rw p.2 (part_sort p.0 o.0 i s o.2 (each 0 o.0 (rw o.1 refl) p.0 p.1))
  operator_sound (arith op) n A ss s o all each v p = number_sort v _ s o.1 p.4
  operator_sound less n A ss s o all each v p = flag_sort v _ s o.1 p.4
  operator_sound at_most n A ss s o all each v p = flag_sort v _ s o.1 p.4
  operator_sound equal n A ss s o all each v p = says_sort _ v s o.2 p
  operator_sound both n A ss s o all each v p = says_sort _ v s o.1 p
  operator_sound either n A ss s o all each v p = says_sort _ v s o.1 p
  operator_sound implied n A ss s o all each v p = says_sort _ v s o.1 p
  operator_sound choice n A ss s o all each v p = chosen_sort (A 0) (A 1) (A 2) v s (each 1 s (rw o refl)) (each 2 s (rw o refl)) p
  operator_sound (made c) n A ss s o all each v p = rw p.2 (made_sort c ss s p.0 o (all p.0 p.1))

  -- under a binder no sort of a value is asked, since a formula's value is a truth value
  mutual
    pub sort_sound_by : (t : Term) (Γ : Scope) (s : Ty) (ρ : Env) → Sorted Θ Γ t s → FitsScope Θ θ Γ ρ → (v : Value) → MeansBy C S t ρ v → H v s
    sort_sound_by (var x) Γ s ρ q h v p = rw p (h x s q)
    sort_sound_by (lit z t) Γ s ρ q h v p = rw p (rw q.0 (lit_sort z t q.1))
    sort_sound_by (truth b) Γ s ρ q h v p = flag_sort v b s q p
    sort_sound_by (apply op ts) Γ s ρ q h v p = operator_sound op (count ts) (λ k. ArgumentBy C S ts ρ k) q.0 s q.1 (λ vs m. all_sound_by ts Γ q.0 ρ q.2 h vs m) (λ k r e x m. each_sound_by ts Γ q.0 ρ q.2 h k r e x m) v p
    sort_sound_by (bind every x r t) Γ s ρ q h v p = says_sort _ v s q.0 p
    sort_sound_by (bind some x r t) Γ s ρ q h v p = says_sort _ v s q.0 p

    all_sound_by : (ts : Terms) (Γ : Scope) (ss : Tys) (ρ : Env) → AllSorted Θ Γ ts ss → FitsScope Θ θ Γ ρ → (vs : Values) → Each (count ts) (λ k. ArgumentBy C S ts ρ k) vs → Hs vs ss
    all_sound_by no_terms Γ ss ρ q h vs p = rw p (rw q of_none)
    all_sound_by (and_term t ts) Γ ss ρ q h vs p = rw p.4 (rw q.2 (of_more (sort_sound_by t Γ q.0 ρ q.3 h p.0 p.2) (all_sound_by ts Γ q.1 ρ q.4 h p.1 p.3)))

    each_sound_by : (ts : Terms) (Γ : Scope) (ss : Tys) (ρ : Env) → AllSorted Θ Γ ts ss → FitsScope Θ θ Γ ρ → (k : ℕ) (r : Ty) → sort_at ss k ≡ Some r → (x : Value) → ArgumentBy C S ts ρ k x → H x r
    each_sound_by no_terms Γ ss ρ q h k r e x p = cc
    each_sound_by (and_term t ts) Γ ss ρ q h zero r e x p = sort_sound_by t Γ r ρ (rw (← same_some q.0 r (sym (ap (λ us. sort_at us 0) q.2) ∙ e)) q.3) h x p
    each_sound_by (and_term t ts) Γ ss ρ q h (suc k) r e x p = each_sound_by ts Γ q.1 ρ q.4 h k r (sym (ap (λ us. sort_at us (suc k)) q.2) ∙ e) x p

module _ (Θ : Theory) (θ : Tys) where
  pub sort_sound : (t : Term) (Γ : Scope) (s : Ty) (ρ : Env) → Sorted Θ Γ t s → FitsScope Θ θ Γ ρ →
      (v : Value) → Means (structure_of Θ θ) t ρ v → HasSort (declared Θ) v (instance θ s)
  sort_sound t Γ s ρ q h v p = sort_sound_by (calls Θ) Θ θ t Γ s ρ q h v p
