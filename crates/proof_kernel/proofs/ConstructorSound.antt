-- Equal values of one constructor have equal parts, and values of two constructors are not equal.
use Rattle.std.proofs.Common.{◌≡◌, ◌==◌, ◌&&◌, Bool, true, false, cond, List, [], ◌≢◌, ◌⊎◌, inl, inr, length, Option, Some, None, refl, sym, ◌∙◌, ap, ap₂, subst}
use Rattle.std.proofs.lemmas.Bool.{eqb-true, eq-eqb}
use Rattle.logic_term.specs.declared.kinds.AdtId.{AdtId}
use Rattle.logic_term.specs.declared.kinds.Ctor.{Ctor}
use Rattle.logic_term.specs.declared.kinds.Ctor.TheVariants.{Tuple, Variant, Closure}
use Rattle.logic_term.specs.Matches.{same_ctor}
use Rattle.logic_term.specs.Meaning.{Sure, Each, Structure, Env, Means, Argument, Holds}
use Rattle.logic_term.specs.Term.{equal, made, Term, Terms, apply, no_terms, and_term, count, is_equal}
use Rattle.logic_term.specs.TermView.{terms_of}
use Rattle.logic_term.specs.Value.{Value, Values, Made, and_value}
use Rattle.logic_term.proofs.Pairs.{count_terms}
use Rattle.logic_term.proofs.Truth.{holds_equal}
use Rattle.logic_term.proofs.Unique.{single, has_value}
use Rattle.proof_kernel.specs.ConstructorRules.{constructed, equations, alike_parts, injected_by, injected, apart_by, equates_apart}
use Rattle.proof_kernel.proofs.Facts.{AllTrue, surely_true}
use Rattle.proof_kernel.proofs.FormsFound.{same_some, picked}
use Rattle.proof_kernel.proofs.Sound.{and_true}

-- ---- constructors

adt_ids : (d e : AdtId) → d.0 ≡ e.0 → d ≡ e
adt_ids d e p = λ i. record { 0 = p i }

ctor_same : (c e : Ctor) → same_ctor c e ≡ true → c ≡ e
ctor_same Tuple Tuple p = refl
ctor_same (Variant d k) (Variant e j) p = let both = and_true (d.0 == e.0) (k == j) p in λ i. Variant (adt_ids d e (eqb-true d.0 e.0 both.0) i) (eqb-true k j both.1 i)
ctor_same (Closure n) (Closure m) p = ap Closure (eqb-true n m p)
ctor_same c e p = absurd (cc)

ctor_self : (c : Ctor) → same_ctor c c ≡ true
ctor_self Tuple = refl
ctor_self (Variant d k) = ap₂ (λ a b. a && b) (eq-eqb d.0 d.0 refl) (eq-eqb k k refl)
ctor_self (Closure n) = eq-eqb n n refl

constructed_is : (t : Term) (p : Ctor × Terms) → constructed t ≡ Some p → t ≡ apply (made p.0) p.1
constructed_is (apply (made c) ts) p e = ap (λ (q : Ctor × Terms). apply (made q.0) q.1) (same_some (c, ts) p e)
constructed_is t p e = absurd (cc)

made_parts : (c d : Ctor) (vs ws : Values) → Made c vs ≡ Made d ws → (c ≡ d) × (vs ≡ ws)
made_parts c d vs ws e = (cc, cc)

-- ---- parts

-- how two values of one constructor are told, and how others are
pub injected_found : (o p : Option (Ctor × Terms)) (c d : Ctor) (ts us es : List Term) → o ≡ Some (c, terms_of ts) → p ≡ Some (d, terms_of us) → same_ctor c d ≡ true → length ts ≡ length us → es ≡ equations (terms_of ts) (terms_of us)
    → Some es ≡ injected_by o p
injected_found o p c d ts us es e f same many is =
    let counts : count (terms_of ts) ≡ count (terms_of us) = count_terms ts ∙ many ∙ sym (count_terms us) in
    ap Some is
    ∙ ap (λ b. cond b (Some (equations (terms_of ts) (terms_of us))) None) (sym (ap₂ (λ a b. a && b) same (eq-eqb (count (terms_of ts)) (count (terms_of us)) counts)))
    ∙ ap₂ injected_by (sym e) (sym f)

pub not_injected : (o p : Option (Ctor × Terms)) (c d : Ctor) (ts us : List Term) → o ≡ Some (c, terms_of ts) → p ≡ Some (d, terms_of us) → (same_ctor c d ≡ false) ⊎ (length ts ≢ length us) → None ≡ injected_by o p
not_injected o p c d ts us e f (inl other) = ap (λ b. cond (b && (count (terms_of ts) == count (terms_of us))) (Some (equations (terms_of ts) (terms_of us))) None) (sym other) ∙ ap₂ injected_by (sym e) (sym f)
not_injected o p c d ts us e f (inr many) = at (alike_parts (c, terms_of ts) (d, terms_of us)) refl ∙ ap₂ injected_by (sym e) (sym f)
  where
    at : (b : Bool) → alike_parts (c, terms_of ts) (d, terms_of us) ≡ b → None ≡ cond b (Some (equations (terms_of ts) (terms_of us))) None
    at true g = absurd (many (sym (count_terms ts) ∙ eqb-true (count (terms_of ts)) (count (terms_of us)) (and_true (same_ctor c d) (count (terms_of ts) == count (terms_of us)) g).1 ∙ count_terms us))
    at false g = refl

module _ (S : Structure) (ρ : Env) where
  same_holds : (a b : Term) (v : Value) → Means S a ρ v → Means S b ρ v → Holds S (is_equal a b) ρ
  same_holds a b v p r = (holds_equal S a b ρ).1 (λ x y m k n. n (single S a ρ x v m p ∙ sym (single S b ρ y v k r)))

  -- terms with the same values are equal, place by place
  each_equal : (ts us : Terms) (vs ws : Values) → Each (count ts) (λ n. Argument S ts ρ n) vs → Each (count us) (λ n. Argument S us ρ n) ws → vs ≡ ws → AllTrue S (equations ts us) ρ
  each_equal (and_term a ts) (and_term b us) vs ws p q e =
      let both : and_value p.0 p.1 ≡ and_value q.0 q.1 = sym p.4 ∙ e ∙ q.4 in
      let first : p.0 ≡ q.0 = cc in
      let others : p.1 ≡ q.1 = cc in
      (same_holds a b p.0 p.2 (subst (Means S b ρ) (sym first) q.2), each_equal ts us p.1 q.1 p.3 q.3 others)
  each_equal no_terms us vs ws p q e = tt
  each_equal (and_term a ts) no_terms vs ws p q e = tt

  -- what equal values of constructors are
  made_equal : (c d : Ctor) (ts us : Terms) → Holds S (is_equal (apply (made c) ts) (apply (made d) us)) ρ → Sure ((c ≡ d) × AllTrue S (equations ts us) ρ)
  made_equal c d ts us h n =
      has_value S (apply (made c) ts) ρ (λ (x : (v : Value) × Means S (apply (made c) ts) ρ v). has_value S (apply (made d) us) ρ (λ (y : (v : Value) × Means S (apply (made d) us) ρ v).
      (holds_equal S (apply (made c) ts) (apply (made d) us) ρ).0 h x.0 y.0 x.1 y.1 (λ (same : x.0 ≡ y.0).
      let parts = made_parts c d x.1.0 y.1.0 (sym x.1.2 ∙ same ∙ y.1.2) in
      n (parts.0, each_equal ts us x.1.0 y.1.0 x.1.1 y.1.1 parts.1))))

  equal_of : (a b : Term) (p q : Ctor × Terms) → constructed a ≡ Some p → constructed b ≡ Some q → Holds S (is_equal a b) ρ → Sure ((p.0 ≡ q.0) × AllTrue S (equations p.1 q.1) ρ)
  equal_of a b p q e f h =
      made_equal p.0 q.0 p.1 q.1
      (subst (λ (x : Term). Holds S (is_equal x (apply (made q.0) q.1)) ρ) (constructed_is a p e) (subst (λ (y : Term). Holds S (is_equal a y) ρ) (constructed_is b q f) h))

  injected_hold : (a b : Term) (o p : Option (Ctor × Terms)) (es : List Term) → constructed a ≡ o → constructed b ≡ p → injected_by o p ≡ Some es → Holds S (is_equal a b) ρ → AllTrue S es ρ
  injected_hold a b (Some p) (Some q) es e f is h =
      let c = picked (alike_parts p q) (equations p.1 q.1) es is in
      subst (λ (us : List Term). AllTrue S us ρ) c.1 (surely_true S (equations p.1 q.1) ρ (λ n. equal_of a b p q e f h (λ r. n r.1)))
  injected_hold a b o p es e f is h = absurd (cc)

  pub parts_are_equal : (t : Term) (es : List Term) → injected t ≡ Some es → Holds S t ρ → AllTrue S es ρ
  parts_are_equal (apply equal (and_term a (and_term b no_terms))) es e h = injected_hold a b (constructed a) (constructed b) es refl refl e h
  parts_are_equal t es e h = absurd (cc)

  apart_fails_by : (a b : Term) (o p : Option (Ctor × Terms)) → constructed a ≡ o → constructed b ≡ p → apart_by o p ≡ true → Holds S (is_equal a b) ρ → ⊥
  apart_fails_by a b (Some p) (Some q) e f is h = equal_of a b p q e f h (λ r.
      let one : same_ctor p.0 q.0 ≡ true = subst (λ (c : Ctor). same_ctor p.0 c ≡ true) r.0 (ctor_self p.0) in
      absurd (cc))
  apart_fails_by a b o p e f is h = absurd (cc)

  pub apart_fails : (t : Term) → equates_apart t ≡ true → Holds S t ρ → ⊥
  apart_fails (apply equal (and_term a (and_term b no_terms))) e h = apart_fails_by a b (constructed a) (constructed b) refl refl e h
  apart_fails t e h = absurd (cc)
