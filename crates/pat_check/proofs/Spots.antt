-- Where a pattern of a type asks, there stands a value of the type that it asks about.
use Rattle.std.proofs.Common.{◌≡◌, refl, sym, ap, ◌∙◌, subst, ℕ, suc, ℤ, Bool, true, false, cond, Option, List, [], ◌∷◌, ◌⊎◌, inl, inr, ⊎_elim}
use Rattle.std.specs.Ordering.{int_eq}
use Rattle.source_kinds.specs.declared.kinds.IntKind.{IntKind}
use Rattle.logic_term.specs.Matches.{seen, same_ctor, same_flag, is_made, nth_value, value_at, variant_number}
use Rattle.logic_term.specs.Pattern.{Pat, Pats, wild, bound, literal, truth, shape, no_pats, and_pat}
use Rattle.logic_term.specs.Sort.{Declarations, HasSort, HaveSorts, instance, instances}
use Rattle.logic_term.specs.Ty.{Ty, Tys, bool, no_tys, and_ty}
use Rattle.logic_term.specs.Value.{Value, Values, no_values, and_value, parts_of}
use Rattle.logic_term.specs.declared.pattern.PatStep.{PatStep}
use Rattle.pat_check.proofs.Sorts.{parts_sorts, parts_same, looks_all}
use Rattle.pat_check.proofs.Tests.{both, ctor_same}
use Rattle.pat_check.specs.Known.{Known, Knowns, anything, other, number, flag, built, no_knowns, and_known, among, agrees, agree_all, nth_known, set_known, known_at, put}
use Rattle.pat_check.specs.KnownTypes.{IsKnown, AreKnown}
use Rattle.pat_check.specs.Status.{Status, fails, sure, asks, also, first, next_part, later, count_pats, status, statuses}
use Rattle.pat_check.specs.Typed.{core, integers, is_integer, PartsOf, count_tys, IsPat, ArePats}
use Rattle.pat_check.specs.declared.test.Test.{Test}
use Rattle.pat_check.specs.declared.test.Test.TheVariants as by

-- ---- a status that asks

pub also_asks : (s t : Status) (p : List PatStep) (w : Test) → also s t ≡ asks p w → (s ≡ asks p w) ⊎ ((s ≡ sure) × (t ≡ asks p w))
also_asks fails t p w e = absurd (cc)
also_asks sure t p w e = inr (refl, e)
also_asks (asks q x) fails p w e = absurd (cc)
also_asks (asks q x) sure p w e = inl e
also_asks (asks q x) (asks r y) p w e = inl e

pub first_asks : (n : ℕ) (s : Status) (p : List PatStep) (w : Test) → first n s ≡ asks p w → (q : List PatStep) × (s ≡ asks q w) × (p ≡ record { variant = n; field = 0 } ∷ q)
first_asks n fails p w e = absurd (cc)
first_asks n sure p w e = absurd (cc)
first_asks n (asks q x) p w e = (q, cc, cc)

pub later_asks : (s : Status) (p : List PatStep) (w : Test) → later s ≡ asks p w → (q : List PatStep) × (s ≡ asks q w) × (p ≡ next_part q)
later_asks fails p w e = absurd (cc)
later_asks sure p w e = absurd (cc)
later_asks (asks q x) p w e = (q, cc, cc)

pub if_asks : (b : Bool) (s : Status) (p : List PatStep) (w : Test) → cond b s fails ≡ asks p w → (b ≡ true) × (s ≡ asks p w)
if_asks true s p w e = (refl, e)
if_asks false s p w e = absurd (cc)

pub asks_in : (b : Bool) (q : List PatStep) (x : Test) (p : List PatStep) (w : Test) → cond b fails (asks q x) ≡ asks p w → (b ≡ false) × (asks q x ≡ asks p w)
asks_in true q x p w e = absurd (cc)
asks_in false q x p w e = (refl, e)

pub sure_asks : {P : Type 0} (b : Bool) (p : List PatStep) (w : Test) → cond b sure fails ≡ asks p w → P
sure_asks true p w e = absurd (cc)
sure_asks false p w e = absurd (cc)

-- ---- what is asked

abbrev pub Asked : Declarations → Test → Ty → Type 0
Asked Δ (by.Made c n) t = (fs : Tys) × PartsOf Δ (core t) c fs × (n ≡ count_tys fs)
Asked Δ (by.Number k z) t = (core t ≡ integers k) × (is_integer k z ≡ true)
Asked Δ (by.Truth) t = core t ≡ bool

-- what is known there does not answer
abbrev pub Unanswered : Test → Known → Type 0
Unanswered (by.Made c n) k = k ≡ anything
Unanswered (by.Number t z) k = (k ≡ anything) ⊎ ((j : Option IntKind) × (zs : List ℤ) × (k ≡ other j zs) × (among z zs ≡ false))
Unanswered (by.Truth) k = k ≡ anything

pub record Spot (Δ : Declarations) (k : Known) (t : Ty) (p : List PatStep) (w : Test) : Type 0 where
  pub ty : Ty
  pub asked : Asked Δ w ty
  pub unanswered : Unanswered w (known_at k p)
  pub may_put : (x : Known) → IsKnown Δ x ty → IsKnown Δ (put k p x) t
  pub reads : (θ : Tys) (v : Value) → HasSort Δ v (instance θ t) → agrees k v ≡ true → HasSort Δ (value_at v p) (instance θ ty)

pub record SpotIn (Δ : Declarations) (n : ℕ) (ks : Knowns) (ts : Tys) (p : List PatStep) (w : Test) : Type 0 where
  pub at : ℕ
  pub rest : List PatStep
  pub path : p ≡ record { variant = n; field = at } ∷ rest
  pub ty : Ty
  pub asked : Asked Δ w ty
  pub unanswered : Unanswered w (known_at (nth_known ks at) rest)
  pub may_put : (x : Known) → IsKnown Δ x ty → AreKnown Δ (set_known ks at (put (nth_known ks at) rest x)) ts
  pub reads : (θ : Tys) (vs : Values) → HaveSorts Δ vs (instances θ ts) → agree_all ks vs ≡ true → HasSort Δ (value_at (nth_value vs at) rest) (instance θ ty)

here : (Δ : Declarations) (k : Known) (t : Ty) (q p : List PatStep) (x w : Test) → Asked Δ x t → Unanswered x k → q ≡ [] → asks q x ≡ asks p w → Spot Δ k t p w
here Δ k t q p x w a u is e =
    subst (λ y. Spot Δ k t p y) (let f : x ≡ w = cc in f) (subst (λ r. Spot Δ k t r x) (let f : [] ≡ p = cc in f) (record { ty = t; asked = a; unanswered = u; may_put = λ y h. h; reads = λ θ v h b. h }))

count_same : (Δ : Declarations) (ps : Pats) (ts : Tys) → ArePats Δ ps ts → count_pats ps ≡ count_tys ts
count_same Δ no_pats no_tys h = refl
count_same Δ no_pats (and_ty t ts) h = absurd h
count_same Δ (and_pat p ps) no_tys h = absurd h
count_same Δ (and_pat p ps) (and_ty t ts) h = ap suc (count_same Δ ps ts h.1)

first_of_all : (Δ : Declarations) (θ : Tys) (k : Known) (ks : Knowns) (t : Ty) (ts : Tys) (vs : Values) → HaveSorts Δ vs (instances θ (and_ty t ts)) → agree_all (and_known k ks) vs ≡ true
    → HasSort Δ (nth_value vs 0) (instance θ t) × (agrees k (nth_value vs 0) ≡ true)
first_of_all Δ θ k ks t ts no_values h a = absurd (cc)
first_of_all Δ θ k ks t ts (and_value v vs) h a =
    let l = looks_all Δ (and_value v vs) (instances θ (and_ty t ts)) h in
    let e : v ≡ l.0 = (let f = l.2 in cc) in
    (subst (λ x. HasSort Δ x (instance θ t)) (sym e) l.3, (both (agrees k v) _ a).0)

rest_of_all : (Δ : Declarations) (θ : Tys) (k : Known) (ks : Knowns) (t : Ty) (ts : Tys) (vs : Values) → HaveSorts Δ vs (instances θ (and_ty t ts)) → agree_all (and_known k ks) vs ≡ true
    → (us : Values) × HaveSorts Δ us (instances θ ts) × (agree_all ks us ≡ true) × ((n : ℕ) → nth_value vs (suc n) ≡ nth_value us n)
rest_of_all Δ θ k ks t ts no_values h a = absurd (cc)
rest_of_all Δ θ k ks t ts (and_value v vs) h a =
    let l = looks_all Δ (and_value v vs) (instances θ (and_ty t ts)) h in
    let e : vs ≡ l.1 = (let f = l.2 in cc) in
    (vs, subst (λ x. HaveSorts Δ x (instances θ ts)) (sym e) l.4, (both (agrees k v) _ a).1, λ n. refl)

mutual
  pub spot : (Δ : Declarations) (q : Pat) (k : Known) (t : Ty) (p : List PatStep) (w : Test) → IsPat Δ q t → IsKnown Δ k t → status q k ≡ asks p w → Spot Δ k t p w
  spot Δ (wild u) k t p w h g s = absurd (cc)
  spot Δ (bound u x m) k t p w h g s = absurd (cc)
  spot Δ (literal u i z) anything t p w h g s = here Δ anything t [] p (by.Number i z) w h (inl refl) refl s
  spot Δ (literal u i z) (other j zs) t p w h g s =
      let a = asks_in (among z zs) [] (by.Number i z) p w s in
      here Δ (other j zs) t [] p (by.Number i z) w h (inr (j, zs, refl, a.0)) refl a.1
  spot Δ (literal u i z) (number y) t p w h g s = sure_asks (int_eq z y) p w s
  spot Δ (literal u i z) (flag b) t p w h g s = absurd (cc)
  spot Δ (literal u i z) (built c ks) t p w h g s = absurd (cc)
  spot Δ (truth u b) anything t p w h g s = here Δ anything t [] p (by.Truth) w h refl refl s
  spot Δ (truth u b) (other j zs) t p w h g s = absurd (cc)
  spot Δ (truth u b) (number y) t p w h g s = absurd (cc)
  spot Δ (truth u b) (flag c) t p w h g s = sure_asks (same_flag b c) p w s
  spot Δ (truth u b) (built c ks) t p w h g s = absurd (cc)
  spot Δ (shape u c ps) anything t p w (fs, po, h) g s = here Δ anything t [] p (by.Made c (count_pats ps)) w (fs, po, count_same Δ ps fs h) refl refl s
  spot Δ (shape u c ps) (other j zs) t p w h g s = absurd (cc)
  spot Δ (shape u c ps) (number y) t p w h g s = absurd (cc)
  spot Δ (shape u c ps) (flag b) t p w h g s = absurd (cc)
  spot Δ (shape u c ps) (built e ks) t p w (fs, po, h) (gs, pg, g) s =
      let a = if_asks (same_ctor c e) (statuses (variant_number c) ps ks) p w s in
      let ce = ctor_same c e a.0 in
      let same : fs ≡ gs = parts_same Δ (core t) e fs gs (subst (λ d. PartsOf Δ (core t) d fs) ce po) pg in
      let i = spot_in Δ (variant_number c) ps ks gs p w (subst (λ us. ArePats Δ ps us) same h) g a.1 in
      subst (λ q. Spot Δ (built e ks) t q w) (sym i.path) (record {
        ty = i.ty;
        asked = i.asked;
        unanswered = i.unanswered;
        may_put = λ x hx. (gs, pg, i.may_put x hx);
        reads = λ θ v hv b.
            let m = both (is_made e (seen v)) _ b in
            i.reads θ (parts_of (seen v)) (parts_sorts Δ θ t e gs v pg hv m.0) m.1;
      })

  pub spot_in : (Δ : Declarations) (n : ℕ) (ps : Pats) (ks : Knowns) (ts : Tys) (p : List PatStep) (w : Test) → ArePats Δ ps ts → AreKnown Δ ks ts → statuses n ps ks ≡ asks p w → SpotIn Δ n ks ts p w
  spot_in Δ n no_pats no_knowns ts p w h g s = absurd (cc)
  spot_in Δ n no_pats (and_known k ks) ts p w h g s = absurd (cc)
  spot_in Δ n (and_pat q ps) no_knowns ts p w h g s = absurd (cc)
  spot_in Δ n (and_pat q ps) (and_known k ks) no_tys p w h g s = absurd h
  spot_in Δ n (and_pat q ps) (and_known k ks) (and_ty t ts) p w (hq, hs) (gk, gs) s =
      ⊎_elim
      (λ e.
      let a = first_asks n (status q k) p w e in
      let i = spot Δ q k t a.0 w hq gk a.1 in
      record {
        at = 0;
        rest = a.0;
        path = a.2;
        ty = i.ty;
        asked = i.asked;
        unanswered = i.unanswered;
        may_put = λ x hx. (i.may_put x hx, gs);
        reads = λ θ vs hv b.
            let f = first_of_all Δ θ k ks t ts vs hv b in
            i.reads θ (nth_value vs 0) f.0 f.1;
      })
      (λ e.
      let a = later_asks (statuses n ps ks) p w e.1 in
      let i = spot_in Δ n ps ks ts a.0 w hs gs a.1 in
      record {
        at = suc i.at;
        rest = i.rest;
        path = a.2 ∙ ap next_part i.path;
        ty = i.ty;
        asked = i.asked;
        unanswered = i.unanswered;
        may_put = λ x hx. (gk, i.may_put x hx);
        reads = λ θ vs hv b.
            let f = rest_of_all Δ θ k ks t ts vs hv b in
            subst (λ u. HasSort Δ (value_at u i.rest) (instance θ i.ty)) (sym (f.3 i.at)) (i.reads θ f.0 f.1 f.2);
      })
      (also_asks (first n (status q k)) (later (statuses n ps ks)) p w s)
