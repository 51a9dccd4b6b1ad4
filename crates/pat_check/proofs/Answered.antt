-- The values of which something is known are those of the branches of a test.
use Rattle.std.proofs.Common.{◌≡◌, refl, sym, ap, ◌∙◌, subst, ℕ, suc, ℤ, Bool, true, false, not, ◌||◌, Option, Some, List, ◌∷◌, ◌⊎◌, inl, inr}
use Rattle.std.specs.Ordering.{int_eq}
use Rattle.source_kinds.specs.declared.kinds.IntKind.{IntKind}
use Rattle.logic_term.specs.Matches.{seen, is_made, value_at}
use Rattle.logic_term.specs.Sort.{Declarations, HasSort, HaveSorts, instance, instances}
use Rattle.logic_term.specs.Ty.{Ty, Tys, bool, tuple, adt, no_tys, and_ty}
use Rattle.logic_term.specs.Value.{Value, Values, Number, Flag, Made, parts_of}
use Rattle.logic_term.specs.declared.kinds.AdtId.{AdtId}
use Rattle.logic_term.specs.declared.kinds.Ctor.TheVariants.{Tuple, Variant}
use Rattle.logic_term.specs.declared.pattern.PatStep.{PatStep}
use Rattle.pat_check.proofs.Places.{agrees_at, agrees_put}
use Rattle.pat_check.proofs.Sorts.{Looks, looks_behind, looks_all, looks_integer}
use Rattle.pat_check.proofs.Sound.{number_at, flag_at}
use Rattle.pat_check.proofs.Spots.{Asked, Unanswered, Spot}
use Rattle.pat_check.proofs.Tests.{and_of, int_same, ctor_self}
use Rattle.pat_check.specs.Decision.{variant_seen}
use Rattle.pat_check.specs.Known.{Known, anything, other, number, flag, built, no_knowns, all_anything, among, is_other, agrees, agree_all, known_at, put, excluded}
use Rattle.pat_check.specs.KnownTypes.{AllAmong, IsKnown, AreKnown}
use Rattle.pat_check.specs.Typed.{core, integers, is_integer, PartsOf, count_tys}
use Rattle.pat_check.specs.declared.test.Test.{Test}
use Rattle.pat_check.specs.declared.test.Test.TheVariants as by

agree_anything : (Δ : Declarations) (θ fs : Tys) (vs : Values) → HaveSorts Δ vs (instances θ fs) → agree_all (all_anything (count_tys fs)) vs ≡ true
agree_anything Δ θ no_tys vs h = subst (λ x. agree_all no_knowns x ≡ true) (sym (looks_all Δ vs no_tys h)) refl
agree_anything Δ θ (and_ty t ts) vs h =
    let l = looks_all Δ vs (instances θ (and_ty t ts)) h in
    subst (λ x. agree_all (all_anything (count_tys (and_ty t ts))) x ≡ true) (sym l.2) (agree_anything Δ θ ts l.1 l.4)

known_anything : (Δ : Declarations) (fs : Tys) → AreKnown Δ (all_anything (count_tys fs)) fs
known_anything Δ no_tys = tt
known_anything Δ (and_ty t ts) = (tt, known_anything Δ ts)

count_instances : (θ ts : Tys) → count_tys (instances θ ts) ≡ count_tys ts
count_instances θ no_tys = refl
count_instances θ (and_ty t ts) = ap suc (count_instances θ ts)

-- ---- what is put is known of the type

pub tuple_known : (Δ : Declarations) (t : Ty) (n : ℕ) → Asked Δ (by.Made Tuple n) t → IsKnown Δ (built Tuple (all_anything n)) t
tuple_known Δ t n (fs, po, e) = (fs, po, subst (λ m. AreKnown Δ (all_anything m) fs) (sym e) (known_anything Δ fs))

variant_parts : (Δ : Declarations) (s : Ty) (d : AdtId) (k j : ℕ) (fs gs : Tys) → PartsOf Δ s (Variant d k) fs → Δ d j ≡ Some gs → (hs : Tys) × PartsOf Δ s (Variant d j) hs × (count_tys hs ≡ count_tys gs)
variant_parts Δ (adt e rs ts) d k j fs gs (is, same, some, inst) has = (instances ts gs, (gs, same, subst (λ x. Δ x j ≡ Some gs) (sym same) has, refl), count_instances ts gs)
variant_parts Δ s d k j fs gs p has = absurd p

pub variant_known : (Δ : Declarations) (t : Ty) (d : AdtId) (k n j : ℕ) (gs : Tys) → Asked Δ (by.Made (Variant d k) n) t → Δ d j ≡ Some gs → IsKnown Δ (built (Variant d j) (all_anything (count_tys gs))) t
variant_known Δ t d k n j gs (fs, po, e) has =
    let v = variant_parts Δ (core t) d k j fs gs po has in
    (v.0, v.1, subst (λ m. AreKnown Δ (all_anything m) v.0) v.2 (known_anything Δ v.0))

-- ---- a tuple, or the only variant

tuple_made : (Δ : Declarations) (θ : Tys) (s : Ty) (fs : Tys) (u : Value) → PartsOf Δ s Tuple fs → Looks Δ u (core (instance θ s)) → (is_made Tuple u ≡ true) × HaveSorts Δ (parts_of u) (instances θ fs)
tuple_made Δ θ (tuple ts) fs u e (vs, is, h) = (subst (λ x. is_made Tuple x ≡ true) (sym is) refl, subst (λ gs. HaveSorts Δ (parts_of u) (instances θ gs)) e (subst (λ x. HaveSorts Δ (parts_of x) (instances θ ts)) (sym is) h))
tuple_made Δ θ s fs u p l = absurd p

pub at_tuple : (Δ : Declarations) (t : Ty) (k : Known) (p : List PatStep) (n : ℕ) → Spot Δ k t p (by.Made Tuple n) → (θ : Tys) (v : Value) → HasSort Δ v (instance θ t) → agrees k v ≡ true
    → agrees (put k p (built Tuple (all_anything n))) v ≡ true
at_tuple Δ t k p n i θ v h a =
    let fs = i.asked.0 in
    let m = tuple_made Δ θ (core i.ty) fs (seen (value_at v p)) i.asked.1 (looks_behind Δ θ i.ty (core i.ty) (value_at v p) refl (i.reads θ v h a)) in
    let b : agree_all (all_anything n) (parts_of (seen (value_at v p))) ≡ true = subst (λ x. agree_all (all_anything x) (parts_of (seen (value_at v p))) ≡ true) (sym i.asked.2) (agree_anything Δ θ fs (parts_of (seen (value_at v p))) m.1) in
    agrees_put k p (built Tuple (all_anything n)) v a (and_of _ _ m.0 b)

-- ---- the variants of a declared type

adt_made : (Δ : Declarations) (θ : Tys) (s : Ty) (d : AdtId) (k : ℕ) (fs : Tys) (u : Value) → PartsOf Δ s (Variant d k) fs → Looks Δ u (core (instance θ s))
    → (j : ℕ) × (gs : Tys) × (Δ d j ≡ Some gs) × (is_made (Variant d j) u ≡ true) × (agree_all (all_anything (count_tys gs)) (parts_of u) ≡ true) × (variant_seen u ≡ j)
adt_made Δ θ (adt e rs ts) d k fs u (is, same, some, inst) (j, gs, vs, has, made, h) = (
  j,
  gs,
  subst (λ x. Δ x j ≡ Some gs) same has,
  subst (λ x. is_made (Variant d j) x ≡ true) (sym made) (subst (λ x. is_made (Variant d j) (Made (Variant x j) vs) ≡ true) (sym same) (ctor_self (Variant d j))),
  subst (λ x. agree_all (all_anything (count_tys gs)) (parts_of x) ≡ true) (sym made) (agree_anything Δ (instances θ ts) gs vs h),
  ap variant_seen made,
)
adt_made Δ θ s d k fs u p l = absurd p

pub record AtVariant (Δ : Declarations) (k : Known) (p : List PatStep) (d : AdtId) (v : Value) : Type 0 where
  pub variant : ℕ
  pub fields : Tys
  pub declared : Δ d variant ≡ Some fields
  pub is : variant_seen (seen (value_at v p)) ≡ variant
  pub agreed : agrees (put k p (built (Variant d variant) (all_anything (count_tys fields)))) v ≡ true

pub at_variant : (Δ : Declarations) (t : Ty) (k : Known) (p : List PatStep) (d : AdtId) (m n : ℕ) → Spot Δ k t p (by.Made (Variant d m) n) → (θ : Tys) (v : Value) → HasSort Δ v (instance θ t) → agrees k v ≡ true → AtVariant Δ k p d v
at_variant Δ t k p d m n i θ v h a =
    let b = adt_made Δ θ (core i.ty) d m i.asked.0 (seen (value_at v p)) i.asked.1 (looks_behind Δ θ i.ty (core i.ty) (value_at v p) refl (i.reads θ v h a)) in
    record { variant = b.0; fields = b.1; declared = b.2; is = b.5; agreed = agrees_put k p (built (Variant d b.0) (all_anything (count_tys b.1))) v a (and_of _ _ b.3 b.4) }

-- ---- truth values

pub at_truth : (Δ : Declarations) (t : Ty) (k : Known) (p : List PatStep) → Spot Δ k t p (by.Truth) → (θ : Tys) (v : Value) → HasSort Δ v (instance θ t) → agrees k v ≡ true
    → (c : Bool) × (seen (value_at v p) ≡ Flag c) × (agrees (put k p (flag c)) v ≡ true)
at_truth Δ t k p i θ v h a =
    let l = looks_behind Δ θ i.ty bool (value_at v p) i.asked (i.reads θ v h a) in
    (l.0, l.1, agrees_put k p (flag l.0) v a (flag_at l.0 (seen (value_at v p)) l.1))

-- ---- integers

not_of : (b : Bool) → b ≡ false → not b ≡ true
not_of true e = absurd (cc)
not_of false e = refl

other_of : (t : Option IntKind) (k : Known) (z : ℤ) (w : Test) (y : ℤ) (u : Value) → Unanswered (by.Number t z) k → agrees k u ≡ true → seen u ≡ Number y → among y (excluded k) ≡ false
other_of t anything z w y u h a e = refl
other_of t (other j zs) z w y u h a e = not_is (among y zs) (subst (λ x. is_other zs x ≡ true) e a)
  where
    not_is : (b : Bool) → not b ≡ true → b ≡ false
    not_is true f = absurd (cc)
    not_is false f = refl
other_of t (number x) z w y u h a e = refl
other_of t (flag b) z w y u h a e = refl
other_of t (built c ks) z w y u h a e = refl

or_false : (a b : Bool) → a ≡ false → b ≡ false → a || b ≡ false
or_false true b e f = absurd (cc)
or_false false b e f = f

pub record AtOther (k : Known) (p : List PatStep) (c : Option IntKind) (z : ℤ) (v : Value) : Type 0 where
  pub integer : ℤ
  pub is : seen (value_at v p) ≡ Number integer
  pub within : is_integer c integer ≡ true
  pub not_among : among integer (z ∷ excluded (known_at k p)) ≡ false
  pub agreed : agrees (put k p (other c (z ∷ excluded (known_at k p)))) v ≡ true

pub at_number : (Δ : Declarations) (t : Ty) (k : Known) (p : List PatStep) (c : Option IntKind) (z : ℤ) → Spot Δ k t p (by.Number c z) → (θ : Tys) (v : Value) → HasSort Δ v (instance θ t)
    → agrees k v ≡ true → ((seen (value_at v p) ≡ Number z) × (agrees (put k p (number z)) v ≡ true)) ⊎ AtOther k p c z v
at_number Δ t k p c z i θ v h a = by_number (looks_integer Δ θ c (seen (value_at v p)) (looks_behind Δ θ i.ty (integers c) (value_at v p) i.asked.0 (i.reads θ v h a)))
  where
    by_test : (y : ℤ) → seen (value_at v p) ≡ Number y → is_integer c y ≡ true → (b : Bool) → int_eq y z ≡ b → ((seen (value_at v p) ≡ Number z) × (agrees (put k p (number z)) v ≡ true)) ⊎ AtOther k p c z v
    by_test y e f true is =
        let g = e ∙ ap Number (int_same y z is) in
        inl (g, agrees_put k p (number z) v a (number_at z (seen (value_at v p)) g))
    by_test y e f false is =
        let none : among y (z ∷ excluded (known_at k p)) ≡ false = or_false (int_eq y z) _ is (other_of c (known_at k p) z (by.Number c z) y (value_at v p) i.unanswered (agrees_at k p v a) e) in
        inr (record {
          integer = y;
          is = e;
          within = f;
          not_among = none;
          agreed = agrees_put k p (other c (z ∷ excluded (known_at k p))) v a (subst (λ x. is_other (z ∷ excluded (known_at k p)) x ≡ true) (sym e) (not_of _ none));
        })

    by_number : (y : ℤ) × (seen (value_at v p) ≡ Number y) × (is_integer c y ≡ true) → ((seen (value_at v p) ≡ Number z) × (agrees (put k p (number z)) v ≡ true)) ⊎ AtOther k p c z v
    by_number (y, e, f) = by_test y e f (int_eq y z) refl

pub not_last : (k : Known) (p : List PatStep) (c : Option IntKind) (z : ℤ) (v : Value) {P : Type 0} → AllAmong c (z ∷ excluded (known_at k p)) → AtOther k p c z v → P
not_last k p c z v all o = absurd (let g = all o.integer o.within in let f = o.not_among in cc)
