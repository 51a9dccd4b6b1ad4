-- The answers of a test: a value agrees with one of them, and each leaves less to do.
use Rattle.std.proofs.Common.{◌≡◌, refl, sym, ap, ◌∙◌, subst, ℕ, zero, suc, ◌+◌, ◌≤◌, ℤ, Bool, true, false, ◌||◌, Option, Some, None, List, [], ◌∷◌, ⊎_elim, length, slice_get, map, arith}
use Rattle.source_kinds.specs.declared.kinds.IntKind.{IntKind}
use Rattle.logic_term.specs.Matches.{seen, value_at}
use Rattle.logic_term.specs.Pattern.{Pat}
use Rattle.logic_term.specs.Sort.{Declarations, HasSort, instance}
use Rattle.logic_term.specs.Theory.{fields_of, variant_of}
use Rattle.logic_term.specs.Ty.{Ty, Tys, int, bool, math_int, tuple, adt, boxed, shared, unique, param, closure, viewed, snapshot}
use Rattle.logic_term.specs.Value.{Value, Flag}
use Rattle.logic_term.specs.declared.declaration.AdtDecl.{AdtDecl}
use Rattle.logic_term.specs.declared.declaration.VariantDecl.{VariantDecl}
use Rattle.logic_term.specs.declared.kinds.AdtId.{AdtId}
use Rattle.logic_term.specs.declared.kinds.Ctor.TheVariants.{Tuple, Variant, Closure}
use Rattle.logic_term.specs.declared.pattern.PatStep.{PatStep}
use Rattle.pat_check.proofs.Answered.{at_tuple, at_variant, at_truth, at_number, not_last}
use Rattle.pat_check.proofs.Going.{Goes, goes_tuple, goes_flag, goes_number, goes_other, goes_variant}
use Rattle.pat_check.proofs.RowLaws.{test_spot}
use Rattle.pat_check.proofs.Spots.{Spot}
use Rattle.pat_check.specs.Branches.{variants_in, field_tys, field_lists, variant_branches, AreIntegerBranches, AreBranches}
use Rattle.pat_check.specs.Known.{Known, flag, built, all_anything, agrees, known_at, put, excluded}
use Rattle.pat_check.specs.KnownTypes.{IsKnown}
use Rattle.pat_check.specs.Rows.{test, next}
use Rattle.pat_check.specs.Typed.{fields_in, core, PartsOf, count_tys, AllPats}
use Rattle.pat_check.specs.declared.test.Test.{Test}
use Rattle.pat_check.specs.declared.test.Test.TheVariants as by

-- ---- the declared variants

some_fields : (vs : List VariantDecl) (k : ℕ) → fields_of (slice_get vs k) ≡ slice_get (map field_tys vs) k
some_fields [] k = refl
some_fields (v ∷ vs) zero = refl
some_fields (v ∷ vs) (suc k) = some_fields vs k

fields_listed : (a : Option AdtDecl) (k : ℕ) → fields_of (variant_of a k) ≡ slice_get (map field_tys (variants_in a)) k
fields_listed None k = refl
fields_listed (Some d) k = some_fields d.variants k

pub fields_at : (ds : List AdtDecl) (d : AdtId) (k : ℕ) → fields_in ds d k ≡ slice_get (field_lists ds d) k
fields_at ds d k = fields_listed (slice_get ds d.0) k

-- all variants of all declared types
abbrev pub all_variants : List AdtDecl → ℕ
all_variants [] = 0
all_variants (d ∷ ds) = length d.variants + all_variants ds

map_length : (vs : List VariantDecl) → length (map field_tys vs) ≡ length vs
map_length [] = refl
map_length (v ∷ vs) = ap suc (map_length vs)

few_at : (ds : List AdtDecl) (n : ℕ) → length (map field_tys (variants_in (slice_get ds n))) ≤ all_variants ds
few_at [] n = omega arith
few_at (d ∷ ds) zero = omega (arith, map_length d.variants)
few_at (d ∷ ds) (suc n) = omega (arith, few_at ds n)

-- no test has more answers
abbrev pub most_branches : List AdtDecl → ℕ
most_branches ds = 2 + all_variants ds

-- ---- a list of answers

abbrev pub AllGo : Declarations → List Pat → Ty → Known → List Known → Type 0
AllGo Δ ps t k [] = Unit {0}
AllGo Δ ps t k (x ∷ xs) = Goes Δ ps t k x × AllGo Δ ps t k xs

abbrev pub some_agrees : List Known → Value → Bool
some_agrees [] v = false
some_agrees (k ∷ ks) v = agrees k v || some_agrees ks v

pub record Branching (ds : List AdtDecl) (ps : List Pat) (t : Ty) (k : Known) (ks : List Known) : Type 0 where
  pub go : AllGo (fields_in ds) ps t k ks
  pub one : (θ : Tys) (v : Value) → HasSort (fields_in ds) v (instance θ t) → agrees k v ≡ true → some_agrees ks v ≡ true
  pub few : length ks ≤ most_branches ds

or_left : (a b : Bool) → a ≡ true → a || b ≡ true
or_left true b e = refl
or_left false b e = absurd (cc)

or_right : (a b : Bool) → b ≡ true → a || b ≡ true
or_right true b e = refl
or_right false b e = e

-- ---- the variants

variants_go : (Δ : Declarations) (ps : List Pat) (t : Ty) (k : Known) (p : List PatStep) (d : AdtId) (l n : ℕ) → Spot Δ k t p (by.Made (Variant d l) n)
    → next 0 ps k ≡ test p (by.Made (Variant d l) n) → (j : ℕ) (fss : List Tys) → ((i : ℕ) (fs : Tys) → slice_get fss i ≡ Some fs → Δ d (j + i) ≡ Some fs) → AllGo Δ ps t k (variant_branches k p d j fss)
variants_go Δ ps t k p d l n i e j [] h = tt
variants_go Δ ps t k p d l n i e j (fs ∷ fss) h = (
  goes_variant Δ ps t k p d l n j fs i e (subst (λ m. Δ d m ≡ Some fs) (let f : j + 0 ≡ j = omega arith in f) (h 0 fs refl)),
  variants_go Δ ps t k p d l n i e (suc j) fss (λ m gs g. subst (λ x. Δ d x ≡ Some gs) (let f : j + suc m ≡ suc j + m = omega arith in f) (h (suc m) gs g)),
)

one_variant : (k : Known) (p : List PatStep) (d : AdtId) (v : Value) (j : ℕ) (fss : List Tys) (i m : ℕ) (fs : Tys) → m ≡ j + i → slice_get fss i ≡ Some fs
    → agrees (put k p (built (Variant d m) (all_anything (count_tys fs)))) v ≡ true → some_agrees (variant_branches k p d j fss) v ≡ true
one_variant k p d v j [] i m fs e g a = absurd (cc)
one_variant k p d v j (gs ∷ fss) zero m fs e g a =
    let same : gs ≡ fs = cc in
    let at : m ≡ j = omega (arith, e) in
    or_left _ _ (subst (λ x. agrees (put k p (built (Variant d j) (all_anything (count_tys x)))) v ≡ true) (sym same) (subst (λ x. agrees (put k p (built (Variant d x) (all_anything (count_tys fs)))) v ≡ true) at a))
one_variant k p d v j (gs ∷ fss) (suc i) m fs e g a = or_right _ _ (one_variant k p d v (suc j) fss i m fs (omega (arith, e)) g a)

count_branches : (k : Known) (p : List PatStep) (d : AdtId) (j : ℕ) (fss : List Tys) → length (variant_branches k p d j fss) ≡ length fss
count_branches k p d j [] = refl
count_branches k p d j (fs ∷ fss) = ap suc (count_branches k p d (suc j) fss)

variant_branching : (ds : List AdtDecl) (ps : List Pat) (t : Ty) (k : Known) (p : List PatStep) (d : AdtId) (l n : ℕ) → Spot (fields_in ds) k t p (by.Made (Variant d l) n)
    → next 0 ps k ≡ test p (by.Made (Variant d l) n) → Branching ds ps t k (variant_branches k p d 0 (field_lists ds d))
variant_branching ds ps t k p d l n i e = record {
  go = variants_go (fields_in ds) ps t k p d l n i e 0 (field_lists ds d) (λ m fs g. subst (λ x. fields_in ds d x ≡ Some fs) (let f : m ≡ 0 + m = omega arith in f) (fields_at ds d m ∙ g));
  one = λ θ v h a.
      let x = at_variant (fields_in ds) t k p d l n i θ v h a in
      one_variant k p d v 0 (field_lists ds d) x.variant x.variant x.fields (omega arith) (sym (fields_at ds d x.variant) ∙ x.declared) x.agreed;
  few = let c = count_branches k p d 0 (field_lists ds d) in omega (arith, c, few_at ds d.0);
}

no_closure : {P : Type 0} (Δ : Declarations) (s : Ty) (n : ℕ) (fs : Tys) → PartsOf Δ s (Closure n) fs → P
no_closure Δ (int k) n fs p = absurd p
no_closure Δ bool n fs p = absurd p
no_closure Δ math_int n fs p = absurd p
no_closure Δ (tuple ts) n fs p = absurd p
no_closure Δ (adt d rs ts) n fs p = absurd p
no_closure Δ (boxed t) n fs p = absurd p
no_closure Δ (shared r t) n fs p = absurd p
no_closure Δ (unique r t) n fs p = absurd p
no_closure Δ (param i) n fs p = absurd p
no_closure Δ (closure i ts cs k ps r) n fs p = absurd p
no_closure Δ (viewed t) n fs p = absurd p
no_closure Δ (snapshot t) n fs p = absurd p

-- ---- integers

integer_branching : (ds : List AdtDecl) (ps : List Pat) (t : Ty) (k : Known) (p : List PatStep) (c : Option IntKind) (z : ℤ) (ks : List Known) → Spot (fields_in ds) k t p (by.Number c z)
    → next 0 ps k ≡ test p (by.Number c z) → AreIntegerBranches k p c z (z ∷ excluded (known_at k p)) ks → Branching ds ps t k ks
integer_branching ds ps t k p c z ks i e b = ⊎_elim
    (λ x. subst (Branching ds ps t k) (sym x.1) (record {
      go = (goes_number (fields_in ds) ps t k p c z i e, tt);
      one = λ θ v h a. ⊎_elim (λ y. or_left _ _ y.1) (λ y. not_last k p c z v x.0 y) (at_number (fields_in ds) t k p c z i θ v h a);
      few = omega arith;
    }))
    (λ x. subst (Branching ds ps t k) (sym x.1) (record {
      go = (goes_number (fields_in ds) ps t k p c z i e, (goes_other (fields_in ds) ps t k p c z i e x.0, tt));
      one = λ θ v h a. ⊎_elim (λ y. or_left _ _ y.1) (λ y. or_right _ _ (or_left _ _ y.agreed)) (at_number (fields_in ds) t k p c z i θ v h a);
      few = omega arith;
    }))
    b

-- ---- truth values

truth_branching : (ds : List AdtDecl) (ps : List Pat) (t : Ty) (k : Known) (p : List PatStep) → Spot (fields_in ds) k t p by.Truth → next 0 ps k ≡ test p by.Truth → Branching ds ps t k (put k p (flag true) ∷ put k p (flag false) ∷ [])
truth_branching ds ps t k p i e = record {
  go = (goes_flag (fields_in ds) ps t k p true i e, (goes_flag (fields_in ds) ps t k p false i e, tt));
  one = λ θ v h a. by_flag v (at_truth (fields_in ds) t k p i θ v h a);
  few = omega arith;
}
  where
    by_flag : (v : Value) → (c : Bool) × (seen (value_at v p) ≡ Flag c) × (agrees (put k p (flag c)) v ≡ true) → some_agrees (put k p (flag true) ∷ put k p (flag false) ∷ []) v ≡ true
    by_flag v (true, e, b) = or_left _ _ b
    by_flag v (false, e, b) = or_right _ _ (or_left _ _ b)

-- ---- all tests

branching_at : (ds : List AdtDecl) (ps : List Pat) (t : Ty) (k : Known) (p : List PatStep) (w : Test) (ks : List Known) → Spot (fields_in ds) k t p w → next 0 ps k ≡ test p w → AreBranches ds k p w ks → Branching ds ps t k ks
branching_at ds ps t k p (by.Made Tuple n) ks i e b = subst (Branching ds ps t k) (sym b) (record {
  go = (goes_tuple (fields_in ds) ps t k p n i e, tt);
  one = λ θ v h a. or_left _ _ (at_tuple (fields_in ds) t k p n i θ v h a);
  few = omega arith;
})
branching_at ds ps t k p (by.Made (Variant d l) n) ks i e b = subst (Branching ds ps t k) (sym b) (variant_branching ds ps t k p d l n i e)
branching_at ds ps t k p (by.Made (Closure c) n) ks i e b = no_closure (fields_in ds) (core i.ty) c i.asked.0 i.asked.1
branching_at ds ps t k p (by.Number c z) ks i e b = integer_branching ds ps t k p c z ks i e b
branching_at ds ps t k p by.Truth ks i e b = subst (Branching ds ps t k) (sym b) (truth_branching ds ps t k p i e)

pub branching : (ds : List AdtDecl) (ps : List Pat) (t : Ty) (k : Known) (p : List PatStep) (w : Test) (ks : List Known) → AllPats (fields_in ds) ps t → IsKnown (fields_in ds) k t
    → next 0 ps k ≡ test p w → AreBranches ds k p w ks → Branching ds ps t k ks
branching ds ps t k p w ks h g e b = branching_at ds ps t k p w ks (test_spot (fields_in ds) 0 ps k t p w h g e) e b
