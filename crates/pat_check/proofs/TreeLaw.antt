-- The tree of the arms, run on a value of their type, answers the first arm that matches, with its bindings.
use Rattle.std.proofs.Common.{◌≡◌, refl, sym, ap, ◌∙◌, subst, ℕ, zero, suc, ◌+◌, ℤ, Bool, true, false, cond, ◌||◌, Option, Some, List, [], ◌∷◌, ◌⊎◌, ⊎_elim, slice_get, arith}
use Rattle.std.specs.Ordering.{int_eq}
use Rattle.source_kinds.specs.declared.kinds.IntKind.{IntKind}
use Rattle.logic_term.specs.Matches.{seen, is_number, is_flag, value_at}
use Rattle.logic_term.specs.Pattern.{Pat}
use Rattle.logic_term.specs.Sort.{Declarations, HasSort, instance}
use Rattle.logic_term.specs.Ty.{Ty, Tys}
use Rattle.logic_term.specs.Value.{Value}
use Rattle.logic_term.specs.declared.declaration.AdtDecl.{AdtDecl}
use Rattle.logic_term.specs.declared.kinds.AdtId.{AdtId}
use Rattle.logic_term.specs.declared.kinds.Ctor.TheVariants.{Tuple, Variant, Closure}
use Rattle.logic_term.specs.declared.pattern.PatStep.{PatStep}
use Rattle.pat_check.proofs.Answered.{at_tuple, at_variant, at_truth, at_number, not_last}
use Rattle.pat_check.proofs.Branching.{fields_at, AllGo, branching}
use Rattle.pat_check.proofs.RowLaws.{row_first, test_spot}
use Rattle.pat_check.proofs.Spots.{Spot}
use Rattle.pat_check.proofs.Tests.{int_self, int_differ}
use Rattle.pat_check.specs.Branches.{field_lists, variant_branches, AreIntegerBranches, AreBranches}
use Rattle.pat_check.specs.Decision.{Decision, switch, if_truth, if_literal, variant_seen, run, run_nth, first_match}
use Rattle.pat_check.specs.DecisionView.{decisions_of}
use Rattle.pat_check.specs.Known.{Known, other, number, flag, built, all_anything, agrees, known_at, put, excluded}
use Rattle.pat_check.specs.KnownTypes.{AllAmong, IsKnown}
use Rattle.pat_check.specs.Tree.{is_struct, node_of_adt, IsNode, IsTree, AreTrees, is_leaf, is_node, no_trees, and_tree}
use Rattle.pat_check.specs.Typed.{fields_in, count_tys, AllPats}
use Rattle.pat_check.specs.declared.test.Test.{Test}
use Rattle.pat_check.specs.declared.test.Test.TheVariants as by

abbrev pub Right : List Pat → Decision → Value → Type 0
Right ps D v = run D v ≡ first_match 0 ps v

-- each of the trees is right where the value agrees with what is known there
abbrev pub EachRight : List Pat → Value → List Known → List Decision → Type 0
EachRight ps v [] [] = Unit {0}
EachRight ps v [] (D ∷ Ds) = ⊥
EachRight ps v (k ∷ ks) [] = ⊥
EachRight ps v (k ∷ ks) (D ∷ Ds) = (agrees k v ≡ true → Right ps D v) × EachRight ps v ks Ds

-- ---- declared types

nth_right : (ps : List Pat) (v : Value) (k : Known) (q : List PatStep) (d : AdtId) (j : ℕ) (fss : List Tys) (Ds : List Decision) (i m : ℕ) (fs : Tys) → m ≡ j + i → slice_get fss i ≡ Some fs
    → agrees (put k q (built (Variant d m) (all_anything (count_tys fs)))) v ≡ true → EachRight ps v (variant_branches k q d j fss) Ds → run_nth (decisions_of Ds) i v ≡ first_match 0 ps v
nth_right ps v k q d j [] Ds i m fs e g a r = absurd (cc)
nth_right ps v k q d j (gs ∷ fss) [] i m fs e g a r = absurd r
nth_right ps v k q d j (gs ∷ fss) (D ∷ Ds) zero m fs e g a r =
    let same : gs ≡ fs = cc in
    let at : m ≡ j = omega (arith, e) in
    r.0 (subst (λ x. agrees (put k q (built (Variant d j) (all_anything (count_tys x)))) v ≡ true) (sym same) (subst (λ x. agrees (put k q (built (Variant d x) (all_anything (count_tys fs)))) v ≡ true) at a))
nth_right ps v k q d j (gs ∷ fss) (D ∷ Ds) (suc i) m fs e g a r = nth_right ps v k q d (suc j) fss Ds i m fs (omega (arith, e)) g a r.1

only_right : (ps : List Pat) (v : Value) (k : Known) (q : List PatStep) (d : AdtId) (fss : List Tys) (D : Decision) (i : ℕ) (fs : Tys) → slice_get fss i ≡ Some fs
    → agrees (put k q (built (Variant d i) (all_anything (count_tys fs)))) v ≡ true → EachRight ps v (variant_branches k q d 0 fss) (D ∷ []) → Right ps D v
only_right ps v k q d [] D i fs g a r = absurd (cc)
only_right ps v k q d (gs ∷ []) D zero fs g a r = nth_right ps v k q d 0 (gs ∷ []) (D ∷ []) 0 0 fs (omega arith) g a r
only_right ps v k q d (gs ∷ []) D (suc i) fs g a r = absurd (cc)
only_right ps v k q d (gs ∷ hs ∷ fss) D i fs g a r = absurd r.1

switch_right : (ps : List Pat) (v : Value) (k : Known) (q : List PatStep) (d : AdtId) (fss : List Tys) (Ds : List Decision) (i : ℕ) (fs : Tys) → variant_seen (seen (value_at v q)) ≡ i
    → slice_get fss i ≡ Some fs → agrees (put k q (built (Variant d i) (all_anything (count_tys fs)))) v ≡ true → EachRight ps v (variant_branches k q d 0 fss) Ds → Right ps (switch q (decisions_of Ds)) v
switch_right ps v k q d fss Ds i fs e g a r = subst (λ n. run_nth (decisions_of Ds) n v ≡ first_match 0 ps v) (sym e) (nth_right ps v k q d 0 fss Ds i i fs (omega arith) g a r)

adt_right : (ps : List Pat) (v : Value) (k : Known) (q : List PatStep) (d : AdtId) (fss : List Tys) (b : Bool) (Ds : List Decision) (i : ℕ) (fs : Tys) → variant_seen (seen (value_at v q)) ≡ i
    → slice_get fss i ≡ Some fs → agrees (put k q (built (Variant d i) (all_anything (count_tys fs)))) v ≡ true → EachRight ps v (variant_branches k q d 0 fss) Ds → Right ps (node_of_adt b q Ds) v
adt_right ps v k q d fss true [] i fs e g a r = switch_right ps v k q d fss [] i fs e g a r
adt_right ps v k q d fss true (D ∷ []) i fs e g a r = only_right ps v k q d fss D i fs g a r
adt_right ps v k q d fss true (D ∷ E ∷ Ds) i fs e g a r = switch_right ps v k q d fss (D ∷ E ∷ Ds) i fs e g a r
adt_right ps v k q d fss false Ds i fs e g a r = switch_right ps v k q d fss Ds i fs e g a r

-- ---- truth values and integers

right_if : (c : Bool) (ps : List Pat) (D E : Decision) (v : Value) (b : Bool) → b ≡ c → (c ≡ true → Right ps D v) → (c ≡ false → Right ps E v) → cond b (run D v) (run E v) ≡ first_match 0 ps v
right_if true ps D E v b e r s = subst (λ x. cond x (run D v) (run E v) ≡ first_match 0 ps v) (sym e) (r refl)
right_if false ps D E v b e r s = subst (λ x. cond x (run D v) (run E v) ≡ first_match 0 ps v) (sym e) (s refl)

or_false_left : (a b : Bool) → a || b ≡ false → a ≡ false
or_false_left true b e = absurd (cc)
or_false_left false b e = refl

int_turned : (x y : ℤ) → int_eq x y ≡ false → int_eq y x ≡ false
int_turned x y e = int_differ y x (λ f. absurd (let g = subst (λ z. int_eq x z ≡ true) (sym f) (int_self x) in cc))

truth_right : (Δ : Declarations) (ps : List Pat) (t : Ty) (θ : Tys) (v : Value) (k : Known) (q : List PatStep) (D E : Decision) → HasSort Δ v (instance θ t) → agrees k v ≡ true
    → Spot Δ k t q by.Truth → EachRight ps v (put k q (flag true) ∷ put k q (flag false) ∷ []) (D ∷ E ∷ []) → Right ps (if_truth q D E) v
truth_right Δ ps t θ v k q D E hv a i r =
    let x = at_truth Δ t k q i θ v hv a in
    right_if x.0 ps D E v (is_flag true (seen (value_at v q))) (ap (is_flag true) x.1)
    (λ f. r.0 (subst (λ y. agrees (put k q (flag y)) v ≡ true) f x.2))
    (λ f. r.1.0 (subst (λ y. agrees (put k q (flag y)) v ≡ true) f x.2))

literal_right : (Δ : Declarations) (ps : List Pat) (t : Ty) (θ : Tys) (v : Value) (k : Known) (q : List PatStep) (c : Option IntKind) (z : ℤ) (D E : Decision) → HasSort Δ v (instance θ t)
    → agrees k v ≡ true → Spot Δ k t q (by.Number c z) → EachRight ps v (put k q (number z) ∷ put k q (other c (z ∷ excluded (known_at k q))) ∷ []) (D ∷ E ∷ []) → Right ps (if_literal q z D E) v
literal_right Δ ps t θ v k q c z D E hv a i r = ⊎_elim
    (λ x. subst (λ b. cond b (run D v) (run E v) ≡ first_match 0 ps v) (sym (ap (is_number z) x.0 ∙ int_self z)) (r.0 x.1))
    (λ x. subst (λ b. cond b (run D v) (run E v) ≡ first_match 0 ps v) (sym (ap (is_number z) x.is ∙ int_turned x.integer z (or_false_left (int_eq x.integer z) _ x.not_among))) (r.1.0 x.agreed))
    (at_number Δ t k q c z i θ v hv a)

last_right : (Δ : Declarations) (ps : List Pat) (t : Ty) (θ : Tys) (v : Value) (k : Known) (q : List PatStep) (c : Option IntKind) (z : ℤ) (D : Decision) → HasSort Δ v (instance θ t)
    → agrees k v ≡ true → Spot Δ k t q (by.Number c z) → AllAmong c (z ∷ excluded (known_at k q)) → EachRight ps v (put k q (number z) ∷ []) (D ∷ []) → Right ps D v
last_right Δ ps t θ v k q c z D hv a i all r = ⊎_elim (λ x. r.0 x.1) (λ x. not_last k q c z v all x) (at_number Δ t k q c z i θ v hv a)

integer_right : (Δ : Declarations) (ps : List Pat) (t : Ty) (θ : Tys) (v : Value) (k : Known) (q : List PatStep) (c : Option IntKind) (z : ℤ) (ks : List Known) (Ds : List Decision) (D : Decision)
    → HasSort Δ v (instance θ t) → agrees k v ≡ true → Spot Δ k t q (by.Number c z) → AreIntegerBranches k q c z (z ∷ excluded (known_at k q)) ks
    → (Ds ≡ D ∷ []) ⊎ ((E F : Decision) × (Ds ≡ E ∷ F ∷ []) × (D ≡ if_literal q z E F)) → EachRight ps v ks Ds → Right ps D v
integer_right Δ ps t θ v k q c z ks Ds D hv a i are node r = ⊎_elim
    (λ x. ⊎_elim
    (λ y. last_right Δ ps t θ v k q c z D hv a i x.0 (subst (EachRight ps v (put k q (number z) ∷ [])) y (subst (λ ls. EachRight ps v ls Ds) x.1 r)))
    (λ y. absurd (let s = subst (EachRight ps v (put k q (number z) ∷ [])) y.2 (subst (λ ls. EachRight ps v ls Ds) x.1 r) in s.1))
    node)
    (λ x. ⊎_elim
    (λ y. absurd (let s = subst (EachRight ps v (put k q (number z) ∷ put k q (other c (z ∷ excluded (known_at k q))) ∷ [])) y (subst (λ ls. EachRight ps v ls Ds) x.1 r) in s.1))
    (λ y. subst (λ F. Right ps F v) (sym y.3) (literal_right Δ ps t θ v k q c z y.0 y.1 hv a i
    (subst (EachRight ps v (put k q (number z) ∷ put k q (other c (z ∷ excluded (known_at k q))) ∷ [])) y.2 (subst (λ ls. EachRight ps v ls Ds) x.1 r))))
    node)
    are

-- ---- all tests

node_right : (ds : List AdtDecl) (ps : List Pat) (t : Ty) (θ : Tys) (v : Value) (k : Known) (q : List PatStep) (w : Test) (ks : List Known) (Ds : List Decision) (D : Decision)
    → HasSort (fields_in ds) v (instance θ t) → agrees k v ≡ true → Spot (fields_in ds) k t q w → AreBranches ds k q w ks → IsNode ds q w Ds D → EachRight ps v ks Ds → Right ps D v
node_right ds ps t θ v k q (by.Made Tuple n) ks Ds D hv a i are node r =
    let s = subst (EachRight ps v (put k q (built Tuple (all_anything n)) ∷ [])) node (subst (λ ls. EachRight ps v ls Ds) are r) in
    s.0 (at_tuple (fields_in ds) t k q n i θ v hv a)
node_right ds ps t θ v k q (by.Made (Variant d l) n) ks Ds D hv a i are node r =
    let x = at_variant (fields_in ds) t k q d l n i θ v hv a in
    subst (λ F. Right ps F v) (sym node) (adt_right ps v k q d (field_lists ds d) (is_struct ds d) Ds x.variant x.fields x.is (sym (fields_at ds d x.variant) ∙ x.declared) x.agreed (subst (λ ls. EachRight ps v ls Ds) are r))
node_right ds ps t θ v k q (by.Made (Closure c) n) ks Ds D hv a i are node r = absurd node
node_right ds ps t θ v k q (by.Number c z) ks Ds D hv a i are node r = integer_right (fields_in ds) ps t θ v k q c z ks Ds D hv a i are node r
node_right ds ps t θ v k q by.Truth ks Ds D hv a i are (E, F, is, node) r =
    subst (λ G. Right ps G v) (sym node) (truth_right (fields_in ds) ps t θ v k q E F hv a i (subst (EachRight ps v (put k q (flag true) ∷ put k q (flag false) ∷ [])) is (subst (λ ls. EachRight ps v ls Ds) are r)))

mutual
  pub tree_right : (ds : List AdtDecl) (ps : List Pat) (t : Ty) (θ : Tys) (v : Value) → AllPats (fields_in ds) ps t → HasSort (fields_in ds) v (instance θ t) → (k : Known) (D : Decision)
      → IsTree ds ps k D → IsKnown (fields_in ds) k t → agrees k v ≡ true → Right ps D v
  tree_right ds ps t θ v h hv k D (is_leaf {k = k1} {n} {p} e) g a = sym (row_first 0 ps k n p v e a)
  tree_right ds ps t θ v h hv k D (is_node {k = k1} {q} {w} {ks} {Ds} {D = subtree} e are trees node) g a =
      let b = branching ds ps t k q w ks h g e are in
      node_right ds ps t θ v k q w ks Ds D hv a (test_spot (fields_in ds) 0 ps k t q w h g e) are node (trees_right ds ps t θ v h hv k ks Ds trees b.go)

  trees_right : (ds : List AdtDecl) (ps : List Pat) (t : Ty) (θ : Tys) (v : Value) → AllPats (fields_in ds) ps t → HasSort (fields_in ds) v (instance θ t)
      → (k : Known) (ks : List Known) (Ds : List Decision) → AreTrees ds ps ks Ds → AllGo (fields_in ds) ps t k ks → EachRight ps v ks Ds
  trees_right ds ps t θ v h hv k ks Ds no_trees g = tt
  trees_right ds ps t θ v h hv k ks Ds (and_tree {k = x} {ks = xs} {D = subtree} {Ds = Es} tree trees) g = (λ a. tree_right ds ps t θ v h hv x subtree tree g.0.known a, trees_right ds ps t θ v h hv k xs Es trees g.1)
