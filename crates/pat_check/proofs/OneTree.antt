-- Arms have one tree at most.
use Rattle.std.proofs.Common.{◌≡◌, refl, sym, ◌∙◌, subst, ℕ, ℤ, Option, List, [], ◌∷◌, ⊎_elim}
use Rattle.source_kinds.specs.declared.kinds.IntKind.{IntKind}
use Rattle.logic_term.specs.Matches.{bindings}
use Rattle.logic_term.specs.Pattern.{Pat}
use Rattle.logic_term.specs.declared.declaration.AdtDecl.{AdtDecl}
use Rattle.logic_term.specs.declared.kinds.Ctor.TheVariants.{Tuple, Variant, Closure}
use Rattle.logic_term.specs.declared.pattern.PatStep.{PatStep}
use Rattle.pat_check.specs.Branches.{AreIntegerBranches, AreBranches}
use Rattle.pat_check.specs.Decision.{Decision, leaf, if_truth, if_literal}
use Rattle.pat_check.specs.Known.{Known, known_at, excluded}
use Rattle.pat_check.specs.KnownTypes.{SomeLeft, AllAmong}
use Rattle.pat_check.specs.Rows.{Next, no_row, row, test, next}
use Rattle.pat_check.specs.Tree.{IsNode, IsTree, AreTrees, is_leaf, is_node, no_trees, and_tree}
use Rattle.pat_check.specs.declared.test.Test.{Test}
use Rattle.pat_check.specs.declared.test.Test.TheVariants as by

integer_branches_one : (k : Known) (q : List PatStep) (c : Option IntKind) (z : ℤ) (zs : List ℤ) (ks ls : List Known) → AreIntegerBranches k q c z zs ks → AreIntegerBranches k q c z zs ls → ks ≡ ls
integer_branches_one k q c z zs ks ls a b = ⊎_elim
    (λ x. ⊎_elim (λ y. x.1 ∙ sym y.1) (λ y. clash x.0 y.0) b)
    (λ x. ⊎_elim (λ y. clash y.0 x.0) (λ y. x.1 ∙ sym y.1) b)
    a
  where
    clash : {P : Type 0} → AllAmong c zs → SomeLeft c zs → P
    clash all (y, is, none) = absurd (let f = all y is in cc)

pub branches_one : (ds : List AdtDecl) (k : Known) (q : List PatStep) (w : Test) (ks ls : List Known) → AreBranches ds k q w ks → AreBranches ds k q w ls → ks ≡ ls
branches_one ds k q (by.Made Tuple n) ks ls a b = a ∙ sym b
branches_one ds k q (by.Made (Variant d j) n) ks ls a b = a ∙ sym b
branches_one ds k q (by.Made (Closure c) n) ks ls a b = a ∙ sym b
branches_one ds k q (by.Number i z) ks ls a b = integer_branches_one k q i z (z ∷ excluded (known_at k q)) ks ls a b
branches_one ds k q by.Truth ks ls a b = a ∙ sym b

single : (D E : Decision) → D ∷ [] ≡ E ∷ [] → D ≡ E
single D E e = cc

one_not_two : {P : Type 0} (D E F : Decision) → D ∷ [] ≡ E ∷ F ∷ [] → P
one_not_two D E F e = absurd (cc)

pair_same : (A B E F : Decision) → A ∷ B ∷ [] ≡ E ∷ F ∷ [] → (A ≡ E) × (B ≡ F)
pair_same A B E F e = (cc, cc)

node_one : (ds : List AdtDecl) (q : List PatStep) (w : Test) (Ds : List Decision) (D E : Decision) → IsNode ds q w Ds D → IsNode ds q w Ds E → D ≡ E
node_one ds q (by.Made Tuple n) Ds D E a b = single D E (sym a ∙ b)
node_one ds q (by.Made (Variant d j) n) Ds D E a b = a ∙ sym b
node_one ds q (by.Made (Closure c) n) Ds D E a b = absurd a
node_one ds q (by.Number i z) Ds D E a b = ⊎_elim
    (λ x. ⊎_elim (λ y. single D E (sym x ∙ y)) (λ y. one_not_two D y.0 y.1 (sym x ∙ y.2)) b)
    (λ x. ⊎_elim (λ y. one_not_two E x.0 x.1 (sym y ∙ x.2)) (λ y. let p = pair_same x.0 x.1 y.0 y.1 (sym x.2 ∙ y.2) in x.3 ∙ (λ i. if_literal q z (p.0 i) (p.1 i)) ∙ sym y.3) b)
    a
node_one ds q by.Truth Ds D E (A, B, is, a) (F, G, same, b) = let p = pair_same A B F G (sym is ∙ same) in a ∙ (λ i. if_truth q (p.0 i) (p.1 i)) ∙ sym b

rows_same : (n m : ℕ) (p r : Pat) → row n p ≡ row m r → (n ≡ m) × (p ≡ r)
rows_same n m p r e = (cc, cc)

tests_same : (q r : List PatStep) (w x : Test) → test q w ≡ test r x → (q ≡ r) × (w ≡ x)
tests_same q r w x e = (cc, cc)

row_not_test : {P : Type 0} (n : ℕ) (p : Pat) (q : List PatStep) (w : Test) → row n p ≡ test q w → P
row_not_test n p q w e = absurd (cc)

-- what a tree of this looks like
abbrev pub Looks : List AdtDecl → List Pat → Known → Decision → Next → Type 0
Looks ds ps k D no_row = ⊥
Looks ds ps k D (row n p) = D ≡ leaf n (bindings p)
Looks ds ps k D (test q w) = (ks : List Known) × (Ds : List Decision) × AreBranches ds k q w ks × AreTrees ds ps ks Ds × IsNode ds q w Ds D

pub looks : (ds : List AdtDecl) (ps : List Pat) (k : Known) (D : Decision) → IsTree ds ps k D → Looks ds ps k D (next 0 ps k)
looks ds ps k D (is_leaf {k = k1} {n} {p} e) = subst (Looks ds ps k D) (sym e) refl
looks ds ps k D (is_node {k = k1} {q} {w} {ks} {Ds} {D = subtree} e are trees node) = subst (Looks ds ps k D) (sym e) (ks, Ds, are, trees, node)

abbrev pub LooksAll : List AdtDecl → List Pat → List Known → List Decision → Type 0
LooksAll ds ps [] Ds = Ds ≡ []
LooksAll ds ps (k ∷ ks) Ds = (D : Decision) × (Es : List Decision) × (Ds ≡ D ∷ Es) × IsTree ds ps k D × AreTrees ds ps ks Es

pub looks_all : (ds : List AdtDecl) (ps : List Pat) (ks : List Known) (Ds : List Decision) → AreTrees ds ps ks Ds → LooksAll ds ps ks Ds
looks_all ds ps ks Ds no_trees = refl
looks_all ds ps ks Ds (and_tree {k = x} {ks = xs} {D = subtree} {Ds = Es} tree trees) = (subtree, Es, refl, tree, trees)

mutual
  pub tree_one : (ds : List AdtDecl) (ps : List Pat) (k : Known) (D E : Decision) → IsTree ds ps k D → IsTree ds ps k E → D ≡ E
  tree_one ds ps k D E (is_leaf {k = k1} {n} {p} e) f = sym (subst (Looks ds ps k E) e (looks ds ps k E f))
  tree_one ds ps k D E (is_node {k = k1} {q} {w} {ks} {Ds} {D = subtree} e are trees node) f =
      let l = subst (Looks ds ps k E) e (looks ds ps k E f) in
      let same : l.0 ≡ ks = branches_one ds k q w l.0 ks l.2 are in
      let all : Ds ≡ l.1 = trees_one ds ps ks Ds l.1 trees (subst (λ ls. AreTrees ds ps ls l.1) same l.3) in
      node_one ds q w l.1 D E (subst (λ Es. IsNode ds q w Es D) all node) l.4

  trees_one : (ds : List AdtDecl) (ps : List Pat) (ks : List Known) (Ds Es : List Decision) → AreTrees ds ps ks Ds → AreTrees ds ps ks Es → Ds ≡ Es
  trees_one ds ps ks Ds Es no_trees f = sym (looks_all ds ps [] Es f)
  trees_one ds ps ks Ds Es (and_tree {k = x} {ks = xs} {D = subtree} {Ds = Fs} tree trees) f =
      let l = looks_all ds ps (x ∷ xs) Es f in
      (λ i. tree_one ds ps x subtree l.0 tree l.3 i ∷ trees_one ds ps xs Fs l.1 trees l.4 i) ∙ sym l.2
