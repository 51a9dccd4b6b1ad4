-- The tree of tests of the arms of a match. The test is at the first place, from the left and from outside in, that the
-- first remaining row tests. A leaf has the first row and its bindings from left to right.
use Rattle.std.specs.Prelude.{◌≡◌, ℕ, Bool, true, false, ◌⊎◌, Option, Some, None, List, [], ◌∷◌, slice_get}
use Rattle.logic_term.specs.declared.declaration.AdtDecl.{AdtDecl}
use Rattle.logic_term.specs.declared.kinds.AdtId.{AdtId}
use Rattle.logic_term.specs.declared.kinds.Ctor.TheVariants.{Tuple, Variant, Closure}
use Rattle.logic_term.specs.declared.pattern.PatStep.{PatStep}
use Rattle.logic_term.specs.Pattern.{Pat}
use Rattle.logic_term.specs.Matches.{bindings}
use Rattle.pat_check.specs.declared.test.Test.{Test}
use Rattle.pat_check.specs.declared.test.Test.TheVariants as by
use Rattle.pat_check.specs.Known.{Known, anything}
use Rattle.pat_check.specs.Rows.{row, test, next}
use Rattle.pat_check.specs.Branches.{AreBranches}
use Rattle.pat_check.specs.Decision.{Decision, leaf, switch, if_truth, if_literal}
use Rattle.pat_check.specs.DecisionView.{decisions_of}

abbrev pub is_struct_decl : Option AdtDecl → Bool
is_struct_decl None = false
is_struct_decl (Some d) = d.is_struct

abbrev pub is_struct : List AdtDecl → AdtId → Bool
is_struct ds d = is_struct_decl (slice_get ds d.0)

-- a struct is not tested, an enum is tested by its variant, even where it has one
abbrev pub node_of_adt : Bool → List PatStep → List Decision → Decision
node_of_adt true q (D ∷ []) = D
node_of_adt b q Ds = switch q (decisions_of Ds)

-- the tree of a test, by the trees of its branches. A tuple is not tested, a truth value by itself, an integer by equality,
-- but where all others are excluded, not at all.
abbrev pub IsNode : List AdtDecl → List PatStep → Test → List Decision → Decision → Type 0
IsNode ds q (by.Made Tuple n) Ds D = Ds ≡ D ∷ []
IsNode ds q (by.Made (Variant d j) n) Ds D = D ≡ node_of_adt (is_struct ds d) q Ds
IsNode ds q (by.Made (Closure c) n) Ds D = ⊥
IsNode ds q by.Truth Ds D = (E F : Decision) × (Ds ≡ E ∷ F ∷ []) × (D ≡ if_truth q E F)
IsNode ds q (by.Number i z) Ds D = (Ds ≡ D ∷ []) ⊎ ((E F : Decision) × (Ds ≡ E ∷ F ∷ []) × (D ≡ if_literal q z E F))

mutual
  pub data IsTree (ds : List AdtDecl) (ps : List Pat) : Known → Decision → Type 0 where
    is_leaf : {k : Known} {n : ℕ} {p : Pat} → next 0 ps k ≡ row n p → IsTree ds ps k (leaf n (bindings p))
    is_node : {k : Known} {q : List PatStep} {w : Test} {ks : List Known} {Ds : List Decision} {D : Decision} → next 0 ps k ≡ test q w → AreBranches ds k q w ks → AreTrees ds ps ks Ds → IsNode ds q w Ds D → IsTree ds ps k D

  pub data AreTrees (ds : List AdtDecl) (ps : List Pat) : List Known → List Decision → Type 0 where
    no_trees : AreTrees ds ps [] []
    and_tree : {k : Known} {ks : List Known} {D : Decision} {Ds : List Decision} → IsTree ds ps k D → AreTrees ds ps ks Ds → AreTrees ds ps (k ∷ ks) (D ∷ Ds)

-- the tree of the arms: nothing is known of the value
abbrev pub IsTreeOf : List AdtDecl → List Pat → Decision → Type 0
IsTreeOf ds ps D = IsTree ds ps anything D
