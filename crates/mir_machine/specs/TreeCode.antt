-- A code for trees, by which the logic tells them apart.
use Rattle.std.specs.Prelude.{◌≡◌}
use Rattle.std.proofs.Common.{arith, refl, ap}
use Rattle.std.specs.Coded.{Coded, coded_ℤ, coded_bool}
use base.Stored.{Gv, gnil, gnum, gcons}
use Rattle.logic_term.specs.TyCode.{head, tail, tag}
use Rattle.logic_term.specs.contracts.kinds.Ctor as ctor
use Rattle.mir_machine.specs.Tree.{Tree, Trees, Int, Truth, Made, Boxed, Shared, Unique, Gone, no_trees, and_tree}
use Rattle.mir_machine.specs.contracts.spot.Spot as spot

abbrev mutual
  pub tree_code : Tree (Unit {0}) → Gv
  tree_code (Int z) = gcons (gnum 0) (coded_ℤ.code z)
  tree_code (Truth b) = gcons (gnum 1) (coded_bool.code b)
  tree_code (Made c ts) = gcons (gnum 2) (gcons (ctor.the_row.coded.code c) (trees_code ts))
  tree_code (Boxed t) = gcons (gnum 3) (tree_code t)
  tree_code (Shared at) = gcons (gnum 4) (spot.the_row.coded.code at)
  tree_code (Unique k at) = gcons (gnum 5) (spot.the_row.coded.code at)
  tree_code Gone = gcons (gnum 6) gnil

  pub trees_code : Trees (Unit {0}) → Gv
  trees_code no_trees = gcons (gnum 0) gnil
  trees_code (and_tree t ts) = gcons (gnum 1) (gcons (tree_code t) (trees_code ts))

mutual
  pub tree_injective : (x y : Tree (Unit {0})) → tree_code x ≡ tree_code y → x ≡ y
  tree_injective (Int a) (Int b) p = λ i. Int (coded_ℤ.inj a b (ap tail p) i)
  tree_injective (Truth a) (Truth b) p = λ i. Truth (coded_bool.inj a b (ap tail p) i)
  tree_injective (Made c ts) (Made d us) p = λ i. Made (ctor.the_row.coded.inj c d (ap (λ g. head (tail g)) p) i) (trees_injective ts us (ap (λ g. tail (tail g)) p) i)
  tree_injective (Boxed a) (Boxed b) p = λ i. Boxed (tree_injective a b (ap tail p) i)
  tree_injective (Shared a) (Shared b) p = λ i. Shared (spot.the_row.coded.inj a b (ap tail p) i)
  tree_injective (Unique k a) (Unique l b) p = λ i. Unique tt (spot.the_row.coded.inj a b (ap tail p) i)
  tree_injective Gone Gone p = refl
  tree_injective x y p = absurd (omega (arith, ap tag p))

  pub trees_injective : (x y : Trees (Unit {0})) → trees_code x ≡ trees_code y → x ≡ y
  trees_injective no_trees no_trees p = refl
  trees_injective (and_tree a b) (and_tree c d) p = λ i. and_tree (tree_injective a c (ap (λ g. head (tail g)) p) i) (trees_injective b d (ap (λ g. tail (tail g)) p) i)
  trees_injective x y p = absurd (omega (arith, ap tag p))

abbrev pub coded_tree : Coded (Tree (Unit {0}))
coded_tree = record { code = tree_code; inj = tree_injective }
