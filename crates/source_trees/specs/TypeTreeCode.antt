-- A code for types, by which the logic tells them apart.
use Rattle.std.specs.Prelude.{◌≡◌, ℕ}
use Rattle.std.proofs.Common.{refl, ap, arith}
use Rattle.std.specs.Coded.{Coded, coded_bool, coded_option}
use Rattle.text_core.specs.contracts.span.Span as span
use Rattle.source_trees.specs.contracts.path.Segment as segment
use base.Stored.{Gv, gnil, gnum, gcons, num}
use Rattle.source_trees.specs.TypeTree.{TypeTree, named, tuple, reference, self_type, self_view, Types, none, more, TypeArguments, no_arguments, with_lifetime, with_type}

abbrev pub head : Gv → Gv
head gnil = gnil
head (gnum n) = gnil
head (gcons a b) = a

abbrev pub tail : Gv → Gv
tail gnil = gnil
tail (gnum n) = gnil
tail (gcons a b) = b

abbrev pub tag : Gv → ℕ
tag g = num (head g)

abbrev mutual
  pub type_tree_code : TypeTree → Gv
  type_tree_code (named a0 a1 a2) = gcons (gnum 0) (gcons (span.the_row.coded.code a0) (gcons (segment.the_row.coded.code a1) (type_arguments_code a2)))
  type_tree_code (tuple a0 a1) = gcons (gnum 1) (gcons (span.the_row.coded.code a0) (types_code a1))
  type_tree_code (reference a0 a1 a2 a3) = gcons (gnum 2) (gcons (span.the_row.coded.code a0) (gcons ((coded_option segment.the_row.coded).code a1) (gcons (coded_bool.code a2) (type_tree_code a3))))
  type_tree_code (self_type a0) = gcons (gnum 3) (span.the_row.coded.code a0)
  type_tree_code (self_view a0) = gcons (gnum 4) (span.the_row.coded.code a0)

  pub types_code : Types → Gv
  types_code none = gcons (gnum 0) gnil
  types_code (more a0 a1) = gcons (gnum 1) (gcons (type_tree_code a0) (types_code a1))

  pub type_arguments_code : TypeArguments → Gv
  type_arguments_code no_arguments = gcons (gnum 0) gnil
  type_arguments_code (with_lifetime a0 a1) = gcons (gnum 1) (gcons (segment.the_row.coded.code a0) (type_arguments_code a1))
  type_arguments_code (with_type a0 a1) = gcons (gnum 2) (gcons (type_tree_code a0) (type_arguments_code a1))

mutual
  pub type_tree_injective : (x y : TypeTree) → type_tree_code x ≡ type_tree_code y → x ≡ y
  type_tree_injective (named a0 a1 a2) (named b0 b1 b2) p = λ i. named (span.the_row.coded.inj a0 b0 (ap (λ g. head (tail g)) p) i) (segment.the_row.coded.inj a1 b1 (ap (λ g. head (tail (tail g))) p) i) (type_arguments_injective a2 b2 (ap (λ g. tail (tail (tail g))) p) i)
  type_tree_injective (tuple a0 a1) (tuple b0 b1) p = λ i. tuple (span.the_row.coded.inj a0 b0 (ap (λ g. head (tail g)) p) i) (types_injective a1 b1 (ap (λ g. tail (tail g)) p) i)
  type_tree_injective (reference a0 a1 a2 a3) (reference b0 b1 b2 b3) p =
      λ i. reference (span.the_row.coded.inj a0 b0 (ap (λ g. head (tail g)) p) i) ((coded_option segment.the_row.coded).inj a1 b1 (ap (λ g. head (tail (tail g))) p) i) (coded_bool.inj a2 b2 (ap (λ g. head (tail (tail (tail g)))) p) i)
      (type_tree_injective a3 b3 (ap (λ g. tail (tail (tail (tail g)))) p) i)
  type_tree_injective (self_type a0) (self_type b0) p = λ i. self_type (span.the_row.coded.inj a0 b0 (ap (λ g. tail g) p) i)
  type_tree_injective (self_view a0) (self_view b0) p = λ i. self_view (span.the_row.coded.inj a0 b0 (ap (λ g. tail g) p) i)
  type_tree_injective x y p = absurd (omega (arith, ap tag p))

  pub types_injective : (x y : Types) → types_code x ≡ types_code y → x ≡ y
  types_injective none none p = refl
  types_injective (more a0 a1) (more b0 b1) p = λ i. more (type_tree_injective a0 b0 (ap (λ g. head (tail g)) p) i) (types_injective a1 b1 (ap (λ g. tail (tail g)) p) i)
  types_injective x y p = absurd (omega (arith, ap tag p))

  pub type_arguments_injective : (x y : TypeArguments) → type_arguments_code x ≡ type_arguments_code y → x ≡ y
  type_arguments_injective no_arguments no_arguments p = refl
  type_arguments_injective (with_lifetime a0 a1) (with_lifetime b0 b1) p = λ i. with_lifetime (segment.the_row.coded.inj a0 b0 (ap (λ g. head (tail g)) p) i) (type_arguments_injective a1 b1 (ap (λ g. tail (tail g)) p) i)
  type_arguments_injective (with_type a0 a1) (with_type b0 b1) p = λ i. with_type (type_tree_injective a0 b0 (ap (λ g. head (tail g)) p) i) (type_arguments_injective a1 b1 (ap (λ g. tail (tail g)) p) i)
  type_arguments_injective x y p = absurd (omega (arith, ap tag p))

abbrev pub coded_type_tree : Coded TypeTree
coded_type_tree = record { code = type_tree_code; inj = type_tree_injective }
