-- A code for patterns, by which the logic tells them apart.
use Rattle.std.specs.Prelude.{◌≡◌, ℕ}
use Rattle.std.proofs.Common.{refl, ap, arith}
use Rattle.std.specs.Coded.{Coded, coded_ℤ, coded_bool, coded_option}
use Rattle.text_core.specs.contracts.span.Span as span
use Rattle.source_trees.specs.contracts.path.Segment as segment
use Rattle.source_kinds.specs.contracts.kinds.IntKind as int_kind
use Rattle.source_trees.specs.contracts.path.Path as path_of
use base.Stored.{Gv, gnil, gnum, gcons, num}
use Rattle.source_trees.specs.Pat.{Pat, any, mutable, integer, truth, tuple, path, parts, fields, Pats, none, more, FieldPats, no_fields, with_field}

abbrev pub head : Gv → Gv
head gnil = gnil
head (gnum n) = gnil
head (gcons a b) = a

abbrev pub tail : Gv → Gv
tail gnil = gnil
tail (gnum n) = gnil
tail (gcons a b) = b

abbrev pub tag : Gv → ℕ
tag g = num (head g)

abbrev mutual
  pub pat_code : Pat → Gv
  pat_code (any a0) = gcons (gnum 0) (span.the_row.coded.code a0)
  pat_code (mutable a0 a1) = gcons (gnum 1) (gcons (span.the_row.coded.code a0) (segment.the_row.coded.code a1))
  pat_code (integer a0 a1 a2) = gcons (gnum 2) (gcons (span.the_row.coded.code a0) (gcons (coded_ℤ.code a1) ((coded_option int_kind.the_row.coded).code a2)))
  pat_code (truth a0 a1) = gcons (gnum 3) (gcons (span.the_row.coded.code a0) (coded_bool.code a1))
  pat_code (tuple a0 a1) = gcons (gnum 4) (gcons (span.the_row.coded.code a0) (pats_code a1))
  pat_code (path a0 a1) = gcons (gnum 5) (gcons (span.the_row.coded.code a0) (path_of.the_row.coded.code a1))
  pat_code (parts a0 a1 a2) = gcons (gnum 6) (gcons (span.the_row.coded.code a0) (gcons (path_of.the_row.coded.code a1) (pats_code a2)))
  pat_code (fields a0 a1 a2 a3) = gcons (gnum 7) (gcons (span.the_row.coded.code a0) (gcons (path_of.the_row.coded.code a1) (gcons (field_pats_code a2) (coded_bool.code a3))))

  pub pats_code : Pats → Gv
  pats_code none = gcons (gnum 0) gnil
  pats_code (more a0 a1) = gcons (gnum 1) (gcons (pat_code a0) (pats_code a1))

  pub field_pats_code : FieldPats → Gv
  field_pats_code no_fields = gcons (gnum 0) gnil
  field_pats_code (with_field a0 a1 a2 a3) = gcons (gnum 1) (gcons (span.the_row.coded.code a0) (gcons (segment.the_row.coded.code a1) (gcons (pat_code a2) (field_pats_code a3))))

mutual
  pub pat_injective : (x y : Pat) → pat_code x ≡ pat_code y → x ≡ y
  pat_injective (any a0) (any b0) p = λ i. any (span.the_row.coded.inj a0 b0 (ap (λ g. tail g) p) i)
  pat_injective (mutable a0 a1) (mutable b0 b1) p = λ i. mutable (span.the_row.coded.inj a0 b0 (ap (λ g. head (tail g)) p) i) (segment.the_row.coded.inj a1 b1 (ap (λ g. tail (tail g)) p) i)
  pat_injective (integer a0 a1 a2) (integer b0 b1 b2) p = λ i. integer (span.the_row.coded.inj a0 b0 (ap (λ g. head (tail g)) p) i) (coded_ℤ.inj a1 b1 (ap (λ g. head (tail (tail g))) p) i) ((coded_option int_kind.the_row.coded).inj a2 b2 (ap (λ g. tail (tail (tail g))) p) i)
  pat_injective (truth a0 a1) (truth b0 b1) p = λ i. truth (span.the_row.coded.inj a0 b0 (ap (λ g. head (tail g)) p) i) (coded_bool.inj a1 b1 (ap (λ g. tail (tail g)) p) i)
  pat_injective (tuple a0 a1) (tuple b0 b1) p = λ i. tuple (span.the_row.coded.inj a0 b0 (ap (λ g. head (tail g)) p) i) (pats_injective a1 b1 (ap (λ g. tail (tail g)) p) i)
  pat_injective (path a0 a1) (path b0 b1) p = λ i. path (span.the_row.coded.inj a0 b0 (ap (λ g. head (tail g)) p) i) (path_of.the_row.coded.inj a1 b1 (ap (λ g. tail (tail g)) p) i)
  pat_injective (parts a0 a1 a2) (parts b0 b1 b2) p = λ i. parts (span.the_row.coded.inj a0 b0 (ap (λ g. head (tail g)) p) i) (path_of.the_row.coded.inj a1 b1 (ap (λ g. head (tail (tail g))) p) i) (pats_injective a2 b2 (ap (λ g. tail (tail (tail g))) p) i)
  pat_injective (fields a0 a1 a2 a3) (fields b0 b1 b2 b3) p =
      λ i. fields (span.the_row.coded.inj a0 b0 (ap (λ g. head (tail g)) p) i) (path_of.the_row.coded.inj a1 b1 (ap (λ g. head (tail (tail g))) p) i) (field_pats_injective a2 b2 (ap (λ g. head (tail (tail (tail g)))) p) i) (coded_bool.inj a3 b3 (ap (λ g. tail (tail (tail (tail g)))) p) i)
  pat_injective x y p = absurd (omega (arith, ap tag p))

  pub pats_injective : (x y : Pats) → pats_code x ≡ pats_code y → x ≡ y
  pats_injective none none p = refl
  pats_injective (more a0 a1) (more b0 b1) p = λ i. more (pat_injective a0 b0 (ap (λ g. head (tail g)) p) i) (pats_injective a1 b1 (ap (λ g. tail (tail g)) p) i)
  pats_injective x y p = absurd (omega (arith, ap tag p))

  pub field_pats_injective : (x y : FieldPats) → field_pats_code x ≡ field_pats_code y → x ≡ y
  field_pats_injective no_fields no_fields p = refl
  field_pats_injective (with_field a0 a1 a2 a3) (with_field b0 b1 b2 b3) p =
      λ i. with_field (span.the_row.coded.inj a0 b0 (ap (λ g. head (tail g)) p) i) (segment.the_row.coded.inj a1 b1 (ap (λ g. head (tail (tail g))) p) i) (pat_injective a2 b2 (ap (λ g. head (tail (tail (tail g)))) p) i) (field_pats_injective a3 b3 (ap (λ g. tail (tail (tail (tail g)))) p) i)
  field_pats_injective x y p = absurd (omega (arith, ap tag p))

abbrev pub coded_pat : Coded Pat
coded_pat = record { code = pat_code; inj = pat_injective }
