-- A code for terms, by which the logic tells them apart.
use Rattle.std.specs.Prelude.{◌≡◌, ℕ}
use Rattle.std.proofs.Common.{refl, ap, arith}
use Rattle.std.specs.Coded.{Coded, coded_ℤ, coded_bool, coded_option, coded_list}
use Rattle.text_core.specs.contracts.span.Span as span
use Rattle.text_core.specs.contracts.name.Name as name
use Rattle.source_kinds.specs.contracts.kinds.IntKind as int_kind
use Rattle.source_trees.specs.contracts.path.Path as path_of
use Rattle.source_trees.specs.contracts.path.Number as number
use Rattle.source_trees.specs.contracts.operator.UnaryTerm as unary_term
use Rattle.source_trees.specs.contracts.operator.BinaryTerm as binary_term
use Rattle.source_trees.specs.contracts.path.Segment as segment
use Rattle.source_trees.specs.contracts.operator.Quantifier as quantifier
use Rattle.source_trees.specs.contracts.binder.Binder as binder
use Rattle.source_trees.specs.contracts.operator.Predicate as predicate_row
use Rattle.source_trees.specs.PatCode.{coded_pat}
use base.Stored.{Gv, gnil, gnum, gcons, num}
use Rattle.source_trees.specs.Pterm.{Pterm, integer, truth, answer, receiver, path, unary, binary, mut_ref, field, part, method, call, literal, tuple, choice, matching, quantified, predicate}
use Rattle.source_trees.specs.Pterm.{Terms, none, more, FieldTerms, no_fields, with_field, Arms, no_arms, with_arm}

abbrev pub head : Gv → Gv
head gnil = gnil
head (gnum n) = gnil
head (gcons a b) = a

abbrev pub tail : Gv → Gv
tail gnil = gnil
tail (gnum n) = gnil
tail (gcons a b) = b

abbrev pub tag : Gv → ℕ
tag g = num (head g)

abbrev mutual
  pub pterm_code : Pterm → Gv
  pterm_code (integer a0 a1 a2) = gcons (gnum 0) (gcons (span.the_row.coded.code a0) (gcons (coded_ℤ.code a1) ((coded_option int_kind.the_row.coded).code a2)))
  pterm_code (truth a0 a1) = gcons (gnum 1) (gcons (span.the_row.coded.code a0) (coded_bool.code a1))
  pterm_code (answer a0 a1) = gcons (gnum 2) (gcons (span.the_row.coded.code a0) (name.the_row.coded.code a1))
  pterm_code (receiver a0) = gcons (gnum 3) (span.the_row.coded.code a0)
  pterm_code (path a0 a1) = gcons (gnum 4) (gcons (span.the_row.coded.code a0) (path_of.the_row.coded.code a1))
  pterm_code (unary a0 a1 a2) = gcons (gnum 5) (gcons (span.the_row.coded.code a0) (gcons (unary_term.the_row.coded.code a1) (pterm_code a2)))
  pterm_code (binary a0 a1 a2 a3) = gcons (gnum 6) (gcons (span.the_row.coded.code a0) (gcons (binary_term.the_row.coded.code a1) (gcons (pterm_code a2) (pterm_code a3))))
  pterm_code (mut_ref a0 a1 a2) = gcons (gnum 7) (gcons (span.the_row.coded.code a0) (gcons (pterm_code a1) (pterm_code a2)))
  pterm_code (field a0 a1 a2) = gcons (gnum 8) (gcons (span.the_row.coded.code a0) (gcons (pterm_code a1) (segment.the_row.coded.code a2)))
  pterm_code (part a0 a1 a2) = gcons (gnum 9) (gcons (span.the_row.coded.code a0) (gcons (pterm_code a1) (number.the_row.coded.code a2)))
  pterm_code (method a0 a1 a2 a3) = gcons (gnum 10) (gcons (span.the_row.coded.code a0) (gcons (pterm_code a1) (gcons (segment.the_row.coded.code a2) (terms_code a3))))
  pterm_code (call a0 a1 a2) = gcons (gnum 11) (gcons (span.the_row.coded.code a0) (gcons (path_of.the_row.coded.code a1) (terms_code a2)))
  pterm_code (literal a0 a1 a2) = gcons (gnum 12) (gcons (span.the_row.coded.code a0) (gcons (path_of.the_row.coded.code a1) (field_terms_code a2)))
  pterm_code (tuple a0 a1) = gcons (gnum 13) (gcons (span.the_row.coded.code a0) (terms_code a1))
  pterm_code (choice a0 a1 a2 a3) = gcons (gnum 14) (gcons (span.the_row.coded.code a0) (gcons (pterm_code a1) (gcons (pterm_code a2) (pterm_code a3))))
  pterm_code (matching a0 a1 a2) = gcons (gnum 15) (gcons (span.the_row.coded.code a0) (gcons (pterm_code a1) (arms_code a2)))
  pterm_code (quantified a0 a1 a2 a3) = gcons (gnum 16) (gcons (span.the_row.coded.code a0) (gcons (quantifier.the_row.coded.code a1) (gcons ((coded_list binder.the_row.coded).code a2) (pterm_code a3))))
  pterm_code (predicate a0 a1 a2) = gcons (gnum 17) (gcons (span.the_row.coded.code a0) (gcons (predicate_row.the_row.coded.code a1) (terms_code a2)))

  pub terms_code : Terms → Gv
  terms_code none = gcons (gnum 0) gnil
  terms_code (more a0 a1) = gcons (gnum 1) (gcons (pterm_code a0) (terms_code a1))

  pub field_terms_code : FieldTerms → Gv
  field_terms_code no_fields = gcons (gnum 0) gnil
  field_terms_code (with_field a0 a1 a2 a3) = gcons (gnum 1) (gcons (span.the_row.coded.code a0) (gcons (segment.the_row.coded.code a1) (gcons (pterm_code a2) (field_terms_code a3))))

  pub arms_code : Arms → Gv
  arms_code no_arms = gcons (gnum 0) gnil
  arms_code (with_arm a0 a1 a2 a3) = gcons (gnum 1) (gcons (span.the_row.coded.code a0) (gcons (coded_pat.code a1) (gcons (pterm_code a2) (arms_code a3))))

mutual
  pub pterm_injective : (x y : Pterm) → pterm_code x ≡ pterm_code y → x ≡ y
  pterm_injective (integer a0 a1 a2) (integer b0 b1 b2) p = λ i. integer (span.the_row.coded.inj a0 b0 (ap (λ g. head (tail g)) p) i) (coded_ℤ.inj a1 b1 (ap (λ g. head (tail (tail g))) p) i) ((coded_option int_kind.the_row.coded).inj a2 b2 (ap (λ g. tail (tail (tail g))) p) i)
  pterm_injective (truth a0 a1) (truth b0 b1) p = λ i. truth (span.the_row.coded.inj a0 b0 (ap (λ g. head (tail g)) p) i) (coded_bool.inj a1 b1 (ap (λ g. tail (tail g)) p) i)
  pterm_injective (answer a0 a1) (answer b0 b1) p = λ i. answer (span.the_row.coded.inj a0 b0 (ap (λ g. head (tail g)) p) i) (name.the_row.coded.inj a1 b1 (ap (λ g. tail (tail g)) p) i)
  pterm_injective (receiver a0) (receiver b0) p = λ i. receiver (span.the_row.coded.inj a0 b0 (ap (λ g. tail g) p) i)
  pterm_injective (path a0 a1) (path b0 b1) p = λ i. path (span.the_row.coded.inj a0 b0 (ap (λ g. head (tail g)) p) i) (path_of.the_row.coded.inj a1 b1 (ap (λ g. tail (tail g)) p) i)
  pterm_injective (unary a0 a1 a2) (unary b0 b1 b2) p = λ i. unary (span.the_row.coded.inj a0 b0 (ap (λ g. head (tail g)) p) i) (unary_term.the_row.coded.inj a1 b1 (ap (λ g. head (tail (tail g))) p) i) (pterm_injective a2 b2 (ap (λ g. tail (tail (tail g))) p) i)
  pterm_injective (binary a0 a1 a2 a3) (binary b0 b1 b2 b3) p =
      λ i. binary (span.the_row.coded.inj a0 b0 (ap (λ g. head (tail g)) p) i) (binary_term.the_row.coded.inj a1 b1 (ap (λ g. head (tail (tail g))) p) i) (pterm_injective a2 b2 (ap (λ g. head (tail (tail (tail g)))) p) i) (pterm_injective a3 b3 (ap (λ g. tail (tail (tail (tail g)))) p) i)
  pterm_injective (mut_ref a0 a1 a2) (mut_ref b0 b1 b2) p = λ i. mut_ref (span.the_row.coded.inj a0 b0 (ap (λ g. head (tail g)) p) i) (pterm_injective a1 b1 (ap (λ g. head (tail (tail g))) p) i) (pterm_injective a2 b2 (ap (λ g. tail (tail (tail g))) p) i)
  pterm_injective (field a0 a1 a2) (field b0 b1 b2) p = λ i. field (span.the_row.coded.inj a0 b0 (ap (λ g. head (tail g)) p) i) (pterm_injective a1 b1 (ap (λ g. head (tail (tail g))) p) i) (segment.the_row.coded.inj a2 b2 (ap (λ g. tail (tail (tail g))) p) i)
  pterm_injective (part a0 a1 a2) (part b0 b1 b2) p = λ i. part (span.the_row.coded.inj a0 b0 (ap (λ g. head (tail g)) p) i) (pterm_injective a1 b1 (ap (λ g. head (tail (tail g))) p) i) (number.the_row.coded.inj a2 b2 (ap (λ g. tail (tail (tail g))) p) i)
  pterm_injective (method a0 a1 a2 a3) (method b0 b1 b2 b3) p =
      λ i. method (span.the_row.coded.inj a0 b0 (ap (λ g. head (tail g)) p) i) (pterm_injective a1 b1 (ap (λ g. head (tail (tail g))) p) i) (segment.the_row.coded.inj a2 b2 (ap (λ g. head (tail (tail (tail g)))) p) i) (terms_injective a3 b3 (ap (λ g. tail (tail (tail (tail g)))) p) i)
  pterm_injective (call a0 a1 a2) (call b0 b1 b2) p = λ i. call (span.the_row.coded.inj a0 b0 (ap (λ g. head (tail g)) p) i) (path_of.the_row.coded.inj a1 b1 (ap (λ g. head (tail (tail g))) p) i) (terms_injective a2 b2 (ap (λ g. tail (tail (tail g))) p) i)
  pterm_injective (literal a0 a1 a2) (literal b0 b1 b2) p = λ i. literal (span.the_row.coded.inj a0 b0 (ap (λ g. head (tail g)) p) i) (path_of.the_row.coded.inj a1 b1 (ap (λ g. head (tail (tail g))) p) i) (field_terms_injective a2 b2 (ap (λ g. tail (tail (tail g))) p) i)
  pterm_injective (tuple a0 a1) (tuple b0 b1) p = λ i. tuple (span.the_row.coded.inj a0 b0 (ap (λ g. head (tail g)) p) i) (terms_injective a1 b1 (ap (λ g. tail (tail g)) p) i)
  pterm_injective (choice a0 a1 a2 a3) (choice b0 b1 b2 b3) p =
      λ i. choice (span.the_row.coded.inj a0 b0 (ap (λ g. head (tail g)) p) i) (pterm_injective a1 b1 (ap (λ g. head (tail (tail g))) p) i) (pterm_injective a2 b2 (ap (λ g. head (tail (tail (tail g)))) p) i) (pterm_injective a3 b3 (ap (λ g. tail (tail (tail (tail g)))) p) i)
  pterm_injective (matching a0 a1 a2) (matching b0 b1 b2) p = λ i. matching (span.the_row.coded.inj a0 b0 (ap (λ g. head (tail g)) p) i) (pterm_injective a1 b1 (ap (λ g. head (tail (tail g))) p) i) (arms_injective a2 b2 (ap (λ g. tail (tail (tail g))) p) i)
  pterm_injective (quantified a0 a1 a2 a3) (quantified b0 b1 b2 b3) p =
      λ i. quantified (span.the_row.coded.inj a0 b0 (ap (λ g. head (tail g)) p) i) (quantifier.the_row.coded.inj a1 b1 (ap (λ g. head (tail (tail g))) p) i)
      ((coded_list binder.the_row.coded).inj a2 b2 (ap (λ g. head (tail (tail (tail g)))) p) i) (pterm_injective a3 b3 (ap (λ g. tail (tail (tail (tail g)))) p) i)
  pterm_injective (predicate a0 a1 a2) (predicate b0 b1 b2) p = λ i. predicate (span.the_row.coded.inj a0 b0 (ap (λ g. head (tail g)) p) i) (predicate_row.the_row.coded.inj a1 b1 (ap (λ g. head (tail (tail g))) p) i) (terms_injective a2 b2 (ap (λ g. tail (tail (tail g))) p) i)
  pterm_injective x y p = absurd (omega (arith, ap tag p))

  pub terms_injective : (x y : Terms) → terms_code x ≡ terms_code y → x ≡ y
  terms_injective none none p = refl
  terms_injective (more a0 a1) (more b0 b1) p = λ i. more (pterm_injective a0 b0 (ap (λ g. head (tail g)) p) i) (terms_injective a1 b1 (ap (λ g. tail (tail g)) p) i)
  terms_injective x y p = absurd (omega (arith, ap tag p))

  pub field_terms_injective : (x y : FieldTerms) → field_terms_code x ≡ field_terms_code y → x ≡ y
  field_terms_injective no_fields no_fields p = refl
  field_terms_injective (with_field a0 a1 a2 a3) (with_field b0 b1 b2 b3) p =
      λ i. with_field (span.the_row.coded.inj a0 b0 (ap (λ g. head (tail g)) p) i) (segment.the_row.coded.inj a1 b1 (ap (λ g. head (tail (tail g))) p) i) (pterm_injective a2 b2 (ap (λ g. head (tail (tail (tail g)))) p) i) (field_terms_injective a3 b3 (ap (λ g. tail (tail (tail (tail g)))) p) i)
  field_terms_injective x y p = absurd (omega (arith, ap tag p))

  pub arms_injective : (x y : Arms) → arms_code x ≡ arms_code y → x ≡ y
  arms_injective no_arms no_arms p = refl
  arms_injective (with_arm a0 a1 a2 a3) (with_arm b0 b1 b2 b3) p =
      λ i. with_arm (span.the_row.coded.inj a0 b0 (ap (λ g. head (tail g)) p) i) (coded_pat.inj a1 b1 (ap (λ g. head (tail (tail g))) p) i) (pterm_injective a2 b2 (ap (λ g. head (tail (tail (tail g)))) p) i) (arms_injective a3 b3 (ap (λ g. tail (tail (tail (tail g)))) p) i)
  arms_injective x y p = absurd (omega (arith, ap tag p))

abbrev pub coded_pterm : Coded Pterm
coded_pterm = record { code = pterm_code; inj = pterm_injective }
