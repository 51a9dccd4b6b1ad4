-- A code for terms, by which the logic tells them apart.
use Rattle.std.specs.Prelude.{◌≡◌}
use Rattle.std.proofs.Common.{refl, ap}
use Rattle.std.proofs.Common.{arith as sums}
use Rattle.std.specs.Coded.{Coded, coded_ℤ, coded_bool}
use base.Stored.{Gv, gnil, gnum, gcons, num}
use Rattle.text_core.specs.contracts.name.Name as name
use Rattle.logic_term.specs.TyCode.{head, tail, tag, coded_ty}
use Rattle.logic_term.specs.Term.{Operator, modeled, negated, denied, field, arith, less, at_most, equal, both, either, implied, choice, made, Quantifier, every, some, Term, Terms, var, lit, truth, apply, bind, no_terms, and_term}
use Rattle.source_kinds.specs.contracts.kinds.ArithOp as arith_op
use Rattle.logic_term.specs.contracts.kinds.Ctor as ctor

abbrev pub operator_code : Operator → Gv
operator_code modeled = gcons (gnum 0) gnil
operator_code negated = gcons (gnum 1) gnil
operator_code denied = gcons (gnum 2) gnil
operator_code (arith op) = gcons (gnum 3) (arith_op.the_row.coded.code op)
operator_code less = gcons (gnum 4) gnil
operator_code at_most = gcons (gnum 5) gnil
operator_code equal = gcons (gnum 6) gnil
operator_code both = gcons (gnum 7) gnil
operator_code either = gcons (gnum 8) gnil
operator_code implied = gcons (gnum 9) gnil
operator_code (made c) = gcons (gnum 10) (ctor.the_row.coded.code c)
operator_code (field n) = gcons (gnum 11) (gnum n)
operator_code choice = gcons (gnum 12) gnil

pub operator_injective : (x y : Operator) → operator_code x ≡ operator_code y → x ≡ y
operator_injective modeled modeled p = refl
operator_injective negated negated p = refl
operator_injective denied denied p = refl
operator_injective (arith a) (arith b) p = λ i. arith (arith_op.the_row.coded.inj a b (ap tail p) i)
operator_injective less less p = refl
operator_injective at_most at_most p = refl
operator_injective equal equal p = refl
operator_injective both both p = refl
operator_injective either either p = refl
operator_injective implied implied p = refl
operator_injective (made a) (made b) p = λ i. made (ctor.the_row.coded.inj a b (ap tail p) i)
operator_injective (field m) (field n) p = λ i. field (ap (λ g. num (tail g)) p i)
operator_injective choice choice p = refl
operator_injective x y p = absurd (omega (sums, ap tag p))

abbrev pub quantifier_code : Quantifier → Gv
quantifier_code every = gnum 0
quantifier_code some = gnum 1

pub quantifier_injective : (x y : Quantifier) → quantifier_code x ≡ quantifier_code y → x ≡ y
quantifier_injective every every p = refl
quantifier_injective some some p = refl
quantifier_injective x y p = absurd (omega (sums, ap num p))

abbrev mutual
  pub term_code : Term → Gv
  term_code (var x) = gcons (gnum 0) (name.the_row.coded.code x)
  term_code (lit z s) = gcons (gnum 1) (gcons (coded_ℤ.code z) (coded_ty.code s))
  term_code (truth b) = gcons (gnum 2) (coded_bool.code b)
  term_code (apply op ts) = gcons (gnum 3) (gcons (operator_code op) (terms_code ts))
  term_code (bind q x s t) = gcons (gnum 4) (gcons (quantifier_code q) (gcons (name.the_row.coded.code x) (gcons (coded_ty.code s) (term_code t))))

  pub terms_code : Terms → Gv
  terms_code no_terms = gcons (gnum 0) gnil
  terms_code (and_term t ts) = gcons (gnum 1) (gcons (term_code t) (terms_code ts))

mutual
  pub term_injective : (x y : Term) → term_code x ≡ term_code y → x ≡ y
  term_injective (var a) (var b) p = λ i. var (name.the_row.coded.inj a b (ap tail p) i)
  term_injective (lit a s) (lit b q) p = λ i. lit (coded_ℤ.inj a b (ap (λ g. head (tail g)) p) i) (coded_ty.inj s q (ap (λ g. tail (tail g)) p) i)
  term_injective (truth a) (truth b) p = λ i. truth (coded_bool.inj a b (ap tail p) i)
  term_injective (apply o ts) (apply q us) p = λ i. apply (operator_injective o q (ap (λ g. head (tail g)) p) i) (terms_injective ts us (ap (λ g. tail (tail g)) p) i)
  term_injective (bind q x s t) (bind r y z u) p = λ i. bind
      (quantifier_injective q r (ap (λ g. head (tail g)) p) i)
      (name.the_row.coded.inj x y (ap (λ g. head (tail (tail g))) p) i)
      (coded_ty.inj s z (ap (λ g. head (tail (tail (tail g)))) p) i)
      (term_injective t u (ap (λ g. tail (tail (tail (tail g)))) p) i)
  term_injective x y p = absurd (omega (sums, ap tag p))

  pub terms_injective : (x y : Terms) → terms_code x ≡ terms_code y → x ≡ y
  terms_injective no_terms no_terms p = refl
  terms_injective (and_term a b) (and_term c d) p = λ i. and_term (term_injective a c (ap (λ g. head (tail g)) p) i) (terms_injective b d (ap (λ g. tail (tail g)) p) i)
  terms_injective x y p = absurd (omega (sums, ap tag p))

abbrev pub coded_term : Coded Term
coded_term = record { code = term_code; inj = term_injective }
