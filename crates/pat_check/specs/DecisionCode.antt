-- A code for trees of tests, by which the logic tells them apart.
use Rattle.std.specs.Prelude.{◌≡◌}
use Rattle.std.proofs.Common.{refl, ap}
use Rattle.std.proofs.Common.{arith as sums}
use Rattle.std.specs.Coded.{Coded, coded_list, coded_ℤ}
use base.Stored.{Gv, gnil, gnum, gcons, num}
use Rattle.logic_term.specs.TyCode.{head, tail, tag}
use Rattle.logic_term.specs.contracts.pattern.Binding as binding
use Rattle.logic_term.specs.contracts.pattern.PatStep as step
use Rattle.pat_check.specs.Decision.{Decision, Decisions, leaf, switch, if_truth, if_literal, no_more, and_then}

abbrev mutual
  pub decision_code : Decision → Gv
  decision_code (leaf a b) = gcons (gnum 0) (gcons (gnum a) ((coded_list binding.the_row.coded).code b))
  decision_code (switch a b) = gcons (gnum 1) (gcons ((coded_list step.the_row.coded).code a) (decisions_code b))
  decision_code (if_truth a b c) = gcons (gnum 2) (gcons ((coded_list step.the_row.coded).code a) (gcons (decision_code b) (decision_code c)))
  decision_code (if_literal a b c d) = gcons (gnum 3) (gcons ((coded_list step.the_row.coded).code a) (gcons (coded_ℤ.code b) (gcons (decision_code c) (decision_code d))))

  pub decisions_code : Decisions → Gv
  decisions_code no_more = gcons (gnum 0) gnil
  decisions_code (and_then t ts) = gcons (gnum 1) (gcons (decision_code t) (decisions_code ts))

mutual
  pub decision_injective : (x y : Decision) → decision_code x ≡ decision_code y → x ≡ y
  decision_injective (leaf a b) (leaf u v) p = λ i. leaf (num (head (tail (p i)))) ((coded_list binding.the_row.coded).inj b v (ap (λ g. tail (tail g)) p) i)
  decision_injective (switch a b) (switch u v) p = λ i. switch
      ((coded_list step.the_row.coded).inj a u (ap (λ g. head (tail g)) p) i)
      (decisions_injective b v (ap (λ g. tail (tail g)) p) i)
  decision_injective (if_truth a b c) (if_truth u v w) p = λ i. if_truth
      ((coded_list step.the_row.coded).inj a u (ap (λ g. head (tail g)) p) i)
      (decision_injective b v (ap (λ g. head (tail (tail g))) p) i)
      (decision_injective c w (ap (λ g. tail (tail (tail g))) p) i)
  decision_injective (if_literal a b c d) (if_literal u v w x) p = λ i. if_literal
      ((coded_list step.the_row.coded).inj a u (ap (λ g. head (tail g)) p) i)
      (coded_ℤ.inj b v (ap (λ g. head (tail (tail g))) p) i)
      (decision_injective c w (ap (λ g. head (tail (tail (tail g)))) p) i)
      (decision_injective d x (ap (λ g. tail (tail (tail (tail g)))) p) i)
  decision_injective x y p = absurd (omega (sums, ap tag p))

  pub decisions_injective : (x y : Decisions) → decisions_code x ≡ decisions_code y → x ≡ y
  decisions_injective no_more no_more p = refl
  decisions_injective (and_then t ts) (and_then u us) p = λ i. and_then (decision_injective t u (ap (λ g. head (tail g)) p) i) (decisions_injective ts us (ap (λ g. tail (tail g)) p) i)
  decisions_injective x y p = absurd (omega (sums, ap tag p))

abbrev pub coded_decision : Coded Decision
coded_decision = record { code = decision_code; inj = decision_injective }
