-- A code for what may be known, by which the logic tells them apart.
use Rattle.std.specs.Prelude.{◌≡◌}
use Rattle.std.proofs.Common.{refl, ap}
use Rattle.std.proofs.Common.{arith as sums}
use Rattle.std.specs.Coded.{Coded, coded_option, coded_list, coded_ℤ, coded_bool}
use base.Stored.{Gv, gnil, gnum, gcons}
use Rattle.logic_term.specs.TyCode.{head, tail, tag}
use Rattle.source_kinds.specs.contracts.kinds.IntKind as int_kind
use Rattle.logic_term.specs.contracts.kinds.Ctor as ctor
use Rattle.pat_check.specs.Known.{Known, Knowns, anything, other, number, flag, built, no_knowns, and_known}

abbrev mutual
  pub known_code : Known → Gv
  known_code anything = gcons (gnum 0) gnil
  known_code (other a b) = gcons (gnum 1) (gcons ((coded_option int_kind.the_row.coded).code a) ((coded_list coded_ℤ).code b))
  known_code (number a) = gcons (gnum 2) (coded_ℤ.code a)
  known_code (flag a) = gcons (gnum 3) (coded_bool.code a)
  known_code (built a b) = gcons (gnum 4) (gcons (ctor.the_row.coded.code a) (knowns_code b))

  pub knowns_code : Knowns → Gv
  knowns_code no_knowns = gcons (gnum 0) gnil
  knowns_code (and_known t ts) = gcons (gnum 1) (gcons (known_code t) (knowns_code ts))

mutual
  pub known_injective : (x y : Known) → known_code x ≡ known_code y → x ≡ y
  known_injective anything anything p = refl
  known_injective (other a b) (other u v) p = λ i. other
      ((coded_option int_kind.the_row.coded).inj a u (ap (λ g. head (tail g)) p) i)
      ((coded_list coded_ℤ).inj b v (ap (λ g. tail (tail g)) p) i)
  known_injective (number a) (number u) p = λ i. number (coded_ℤ.inj a u (ap (λ g. tail g) p) i)
  known_injective (flag a) (flag u) p = λ i. flag (coded_bool.inj a u (ap (λ g. tail g) p) i)
  known_injective (built a b) (built u v) p = λ i. built
      (ctor.the_row.coded.inj a u (ap (λ g. head (tail g)) p) i)
      (knowns_injective b v (ap (λ g. tail (tail g)) p) i)
  known_injective x y p = absurd (omega (sums, ap tag p))

  pub knowns_injective : (x y : Knowns) → knowns_code x ≡ knowns_code y → x ≡ y
  knowns_injective no_knowns no_knowns p = refl
  knowns_injective (and_known t ts) (and_known u us) p = λ i. and_known (known_injective t u (ap (λ g. head (tail g)) p) i) (knowns_injective ts us (ap (λ g. tail (tail g)) p) i)
  knowns_injective x y p = absurd (omega (sums, ap tag p))

abbrev pub coded_known : Coded Known
coded_known = record { code = known_code; inj = known_injective }
