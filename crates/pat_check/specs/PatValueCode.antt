-- A code for pattern values, by which the logic tells them apart.
use Rattle.std.specs.Prelude.{◌≡◌}
use Rattle.std.proofs.Common.{refl, ap}
use Rattle.std.proofs.Common.{arith as sums}
use Rattle.std.specs.Coded.{Coded, coded_ℤ, coded_bool}
use base.Stored.{Gv, gnil, gnum, gcons}
use Rattle.logic_term.specs.TyCode.{head, tail, tag}
use Rattle.logic_term.specs.contracts.kinds.Ctor as ctor
use Rattle.pat_check.specs.PatValue.{PatValue, PatValues, any, integer, truth, made, no_parts, and_part}

abbrev mutual
  pub pat_value_code : PatValue → Gv
  pat_value_code any = gcons (gnum 0) gnil
  pat_value_code (integer a) = gcons (gnum 1) (coded_ℤ.code a)
  pat_value_code (truth a) = gcons (gnum 2) (coded_bool.code a)
  pat_value_code (made a b) = gcons (gnum 3) (gcons (ctor.the_row.coded.code a) (pat_values_code b))

  pub pat_values_code : PatValues → Gv
  pat_values_code no_parts = gcons (gnum 0) gnil
  pat_values_code (and_part t ts) = gcons (gnum 1) (gcons (pat_value_code t) (pat_values_code ts))

mutual
  pub pat_value_injective : (x y : PatValue) → pat_value_code x ≡ pat_value_code y → x ≡ y
  pat_value_injective any any p = refl
  pat_value_injective (integer a) (integer u) p = λ i. integer (coded_ℤ.inj a u (ap (λ g. tail g) p) i)
  pat_value_injective (truth a) (truth u) p = λ i. truth (coded_bool.inj a u (ap (λ g. tail g) p) i)
  pat_value_injective (made a b) (made u v) p = λ i. made
      (ctor.the_row.coded.inj a u (ap (λ g. head (tail g)) p) i)
      (pat_values_injective b v (ap (λ g. tail (tail g)) p) i)
  pat_value_injective x y p = absurd (omega (sums, ap tag p))

  pub pat_values_injective : (x y : PatValues) → pat_values_code x ≡ pat_values_code y → x ≡ y
  pat_values_injective no_parts no_parts p = refl
  pat_values_injective (and_part t ts) (and_part u us) p = λ i. and_part (pat_value_injective t u (ap (λ g. head (tail g)) p) i) (pat_values_injective ts us (ap (λ g. tail (tail g)) p) i)
  pat_values_injective x y p = absurd (omega (sums, ap tag p))

abbrev pub coded_pat_value : Coded PatValue
coded_pat_value = record { code = pat_value_code; inj = pat_value_injective }
