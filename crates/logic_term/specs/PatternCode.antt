-- A code for patterns, by which the logic tells them apart.
use Rattle.std.specs.Prelude.{◌≡◌}
use Rattle.std.proofs.Common.{refl, ap}
use Rattle.std.proofs.Common.{arith as sums}
use Rattle.std.specs.Coded.{Coded, coded_option, coded_ℤ, coded_bool}
use base.Stored.{Gv, gnil, gnum, gcons}
use Rattle.logic_term.specs.TyCode.{head, tail, tag, coded_ty}
use Rattle.text_core.specs.contracts.name.Name as name
use Rattle.logic_term.specs.contracts.pattern.BindingKind as mode
use Rattle.source_kinds.specs.contracts.kinds.IntKind as int_kind
use Rattle.logic_term.specs.contracts.kinds.Ctor as ctor
use Rattle.logic_term.specs.Pattern.{Pat, Pats, wild, bound, literal, truth, shape, no_pats, and_pat}

abbrev mutual
  pub pat_code : Pat → Gv
  pat_code (wild a) = gcons (gnum 0) (coded_ty.code a)
  pat_code (bound a b c) = gcons (gnum 1) (gcons (coded_ty.code a) (gcons (name.the_row.coded.code b) (mode.the_row.coded.code c)))
  pat_code (literal a b c) = gcons (gnum 2) (gcons (coded_ty.code a) (gcons ((coded_option int_kind.the_row.coded).code b) (coded_ℤ.code c)))
  pat_code (truth a b) = gcons (gnum 3) (gcons (coded_ty.code a) (coded_bool.code b))
  pat_code (shape a b c) = gcons (gnum 4) (gcons (coded_ty.code a) (gcons (ctor.the_row.coded.code b) (pats_code c)))

  pub pats_code : Pats → Gv
  pats_code no_pats = gcons (gnum 0) gnil
  pats_code (and_pat t ts) = gcons (gnum 1) (gcons (pat_code t) (pats_code ts))

mutual
  pub pat_injective : (x y : Pat) → pat_code x ≡ pat_code y → x ≡ y
  pat_injective (wild a) (wild u) p = λ i. wild (coded_ty.inj a u (ap (λ g. tail g) p) i)
  pat_injective (bound a b c) (bound u v w) p = λ i. bound
      (coded_ty.inj a u (ap (λ g. head (tail g)) p) i)
      (name.the_row.coded.inj b v (ap (λ g. head (tail (tail g))) p) i)
      (mode.the_row.coded.inj c w (ap (λ g. tail (tail (tail g))) p) i)
  pat_injective (literal a b c) (literal u v w) p = λ i. literal
      (coded_ty.inj a u (ap (λ g. head (tail g)) p) i)
      ((coded_option int_kind.the_row.coded).inj b v (ap (λ g. head (tail (tail g))) p) i)
      (coded_ℤ.inj c w (ap (λ g. tail (tail (tail g))) p) i)
  pat_injective (truth a b) (truth u v) p = λ i. truth (coded_ty.inj a u (ap (λ g. head (tail g)) p) i) (coded_bool.inj b v (ap (λ g. tail (tail g)) p) i)
  pat_injective (shape a b c) (shape u v w) p = λ i. shape
      (coded_ty.inj a u (ap (λ g. head (tail g)) p) i)
      (ctor.the_row.coded.inj b v (ap (λ g. head (tail (tail g))) p) i)
      (pats_injective c w (ap (λ g. tail (tail (tail g))) p) i)
  pat_injective x y p = absurd (omega (sums, ap tag p))

  pub pats_injective : (x y : Pats) → pats_code x ≡ pats_code y → x ≡ y
  pats_injective no_pats no_pats p = refl
  pats_injective (and_pat t ts) (and_pat u us) p = λ i. and_pat (pat_injective t u (ap (λ g. head (tail g)) p) i) (pats_injective ts us (ap (λ g. tail (tail g)) p) i)
  pats_injective x y p = absurd (omega (sums, ap tag p))

abbrev pub coded_pat : Coded Pat
coded_pat = record { code = pat_code; inj = pat_injective }
