-- The obligations of a program with a loop and a call are true, and so its functions are good.
use Rattle.std.proofs.Common.{◌≡◌, refl, ap, subst, zero, suc, true, false, true≢false, [], ◌∷◌}
use Rattle.std.proofs.lemmas.Option.{same_Some}
use Rattle.logic_term.specs.Meaning.{Sure, Structure, Env, Holds, Says, Yes}
use Rattle.logic_term.specs.Normal.{reduced}
use Rattle.logic_term.specs.Theory.{Theory}
use Rattle.logic_term.specs.Term.{Term}
use Rattle.logic_term.specs.Ty.{bool}
use Rattle.logic_term.specs.Value.{Flag, flag_of}
use Rattle.logic_term.proofs.Alike.{yes_alike}
use Rattle.logic_term.proofs.CanonicalLaw.{reduced_means}
use Rattle.mir_ir.specs.declared.place.Operand.TheVariants.{Copy}
use Rattle.mir_ir.specs.declared.terminator.FnId.TheVariants.{Body as OfBody}
use Rattle.mir_ir.specs.declared.terminator.Callee.TheVariants.{Function}
use Rattle.prophecy_logic.specs.Row.{value_name}
use Rattle.prophecy_logic.specs.Graph.{by_statement, by_end, goto, branch, call, return, plain, first, again}
use Rattle.prophecy_sim.specs.Programs.{HasTrueObligations, setting}
use Rattle.prophecy_sim.specs.Sample.{label, whole, head, cleared, caller, is_false, program, SampleIsTrue, SampleIsGood}
use Rattle.prophecy_sim.proofs.GoodBody.{good}
use Rattle.prophecy_sim.proofs.SampleConditions.{no_more, labelling, functions}

-- ---- the obligations

none_is_both : Sure (Flag true ≡ Flag false) → ⊥
none_is_both h = h (λ e. true≢false (ap flag_of e))

-- a formula that says what is so is true
is_true : (P : Type 0) → P → Yes (Says P)
is_true P p n = n (true, refl, p)

-- a formula that is true is so in normal form
as_reduced : (S : Structure) (t : Term) (ρ : Env) → Holds S t ρ → Holds S (reduced t) ρ
as_reduced S t ρ = (yes_alike _ _ (reduced_means S t ρ)).1

true_obligations : (Θ : Theory) → HasTrueObligations Θ (setting program 0 cleared is_false)
true_obligations Θ = record {
  first = 1;
  obligations = _;
  are = record {
    walk = _;
    arrives = plain _ refl refl (by_statement _ (record { block = _; is_block = refl; is_statement = refl }) (by_end _ (record { block = _; is_block = refl; is_last = refl; is_end = refl }) (goto (label 1) refl (
        first _ head refl refl refl (
        by_end _ (record { block = _; is_block = refl; is_last = refl; is_end = refl }) (branch (Copy (whole 0)) (label 2) (label 3) refl
        (plain _ refl refl (by_statement _ (record { block = _; is_block = refl; is_statement = refl }) (by_end _ (record { block = _; is_block = refl; is_last = refl; is_end = refl }) (goto (label 1) refl (again _ head refl refl refl)))))
        (plain _ refl refl (by_end _ (record { block = _; is_block = refl; is_last = refl; is_end = refl }) (return refl))))
        )
        ))));
    are_numbered = refl;
  };
  all_true = (
    λ θ i ρ. as_reduced _ _ ρ (is_true _ (λ w sort. is_true _ (λ same. same))),
    (
      λ θ i ρ. as_reduced _ _ ρ (is_true _ (λ w sort. is_true _ (λ v fits. is_true _ (λ known. is_true _ (λ taken. is_true _ (λ no. absurd (none_is_both no))))))),
      (λ θ i ρ. as_reduced _ _ ρ (is_true _ (λ w sort. is_true _ (λ v fits. is_true _ (λ known. is_true _ (λ left. left))))), tt),
    ),
  );
}

-- of the call its `ensures` alone is known, which says the same of the answer
caller_true_obligations : (Θ : Theory) → HasTrueObligations Θ (setting program 1 caller is_false)
unfolding value_name
caller_true_obligations Θ = record {
  first = 1;
  obligations = _;
  are = record {
    walk = _;
    arrives = plain _ refl refl (by_end _ (record { block = _; is_block = refl; is_last = refl; is_end = refl }) (call (whole 0) (Function (OfBody 0)) [] (Copy (whole 1) ∷ []) (label 1) is_false bool refl refl refl
        (plain _ refl refl (by_end _ (record { block = _; is_block = refl; is_last = refl; is_end = refl }) (return refl)))));
    are_numbered = refl;
  };
  all_true = (λ θ i ρ. as_reduced _ _ ρ (is_true _ (λ w sort. is_true _ (λ v fits. is_true _ (λ known. known)))), tt);
}

pub sample_true : SampleIsTrue
sample_true Θ zero b c e f = subst (λ d. HasTrueObligations Θ (setting program 0 b d)) (same_Some _ _ f)
    (subst (λ d. HasTrueObligations Θ (setting program 0 d is_false)) (same_Some _ _ e) (true_obligations Θ))
sample_true Θ (suc zero) b c e f = subst (λ d. HasTrueObligations Θ (setting program 1 b d)) (same_Some _ _ f)
    (subst (λ d. HasTrueObligations Θ (setting program 1 d is_false)) (same_Some _ _ e) (caller_true_obligations Θ))
sample_true Θ (suc (suc n)) b c e f = absurd (no_more n b e)

-- ---- the law of these conditions

pub sample_good : SampleIsGood
sample_good Θ = (
  good Θ program labelling functions 0 is_false refl (λ n b c reached e f. sample_true Θ n b c e f),
  good Θ program labelling functions 1 is_false refl (λ n b c reached e f. sample_true Θ n b c e f),
)
