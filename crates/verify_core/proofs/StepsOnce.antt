-- Steps are refused at one line, and are then no proof.
use Rattle.std.proofs.Common.{◌≡◌, ◌∙◌, sym, ap, ℕ, List}
use Rattle.logic_term.specs.declared.obligation.Obligation.{Obligation}
use Rattle.proof_kernel.specs.declared.setting.Tables.{Tables}
use Rattle.proof_kernel.specs.Accepts.{Accepts}
use Rattle.proof_kernel.proofs.AcceptLaw.{refuses_once, accepts_or_refuses}
use Rattle.proof_text.specs.declared.proof.NumberedStep.{NumberedStep}
use Rattle.verify_core.specs.Verdict.{steps_of, line_behind, IsRefusedAt}

pub refused_once : (T : Tables) (o : Obligation) (steps : List NumberedStep) («end» line other : ℕ) → IsRefusedAt T o steps «end» line → IsRefusedAt T o steps «end» other → line ≡ other
refused_once T o steps «end» line other a b =
    let same : a.done ≡ b.done = refuses_once T o (steps_of steps) a.done b.done a.refuses b.refuses in
    a.is_line ∙ ap (λ (n : ℕ). line_behind n steps «end») same ∙ sym b.is_line

pub refused_is_no_proof : (T : Tables) (o : Obligation) (steps : List NumberedStep) («end» line : ℕ) → IsRefusedAt T o steps «end» line → Accepts T o (steps_of steps) → ⊥
refused_is_no_proof T o steps «end» line refused accepted = accepts_or_refuses T o (steps_of steps) refused.done accepted refused.refuses
