use Rattle.std.proofs.Common.{◌∙◌, ap, sym, subst, arith}
use Rattle.logic_term.specs.Free.{free}
use Rattle.proof_kernel.specs.Intro.{IsAbove}
use Rattle.proof_kernel.proofs.IntroLaw.{not_free_above}
use Rattle.proof_kernel.proofs.sequent.Sequent.above_free.Goals as goal

pub returns : goal.returns
returns c =
    subst (IsAbove c.in_ok-all.all) c.self.view_is
    (λ x l. (c.in_ok-all.ensures.above x l, ap (free x) (sym c.in_ok-goal.ensures) ∙ not_free_above x c.in_ok-goal.goal (omega (arith, l, c.in_ok-least.ensures, c.in_ok-all.ensures.least))))
