use Rattle.std.proofs.Common.{◌+◌, ◌*◌}
use Rattle.logic_term.specs.TermView.{term_size}
use Rattle.proof_kernel.proofs.IntroLaw.{Taking, turn}
use Rattle.proof_kernel.proofs.intro.take.Given as goal

abbrev pub decreases-loop-leads : goal.decreases-loop-leads
decreases-loop-leads l = 2 * term_size l.goal + turn l.leads

abbrev pub invariant-loop-leads : goal.invariant-loop-leads
invariant-loop-leads l = Taking l.step l.names l.q l.used l.left.part l.left.bound.items l.goal l.left.q l.leads
