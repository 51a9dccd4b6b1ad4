use Rattle.std.proofs.Common.{◌≡◌, [], ◌∷◌}
use Rattle.proof_kernel.specs.Exchanged.{exchanged}
use Rattle.proof_kernel.specs.ExchangeSteps.{after, steps, steps_weight}
use Rattle.proof_kernel.specs.ChangeCode.{exchange_of}
use Rattle.proof_kernel.proofs.exchange.exchanged.Given as goal

abbrev pub invariant-loop-task : goal.invariant-loop-task
invariant-loop-task l = after (exchange_of l.change) (steps l.tasks.items) l.done.items ≡ exchanged (exchange_of l.change) l.depth l.t ∷ []

abbrev pub decreases-loop-task : goal.decreases-loop-task
decreases-loop-task l = steps_weight (steps l.tasks.items)
