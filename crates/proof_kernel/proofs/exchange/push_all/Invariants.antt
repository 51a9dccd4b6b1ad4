use Rattle.std.proofs.Common.{◌≡◌, ◌++◌, drop, map}
use Rattle.proof_kernel.specs.ExchangeSteps.{enter, steps}
use Rattle.proof_kernel.proofs.exchange.push_all.Given as goal

abbrev pub invariant-loop-i : goal.invariant-loop-i
invariant-loop-i l = steps l.tasks.items ≡ map (enter l.depth) (drop l.i l.terms) ++ steps l.fn.tasks.items
