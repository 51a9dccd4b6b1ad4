use Rattle.std.proofs.Common.{◌≡◌, map, take, true}
use Rattle.verify_core.proofs.judge.all_set.Given as goal

abbrev pub invariant-loop-body : goal.invariant-loop-body
invariant-loop-body l = l.flags.items ≡ map (λ _. true) (take l._body-index l.bodies)
