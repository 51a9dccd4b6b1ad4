use Rattle.std.proofs.Common.{◌≡◌, map, take}
use Rattle.proof_kernel.specs.LinearRows.{cited}
use Rattle.proof_kernel.proofs.linear.all_cited.Given as goal

abbrev pub invariant-loop-multiple : goal.invariant-loop-multiple
invariant-loop-multiple l = l.all.items ≡ map (λ m. cited l.q m.of) (take l.multiple-index l.multiples)
