use Rattle.std.proofs.Common.{◌≡◌, [], drop, reverse}
use Rattle.proof_kernel.specs.Instances.{instance_of}
use Rattle.proof_kernel.proofs.instances.instance.Given as goal

abbrev pub invariant-loop-i : goal.invariant-loop-i
invariant-loop-i l = instance_of l.adts l.q (reverse l.put.items) (drop l.i l.ts) l.body ≡ instance_of l.adts l.q [] l.ts l.fn.formula
