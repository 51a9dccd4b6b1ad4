use Rattle.std.proofs.Common.{◌≡◌}
use Rattle.proof_kernel.specs.EtaRule.{parts_from}
use Rattle.proof_kernel.proofs.eta_rule.first_parts.Given as goal

-- the parts so far
abbrev pub invariant-loop-i : goal.invariant-loop-i
invariant-loop-i l = l.parts.items ≡ parts_from 0 l.i l.t
