use Rattle.std.proofs.Common.{map, reverse}
use Rattle.verify_core.specs.Firsts.{HasFirsts}
use Rattle.verify_core.proofs.table.ProofTable.new.Given as goal

-- the last come first
abbrev pub invariant-loop-proof : goal.invariant-loop-proof
invariant-loop-proof l = HasFirsts (reverse (map (λ p. p.now) l.yielded)) l.firsts
