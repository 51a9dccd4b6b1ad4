use Rattle.std.proofs.Common.{drop}
use Rattle.std.specs.Prelude.{◌↔◌}
use Rattle.proof_kernel.specs.Rules.{AreNew}
use Rattle.proof_kernel.proofs.intro.are_new.Given as goal

abbrev pub invariant-loop-i : goal.invariant-loop-i
invariant-loop-i l = AreNew l.names l.q ↔ AreNew (drop l.i l.names) l.q
