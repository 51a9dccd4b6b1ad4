use Rattle.verify_core.proofs.PassLaws.{FewBefore}
use Rattle.verify_core.proofs.preparing.check_all_paths.Given as goal

abbrev pub invariant-loop-body : goal.invariant-loop-body
invariant-loop-body l = FewBefore l.fn.bodies l.body-index
