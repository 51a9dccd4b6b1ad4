use Rattle.std.proofs.Common.{◌∙◌, sym, subst}
use Rattle.machine_tests.specs.Walked.{IsForking}
use Rattle.machine_tests.proofs.WalkedLemmas.{forking_can_walk}
use Rattle.machine_tests.proofs.obligations.of_eight_paths.Goals as goal

pub owed-requires : goal.owed-requires
owed-requires c = λ w k is has. forking_can_walk w (subst IsForking (sym (is ∙ c.get.ensures)) c.in_ok-body.ensures)
