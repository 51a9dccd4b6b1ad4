use Rattle.std.proofs.Common.{◌∙◌}
use Rattle.machine_tests.proofs.WalkedLemmas.{straight_can_walk}
use Rattle.machine_tests.proofs.obligations.of_part_of_parameter.Goals as goal

pub owed-requires : goal.owed-requires
owed-requires c = λ w k is has. straight_can_walk w _ _ (is ∙ c.get.ensures ∙ c.in_ok-body.ensures)
