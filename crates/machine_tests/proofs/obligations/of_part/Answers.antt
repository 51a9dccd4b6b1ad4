use Rattle.std.proofs.Common.{◌∙◌}
use Rattle.machine_tests.proofs.WalkedLemmas.{straight_can_walk}
use Rattle.machine_tests.proofs.obligations.of_part.Goals as goal

pub owed_by-requires : goal.owed_by-requires
owed_by-requires c = λ w k is has. straight_can_walk w _ _ (is ∙ c.get.ensures ∙ c.in_ok-body.ensures)
