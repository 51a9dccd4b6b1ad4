use Rattle.std.proofs.Common.{sym, subst}
use Rattle.machine_tests.specs.Walked.{IsForking}
use Rattle.machine_tests.proofs.WalkedLemmas.{forking_can_walk}
use Rattle.machine_tests.proofs.obligations.room_behind.Goals as goal

pub room_after-requires : goal.room_after-requires
room_after-requires c = forking_can_walk _ (subst IsForking (sym c.get.ensures) c.in_ok-body.ensures)
