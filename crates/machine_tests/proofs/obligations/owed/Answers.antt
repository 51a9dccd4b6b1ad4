use Rattle.std.proofs.Common.{◌∙◌, ap, refl}
use Rattle.std.specs.Prelude.{slice_get}
use Rattle.machine_tests.proofs.obligations.owed.Goals as goal

pub obligations-requires : goal.obligations-requires
obligations-requires c = c.requires _ _ refl (ap (λ cs. slice_get cs 0) (ap (λ cs. cs.of) c.get.ensures ∙ c.in_ok-contracts.ensures))

pub counted_obligations-requires : goal.counted_obligations-requires
counted_obligations-requires c = c.requires _ _ refl (ap (λ cs. slice_get cs 0) (ap (λ cs. cs.of) c.get.ensures ∙ c.in_ok-contracts.ensures))
