use Rattle.std.proofs.Common.{◌≡◌, ◌∙◌, pos, refl}
use Rattle.source_kinds.specs.declared.kinds.IntKind.TheVariants.{I32}
use Rattle.machine_tests.proofs.RunLemmas.{unit_samples, sample_takes}
use Rattle.machine_tests.proofs.runs.unit.Goals as goal

pub run_of-requires-clause-sound : goal.run_of-requires-clause-sound
run_of-requires-clause-sound c = unit_samples _ _ _ _ (c.get.ensures ∙ c.in_ok-bodies.ensures) c.unit-answer.ensures c.int.ensures c.new.ensures

pub run_of-requires-clause-takes_one : goal.run_of-requires-clause-takes_one
run_of-requires-clause-takes_one c = sample_takes _ _ _ _ c.integer.result I32 (pos 5) (c.get.ensures ∙ c.in_ok-bodies.ensures) c.int.ensures c.integer.ensures refl
