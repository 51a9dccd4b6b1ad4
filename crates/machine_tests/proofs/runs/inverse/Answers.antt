use Rattle.std.proofs.Common.{◌∙◌}
use Rattle.machine_tests.proofs.RunLemmas.{not_samples, truth_takes}
use Rattle.machine_tests.proofs.runs.inverse.Goals as goal

pub run_of-requires-clause-sound : goal.run_of-requires-clause-sound
run_of-requires-clause-sound c = not_samples _ c.copied.result (c.get.ensures ∙ c.in_ok-bodies.ensures) c.copied.ensures

pub run_of-requires-clause-takes_one : goal.run_of-requires-clause-takes_one
run_of-requires-clause-takes_one c = truth_takes _ _ _ (c.get.ensures ∙ c.in_ok-bodies.ensures)
