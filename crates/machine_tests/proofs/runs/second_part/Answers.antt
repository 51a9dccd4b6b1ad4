use Rattle.std.proofs.Common.{◌∙◌, pos, refl}
use Rattle.machine_tests.proofs.RunLemmas.{parting_sound, parting_takes}
use Rattle.machine_tests.proofs.runs.second_part.Goals as goal

pub run_of-requires-clause-sound : goal.run_of-requires-clause-sound
run_of-requires-clause-sound c = parting_sound _ (c.get.ensures ∙ c.in_ok-bodies.ensures)

pub run_of-requires-clause-takes_one : goal.run_of-requires-clause-takes_one
run_of-requires-clause-takes_one c = parting_takes _ c.integer.result (pos 5) (c.get.ensures ∙ c.in_ok-bodies.ensures) c.integer.ensures refl
