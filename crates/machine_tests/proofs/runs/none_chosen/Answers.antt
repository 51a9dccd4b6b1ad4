use Rattle.std.proofs.Common.{◌≡◌, ◌∙◌, ap, pos, refl, ◌∷◌, []}
use Rattle.machine_tests.specs.Run.{choosing, option_of}
use Rattle.machine_tests.proofs.RunLemmas.{none_sound, choosing_takes}
use Rattle.machine_tests.proofs.runs.none_chosen.Goals as goal

pub run_of-requires-clause-sound : goal.run_of-requires-clause-sound
run_of-requires-clause-sound c = none_sound _ (c.get.ensures ∙ c.in_ok-bodies.ensures ∙ ap choosing (c.option_of.ensures ∙ ap (option_of 0) c.new.ensures))

pub run_of-requires-clause-takes_one : goal.run_of-requires-clause-takes_one
run_of-requires-clause-takes_one c = choosing_takes _ _ c.integer.result (pos 5) (c.get.ensures ∙ c.in_ok-bodies.ensures) c.integer.ensures refl
