use Rattle.std.proofs.Common.{pos, refl, ◌∙◌}
use Rattle.machine_tests.proofs.RunLemmas.{panicking_samples, panicking_takes}
use Rattle.machine_tests.proofs.runs.a_body_panics.Goals as goal

pub start-requires-clause-sound : goal.start-requires-clause-sound
start-requires-clause-sound c = panicking_samples _ c.args.cause (c.get.ensures ∙ c.in_ok-bodies.ensures)

pub start-requires-clause-takes_one : goal.start-requires-clause-takes_one
start-requires-clause-takes_one c = panicking_takes _ c.args.cause c.integer.result (pos 5) (c.get.ensures ∙ c.in_ok-bodies.ensures) c.integer.ensures refl
