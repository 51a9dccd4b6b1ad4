use Rattle.std.proofs.Common.{sym, subst, refl, arith, ◌∙◌}
use Rattle.mir_ir.specs.WellFormed.{AreSound}
use Rattle.machine_tests.proofs.RunLemmas.{program_sound, program_takes}
use Rattle.machine_tests.proofs.runs.calls_step_by_step.Goals as goal

pub start-requires-clause-sound : goal.start-requires-clause-sound
start-requires-clause-sound g c = subst AreSound (sym (c.get.ensures ∙ c.in_ok-bodies.ensures)) program_sound

pub start-requires-clause-takes_one : goal.start-requires-clause-takes_one
start-requires-clause-takes_one g c = program_takes _ 1 c.integer.result _ (c.get.ensures ∙ c.in_ok-bodies.ensures) (omega arith) c.integer.ensures refl
