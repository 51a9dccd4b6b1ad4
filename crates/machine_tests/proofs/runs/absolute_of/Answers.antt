use Rattle.std.proofs.Common.{◌≡◌, ◌∙◌, sym, subst, rules}
use Rattle.mir_ir.specs.WellFormed.{AreSound}
use Rattle.mir_machine.specs.Tree.{Int}
use Rattle.machine_tests.proofs.RunLemmas.{program_sound, program_takes, fits_i32}
use Rattle.machine_tests.proofs.runs.absolute_of.Goals as goal

pub run_of-requires-clause-sound : goal.run_of-requires-clause-sound
run_of-requires-clause-sound c = subst AreSound (sym (c.get.ensures ∙ c.in_ok-bodies.ensures)) program_sound

pub run_of-requires-clause-takes_one : goal.run_of-requires-clause-takes_one
run_of-requires-clause-takes_one c =
    let is_x : c.integer.result ≡ Int c.args.x = search rules in
    program_takes _ _ c.integer.result c.args.x (c.get.ensures ∙ c.in_ok-bodies.ensures) c.number_of-f.ensures is_x (fits_i32 c.args.x c.ranges.x)
