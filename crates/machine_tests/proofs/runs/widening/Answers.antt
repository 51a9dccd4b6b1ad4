use Rattle.std.proofs.Common.{◌≡◌, ◌∙◌, true, rules}
use Rattle.source_kinds.specs.Range.{fits, widens}
use Rattle.mir_machine.specs.Tree.{Int}
use Rattle.machine_tests.proofs.RunLemmas.{wide_samples, sample_takes}
use Rattle.machine_tests.proofs.runs.widening.Goals as goal

pub run_of-requires-clause-sound : goal.run_of-requires-clause-sound
run_of-requires-clause-sound c =
    let wide : widens c.args.narrow c.args.wide ≡ true = search rules in
    wide_samples _ _ _ c.copied.result c.args.narrow c.args.wide (c.get.ensures ∙ c.in_ok-bodies.ensures) c.int.ensures c.int-2.ensures c.copied.ensures wide

pub run_of-requires-clause-takes_one : goal.run_of-requires-clause-takes_one
run_of-requires-clause-takes_one c =
    let x_fits : fits c.args.narrow c.args.x ≡ true = search rules in
    let is_x : c.integer.result ≡ Int c.args.x = search rules in
    sample_takes _ _ _ _ c.integer.result c.args.narrow c.args.x (c.get.ensures ∙ c.in_ok-bodies.ensures) c.int-2.ensures is_x x_fits
