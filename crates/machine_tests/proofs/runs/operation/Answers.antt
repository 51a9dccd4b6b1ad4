use Rattle.std.proofs.Common.{◌≡◌, ◌∙◌, FitsSigned, true, rules}
use Rattle.std.proofs.lemmas.Int.{to_z-of_z}
use Rattle.std.specs.Int.{w128}
use Rattle.source_kinds.specs.Range.{fits}
use Rattle.mir_machine.specs.Tree.{Int}
use Rattle.machine_tests.proofs.RunLemmas.{binary_samples, sample_takes}
use Rattle.machine_tests.proofs.runs.operation.Goals as goal

pub run_of-requires-clause-sound : goal.run_of-requires-clause-sound
run_of-requires-clause-sound c =
    let n_fits : fits c.args.kind c.args.n ≡ true = search rules in
    let n_wide : FitsSigned w128 c.args.n = search rules in
    binary_samples _ _ _ c.copied.result c.args.kind c.args.op c.args.n (c.get.ensures ∙ (simp to_z-of_z at c.in_ok-bodies.ensures)) c.operation_ty.ensures c.int.ensures c.copied.ensures n_fits

pub run_of-requires-clause-takes_one : goal.run_of-requires-clause-takes_one
run_of-requires-clause-takes_one c =
    let x_fits : fits c.args.kind c.args.x ≡ true = search rules in
    let is_x : c.integer.result ≡ Int c.args.x = search rules in
    sample_takes _ _ _ _ c.integer.result c.args.kind c.args.x (c.get.ensures ∙ c.in_ok-bodies.ensures) c.int.ensures is_x x_fits
