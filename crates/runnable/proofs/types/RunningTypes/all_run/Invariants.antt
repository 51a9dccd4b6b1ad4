use Rattle.std.proofs.Common.{◌≡◌, drop}
use Rattle.runnable.specs.Runs.{all_run}
use Rattle.runnable.proofs.types.RunningTypes.all_run.Given as goal

abbrev pub invariant-loop-ty : goal.invariant-loop-ty
invariant-loop-ty l = all_run l.self (drop l.ty-index l.types) ≡ all_run l.self l.types
