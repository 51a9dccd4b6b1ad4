use Rattle.std.proofs.Common.{◌≡◌, drop}
use Rattle.runnable.specs.Unrun.{unrun_of}
use Rattle.runnable.proofs.running.first_unrun.Given as goal

abbrev pub invariant-loop-function : goal.invariant-loop-function
invariant-loop-function l = unrun_of l.decls (drop l.function-index l.program.functions) ≡ unrun_of l.decls l.program.functions
