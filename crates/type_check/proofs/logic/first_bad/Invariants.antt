use Rattle.std.proofs.Common.{◌≡◌, drop}
use Rattle.type_check.specs.FirstBad.{first_bad}
use Rattle.type_check.proofs.logic.first_bad.Given as goal

abbrev pub invariant-loop-function : goal.invariant-loop-function
invariant-loop-function l = first_bad (drop l.function-index l.functions) ≡ first_bad l.functions
