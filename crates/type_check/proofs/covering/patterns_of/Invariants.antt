use Rattle.std.proofs.Common.{◌≡◌, ◌++◌, drop}
use Rattle.type_check.specs.TypedExprView.{arms_of, patterns_of}
use Rattle.type_check.proofs.covering.patterns_of.Given as goal

abbrev pub invariant-loop-arm : goal.invariant-loop-arm
invariant-loop-arm l = patterns_of (arms_of l.arms) ≡ l.patterns.items ++ patterns_of (arms_of (drop l.arm-index l.arms))
