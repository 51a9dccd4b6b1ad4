use Rattle.std.proofs.Common.{◌≡◌, drop}
use Rattle.pat_check.specs.Flat.{all_flat}
use Rattle.type_check.specs.TypedExprView.{arms_of, patterns_of}
use Rattle.type_check.proofs.covering.are_flat.Given as goal

abbrev pub invariant-loop-arm : goal.invariant-loop-arm
invariant-loop-arm l = all_flat l.ty (patterns_of (arms_of (drop l.arm-index l.arms))) ≡ all_flat l.ty (patterns_of (arms_of l.arms))
