use Rattle.std.proofs.Common.{◌≡◌, ◌++◌, drop, map}
use Rattle.mir_build.specs.Lowering.{formula_span}
use Rattle.mir_build.specs.Numbered.{formula_of}
use Rattle.mir_build.proofs.around.formula_spans.Given as goal

abbrev pub invariant-loop-assertion : goal.invariant-loop-assertion
invariant-loop-assertion l = l.all ++ map formula_span (map formula_of (drop l.assertion-index l.assertions)) ≡ map formula_span (map formula_of l.assertions)
