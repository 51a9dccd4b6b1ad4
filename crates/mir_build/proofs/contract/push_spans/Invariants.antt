use Rattle.std.proofs.Common.{◌≡◌, ◌++◌, drop, map}
use Rattle.mir_build.specs.Lowering.{formula_span, formulas_of}
use Rattle.mir_build.specs.Numbered.{formula_of}
use Rattle.mir_build.proofs.contract.push_spans.Given as goal

abbrev pub invariant-loop-clause : goal.invariant-loop-clause
invariant-loop-clause l = l.all ++ map formula_span (map formula_of (formulas_of l.kind (drop l.clause-index l.clauses))) ≡ l.initial.all ++ map formula_span (map formula_of (formulas_of l.kind l.clauses))
