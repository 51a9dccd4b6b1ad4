use Rattle.std.proofs.Common.{◌≡◌, ◌++◌, drop, map}
use Rattle.mir_build.specs.Lowering.{term_of, formulas_of}
use Rattle.mir_build.specs.Numbered.{formula_of}
use Rattle.mir_build.proofs.contract.formulas_of.Given as goal

abbrev pub invariant-loop-clause : goal.invariant-loop-clause
invariant-loop-clause l = l.all ++ map term_of (map formula_of (formulas_of l.kind (drop l.clause-index l.clauses))) ≡ map term_of (map formula_of (formulas_of l.kind l.clauses))
