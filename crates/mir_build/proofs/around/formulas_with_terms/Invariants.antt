use Rattle.std.proofs.Common.{◌≡◌, ◌++◌, drop, map}
use Rattle.mir_build.specs.Built.{term_with}
use Rattle.mir_build.specs.Numbered.{formula_of}
use Rattle.mir_build.proofs.around.formulas_with_terms.Given as goal

abbrev pub invariant-loop-assertion : goal.invariant-loop-assertion
invariant-loop-assertion l = l.all ++ map (term_with l.sub) (map formula_of (drop l.assertion-index l.assertions)) ≡ map (term_with l.sub) (map formula_of l.assertions)
