use Rattle.std.proofs.Common.{◌≡◌, drop}
use Rattle.type_check.specs.FirstBad.{bad_clause}
use Rattle.type_check.proofs.logic.bad_clause.Given as goal

abbrev pub invariant-loop-clause : goal.invariant-loop-clause
invariant-loop-clause l = bad_clause (drop l.clause-index l.clauses) ≡ bad_clause l.clauses
