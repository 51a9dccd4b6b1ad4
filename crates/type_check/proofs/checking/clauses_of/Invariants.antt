use Rattle.std.proofs.Common.{◌≡◌, drop}
use Rattle.type_check.specs.Answers.{gather}
use Rattle.type_check.specs.Checked.{clause_of}
use Rattle.type_check.proofs.PartByPart.{gather_left}
use Rattle.type_check.proofs.checking.clauses_of.Given as goal

abbrev pub invariant-loop-attribute : goal.invariant-loop-attribute
invariant-loop-attribute l = gather (clause_of l.types l.answer l.scope) l.attributes ≡ gather_left (clause_of l.types l.answer l.scope) (drop l.attribute-index l.attributes) l.clauses.items
