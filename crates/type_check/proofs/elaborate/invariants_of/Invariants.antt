use Rattle.std.proofs.Common.{◌≡◌, drop}
use Rattle.type_check.specs.Answers.{gather}
use Rattle.type_check.specs.Typing.{invariant_of}
use Rattle.type_check.proofs.PartByPart.{gather_left}
use Rattle.type_check.proofs.elaborate.invariants_of.Given as goal

abbrev pub invariant-loop-attribute : goal.invariant-loop-attribute
invariant-loop-attribute l = gather (invariant_of l.types l.scope) l.attributes ≡ gather_left (invariant_of l.types l.scope) (drop l.attribute-index l.attributes) l.invariants.items
