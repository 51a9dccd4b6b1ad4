use Rattle.std.proofs.Common.{◌≡◌, drop}
use Rattle.type_check.specs.Answers.{gather}
use Rattle.type_check.specs.Checked.{declares}
use Rattle.type_check.proofs.PartByPart.{gather_left}
use Rattle.type_check.proofs.declaring.headings_of.Given as goal

abbrev pub invariant-loop-item : goal.invariant-loop-item
invariant-loop-item l = gather (declares l.types) l.items ≡ gather_left (declares l.types) (drop l.item-index l.items) l.headings.items
