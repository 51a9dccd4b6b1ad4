use Rattle.std.proofs.Common.{◌≡◌, drop}
use Rattle.type_check.specs.Answers.{gather}
use Rattle.type_check.specs.Checked.{typed_item}
use Rattle.type_check.proofs.PartByPart.{gather_left}
use Rattle.type_check.proofs.checking.type_items.Given as goal

abbrev pub invariant-loop-item : goal.invariant-loop-item
invariant-loop-item l = gather (typed_item l.types l.headings) l.items ≡ gather_left (typed_item l.types l.headings) (drop l.item-index l.items) l.functions.items
