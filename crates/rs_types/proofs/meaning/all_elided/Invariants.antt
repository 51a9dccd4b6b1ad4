use Rattle.std.proofs.Common.{◌≡◌}
use Rattle.rs_types.specs.Meant.{all_elided}
use Rattle.rs_types.proofs.PartByPart.{behind}
use Rattle.rs_types.proofs.meaning.all_elided.Given as goal

abbrev pub invariant-loop-left : goal.invariant-loop-left
invariant-loop-left l = all_elided l.fn.count l.fn.elision l.fn.span ≡ behind l.regions (all_elided l.left l.now l.fn.span)

abbrev pub decreases-loop-left : goal.decreases-loop-left
decreases-loop-left l = l.left
