use Rattle.std.proofs.Common.{◌≤◌}
use Rattle.source_trees.specs.PtermView.{pterm_size}
use Rattle.source_trees.proofs.+pterm.Given as goal

abbrev pub invariant-pterm::Pterm::drop-loop-left : goal.invariant-pterm::Pterm::drop-loop-left
invariant-pterm::Pterm::drop-loop-left l = pterm_size l.self ≤ pterm_size l.fn.self
