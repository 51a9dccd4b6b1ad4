use Rattle.std.proofs.Common.{◌≡◌, length}
use Rattle.logic_term.specs.TermOperator.{quantifier}
use Rattle.logic_elab.specs.Binders.{bound_all}
use Rattle.logic_elab.proofs.binders.bound_all.Given as goal

abbrev pub invariant-loop-symbol : goal.invariant-loop-symbol
invariant-loop-symbol l = bound_all (quantifier l.word) l.symbols l.formula ≡ bound_all (quantifier l.word) l.fn.symbols l.fn.body

abbrev pub decreases-loop-symbol : goal.decreases-loop-symbol
decreases-loop-symbol l = length l.symbols
