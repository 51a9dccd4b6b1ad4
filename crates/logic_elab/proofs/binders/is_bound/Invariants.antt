use Rattle.std.proofs.Common.{◌≡◌, drop}
use Rattle.logic_elab.specs.Binders.{is_bound}
use Rattle.logic_elab.proofs.binders.is_bound.Given as goal

abbrev pub invariant-loop-symbol : goal.invariant-loop-symbol
invariant-loop-symbol l = is_bound l.name l.symbols ≡ is_bound l.name (drop l.symbol-index l.symbols)
