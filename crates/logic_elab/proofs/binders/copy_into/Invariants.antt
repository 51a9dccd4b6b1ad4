use Rattle.std.proofs.Common.{◌≡◌, ◌++◌, take}
use Rattle.logic_elab.proofs.binders.copy_into.Given as goal

abbrev pub invariant-loop-symbol : goal.invariant-loop-symbol
invariant-loop-symbol l = l.copies ≡ l.fn.copies ++ take l.symbol-index l.symbols
