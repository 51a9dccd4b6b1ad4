use Rattle.std.proofs.Common.{◌≡◌, drop}
use Rattle.logic_elab.specs.Binders.{symbols_after, symbols_of}
use Rattle.logic_elab.proofs.binders.symbols_of.Given as goal

-- the binders that are left come after these
abbrev pub invariant-loop-binder : goal.invariant-loop-binder
invariant-loop-binder l = symbols_of l.declared l.binders ≡ symbols_after l.declared l.symbols (drop l.binder-index l.binders)
