use Rattle.std.proofs.Common.{◌≡◌, [], drop}
use Rattle.logic_elab.specs.Binders.{inside, meant_under}
use Rattle.logic_elab.proofs.Binding.{meant_from}
use Rattle.logic_elab.proofs.binders.meant_under.Given as goal

-- what is left means the same by what has been found
abbrev pub invariant-loop-binder : goal.invariant-loop-binder
invariant-loop-binder l = meant_from l.name (drop l.binder-index l.bound) l.found ≡ meant_under l.name (inside [] l.bound) l.fn.outside
