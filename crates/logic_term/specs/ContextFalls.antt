-- What stands before the last entry is shorter.
use Rattle.std.specs.Prelude.{◌≤◌, max, length}
use Rattle.std.proofs.Common.{arith}
use Rattle.logic_term.specs.ContextView.{entries_of}
use Rattle.logic_term.specs.declared.context.Link.{Link}
use Rattle.logic_term.specs.declared.context.Link.TheVariants as link
use Rattle.logic_term.specs.declared.context.Context.TheDeep.{deep-Link}

pub falls : (n : Link) → max (deep-Link n) 0 ≤ length (entries_of n)
falls link.Start = omega arith
falls (link.After e es) = omega arith
