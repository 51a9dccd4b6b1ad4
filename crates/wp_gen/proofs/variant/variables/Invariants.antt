use Rattle.std.proofs.Common.{◌≡◌, take, map}
use Rattle.logic_term.specs.Term.{var}
use Rattle.wp_gen.proofs.variant.variables.Given as goal

abbrev pub invariant-loop-name : goal.invariant-loop-name
invariant-loop-name l = l.all.items ≡ map var (take l.name-index l.names)
