use Rattle.std.proofs.Common.{◌≡◌, take, map}
use Rattle.prophecy_logic.specs.Row.{operand_term}
use Rattle.wp_gen.proofs.row.operand_terms.Given as goal

abbrev pub invariant-loop-arg : goal.invariant-loop-arg
invariant-loop-arg l = l.terms.items ≡ map (operand_term l.body) (take l.arg-index l.args)
