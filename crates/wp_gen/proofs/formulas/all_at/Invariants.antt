use Rattle.std.proofs.Common.{◌≡◌, take}
use Rattle.prophecy_logic.specs.Walk.{all_at}
use Rattle.wp_gen.proofs.formulas.all_at.Given as goal

abbrev pub invariant-loop-term : goal.invariant-loop-term
invariant-loop-term l = l.goals.items ≡ all_at l.kind l.span (take l.term-index l.terms)
