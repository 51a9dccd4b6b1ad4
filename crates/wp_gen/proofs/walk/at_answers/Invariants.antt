use Rattle.std.proofs.Common.{◌≡◌, take, map}
use Rattle.prophecy_logic.specs.Walk.{at_answer}
use Rattle.wp_gen.proofs.walk.at_answers.Given as goal

abbrev pub invariant-loop-term : goal.invariant-loop-term
invariant-loop-term l = l.all.items ≡ map (at_answer l.body l.contract) (take l.term-index l.contract.post)
