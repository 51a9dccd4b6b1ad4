use Rattle.std.proofs.Common.{rules, arith}
use Rattle.std.proofs.lemmas.Grind.{common_steps}
use Rattle.logic_term.proofs.Bound.{above_next}
use Rattle.logic_term.proofs.subst.above_names.Goals as goal

pub loop-i-preserved : goal.loop-i-preserved
loop-i-preserved c = let e = above_next c.args.names.now c.loop-i.i (record { from = record { 0 = 0 }; to = record { 0 = 0 } }) (omega arith) in first_of (search (rules, e), grind (arith, common_steps, e))
