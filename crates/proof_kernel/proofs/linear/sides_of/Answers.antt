use Rattle.std.proofs.Common.{pos}
use Rattle.proof_kernel.specs.declared.step.Reference.TheVariants.{Goal}
use Rattle.proof_kernel.proofs.LinearRefs.{no_rows, rows_more}
use Rattle.proof_kernel.proofs.linear.sides_of.Goals as goal

pub returns-in-None : goal.returns-in-None
returns-in-None c = λ ds r.
    no_rows c.args.q.now c.args.multiples.now c.loop-i.i (record { by = pos 0; of = Goal }) ds c.loop-i-test.true (c.in-None.ensures {u = tt}) r

pub loop-i-preserved : goal.loop-i-preserved
loop-i-preserved c =
    rows_more c.args.q.now c.args.multiples.now c.loop-i.i (record { by = pos 0; of = Goal }) c.loop-i.all.items c.push.new.self.items
    c.in-Some.sides c.loop-i-test.true (c.in-Some.ensures {u = tt}) c.loop-i.invariant (c.in_ok-push-in-Some.ensures {u = tt}).items
