use Rattle.proof_kernel.proofs.Found.{none_says, some_says}
use Rattle.proof_kernel.proofs.LinearOutcome.{forms_none, forms_more}
use Rattle.proof_kernel.proofs.linear.forms.Goals as goal

pub returns-in-None : goal.returns-in-None
returns-in-None c =
    forms_none c.args.all.now c.loop-sides.sides-index c.sides-item.result c.loop-sides-test.true c.sides-item.is
    (none_says c.in_ok-form.field-0 _ _ c.in-None.is (c.in_ok-form.ensures {u = tt}))

pub loop-sides-preserved : goal.loop-sides-preserved
loop-sides-preserved c =
    forms_more c.args.all.now c.loop-sides.sides-index c.sides-item.result c.in-Some.form c.loop-sides.forms c.push.new.self c.loop-sides-test.true c.sides-item.is
    (some_says c.in_ok-form.field-0 _ _ c.in-Some.form c.in-Some.is (c.in_ok-form.ensures {u = tt})) c.loop-sides.invariant (c.in_ok-push-in-Some.ensures {u = tt}).ok
