use Rattle.proof_kernel.proofs.Found.{none_says, some_says}
use Rattle.proof_kernel.proofs.PolynomialSteps.{products_more, products_too_wide}
use Rattle.proof_kernel.proofs.polynomial.products.Goals as goal

pub returns-in-None : goal.returns-in-None
returns-in-None c =
    products_too_wide c.args.left.now c.args.right.now c.loop-summand.all c.loop-summand.summand-index c.summand-item.result c.loop-summand-test.true c.summand-item.is
    (none_says c.in_ok-more.field-0 _ _ c.in-None.is (c.in_ok-more.ensures {u = tt})) c.loop-summand.invariant

pub loop-summand-preserved : goal.loop-summand-preserved
loop-summand-preserved c =
    products_more c.args.left.now c.args.right.now c.loop-summand.all c.in-Some.more c.loop-summand.summand-index c.summand-item.result c.loop-summand-test.true c.summand-item.is
    (some_says c.in_ok-more.field-0 _ _ c.in-Some.more c.in-Some.is (c.in_ok-more.ensures {u = tt})) c.loop-summand.invariant
