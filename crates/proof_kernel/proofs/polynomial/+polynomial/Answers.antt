use Rattle.std.proofs.Common.{arith}
use Rattle.proof_kernel.proofs.Found.{none_says}
use Rattle.proof_kernel.proofs.Operands.{outer_within, outer_too_wide}
use Rattle.proof_kernel.proofs.polynomial.+polynomial.Goals as goal

pub polynomial-joined_in-requires : goal.polynomial-joined_in-requires
polynomial-joined_in-requires t c =
    let w = outer_within c.loop-outer.around.items c.pop.new.self.items c.in-Some.outer c.loop-outer.so_far c.args.t.now c.in-Some.ensures.items c.loop-outer.invariant in
    (omega (arith, c.decreases, w), tt)

pub polynomial-returns-in-None : goal.polynomial-returns-in-None
polynomial-returns-in-None t c =
    outer_too_wide c.loop-outer.around.items c.pop.new.self.items c.in-Some.outer c.loop-outer.so_far c.args.t.now c.in-Some.ensures.items c.loop-outer.invariant
    (none_says c.in_ok-more.field-0 _ _ c.in-None.is (c.in_ok-more.ensures {u = tt}))
