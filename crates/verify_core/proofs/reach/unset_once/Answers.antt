use Rattle.std.proofs.Common.{Bool, length, sym, ap, subst, arith}
use Rattle.verify_core.specs.Flags.{Unsets}
use Rattle.verify_core.proofs.RoundLaws.{Round, begins, one_unset, none_unset_there, ends_settled}
use Rattle.verify_core.proofs.reach.unset_once.Goals as goal
use Rattle.verify_core.proofs.reach.unset_once.Goals.{then-unset_one, else-unset_one}

pub loop-function-init : goal.loop-function-init
loop-function-init c = begins c.args.bodies.now c.args.flags.now.items

pub loop-function-preserved : goal.loop-function-preserved
loop-function-preserved c = elim c.if-unset_one.branch [
  | then-unset_one w ↦ subst (Round c.args.bodies.now c.args.flags.now.items (_) c.unset_one.new.flags.items) (sym w.changed-is)
      (one_unset c.args.bodies.now c.args.flags.now.items c.loop-function.function c.loop-function.flags.items c.unset_one.new.flags.items c.loop-function.changed c.index-all-function.result
      (rw c.as_slice-all.ensures at c.loop-function-test.true) (rw c.as_slice-all.ensures at c.index-all-function.is) c.loop-function.invariant
      (subst (λ (did : Bool). Unsets c.args.bodies.now c.loop-function.flags.items c.unset_one.new.flags.items c.loop-function.function c.index-all-function.result did) w.if-unset_one.true c.unset_one.ensures))
  | else-unset_one w ↦ subst (Round c.args.bodies.now c.args.flags.now.items (_) c.unset_one.new.flags.items) (sym w.changed-is)
      (none_unset_there c.args.bodies.now c.args.flags.now.items c.loop-function.function c.loop-function.flags.items c.unset_one.new.flags.items c.loop-function.changed c.index-all-function.result
      (rw c.as_slice-all.ensures at c.loop-function-test.true) (rw c.as_slice-all.ensures at c.index-all-function.is) c.loop-function.invariant
      (subst (λ (did : Bool). Unsets c.args.bodies.now c.loop-function.flags.items c.unset_one.new.flags.items c.loop-function.function c.index-all-function.result did) w.if-unset_one.false c.unset_one.ensures))
]

pub returns-clause-settled : goal.returns-clause-settled
returns-clause-settled c = ends_settled c.args.bodies.now c.args.flags.now.items c.loop-function.function c.loop-function.flags.items c.loop-function.changed (omega (arith, c.loop-function-test.false, ap length c.as_slice-all.ensures)) c.loop-function.invariant
