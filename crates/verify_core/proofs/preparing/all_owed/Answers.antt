use Rattle.std.proofs.Common.{List, arith, sym, subst}
use Rattle.verify_core.specs.declared.owed.Owed.{Owed}
use Rattle.verify_core.specs.Passes.{AreAllOwed}
use Rattle.verify_core.specs.Prepared.{FunctionsOwe}
use Rattle.verify_core.proofs.PassLaws.{one_more_owes, all_owe}
use Rattle.verify_core.proofs.preparing.all_owed.Goals as goal

pub loop-place-init : goal.loop-place-init
loop-place-init c = rw c.new-owed.ensures.items FunctionsOwe.none

pub loop-place-preserved : goal.loop-place-preserved
loop-place-preserved c = one_more_owes c.args.lowered.now c.loop-place.place c.loop-place.owed.items c.in_ok-owed.owed.items c.loop-place.invariant c.in_ok-owed.ensures

pub returns : goal.returns
returns c =
    subst (λ (owed : List Owed). AreAllOwed c.args.lowered.now owed) (sym c.from_vec.ensures)
    (all_owe c.args.lowered.now c.loop-place.place c.loop-place.owed.items (omega (arith, c.loop-place-test.false)) (omega arith) c.loop-place.invariant)
