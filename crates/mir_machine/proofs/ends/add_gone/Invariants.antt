use Rattle.std.proofs.Common.{◌≡◌, ◌++◌, replicate}
use Rattle.mir_machine.specs.Frame.{State}
use Rattle.mir_machine.specs.Tree.{Gone}
use Rattle.mir_machine.specs.Taken.{IsEven, GoesBack}
use Rattle.mir_machine.proofs.ends.add_gone.Given as goal

abbrev pub invariant-loop : goal.invariant-loop
invariant-loop l = record {
  trees : l.taken.trees.items ≡ l.fn.taken.trees.items ++ replicate l.counter Gone;
  even : IsEven l.taken;
  back : (s : State (Unit {0})) → GoesBack l.fn.taken s l.taken s;
}
