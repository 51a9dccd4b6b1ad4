use Rattle.std.proofs.Common.{◌≡◌, drop}
use Rattle.mir_machine.specs.Taken.{take_more, IsEven, GoesBack, statement_of}
use Rattle.mir_machine.proofs.taken.take_all.Given as goal

abbrev pub invariant-loop-operand : goal.invariant-loop-operand
invariant-loop-operand l = record {
  so_far : take_more l.fn.state l.fn.taken.trees.items l.operands ≡ take_more l.state l.taken.trees.items (drop l.operand-index l.operands);
  even : IsEven l.taken;
  back : GoesBack l.fn.taken l.fn.state l.taken l.state;
  stays : statement_of l.state ≡ statement_of l.fn.state;
}
