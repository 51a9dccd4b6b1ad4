use Rattle.std.proofs.Common.{◌≡◌, ℕ, ◌<◌}
use Rattle.mir_machine.specs.Step.{after_from}
use Rattle.mir_machine.specs.Run.{ran, IsRunning}
use Rattle.mir_machine.specs.Depth.{StaysInDepth}
use Rattle.mir_machine.proofs.machine.Machine.run.Given as goal
use Rattle.mir_machine.specs.Code.{code_of}

abbrev pub invariant-loop-taken : goal.invariant-loop-taken
invariant-loop-taken g l = record {
  now : l.self ≡ ran l.taken l.fn.self;
  ran_so_far : (j : ℕ) → j < l.taken → IsRunning (after_from (code_of l.fn.self.bodies) j l.fn.self.outcome);
  in_depth : StaysInDepth l.fn.self l.taken;
}
