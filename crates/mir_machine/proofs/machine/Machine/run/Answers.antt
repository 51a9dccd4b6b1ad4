use Rattle.std.proofs.Common.{rules}
use Rattle.mir_machine.specs.Run.{IsRunning}
use Rattle.mir_machine.proofs.Depths.{ran_more, ran_running, ran_in_depth}
use Rattle.mir_machine.proofs.machine.Machine.run.Goals as goal

pub loop-taken-preserved : goal.loop-taken-preserved
loop-taken-preserved g c =
    let m = c.args.self.now in
    let s = c.loop-taken.self in
    let i = c.loop-taken.invariant in
    let running : IsRunning c.loop-taken.self.outcome = search rules in
    record {
      now = ran_more m s c.step.new.self c.loop-taken.taken i.now c.in_ok-step.ensures.ok;
      ran_so_far = ran_running m s c.loop-taken.taken i.now running i.ran_so_far;
      in_depth = ran_in_depth m s c.loop-taken.taken i.now c.in_ok-has_room.ensures.ok i.in_depth;
    }
