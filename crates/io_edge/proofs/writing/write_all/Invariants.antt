use Rattle.std.proofs.Common.{◌≡◌, ◌≤◌, ◌-◌, length, take, None}
use Rattle.std.specs.Io.KnownBytes.{Appends}
use Rattle.io_edge.proofs.writing.write_all.Given as goal

abbrev pub invariant-loop-done : goal.invariant-loop-done
invariant-loop-done g l = record {
  within : l.done ≤ length l.bytes;
  taken : Appends (g.K.Sink.written l.fn.out) (g.K.Sink.written l.out) (take l.done l.bytes);
  untold : g.K.Sink.written l.fn.out ≡ None → g.K.Sink.written l.out ≡ None;
  never_falls : g.K.Sink.faults l.fn.out ≤ g.K.Sink.faults l.out;
}

abbrev pub decreases-loop-done : goal.decreases-loop-done
decreases-loop-done g l = length l.bytes - l.done
