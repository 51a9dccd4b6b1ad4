-- An output that keeps its bytes in memory, and fails at the calls that it was told.
use Rattle.std.specs.Prelude.{◌≡◌, ◌≢◌, ℕ, List, [], length, min, max, Contains}
use Rattle.io_edge.specs.declared.memory_sink.MemorySink.{MemorySink}

-- the bytes taken so far
abbrev pub bytes_of : MemorySink → List ℕ
bytes_of sink = sink.bytes.items

-- the most bytes that one call takes, if not 0
abbrev pub most_each_of : MemorySink → ℕ
most_each_of sink = sink.most_each

-- the numbers of the calls that fail
abbrev pub failing_calls : MemorySink → List ℕ
failing_calls sink = sink.failing.items

-- the number of the last call that had one, from 1; 0 before the first
abbrev pub call_number : MemorySink → ℕ
call_number sink = sink.calls

-- how many calls failed
abbrev pub fault_count : MemorySink → ℕ
fault_count sink = sink.faults

-- the call of this number, with this piece, is to fail
abbrev pub FailsAt : MemorySink → ℕ → List ℕ → Type 0
FailsAt sink number piece = (piece ≢ []) × Contains (failing_calls sink) number

-- how many bytes of a piece a call takes that does not fail
abbrev pub taken_count : MemorySink → List ℕ → ℕ
taken_count sink piece = min (length piece) (max (most_each_of sink) 1)

-- the same bytes at most for each call, and the same calls fail
abbrev pub HasSameSettings : MemorySink → MemorySink → Type 0
HasSameSettings old new = (most_each_of new ≡ most_each_of old) × (failing_calls new ≡ failing_calls old)
