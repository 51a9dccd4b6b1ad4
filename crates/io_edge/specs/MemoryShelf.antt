-- Files that are kept in memory, of which reads and writes fail at the calls that were told.
use Rattle.std.specs.Prelude.{◌≡◌, ◌⊎◌, ℕ, List, Option, None, Result, Err, count_by, Contains, String, string_bytes}
use Rattle.std.specs.Option.{option_map}
use Rattle.std.specs.BTreeMap.{BTreeMap, get_by_text}
use Rattle.std.specs.Str.{bytes_eq}
use Rattle.std.specs.Global.{Global, Vec}
use Rattle.io_edge.specs.declared.memory_shelf.MemoryShelf.{MemoryShelf}
use Rattle.io_edge.specs.declared.shelf.ShelfError.{ShelfError}
use Rattle.io_edge.specs.declared.shelf.ShelfError.TheVariants.{NoMemory}

-- what a map of files has under a name
abbrev pub file_in : BTreeMap (String Global) (Vec ℕ) → List ℕ → Option (List ℕ)
file_in files name = option_map (λ file. file.items) (get_by_text files name)

-- what a name holds
abbrev pub held : MemoryShelf → List ℕ → Option (List ℕ)
held shelf name = file_in shelf.files name

-- the numbers of the calls that fail
abbrev pub failing_calls : MemoryShelf → List ℕ
failing_calls shelf = shelf.failing.items

-- the number of the last call, from 1; 0 before the first
abbrev pub call_number : MemoryShelf → ℕ
call_number shelf = shelf.calls

-- how many of these names are this one
abbrev pub times_named : List (String Global) → List ℕ → ℕ
times_named names name = count_by (λ text. bytes_eq name (string_bytes text)) names

-- how many reads of a name failed
abbrev pub read_fault_count : MemoryShelf → List ℕ → ℕ
read_fault_count shelf name = times_named shelf.failed_reads.items name

-- how many writes of a name failed
abbrev pub write_fault_count : MemoryShelf → List ℕ → ℕ
write_fault_count shelf name = times_named shelf.failed_writes.items name

-- the call of this number is to fail
abbrev pub FailsAt : MemoryShelf → ℕ → Type 0
FailsAt shelf number = Contains (failing_calls shelf) number

-- the call, or the read of this name, is to fail
abbrev pub ReadFailsAt : MemoryShelf → ℕ → List ℕ → Type 0
ReadFailsAt shelf number name = FailsAt shelf number ⊎ (held shelf name ≡ None)

-- the answer is this one, if memory was not refused
abbrev pub UnlessNoMemory : {T : Type 0} → Result T ShelfError → Result T ShelfError → Type 0
UnlessNoMemory result answer = (result ≡ answer) ⊎ (result ≡ Err NoMemory)
