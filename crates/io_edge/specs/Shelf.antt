-- What reads and writes of files do, where it is told what each name holds. Names and files are lists of bytes.
use Rattle.std.specs.Prelude.{◌≡◌, ◌≢◌, ℕ, List, length, Option, None, Some}
use Rattle.io_edge.specs.declared.shelf.ShelfError.{ShelfError}
use Rattle.io_edge.specs.declared.shelf.ShelfError.TheVariants.{Failed, TooLong, NoMemory}

-- what each name holds, or nothing
abbrev pub Files : Type 0
Files = List ℕ → Option (List ℕ)

-- `holds` of what is told, if it is told
abbrev pub WhereTold : Option Files → (Files → Type 0) → Type 0
WhereTold None holds = Unit {0}
WhereTold (Some files) holds = holds files

-- what was told is told still, and `holds` of both
abbrev pub WhileTold : Option Files → Option Files → (Files → Files → Type 0) → Type 0
WhileTold None new holds = Unit {0}
WhileTold (Some old) None holds = ⊥
WhileTold (Some old) (Some new) holds = holds old new

-- every other name holds what it held
abbrev pub KeepsOthers : List ℕ → Files → Files → Type 0
KeepsOthers name old new = (other : List ℕ) → other ≢ name → new other ≡ old other

-- the name holds these bytes
abbrev pub Holds : List ℕ → List ℕ → Files → Type 0
Holds name bytes files = files name ≡ Some bytes

-- the name holds a file of this length
abbrev pub HoldsLength : List ℕ → ℕ → Files → Type 0
HoldsLength name n files = (bytes : List ℕ) × Holds name bytes files × (length bytes ≡ n)

-- a fact of the length that is told to be too long
abbrev pub IfTooLong : (ℕ → Type 0) → ShelfError → Type 0
IfTooLong holds Failed = Unit {0}
IfTooLong holds (TooLong n) = holds n
IfTooLong holds NoMemory = Unit {0}
