-- What the functions that read answer, beside what the text spells.
use Rattle.std.specs.Prelude.{◌≡◌, ℕ, ◌+◌, List, [], ◌∷◌, length, Bool, true, false, Option, None, Some, Result, Ok, Err, if◌then◌else◌}
use Rattle.std.specs.Str.{is_utf8}
use Rattle.text_core.specs.Names.{text_of}
use Rattle.name_tables.specs.NameTables.{with_names}
use Rattle.text_core.specs.declared.name.Name.{Name}
use Rattle.proof_text.specs.declared.fault.Fault.{Fault}
use Rattle.proof_text.specs.declared.fault.Fault.TheVariants.{Bad, NoMemory}
use Rattle.proof_text.specs.declared.fault.ProofTextError.{ProofTextError}
use Rattle.proof_text.specs.declared.fault.ProofTextError.TheVariants as errors
use Rattle.proof_text.specs.declared.line.Line as code
use Rattle.proof_text.specs.declared.line.Line.TheVariants as lines
use Rattle.proof_text.specs.declared.reader.Stage.{Stage}
use Rattle.proof_text.specs.declared.reader.Stage.TheVariants as stages
use Rattle.proof_text.specs.ProofTextWords.{Each}
use Rattle.proof_kernel.specs.declared.step.Step.{Step}
use Rattle.proof_kernel.specs.declared.step.Step.TheVariants.{ByVariants}
use Rattle.term_texts.specs.TermTexts.{SpellsWholeTerm}
use Rattle.proof_text.specs.ProofTextLines.{NamesLists, SpellsParts, SpellsStep}
use Rattle.proof_text.specs.ProofTextFile.{State, start, between, within, Line, passed, heading, step, «end», IsStepOf, IsProofOf}

-- what was read is as it was said; a fault comes where nothing is said, unless memory ran out
abbrev pub Reads : {X Y : Type 0} → (Y → X → Type 0) → Result X Fault → Option Y → Type 0
Reads R (Ok x) None = ⊥
Reads R (Ok x) (Some y) = R y x
Reads R (Err Bad) said = said ≡ None
Reads R (Err NoMemory) said = Unit {0}

-- the same of several lines
abbrev pub ReadsLines : {X Y : Type 0} → (Y → X → Type 0) → Result X ProofTextError → Result Y ℕ → Type 0
ReadsLines R (Ok x) (Err n) = ⊥
ReadsLines R (Ok x) (Ok y) = R y x
ReadsLines R (Err (errors.BadLine n)) said = said ≡ Err n
ReadsLines R (Err errors.NoMemory) said = Unit {0}

-- each name keeps its text
abbrev pub KeepsNames : List (List ℕ) → List (List ℕ) → Type 0
KeepsNames old new = (name : Name) (text : List ℕ) → text_of old name ≡ Some text → text_of new name ≡ Some text

-- the new table is the old one with names for texts that are named so
abbrev pub GivesTexts : (List (List ℕ) → Type 0) → List (List ℕ) → List (List ℕ) → Type 0
GivesTexts Names old new = (texts : List (List ℕ)) × Names texts × (new ≡ with_names old texts)

-- the step is that by the variants of the enum of such a term, with names of such lists
abbrev pub IsByVariants : List (List ℕ) → List ℕ → List (List ℕ) → Step → Type 0
IsByVariants table text words (ByVariants t names) = SpellsWholeTerm table text t × NamesLists table words names
IsByVariants table text words _ = ⊥

-- the line that was read is of this head and rest
abbrev pub IsHeaded : List (List ℕ) → List ℕ → Option (List ℕ) → Line → code.Line → Type 0
IsHeaded table head rest (heading number owner) (lines.Heading m o) = (number ≡ m) × (owner ≡ o.now)
IsHeaded table head rest step (lines.Step s) = SpellsParts table head rest s
IsHeaded table head rest «end» lines.End = Unit {0}
IsHeaded table head rest _ _ = ⊥

-- the line that was read is of this text
abbrev pub IsLineOf : List (List ℕ) → List ℕ → Line → code.Line → Type 0
IsLineOf table text passed lines.Passed = Unit {0}
IsLineOf table text (heading number owner) (lines.Heading m o) = (number ≡ m) × (owner ≡ o.now)
IsLineOf table text step (lines.Step s) = SpellsStep table text s
IsLineOf table text «end» lines.End = Unit {0}
IsLineOf table text _ _ = ⊥

abbrev pub IsStageOf : List (List ℕ) → State → Stage → Type 0
IsStageOf table start stages.Start = Unit {0}
IsStageOf table (between proofs) (stages.Between done) = Each (IsProofOf table) proofs done
IsStageOf table (within proofs number owner steps) (stages.Within done opened) =
    Each (IsProofOf table) proofs done × (number ≡ opened.number) × (owner ≡ opened.owner.now) × Each (IsStepOf table) steps opened.steps.items
IsStageOf table _ _ = ⊥

abbrev pub is_start : Stage → Bool
is_start stages.Start = true
is_start _ = false

abbrev pub total_length : List (List ℕ) → ℕ
total_length [] = 0
total_length (text ∷ texts) = length text + total_length texts

-- how many names a rest can need: each stands behind a space
abbrev pub room_of : Option (List ℕ) → ℕ
room_of None = 0
room_of (Some rest) = length rest + 1

-- bytes that are text
abbrev pub utf8_of : List ℕ → Option (List ℕ)
utf8_of bytes = if is_utf8 bytes then Some bytes else None
