-- The format of proof files, version 1: which texts are files, of which proofs, and which line is the first bad one.
--
-- A file is lines, each ended by a line feed. The first is `creusot-proofs 1`. After it come proofs, and anywhere lines that are empty
-- or begin with `#`. A proof is a line `proof NUMBER OWNER`, its steps, one on a line, and a line `end`. No two proofs are of the same
-- number and owner. Lines count from 1.
use Rattle.std.specs.Prelude.{◌≡◌, ℕ, ◌+◌, List, [], ◌∷◌, ◌++◌, length, map, codes, false, ◌==◌}
use Rattle.std.specs.List.{list_any, slice_split}
use Rattle.name_tables.specs.NameTables.{with_names}
use Rattle.proof_kernel.specs.declared.step.Step.{Step}
use Rattle.proof_text.specs.declared.proof.NumberedStep.{NumberedStep}
use Rattle.proof_text.specs.declared.proof.Proof.{Proof}
use Rattle.proof_text.specs.declared.proof.ProofFile.{ProofFile}
use Rattle.proof_text.specs.ProofTextLines.{SpellsStep, NamesTexts, IsHeading, IsEnd}

-- ---- the lines of a file

-- empty, or begins with `#`
abbrev pub IsComment : List ℕ → Type 0
IsComment [] = Unit {0}
IsComment (b ∷ bs) = b ≡ 35

-- the lines, of which the first has this number, are these steps, under the table's names
pub data StepLines (table : List (List ℕ)) : ℕ → List (List ℕ) → List NumberedStep → Type 0 where
  no_step : {n : ℕ} → StepLines table n [] []
  comment : {n : ℕ} {text : List ℕ} {texts : List (List ℕ)} {steps : List NumberedStep} → IsComment text → StepLines table (n + 1) texts steps → StepLines table n (text ∷ texts) steps
  one_step : {n : ℕ} {text : List ℕ} {texts : List (List ℕ)} {step : Step} {steps : List NumberedStep} → SpellsStep table text step → StepLines table (n + 1) texts steps →
      StepLines table n (text ∷ texts) (record { line = n; step = step } ∷ steps)

-- the lines, of which the first has this number, are this proof
pub record ProofLines (table : List (List ℕ)) (n : ℕ) (texts : List (List ℕ)) (proof : Proof) : Type 0 where
  pub head : List ℕ
  pub body : List (List ℕ)
  pub foot : List ℕ
  pub whole : texts ≡ head ∷ body ++ foot ∷ []
  pub heads : IsHeading head proof.number proof.owner
  pub steps : StepLines table (n + 1) body proof.steps
  pub ends : IsEnd foot
  pub ends_at : proof.«end» ≡ n + 1 + length body

-- the lines, of which the first has this number, are these proofs
pub data ProofsLines (table : List (List ℕ)) : ℕ → List (List ℕ) → List Proof → Type 0 where
  no_proof : {n : ℕ} → ProofsLines table n [] []
  comment : {n : ℕ} {text : List ℕ} {texts : List (List ℕ)} {proofs : List Proof} → IsComment text → ProofsLines table (n + 1) texts proofs → ProofsLines table n (text ∷ texts) proofs
  one_proof : {n : ℕ} {own texts : List (List ℕ)} {proof : Proof} {proofs : List Proof} → ProofLines table n own proof → ProofsLines table (proof.«end» + 1) texts proofs →
      ProofsLines table n (own ++ texts) (proof ∷ proofs)

-- what a proof is known by: its number and owner
abbrev pub key_of : Proof → ℕ × List ℕ
key_of proof = (proof.number, proof.owner)

-- the number or the owner is another than in each of these
abbrev pub IsOther : ℕ × List ℕ → List (ℕ × List ℕ) → Type 0
IsOther key [] = Unit {0}
IsOther key (other ∷ keys) = ¬ ((key.0 ≡ other.0) × (key.1 ≡ other.1)) × IsOther key keys

-- no two are the same
abbrev pub NoTwoAlike : List (ℕ × List ℕ) → Type 0
NoTwoAlike [] = Unit {0}
NoTwoAlike (key ∷ keys) = IsOther key keys × NoTwoAlike keys

-- the lines are a file of these proofs, under the table's names
pub record HasForm (table lines : List (List ℕ)) (proofs : List Proof) : Type 0 where
  pub others : List (List ℕ)
  pub headed : lines ≡ codes "creusot-proofs 1" ∷ others
  pub proved : ProofsLines table 2 others proofs
  pub distinct : NoTwoAlike (map key_of proofs)

-- the lines name these texts, in order
abbrev pub LinesName : List (List ℕ) → List (List ℕ) → Type 0
LinesName [] texts = texts ≡ []
LinesName (line ∷ lines) texts = (own others : List (List ℕ)) × NamesTexts line own × LinesName lines others × (texts ≡ own ++ others)

-- ---- the text of a file

-- no line feed is in the text
abbrev pub HasNoFeed : List ℕ → Type 0
HasNoFeed text = list_any (λ b. b == 10) text ≡ false

abbrev pub AreLines : List (List ℕ) → Type 0
AreLines [] = Unit {0}
AreLines (text ∷ texts) = HasNoFeed text × AreLines texts

-- the lines, each with a line feed after it
abbrev pub ended : List (List ℕ) → List ℕ
ended [] = []
ended (text ∷ texts) = text ++ 10 ∷ ended texts

-- the bytes are a file of these proofs, under the table's names
pub record IsFileOf (table : List (List ℕ)) (bytes : List ℕ) (proofs : List Proof) : Type 0 where
  pub lines : List (List ℕ)
  pub are_lines : AreLines lines
  pub whole : bytes ≡ ended lines
  pub form : HasForm table lines proofs

-- the lines of the bytes name these texts, in order
abbrev pub BytesName : List ℕ → List (List ℕ) → Type 0
BytesName bytes texts = LinesName (slice_split (λ b. b == 10) bytes) texts

-- the bytes spell the file: a text has the name that the old table gave it, or else the next one, in order of first use
abbrev pub SpellsProofs : List (List ℕ) → List ℕ → ProofFile → Type 0
SpellsProofs old bytes file = (texts : List (List ℕ)) × BytesName bytes texts × IsFileOf (with_names old texts) bytes file.proofs

-- the new table is the old one with names for the texts that the bytes name
abbrev pub HasNamesOf : List (List ℕ) → List ℕ → List (List ℕ) → Type 0
HasNamesOf old bytes new = (texts : List (List ℕ)) × BytesName bytes texts × (new ≡ with_names old texts)

-- ---- the first bad line

-- the lines can be continued to a file, under some table's names
pub record BeginsFile (lines : List (List ℕ)) : Type 0 where
  pub more : List (List ℕ)
  pub are_lines : AreLines more
  pub table : List (List ℕ)
  pub proofs : List Proof
  pub form : HasForm table (lines ++ more) proofs

-- line n is the first bad one: the lines before it can be continued to a file, and with it they cannot. Past the last line feed
-- there is no more line, and what is bad is that the bytes end there: with text that no line feed ends, or too early for a file.
pub data IsFirstBadLine (bytes : List ℕ) : ℕ → Type 0 where
  at_line : (before : List (List ℕ)) (text after : List ℕ) → bytes ≡ ended (before ++ text ∷ []) ++ after → AreLines (before ++ text ∷ []) → BeginsFile before → ¬ (BeginsFile (before ++ text ∷ [])) →
      IsFirstBadLine bytes (length before + 1)
  at_end : (lines : List (List ℕ)) (rest : List ℕ) → bytes ≡ ended lines ++ rest → AreLines lines → HasNoFeed rest → BeginsFile lines →
      ((table : List (List ℕ)) (proofs : List Proof) → ¬ (IsFileOf table bytes proofs)) → IsFirstBadLine bytes (length lines + 1)
