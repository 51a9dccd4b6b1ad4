-- What is answered to the bytes of a source and of a file of proofs, and what is printed.
use Rattle.std.specs.Prelude.{◌≡◌, ℕ, ◌<◌, ◌≤◌, ◌==◌, List, [], length, Option, None, Some, if◌then◌else◌}
use Rattle.text_core.specs.declared.refusal.Limit.{Limit}
use Rattle.text_core.specs.declared.refusal.LimitKind.TheVariants.{SourceBytes, ProofBytes}
use Rattle.text_core.specs.declared.refusal.SourceError.{SourceError}
use Rattle.proof_text.specs.declared.proof.Proof.{Proof}
use Rattle.proof_text.specs.declared.proof.ProofFile.{ProofFile}
use Rattle.proof_text.specs.ProofTextFile.{SpellsProofs, IsFirstBadLine}
use Rattle.report_out.specs.declared.verdict.Verdict.{Verdict}
use Rattle.report_out.specs.Report.{report_of, source_error_line, proof_error_line, limit_line}
use Rattle.call_words.specs.declared.request.Verb.{Verb}
use Rattle.call_words.specs.declared.request.Verb.TheVariants.{Verify, List as Listing}
use Rattle.verify_core.specs.declared.program.Program.{Program}
use Rattle.verify_core.specs.Listing.{list_text}
use Rattle.verify_core.specs.OnSource.{most_proof_bytes}
use Rattle.verify_core.specs.Prepared.{IsPrepared, IsRefused, IsPastLimit, most_bytes}
use Rattle.verify_core.specs.Verdict.{IsVerdict}

-- what a read gave: all bytes of the file, or its length, where that is more than was asked for
pub data Fetched : Type 0 where
  whole : List ℕ → Fetched
  longer : ℕ → Fetched

-- what a read that asks for at most so many bytes may give
abbrev pub IsWithin : ℕ → Fetched → Type 0
IsWithin most (whole bytes) = length bytes ≤ most
IsWithin most (longer n) = most < n

-- ---- limits of files

abbrev pub source_limit : ℕ → Limit
source_limit n = record { kind = SourceBytes; counted = n; bound = most_bytes }

abbrev pub proofs_limit : ℕ → Limit
proofs_limit n = record { kind = ProofBytes; counted = n; bound = most_proof_bytes }

-- ---- the source

-- the source is these bytes, and accepted, and this is its program
pub record IsProgramOf (source : Fetched) (bytes : List ℕ) (p : Program) : Type 0 where
  pub is_whole : source ≡ whole bytes
  pub short : length bytes ≤ most_bytes
  pub prepared : IsPrepared bytes p

-- the source has no program
pub data RefusesFetched (source : Fetched) : ℕ → List ℕ → Type 0 where
  source_long : {n : ℕ} → source ≡ longer n → most_bytes < n → RefusesFetched source 7 (limit_line (source_limit n))
  source_refused : {bytes : List ℕ} {error : SourceError} → source ≡ whole bytes → length bytes ≤ most_bytes → IsRefused bytes error → RefusesFetched source 3 (source_error_line bytes error)
  limit_passed : {bytes : List ℕ} {limit : Limit} → source ≡ whole bytes → length bytes ≤ most_bytes → IsPastLimit bytes limit → RefusesFetched source 7 (limit_line limit)

-- ---- `verify` of an accepted source

-- no proofs where no file is named; in a file each text has the name that the table of the source gave it, or else the next one
pub data AreProofs (table : List (List ℕ)) : Option Fetched → List Proof → Type 0 where
  absent : AreProofs table None []
  given : {file : ProofFile} (bytes : List ℕ) → length bytes ≤ most_proof_bytes → SpellsProofs table bytes file → AreProofs table (Some (whole bytes)) file.proofs

abbrev pub status_of : Verdict → ℕ
status_of v = if length v.left == 0 then 0 else 1

pub data AnswersVerify (source : List ℕ) (p : Program) (proofs : Option Fetched) : ℕ → List ℕ → Type 0 where
  proofs_long : {n : ℕ} → proofs ≡ Some (longer n) → most_proof_bytes < n → AnswersVerify source p proofs 7 (limit_line (proofs_limit n))
  proofs_refused : {line : ℕ} (bytes : List ℕ) → proofs ≡ Some (whole bytes) → length bytes ≤ most_proof_bytes → IsFirstBadLine bytes line → AnswersVerify source p proofs 4 (proof_error_line line)
  reported : {v : Verdict} (given : List Proof) → AreProofs p.names proofs given → IsVerdict given p v → AnswersVerify source p proofs (status_of v) (report_of source v)

-- ---- `list` of an accepted source

pub data AnswersList (source : List ℕ) (p : Program) : ℕ → List ℕ → Type 0 where
  listed : AnswersList source p 0 (list_text p source)

-- ---- by verb

-- what the verb answers to an accepted source
abbrev pub DoesVerb : Verb → List ℕ → Program → Option Fetched → ℕ → List ℕ → Type 0
DoesVerb Verify source p proofs = AnswersVerify source p proofs
DoesVerb Listing source p proofs = AnswersList source p

-- a source is looked at before its proofs
pub data AnswersOn (verb : Verb) (source : Fetched) (proofs : Option Fetched) (status : ℕ) (printed : List ℕ) : Type 0 where
  by_source : RefusesFetched source status printed → AnswersOn verb source proofs status printed
  by_verb : (bytes : List ℕ) (p : Program) → IsProgramOf source bytes p → DoesVerb verb bytes p proofs status printed → AnswersOn verb source proofs status printed

-- of one verb, source and proofs there is one status and one printed text
abbrev pub AnswersAreOne : Type 0
AnswersAreOne = (verb : Verb) (source : Fetched) (proofs : Option Fetched) (s t : ℕ) (xs ys : List ℕ) → AnswersOn verb source proofs s xs → AnswersOn verb source proofs t ys → (s ≡ t) × (xs ≡ ys)
