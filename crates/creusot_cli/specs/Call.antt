-- What a call of the program reads, answers and prints.
use Rattle.std.specs.Prelude.{◌≡◌, ◌⊎◌, ◌↔◌, ℕ, ◌≤◌, List, length, Option, None, Some}
use Rattle.std.specs.Io.KnownBytes.{Appends}
use Rattle.std.specs.Option.{option_map}
use Rattle.text_core.specs.Counts.{Rose}
use Rattle.io_edge.specs.Shelf.{Files, WhereTold, Holds, HoldsLength}
use Rattle.io_edge.specs.Sink.{AppendsPrefix}
use Rattle.mir_machine.specs.Good.{Each}
use Rattle.proof_text.specs.declared.proof.Proof.{Proof}
use Rattle.report_out.specs.declared.verdict.Verdict.{Verdict}
use Rattle.report_out.specs.Report.{report_of, proof_error_line, limit_line, words_error_line}
use Rattle.call_words.specs.Asked.{Asked}
use Rattle.call_words.specs.declared.request.Verb.{Verb}
use Rattle.call_words.specs.declared.request.Verb.TheVariants.{Verify, List as Listing}
use Rattle.verify_core.specs.declared.fault.Refusal.{Refusal}
use Rattle.verify_core.specs.declared.fault.Refusal.TheVariants as refusals
use Rattle.verify_core.specs.declared.program.Program.{Program}
use Rattle.verify_core.specs.Listing.{list_text}
use Rattle.verify_core.specs.OnSource.{AreGood, most_proof_bytes}
use Rattle.verify_core.specs.Owed.{obligations_in}
use Rattle.verify_core.specs.Prepared.{IsPrepared, most_bytes}
use Rattle.verify_core.specs.Verdict.{HasDerivation, IsVerdict}
use Rattle.creusot_cli.specs.Answer.{Fetched, whole, longer, IsWithin, IsProgramOf, RefusesFetched, AreProofs, AnswersList, DoesVerb}
use Rattle.creusot_cli.specs.declared.verify.files.ReadFile.{ReadFile}
use Rattle.creusot_cli.specs.declared.verify.files.ReadFile.TheVariants.{Whole, TooLong}
use Rattle.creusot_cli.specs.declared.verify.answer.Plan.{Plan}
use Rattle.creusot_cli.specs.declared.verify.answer.Opened.{Opened}
use Rattle.creusot_cli.specs.declared.verify.answer.Opened.TheVariants.{Answered, Accepted}

-- ---- reading

abbrev pub fetched : ReadFile → Fetched
fetched (Whole bytes) = whole bytes.items
fetched (TooLong n) = longer n

-- the name holds this, where it is told what it holds
abbrev pub HeldAs : Option Files → List ℕ → Fetched → Type 0
HeldAs shelf name (whole bytes) = WhereTold shelf (Holds name bytes)
HeldAs shelf name (longer n) = WhereTold shelf (HoldsLength name n)

-- what a read of the name may give, of at most so many bytes
pub record IsFetched (shelf : Option Files) (name : List ℕ) (most : ℕ) (f : Fetched) : Type 0 where
  pub held : HeldAs shelf name f
  pub within : IsWithin most f

abbrev pub IsRead : Option Files → List ℕ → ℕ → ReadFile → Type 0
IsRead shelf name most r = IsFetched shelf name most (fetched r)

-- the file of proofs, where one is named
abbrev pub AreFetched : Option Files → Option (List ℕ) → Option Fetched → Type 0
AreFetched shelf None None = Unit {0}
AreFetched shelf None (Some f) = ⊥
AreFetched shelf (Some name) None = ⊥
AreFetched shelf (Some name) (Some f) = IsFetched shelf name most_proof_bytes f

abbrev pub AreRead : Option Files → Option (List ℕ) → Option ReadFile → Type 0
AreRead shelf name r = AreFetched shelf name (option_map fetched r)

-- what the verb reads besides the source
abbrev pub AreFetchedFor : Verb → Option Files → Option (List ℕ) → Option Fetched → Type 0
AreFetchedFor Verify shelf name proofs = AreFetched shelf name proofs
AreFetchedFor Listing shelf name proofs = proofs ≡ None

-- the file of proofs was read with its bound
abbrev pub IsProofsWithin : Option ReadFile → Type 0
IsProofsWithin None = Unit {0}
IsProofsWithin (Some r) = IsWithin most_proof_bytes (fetched r)

-- ---- answers

-- the source is accepted, and this is its program
pub record HasProgram (shelf : Option Files) (a : Asked) (source : List ℕ) (p : Program) : Type 0 where
  pub held : HeldAs shelf a.source (whole source)
  pub short : length source ≤ most_bytes
  pub prepared : IsPrepared source p

-- the status and the bytes printed for what is asked; proofs are read where the source is accepted
pub data Answers (shelf : Option Files) (a : Asked) (status : ℕ) (printed : List ℕ) : Type 0 where
  by_source : (source : Fetched) → IsFetched shelf a.source most_bytes source → RefusesFetched source status printed → Answers shelf a status printed
  by_verb : (source : List ℕ) (p : Program) (proofs : Option Fetched) → HasProgram shelf a source p → AreFetchedFor a.verb shelf a.proofs proofs → DoesVerb a.verb source p proofs status printed → Answers shelf a status printed

-- the same where the words may ask for nothing
abbrev pub AnswersWords : Option Files → Option Asked → ℕ → List ℕ → Type 0
AnswersWords shelf None status bytes = (status ≡ 2) × (bytes ≡ words_error_line)
AnswersWords shelf (Some a) status bytes = Answers shelf a status bytes

-- ---- verified functions

-- The source is accepted. What is printed is the report of the verdict on its functions with the proofs; the status is 0 exactly where each
-- obligation has a derivation among the proofs; and each function that the report lists as verified is good for its contract.
pub record Reports (shelf : Option Files) (a : Asked) (status : ℕ) (before after : Option (List ℕ)) : Type 0 where
  pub source : List ℕ
  pub program : Program
  pub has : HasProgram shelf a source program
  pub read : Option Fetched
  pub are_read : AreFetched shelf a.proofs read
  pub proofs : List Proof
  pub are_proofs : AreProofs program.names read proofs
  pub verdict : Verdict
  pub is_verdict : IsVerdict proofs program verdict
  pub printed : Appends before after (report_of source verdict)
  pub complete : (status ≡ 0) ↔ Each (HasDerivation program.tables proofs) (obligations_in program.obligations)
  pub good : AreGood program verdict

-- the source is accepted, and what is printed is the list of the obligations of its program
pub record ListsAll (shelf : Option Files) (a : Asked) (status : ℕ) (before after : Option (List ℕ)) : Type 0 where
  pub source : List ℕ
  pub program : Program
  pub has : HasProgram shelf a source program
  pub zero : status ≡ 0
  pub printed : Appends before after (list_text program source)

abbrev pub ReportsVerb : Verb → Option Files → Asked → ℕ → Option (List ℕ) → Option (List ℕ) → Type 0
ReportsVerb Verify = Reports
ReportsVerb Listing = ListsAll

-- the words name a source, and this is so of it
abbrev pub ReportsWords : Option Files → Option Asked → ℕ → Option (List ℕ) → Option (List ℕ) → Type 0
ReportsWords shelf None status before after = ⊥
ReportsWords shelf (Some a) status before after = ReportsVerb a.verb shelf a status before after

-- ---- what is printed where not all is

-- nothing, or a front of what is to be printed
abbrev pub PrintsPart : Option Files → Option Asked → Option (List ℕ) → Option (List ℕ) → Type 0
PrintsPart shelf a before after =
    (after ≡ before) ⊎ ((status : ℕ) × (bytes : List ℕ) × AnswersWords shelf a status bytes × AppendsPrefix before after bytes)

-- ---- faults

-- the read faults of the source rose; or those of the file of proofs, where the source is accepted
pub data CannotRead (shelf : Option Files) (before after : List ℕ → ℕ) : Option Asked → Type 0 where
  of_source : {a : Asked} → Rose (before a.source) (after a.source) → CannotRead shelf before after (Some a)
  of_proofs : {a : Asked} (source : List ℕ) (p : Program) (name : List ℕ) → a.verb ≡ Verify → HasProgram shelf a source p → a.proofs ≡ Some name → Rose (before name) (after name) → CannotRead shelf before after (Some a)

-- ---- parts of the code

-- what is answered to a source before proofs are read: it has no program, or the verb reads none
pub data Decides (verb : Verb) (source : Fetched) (status : ℕ) (printed : List ℕ) : Type 0 where
  refused : RefusesFetched source status printed → Decides verb source status printed
  listed : (bytes : List ℕ) (p : Program) → verb ≡ Listing → IsProgramOf source bytes p → AnswersList bytes p status printed → Decides verb source status printed

-- that, or the program, which is to be verified
abbrev pub Opens : Verb → List ℕ → Opened → Type 0
Opens verb source (Answered plan) = Decides verb (whole source) plan.status plan.bytes.items
Opens verb source (Accepted p) = (verb ≡ Verify) × IsProgramOf (whole source) source p

-- the status and the bytes that are printed where proofs are refused for the reason
abbrev pub PlansRefusedProofs : Refusal → Plan → Type 0
PlansRefusedProofs (refusals.Proof line) plan = (plan.status ≡ 4) × (plan.bytes.items ≡ proof_error_line line)
PlansRefusedProofs (refusals.Limit limit) plan = (plan.status ≡ 7) × (plan.bytes.items ≡ limit_line limit)
PlansRefusedProofs (refusals.Source error) plan = ⊥
PlansRefusedProofs refusals.NoMemory plan = ⊥
