-- The verdict on a source with the proofs of a file, and what it is worth.
use Rattle.std.specs.Prelude.{◌≡◌, ℕ, ◌<◌, true, List, length, Some, slice_get}
use Rattle.text_core.specs.declared.refusal.LimitKind.TheVariants.{ProofBytes}
use Rattle.text_core.specs.declared.refusal.Limit.{Limit}
use Rattle.logic_term.specs.declared.obligation.Contract.{Contract}
use Rattle.mir_machine.specs.Good.{Good}
use Rattle.proof_text.specs.declared.proof.ProofFile.{ProofFile}
use Rattle.proof_text.specs.ProofTextFile.{SpellsProofs, IsFirstBadLine}
use Rattle.report_out.specs.declared.verdict.FnLine.{FnLine}
use Rattle.report_out.specs.declared.verdict.Verdict.{Verdict}
use Rattle.verify_core.specs.declared.fault.Refusal.{Refusal}
use Rattle.verify_core.specs.declared.fault.Refusal.TheVariants as refusals
use Rattle.verify_core.specs.declared.program.Program.{Program}
use Rattle.verify_core.specs.Declarations.{declared_of}
use Rattle.verify_core.specs.Prepared.{IsPrepared, IsRefused, IsPastLimit}
use Rattle.verify_core.specs.Verdict.{IsVerdict}

-- the most bytes of a file of proofs
abbrev pub most_proof_bytes : ℕ
most_proof_bytes = 67108864

-- each function that the verdict lists as verified is good for its contract
abbrev pub AreGood : Program → Verdict → Type 0
AreGood p v = (f : ℕ) (line : FnLine) (c : Contract) → slice_get v.functions f ≡ Some line → line.verified ≡ true → slice_get p.contracts.of f ≡ Some c → Good (declared_of p) p.bodies f c

-- the source is accepted, the bytes are a file of proofs, in which each text has the name that the source's table gave it, or else the next
-- one, and this is the verdict
pub record IsVerdictOn (source proofs : List ℕ) (v : Verdict) : Type 0 where
  pub program : Program
  pub prepared : IsPrepared source program
  pub file : ProofFile
  pub spelled : SpellsProofs program.names proofs file
  pub is_verdict : IsVerdict file.proofs program v
  pub good : AreGood program v

pub data IsPastSomeLimit (source proofs : List ℕ) : Limit → Type 0 where
  of_source : {limit : Limit} → IsPastLimit source limit → IsPastSomeLimit source proofs limit
  of_proofs : (p : Program) → IsPrepared source p → most_proof_bytes < length proofs → IsPastSomeLimit source proofs (record { kind = ProofBytes; counted = length proofs; bound = most_proof_bytes })

abbrev pub RefusesProofs : List ℕ → Refusal → Type 0
RefusesProofs proofs (refusals.Source error) = ⊥
RefusesProofs proofs (refusals.Proof line) = IsFirstBadLine proofs line
RefusesProofs proofs (refusals.Limit limit) = (most_proof_bytes < length proofs) × (limit ≡ record { kind = ProofBytes; counted = length proofs; bound = most_proof_bytes })
RefusesProofs proofs refusals.NoMemory = Unit {0}

-- a source is looked at before its proofs, which are refused where it is accepted
abbrev pub Refuses : List ℕ → List ℕ → Refusal → Type 0
Refuses source proofs (refusals.Source error) = IsRefused source error
Refuses source proofs (refusals.Proof line) = ((p : Program) × IsPrepared source p) × IsFirstBadLine proofs line
Refuses source proofs (refusals.Limit limit) = IsPastSomeLimit source proofs limit
Refuses source proofs refusals.NoMemory = Unit {0}
