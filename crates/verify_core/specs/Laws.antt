-- What there is one of: the answer about a source, the obligations of functions, the count of paths, and the verdict.
use Rattle.std.specs.Prelude.{◌≡◌, ℕ, ◌<◌, ◌≤◌, Some, None, List, ◌++◌, length}
use Rattle.logic_term.specs.declared.obligation.Contract.{Contract}
use Rattle.logic_term.specs.declared.obligation.Obligation.{Obligation}
use Rattle.mir_ir.specs.declared.body.Contracts.{Contracts}
use Rattle.mir_ir.specs.declared.body.Body.{Body}
use Rattle.mir_ir.specs.declared.body.Initialised.{Initialised}
use Rattle.logic_term.specs.Theory.{Theory}
use Rattle.logic_term.specs.Ty.{Tys}
use Rattle.mir_machine.specs.Good.{IsProper, called}
use Rattle.mir_machine.specs.Step.{Stuck, after}
use Rattle.mir_machine.specs.Tree.{Tree}
use Rattle.mir_machine.specs.Typed.{Met}
use Rattle.proof_text.specs.declared.proof.NumberedStep.{NumberedStep}
use Rattle.proof_text.specs.declared.proof.Proof.{Proof}
use Rattle.report_out.specs.declared.verdict.Reason.{Reason}
use Rattle.report_out.specs.declared.verdict.Verdict.{Verdict}
use Rattle.prophecy_logic.specs.Graph.{Setting, AreObligations}
use Rattle.proof_kernel.specs.declared.setting.Tables.{Tables}
use Rattle.proof_kernel.specs.Accepts.{Accepts}
use Rattle.verify_core.specs.declared.owed.Owed.{Owed}
use Rattle.text_core.specs.declared.refusal.Limit.{Limit}
use Rattle.text_core.specs.declared.refusal.SourceError.{SourceError}
use Rattle.verify_core.specs.declared.program.Program.{Program}
use Rattle.verify_core.specs.Prepared.{FunctionsOwe, HaveFewPaths, HasManyPaths, IsPrepared, IsRefused, IsPastLimit, most_bytes, most_obligations}
use Rattle.verify_core.specs.Verdict.{steps_of, IsRefusedAt, IsVerdict, Settles, HasDerivation}
use Rattle.mir_ir.specs.declared.body.Bodies.{Bodies}
use Rattle.mir_machine.specs.Code.{code_of}

-- ---- obligations

-- a body with its contract has one walk, and one list of obligations from a number on
abbrev pub ObligationsAreOne : Type 0
ObligationsAreOne = (w : Setting) (start : ℕ) (os others : List Obligation) (one : AreObligations w start os) (other : AreObligations w start others) → (os ≡ others) × (one.walk ≡ other.walk)

-- so many of the first functions owe one list
abbrev pub OwedIsOne : Type 0
OwedIsOne = (bs : Bodies) (cs : Contracts) (gones : List Initialised) (n : ℕ) (os others : List Owed) → FunctionsOwe bs cs gones n os → FunctionsOwe bs cs gones n others → os ≡ others

-- what fewer of the first functions owe stands at the front of what more of them do
abbrev pub FewerAreFront : Type 0
FewerAreFront = (bs : Bodies) (cs : Contracts) (gones : List Initialised) (n m : ℕ) (os others : List Owed) → FunctionsOwe bs cs gones n os → FunctionsOwe bs cs gones m others → n ≤ m → (rest : List Owed) × (others ≡ os ++ rest)

-- so they have no more obligations
abbrev pub FewerOweFewer : Type 0
FewerOweFewer = (bs : Bodies) (cs : Contracts) (gones : List Initialised) (n m : ℕ) (os others : List Owed) → FunctionsOwe bs cs gones n os → FunctionsOwe bs cs gones m others → n ≤ m → length os ≤ length others

-- no more functions owe than there are bodies
abbrev pub OwedIsOfBodies : Type 0
OwedIsOfBodies = (bs : Bodies) (cs : Contracts) (gones : List Initialised) (n : ℕ) (os : List Owed) → FunctionsOwe bs cs gones n os → n ≤ length bs.bodies

-- where all functions have few enough obligations, no first functions have too many
abbrev pub FewObligationsAreNotMany : Type 0
FewObligationsAreNotMany = (bs : Bodies) (cs : Contracts) (gones : List Initialised) (n : ℕ) (os firsts : List Owed) → FunctionsOwe bs cs gones (length bs.bodies) os → length os ≤ most_obligations
    → FunctionsOwe bs cs gones n firsts → most_obligations < length firsts → ⊥

-- ---- paths

-- where each body has few enough paths, none has too many
abbrev pub FewPathsAreNotMany : Type 0
FewPathsAreNotMany = (bs : Bodies) → HaveFewPaths bs → HasManyPaths bs → ⊥

-- ---- proofs

-- steps are refused at one line
abbrev pub RefusedAtOneLine : Type 0
RefusedAtOneLine = (T : Tables) (o : Obligation) (steps : List NumberedStep) («end» line other : ℕ) → IsRefusedAt T o steps «end» line → IsRefusedAt T o steps «end» other → line ≡ other

-- and at none where they are accepted
abbrev pub RefusedIsNotAccepted : Type 0
RefusedIsNotAccepted = (T : Tables) (o : Obligation) (steps : List NumberedStep) («end» line : ℕ) → Accepts T o (steps_of steps) → IsRefusedAt T o steps «end» line → ⊥

-- ---- the verdict

-- the proofs of a file give the functions of a program one verdict
abbrev pub VerdictIsOne : Type 0
VerdictIsOne = (ps : List Proof) (p : Program) (v other : Verdict) → IsVerdict ps p v → IsVerdict ps p other → v ≡ other

-- ---- sources

-- a source is accepted with one program
abbrev pub ProgramIsOne : Type 0
ProgramIsOne = (source : List ℕ) (one other : Program) → IsPrepared source one → IsPrepared source other → one ≡ other

-- or refused with one code and place
abbrev pub RefusalIsOne : Type 0
RefusalIsOne = (source : List ℕ) (one other : SourceError) → IsRefused source one → IsRefused source other → one ≡ other

-- or, within its length, past one limit
abbrev pub LimitIsOne : Type 0
LimitIsOne = (source : List ℕ) (one other : Limit) → length source ≤ most_bytes → IsPastLimit source one → IsPastLimit source other → one ≡ other

-- and only one of these
abbrev pub AcceptedIsNotRefused : Type 0
AcceptedIsNotRefused = (source : List ℕ) (p : Program) (error : SourceError) → IsPrepared source p → IsRefused source error → ⊥

abbrev pub AcceptedIsWithinLimits : Type 0
AcceptedIsWithinLimits = (source : List ℕ) (p : Program) (limit : Limit) → length source ≤ most_bytes → IsPrepared source p → IsPastLimit source limit → ⊥

abbrev pub RefusedIsWithinLimits : Type 0
RefusedIsWithinLimits = (source : List ℕ) (error : SourceError) (limit : Limit) → length source ≤ most_bytes → IsRefused source error → IsPastLimit source limit → ⊥

-- ---- each obligation

-- an obligation that is settled as proved has a derivation among the proofs, and one that is left, for whatever reason, has none
abbrev pub SettledHasDerivation : Type 0
SettledHasDerivation = (T : Tables) (ps : List Proof) (o : Obligation) → Settles T ps o None → HasDerivation T ps o

abbrev pub LeftHasNoDerivation : Type 0
LeftHasNoDerivation = (T : Tables) (ps : List Proof) (o : Obligation) (reason : Reason) → Settles T ps o (Some reason) → HasDerivation T ps o → ⊥

-- ---- runs

-- of an accepted source: after a proper call of any function, verified or not, no state is stuck
abbrev pub AcceptedIsNeverStuck : Type 0
AcceptedIsNeverStuck =
    (source : List ℕ) (p : Program) → IsPrepared source p → (Θ : Theory) (f : ℕ) (θ : Tys) (args held : List (Tree (Unit {0}))) (b : Body) (met : List Met) → IsProper Θ p.bodies f θ args held b met
    → (n : ℕ) → after (code_of p.bodies) n (called b f θ args held) ≡ Stuck → ⊥
