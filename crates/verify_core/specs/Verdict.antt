-- What the kernel makes of the proofs of a file, and the verdict on the functions of a program.
use Rattle.std.specs.Prelude.{◌≡◌, ℕ, zero, suc, ◌==◌, ◌&&◌, Bool, true, false, List, [], ◌∷◌, length, map, Option, None, Some, slice_get}
use Rattle.std.specs.List.{find}
use Rattle.std.specs.Str.{bytes_eq}
use Rattle.logic_term.specs.declared.obligation.Obligation.{Obligation}
use Rattle.proof_kernel.specs.declared.setting.Tables.{Tables}
use Rattle.proof_kernel.specs.declared.step.Step.{Step}
use Rattle.proof_kernel.specs.Accepts.{Accepts, Refuses}
use Rattle.proof_text.specs.declared.proof.NumberedStep.{NumberedStep}
use Rattle.proof_text.specs.declared.proof.Proof.{Proof}
use Rattle.report_out.specs.declared.verdict.Reason.{Reason}
use Rattle.report_out.specs.declared.verdict.Reason.TheVariants.{Missing, Proof as Refused}
use Rattle.report_out.specs.declared.verdict.LeftItem.{LeftItem}
use Rattle.report_out.specs.declared.verdict.Verdict.{Verdict}
use Rattle.report_out.specs.declared.verdict.FnLine.{FnLine}
use Rattle.mir_machine.specs.Good.{Each}
use Rattle.proof_kernel.specs.Derivation.{IsProof}
use Rattle.prophecy_sim.specs.declared.node.Node.{Node}
use Rattle.prophecy_sim.specs.declared.node.Node.TheVariants.{Function}
use Rattle.prophecy_sim.specs.Programs.{Reaches}
use Rattle.verify_core.specs.declared.owed.Owed.{Owed}
use Rattle.verify_core.specs.declared.program.Program.{Program}
use Rattle.verify_core.specs.Owed.{obligations_in, owed_by}

-- ---- one proof

abbrev pub steps_of : List NumberedStep → List Step
steps_of ns = map (λ n. n.step) ns

-- the line of the step behind so many, or of the proof's end
abbrev pub line_behind : ℕ → List NumberedStep → ℕ → ℕ
line_behind k [] «end» = «end»
line_behind zero (n ∷ ns) «end» = n.line
line_behind (suc k) (n ∷ ns) «end» = line_behind k ns «end»

-- the line at which the kernel refuses the steps: that of the first step that cannot be done, or of the proof's end,
-- where a sequent is left
pub record IsRefusedAt (T : Tables) (o : Obligation) (steps : List NumberedStep) («end» line : ℕ) : Type 0 where
  -- how many steps are done
  pub done : ℕ
  pub refuses : Refuses T o (steps_of steps) done
  pub is_line : line ≡ line_behind done steps «end»

-- ---- one obligation

-- the proof is one of this obligation
abbrev pub is_for : Obligation → Proof → Bool
is_for o p = p.number == o.number && bytes_eq p.owner o.owner

-- proved, or the reason for which it is left
pub data Settles (T : Tables) (ps : List Proof) (o : Obligation) : Option Reason → Type 0 where
  proved : {p : Proof} → find (is_for o) ps ≡ Some p → Accepts T o (steps_of p.steps) → Settles T ps o None
  missing : find (is_for o) ps ≡ None → Settles T ps o (Some Missing)
  refused : {p : Proof} {line : ℕ} → find (is_for o) ps ≡ Some p → IsRefusedAt T o p.steps p.«end» line → Settles T ps o (Some (Refused line))

-- ---- all of them

abbrev pub left_item : Obligation → Reason → LeftItem
left_item o r = record { number = o.number; kind = o.kind; span = o.span; reason = r; owner = o.owner }

-- those that are left, and how many are proved
pub data Judges (T : Tables) (ps : List Proof) : List Obligation → List LeftItem → ℕ → Type 0 where
  none : Judges T ps [] [] 0
  proved : {o : Obligation} {os : List Obligation} {left : List LeftItem} {n : ℕ} → Settles T ps o None → Judges T ps os left n → Judges T ps (o ∷ os) left (suc n)
  left : {o : Obligation} {os : List Obligation} {left : List LeftItem} {n : ℕ} {r : Reason} → Settles T ps o (Some r) → Judges T ps os left n → Judges T ps (o ∷ os) (left_item o r ∷ left) n

-- ---- functions

-- the proof that the file has of the obligation is a derivation of it
pub record HasDerivation (T : Tables) (ps : List Proof) (o : Obligation) : Type 0 where
  pub proof : Proof
  pub is_for_it : find (is_for o) ps ≡ Some proof
  pub derives : IsProof T o (steps_of proof.steps)

-- each obligation that the node owes has a derivation
abbrev pub IsProved : Tables → List Proof → List Owed → Node → Type 0
IsProved T ps os n = Each (HasDerivation T ps) (owed_by n os)

-- all that function f may reach is proved
abbrev pub IsVerified : List Proof → Program → ℕ → Type 0
IsVerified ps p f = (n : Node) → Reaches p.bodies (Function f) n → IsProved p.tables ps p.obligations n

-- the flag says whether the fact holds
abbrev pub Tells : Bool → Type 0 → Type 0
Tells true P = P
Tells false P = P → ⊥

-- there is a line for each body, which says its function's name, and whether it is verified
pub record AreLines (ps : List Proof) (p : Program) (lines : List FnLine) : Type 0 where
  pub names : map (λ l. l.name) lines ≡ map (λ b. b.owner) p.bodies.bodies
  pub told : (f : ℕ) (line : FnLine) → slice_get lines f ≡ Some line → Tells line.verified (IsVerified ps p f)

-- the verdict on the functions of a program
pub record IsVerdict (ps : List Proof) (p : Program) (v : Verdict) : Type 0 where
  pub judged : Judges p.tables ps (obligations_in p.obligations) v.left v.proved
  pub counted : v.obligations ≡ length p.obligations
  pub lines : AreLines ps p v.functions
