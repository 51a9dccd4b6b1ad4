-- What the calls that judge obligations add.
use Rattle.std.specs.Prelude.{◌≡◌, ℕ, ◌+◌, Bool, false, List, [], ◌∷◌, ◌++◌, length, map, Option, None, Some, slice_get, slice_set}
use Rattle.mir_ir.specs.declared.body.Body.{Body}
use Rattle.proof_kernel.specs.declared.setting.Tables.{Tables}
use Rattle.proof_text.specs.declared.proof.Proof.{Proof}
use Rattle.prophecy_sim.specs.declared.node.Node.{Node}
use Rattle.prophecy_sim.specs.declared.node.Node.TheVariants.{Function}
use Rattle.report_out.specs.declared.verdict.FnLine.{FnLine}
use Rattle.report_out.specs.declared.verdict.Reason.{Reason}
use Rattle.verify_core.specs.declared.judge.Judged.{Judged}
use Rattle.verify_core.specs.declared.owed.Owed.{Owed}
use Rattle.verify_core.specs.Owed.{obligations_in}
use Rattle.verify_core.specs.Verdict.{Judges, IsProved, Tells, left_item}

-- the flag of the node is not set any more
abbrev pub without_flag : Node → List Bool → List Bool
without_flag (Function n) flags = slice_set flags n false

-- one obligation more is proved, or left for the reason
abbrev pub Tallies : Owed → Option Reason → Judged → Judged → Type 0
Tallies o None before after = (after.left.items ≡ before.left.items) × (after.proved ≡ before.proved + 1) × (after.flags.items ≡ before.flags.items)
Tallies o (Some r) before after = (after.left.items ≡ before.left.items ++ left_item o.obligation r ∷ []) × (after.proved ≡ before.proved) × (after.flags.items ≡ without_flag o.by before.flags.items)

-- there is a flag for each of so many functions, which says whether all that it owes is proved
pub record FlagsTell (T : Tables) (ps : List Proof) (os : List Owed) (many : ℕ) (flags : List Bool) : Type 0 where
  pub as_many : length flags ≡ many
  pub tell : (f : ℕ) (flag : Bool) → slice_get flags f ≡ Some flag → Tells flag (IsProved T ps os (Function f))

-- the obligations are judged
pub record HasJudged (T : Tables) (ps : List Proof) (os : List Owed) (many : ℕ) (j : Judged) : Type 0 where
  pub judges : Judges T ps (obligations_in os) j.left.items j.proved
  pub flags : FlagsTell T ps os many j.flags.items

-- one line for each body: its function's name, and its flag
pub record AreLinesOf (bodies : List Body) (flags : List Bool) (lines : List FnLine) : Type 0 where
  pub names : map (λ l. l.name) lines ≡ map (λ b. b.owner) bodies
  pub verified : map (λ l. l.verified) lines ≡ flags
