-- A flag for each function: whether it is still taken to be verified.
use Rattle.std.specs.Prelude.{◌≡◌, ℕ, suc, Bool, true, false, List, [], ◌∷◌, length, Option, Some, option_and_then, slice_get, slice_set}
use Rattle.std.specs.List.{list_any}
use Rattle.mir_ir.specs.declared.body.Body.{Body}
use Rattle.mir_ir.specs.declared.terminator.Callee.{Callee}
use Rattle.mir_ir.specs.declared.terminator.TerminatorKind.{TerminatorKind}
use Rattle.mir_ir.specs.declared.terminator.TerminatorKind.TheVariants.{Call}
use Rattle.prophecy_sim.specs.declared.node.Node.TheVariants.{Function}
use Rattle.prophecy_sim.specs.Programs.{Reaches}
use Rattle.mir_ir.specs.declared.body.Bodies.{Bodies}
use Rattle.mir_ir.specs.Callees.{callee_of}

abbrev pub is_unset : Option Bool → Bool
is_unset (Some false) = true
is_unset _ = false

-- the callee's flag is not set
abbrev pub callee_unset : Bodies → List Bool → Callee → Bool
callee_unset bodies flags callee = is_unset (option_and_then (slice_get flags) (callee_of bodies callee))

abbrev pub end_calls_unset : Bodies → List Bool → TerminatorKind → Bool
end_calls_unset bodies flags (Call p callee types args l) = callee_unset bodies flags callee
end_calls_unset bodies flags _ = false

-- some block of the body ends with a call of a function whose flag is not set
abbrev pub calls_unset : Bodies → List Bool → Body → Bool
calls_unset bodies flags b = list_any (λ e. end_calls_unset bodies flags e.1.end.kind) b.blocks

-- some function that f may reach is not proved
pub record ReachesOpen (bodies : Bodies) (proved : List Bool) (f : ℕ) : Type 0 where
  pub open_one : ℕ
  pub reaches : Reaches bodies (Function f) (Function open_one)
  pub is_open : slice_get proved open_one ≡ Some false

-- a flag is set only where the function is proved, and unset only where it may reach one that is not
pub record AreJustified (bodies : Bodies) (proved flags : List Bool) : Type 0 where
  pub as_many : length flags ≡ length proved
  pub set : (f : ℕ) → slice_get flags f ≡ Some true → slice_get proved f ≡ Some true
  pub unset : (f : ℕ) → slice_get flags f ≡ Some false → ReachesOpen bodies proved f

-- the flag of the function was unset, since its body calls a function whose flag is not set; or it stays, since there is no cause
abbrev pub Unsets : Bodies → List Bool → List Bool → ℕ → Body → Bool → Type 0
Unsets bodies old new f b true = (slice_get old f ≡ Some true) × (calls_unset bodies old b ≡ true) × (new ≡ slice_set old f false)
Unsets bodies old new f b false = (new ≡ old) × (slice_get old f ≡ Some true → calls_unset bodies old b ≡ false)

-- no function whose flag is set calls one whose flag is not
abbrev pub AreSettled : Bodies → List Bool → Type 0
AreSettled bodies flags = (f : ℕ) (b : Body) → slice_get bodies.bodies f ≡ Some b → slice_get flags f ≡ Some true → calls_unset bodies flags b ≡ false

abbrev pub set_count : List Bool → ℕ
set_count [] = 0
set_count (true ∷ flags) = suc (set_count flags)
set_count (false ∷ flags) = set_count flags
