-- What the passes over lowered functions need and answer.
use Rattle.std.specs.Prelude.{◌≡◌, ℕ, ◌+◌, ◌<◌, ◌≤◌, ◌++◌, length, List, Some, slice_get}
use Rattle.text_core.specs.declared.refusal.LimitKind.TheVariants.{Obligations, Paths}
use Rattle.text_core.specs.declared.refusal.Limit.{Limit}
use Rattle.logic_term.specs.declared.declaration.AdtDecl.{AdtDecl}
use Rattle.logic_term.specs.declared.obligation.Contract.{Contract}
use Rattle.logic_term.specs.declared.obligation.Obligation.{Obligation}
use Rattle.prophecy_sim.specs.declared.node.Node.TheVariants.{Function}
use Rattle.mir_ir.specs.declared.body.Body.{Body}
use Rattle.mir_ir.specs.Body.{no_resolves}
use Rattle.mir_ir.specs.Layout.{IsLaidOut}
use Rattle.type_check.specs.declared.program.TypedProgram.{TypedProgram}
use Rattle.declared_types.specs.DeclaredTypes.{declared_types}
use Rattle.mir_build.specs.declared.lowered.Lowered.{Lowered}
use Rattle.prophecy_logic.specs.Graph.{Setting}
use Rattle.prophecy_logic.specs.Walkable.{CanWalk}
use Rattle.verify_core.specs.declared.owed.Owed.{Owed}
use Rattle.verify_core.specs.Owed.{owing}
use Rattle.verify_core.specs.Prepared.{IsTypedAs, gone_of, setting_of, FunctionOwes, FunctionsOwe, HasManyPaths, most_paths, most_obligations}
use Rattle.mir_ir.specs.declared.body.Bodies.{Bodies}

-- the source is typed as this program, and declares these types
pub record IsChecked (source : List ℕ) (table : List (List ℕ)) (typed : TypedProgram) (ds : List AdtDecl) : Type 0 where
  pub typed_as : IsTypedAs source table typed
  pub declares : ds ≡ declared_types typed_as.items

-- the body of this place can be walked, if there is one
abbrev pub CanWalkAt : Lowered → ℕ → Type 0
CanWalkAt l n = (b : Body) (c : Contract) → slice_get l.bodies.bodies n ≡ Some b → slice_get l.contracts.of n ≡ Some c → CanWalk (setting_of l.bodies l.contracts l.gone n b c)

-- there are as many contracts and gone places as bodies; each body has its place as its number, and can be walked
pub record CanWalkAll (l : Lowered) : Type 0 where
  pub contracts : length l.contracts.of ≡ length l.bodies.bodies
  pub gone : length l.gone ≡ length l.bodies.bodies
  pub numbered : (n : ℕ) (b : Body) → slice_get l.bodies.bodies n ≡ Some b → b.id ≡ n
  pub walk : (n : ℕ) → CanWalkAt l n

-- what the walk of the function of this place looks up
pub record IsSettingAt (l : Lowered) (n : ℕ) (w : Setting) : Type 0 where
  pub body : slice_get l.bodies.bodies n ≡ Some w.body
  pub contract : slice_get l.contracts.of n ≡ Some w.contract
  pub contracts : w.contracts ≡ l.contracts
  pub gone : w.init ≡ gone_of l.gone n
  pub resolves : w.resolves ≡ no_resolves
  pub decls : w.decls ≡ l.bodies.decls

-- the obligations of function n stand behind the earlier ones
abbrev pub AddsOwed : Lowered → ℕ → List Owed → List Owed → Type 0
AddsOwed l n before after = (os : List Obligation) × FunctionOwes l.bodies l.contracts l.gone n os × (after ≡ before ++ owing (Function n) os)

-- all functions owe these
abbrev pub AreAllOwed : Lowered → List Owed → Type 0
AreAllOwed l owed = FunctionsOwe l.bodies l.contracts l.gone (length l.bodies.bodies) owed

-- whatever obligations all functions have, they are few enough
abbrev pub HaveFewGoals : Lowered → Type 0
HaveFewGoals l = (owed : List Owed) → AreAllOwed l owed → length owed ≤ most_obligations

-- the first functions have too many obligations
pub record AreTooMany (l : Lowered) : Type 0 where
  pub functions : ℕ
  pub owed : List Owed
  pub owe : FunctionsOwe l.bodies l.contracts l.gone functions owed
  pub many : most_obligations < length owed

abbrev pub IsGoalsError : Lowered → Limit → Type 0
IsGoalsError l limit = AreTooMany l × (limit ≡ record { kind = Obligations; counted = most_obligations + 1; bound = most_obligations })

abbrev pub AreLaidOut : Bodies → Type 0
AreLaidOut bs = (n : ℕ) (b : Body) → slice_get bs.bodies n ≡ Some b → IsLaidOut b

abbrev pub IsPathsError : Bodies → Limit → Type 0
IsPathsError bs l = HasManyPaths bs × (l ≡ record { kind = Paths; counted = most_paths + 1; bound = most_paths })
