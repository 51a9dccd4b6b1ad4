-- The program of a source, and why a source has none.
use Rattle.std.specs.Prelude.{◌≡◌, ℕ, ◌+◌, ◌<◌, ◌≤◌, zero, suc, List, [], ◌∷◌, ◌++◌, length, Some, None, slice_get, Ok, Err}
use Rattle.text_core.specs.declared.refusal.Limit.{Limit}
use Rattle.text_core.specs.declared.refusal.LimitKind.TheVariants.{SourceBytes, Blocks, Paths, Obligations}
use Rattle.text_core.specs.declared.refusal.SourceError.{SourceError}
use Rattle.text_core.specs.declared.span.Span.{Span}
use Rattle.logic_term.specs.declared.obligation.Contract.{Contract}
use Rattle.logic_term.specs.declared.obligation.Obligation.{Obligation}
use Rattle.mir_ir.specs.declared.body.Body.{Body}
use Rattle.mir_ir.specs.declared.body.Contracts.{Contracts}
use Rattle.mir_ir.specs.declared.body.Initialised.{Initialised}
use Rattle.wp_gen.specs.Paths.{HasPaths, HasMorePaths}
use Rattle.prophecy_logic.specs.Graph.{Setting, AreObligations}
use Rattle.prophecy_sim.specs.declared.node.Node.TheVariants.{Function}
use Rattle.prophecy_sim.specs.Programs as sim
use Rattle.text_core.specs.declared.fault.PassError.TheVariants as errors
use Rattle.source_words.specs.Words.{GivesNames}
use Rattle.source_trees.specs.declared.item.Item.{Item}
use Rattle.rs_syntax.specs.Parsed.{functions_among, most_functions}
use Rattle.type_check.specs.declared.program.TypedProgram.{TypedProgram}
use Rattle.rs_types.specs.Checked.{AllPass, IsFirst}
use Rattle.type_check.specs.Checked.{checked}
use Rattle.declared_types.specs.DeclaredTypes.{declared_types}
use Rattle.declared_types.specs.Declaring.{checks}
use Rattle.type_check.specs.Answers.{unbuilt}
use Rattle.runnable.specs.Unrun.{first_unrun}
use Rattle.mir_build.specs.Lowering.{LowerTo, HasMoreBlocks}
use Rattle.mir_build.specs.Whole.{HaveFewBlocks}
use Rattle.verify_core.specs.declared.fault.Refusal.{Refusal}
use Rattle.verify_core.specs.declared.fault.Refusal.TheVariants as refusals
use Rattle.verify_core.specs.declared.owed.Owed.{Owed}
use Rattle.verify_core.specs.declared.program.Program.{Program}
use Rattle.verify_core.specs.Built.{SpellsBuilt, IsSourceError}
use Rattle.verify_core.specs.Declarations.{tables_of}
use Rattle.verify_core.specs.Owed.{owing}
use Rattle.mir_ir.specs.declared.body.Bodies.{Bodies}

-- ---- bounds

abbrev pub most_bytes : ℕ
most_bytes = 1048576

abbrev pub most_blocks : ℕ
most_blocks = 4096

abbrev pub most_paths : ℕ
most_paths = 1024

abbrev pub most_obligations : ℕ
most_obligations = 1000000

-- ---- the passes

-- all checks on what the items declare hold
abbrev pub AreInOrder : List Item → Type 0
AreInOrder items = AllPass (declared_types items) (checks items)

-- the source spells these items, all forms in them are built, and there are not too many functions; the table, empty before the source is
-- read, has the names that are in them
pub record HasItems (source : List ℕ) (table : List (List ℕ)) (items : List Item) : Type 0 where
  pub spelled : SpellsBuilt [] source items
  pub few : functions_among items ≤ most_functions
  pub gives : GivesNames [] source table

-- the items of the source declare what they may, and have these names and types; nothing of them is of a kind that does not run yet
pub record IsTypedAs (source : List ℕ) (table : List (List ℕ)) (typed : TypedProgram) : Type 0 where
  pub items : List Item
  pub has : HasItems source table items
  pub in_order : AreInOrder items
  pub is_typed : checked (declared_types items) items ≡ Ok typed
  pub all_run : first_unrun (declared_types items) typed ≡ None

-- ---- obligations

-- what may be gone in function n; nothing past the end
abbrev pub gone_of : List Initialised → ℕ → Initialised
gone_of [] n = record { gone = [] }
gone_of (g ∷ gones) zero = g
gone_of (g ∷ gones) (suc n) = gone_of gones n

abbrev pub program_of : Bodies → Contracts → List Initialised → sim.Program
program_of bs cs gones = record { bodies = bs; contracts = cs; gone = gone_of gones }

-- what the walk of function n looks up
abbrev pub setting_of : Bodies → Contracts → List Initialised → ℕ → Body → Contract → Setting
setting_of bs cs gones = sim.setting (program_of bs cs gones)

-- the obligations of the walk of a body with its contract, from number 1 on
abbrev pub AreOfWalk : Setting → List Obligation → Type 0
AreOfWalk w os = AreObligations w 1 os

-- function n owes these
pub record FunctionOwes (bs : Bodies) (cs : Contracts) (gones : List Initialised) (n : ℕ) (os : List Obligation) : Type 0 where
  pub body : Body
  pub is_body : slice_get bs.bodies n ≡ Some body
  pub contract : Contract
  pub is_contract : slice_get cs.of n ≡ Some contract
  pub of_walk : AreOfWalk (setting_of bs cs gones n body contract) os

-- so many functions, the first ones, owe these, one function behind the other
pub data FunctionsOwe (bs : Bodies) (cs : Contracts) (gones : List Initialised) : ℕ → List Owed → Type 0 where
  none : FunctionsOwe bs cs gones 0 []
  and_function : {n : ℕ} {owed : List Owed} {os : List Obligation} → FunctionsOwe bs cs gones n owed → FunctionOwes bs cs gones n os → FunctionsOwe bs cs gones (suc n) (owed ++ owing (Function n) os)

-- ---- paths

-- each body has at most so many paths
abbrev pub HaveFewPaths : Bodies → Type 0
HaveFewPaths bs = (n : ℕ) (b : Body) → slice_get bs.bodies n ≡ Some b → (m : ℕ) × HasPaths b [] b.entry m × (m ≤ most_paths)

-- some body has more
pub record HasManyPaths (bs : Bodies) : Type 0 where
  pub place : ℕ
  pub body : Body
  pub is_body : slice_get bs.bodies place ≡ Some body
  pub more : HasMorePaths body [] body.entry (most_paths + 1)

-- ---- accepted sources

-- the source is accepted, and this is its program
pub record IsPrepared (source : List ℕ) (p : Program) : Type 0 where
  pub typed : TypedProgram
  pub is_typed : IsTypedAs source p.names typed
  pub gones : List Initialised
  pub lowers : LowerTo p.names (declared_types is_typed.items) typed.functions p.bodies p.contracts gones
  pub blocks : HaveFewBlocks p.bodies
  pub paths : HaveFewPaths p.bodies
  pub tables : p.tables ≡ tables_of p
  pub owed : FunctionsOwe p.bodies p.contracts gones (length p.bodies.bodies) p.obligations
  pub few : length p.obligations ≤ most_obligations

-- ---- refused sources

-- the source is refused for this reason: it is none of the whole grammar, or has a form that is not built; or for what it declares; or by the names
-- and types of its code and formulas; or for the first function or expression that does not run yet, which only its types tell
pub data IsRefused (source : List ℕ) (error : SourceError) : Type 0 where
  by_form : IsSourceError [] source (errors.Source error) → IsRefused source error
  by_declarations : {table : List (List ℕ)} {items : List Item} → HasItems source table items → IsFirst (declared_types items) (checks items) error → IsRefused source error
  by_types : {table : List (List ℕ)} {items : List Item} → HasItems source table items → AreInOrder items → checked (declared_types items) items ≡ Err error → IsRefused source error
  by_running : {table : List (List ℕ)} {items : List Item} {typed : TypedProgram} {place : Span} → HasItems source table items → AreInOrder items → checked (declared_types items) items ≡ Ok typed
      → first_unrun (declared_types items) typed ≡ Some place → error ≡ unbuilt place → IsRefused source error

-- a quantity of the source is past its bound, and those that are counted before it are not
pub data IsPastLimit (source : List ℕ) : Limit → Type 0 where
  bytes : most_bytes < length source → IsPastLimit source (record { kind = SourceBytes; counted = length source; bound = most_bytes })
  functions : {limit : Limit} → IsSourceError [] source (errors.Limit limit) → IsPastLimit source limit
  blocks : {table : List (List ℕ)} {typed : TypedProgram} → IsTypedAs source table typed → HasMoreBlocks typed most_blocks → IsPastLimit source (record { kind = Blocks; counted = most_blocks + 1; bound = most_blocks })
  paths : {table : List (List ℕ)} {typed : TypedProgram} {bs : Bodies} {cs : Contracts} {gones : List Initialised} → (h : IsTypedAs source table typed) → LowerTo table (declared_types h.items) typed.functions bs cs gones → HaveFewBlocks bs → HasManyPaths bs
      → IsPastLimit source (record { kind = Paths; counted = most_paths + 1; bound = most_paths })
  obligations : {table : List (List ℕ)} {typed : TypedProgram} {bs : Bodies} {cs : Contracts} {gones : List Initialised} {many : ℕ} {owed : List Owed} → (h : IsTypedAs source table typed) → LowerTo table (declared_types h.items) typed.functions bs cs gones
      → HaveFewBlocks bs → HaveFewPaths bs → FunctionsOwe bs cs gones many owed → most_obligations < length owed → IsPastLimit source (record { kind = Obligations; counted = most_obligations + 1; bound = most_obligations })

-- why a source has no program
abbrev pub RefusesSource : List ℕ → Refusal → Type 0
RefusesSource source (refusals.Source error) = IsRefused source error
RefusesSource source (refusals.Limit limit) = IsPastLimit source limit
RefusesSource source (refusals.Proof line) = ⊥
RefusesSource source refusals.NoMemory = Unit {0}
