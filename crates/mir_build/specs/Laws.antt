-- What is true of each program that lowers: it lowers in one way, and where it fits and is plain, the conditions hold under which true
-- obligations make its bodies good.
use Rattle.std.specs.Prelude.{◌≡◌, ℕ, ◌≤◌, false, List, length, drop, Some, slice_get, []}
use Rattle.std.specs.List.{All}
use Rattle.text_core.specs.declared.name.Name.{Name}
use Rattle.logic_term.specs.declared.declaration.AdtDecl.{AdtDecl}
use Rattle.logic_term.specs.declared.kinds.Label.{Label}
use Rattle.logic_term.specs.declared.obligation.Contract.{Contract}
use Rattle.logic_term.specs.Ty.{Ty}
use Rattle.mir_ir.specs.declared.body.Block.{Block}
use Rattle.mir_ir.specs.declared.body.Body.{Body}
use Rattle.mir_ir.specs.declared.body.Contracts.{Contracts}
use Rattle.mir_ir.specs.declared.body.Head.{Head}
use Rattle.mir_ir.specs.declared.body.Initialised.{Initialised}
use Rattle.mir_ir.specs.declared.body.Point.{Point}
use Rattle.mir_ir.specs.declared.place.Place.{Place}
use Rattle.mir_ir.specs.Body.{block_in}
use Rattle.mir_ir.specs.Layout.{IsLaidOut}
use Rattle.mir_ir.specs.WellFormed.{AreSound, Labelling, MeetsMoveRows}
use Rattle.type_check.specs.declared.program.TypedFunction.{TypedFunction}
use Rattle.type_check.specs.declared.program.TypedProgram.{TypedProgram}
use Rattle.type_check.specs.VariableNames.{variable_name, answer_name}
use Rattle.runnable.specs.Plain.{EachIsPlain}
use Rattle.runnable.specs.Runs.{Runs}
use Rattle.type_check.specs.WellTyped.{EachFits, signatures}
use Rattle.mir_build.specs.Lowering.{LowerTo, HasMoreBlocks}
use Rattle.mir_ir.specs.declared.body.Bodies.{Bodies}
use Rattle.mir_ir.specs.Names.{LocalsAreNamed, ContractSpeaks, HeadsSpeak}

-- no local has the name of a variable or of the answer
pub record LocalsAreNoVariables (b : Body) : Type 0 where
  pub no_variable : (x k : ℕ) (n : Name) → slice_get b.names x ≡ Some n → n.0 ≡ (variable_name k).0 → ⊥
  pub no_answer : (x : ℕ) (n : Name) → slice_get b.names x ≡ Some n → n.0 ≡ answer_name.0 → ⊥

-- an invariant speaks of locals alone, each of which is initialised at its head, and has a span, and what is initialised there is not gone
pub record HeadsAreThere (b : Body) (gone : Initialised) (at : Labelling) : Type 0 where
  pub over : HeadsSpeak b [] at
  pub spans : (l : Label) (k : Block) (h : Head) → block_in b.blocks l ≡ Some k → k.head ≡ Some h → length h.spans ≡ length h.invariants
  pub there : (j m : ℕ) (g : Point × List Place) (p : Place) → slice_get gone.gone j ≡ Some g → slice_get g.1 m ≡ Some p → at g.0.label 0 p.local ≡ false

-- no parameter has the answer's name, and each `ensures` has a span
pub record EnsuresAreWhole (c : Contract) : Type 0 where
  pub no_answer : (i : ℕ) (n : Name) → slice_get c.params i ≡ Some n → n.0 ≡ c.answer.0 → ⊥
  pub spans : length (drop (length c.pre) c.spans) ≡ length c.post

-- ---- lowering determines what it gives

abbrev pub ProgramsLowerInOneWay : Type 0
ProgramsLowerInOneWay = (table : List (List ℕ)) (ds : List AdtDecl) (fs : List TypedFunction) (bs bs' : Bodies) (cs cs' : Contracts) (gones gones' : List Initialised)
    → LowerTo table ds fs bs cs gones → LowerTo table ds fs bs' cs' gones' → (bs ≡ bs') × (cs ≡ cs') × (gones ≡ gones')

-- a program has more blocks than the bound only where some body that it lowers to has
abbrev pub BlocksAreCounted : Type 0
BlocksAreCounted = (table : List (List ℕ)) (ds : List AdtDecl) (p : TypedProgram) (bs : Bodies) (cs : Contracts) (gones : List Initialised) (bound : ℕ)
    → LowerTo table ds p.functions bs cs gones → All (λ (b : Body). length b.blocks ≤ bound) bs.bodies → HasMoreBlocks p bound → ⊥

-- ---- the laws of plain programs that fit

-- each function lowers to a body, a contract and gone places, and the functions fit and are plain
pub record Lowers (table : List (List ℕ)) (ds : List AdtDecl) (fs : List TypedFunction) (bs : Bodies) (cs : Contracts) (gones : List Initialised) : Type 0 where
  pub lowers : LowerTo table ds fs bs cs gones
  pub fits : EachFits ds (signatures fs) fs
  pub plain : EachIsPlain ds fs

abbrev pub BodiesAreSound : Type 0
BodiesAreSound = (table : List (List ℕ)) (ds : List AdtDecl) (fs : List TypedFunction) (bs : Bodies) (cs : Contracts) (gones : List Initialised) → Lowers table ds fs bs cs gones → AreSound bs

abbrev pub BodiesAreLaidOut : Type 0
BodiesAreLaidOut = (table : List (List ℕ)) (ds : List AdtDecl) (fs : List TypedFunction) (bs : Bodies) (cs : Contracts) (gones : List Initialised) → Lowers table ds fs bs cs gones → (n : ℕ) (b : Body) → slice_get bs.bodies n ≡ Some b → IsLaidOut b

abbrev pub LocalsHaveNames : Type 0
LocalsHaveNames = (table : List (List ℕ)) (ds : List AdtDecl) (fs : List TypedFunction) (bs : Bodies) (cs : Contracts) (gones : List Initialised) → Lowers table ds fs bs cs gones → (n : ℕ) (b : Body) → slice_get bs.bodies n ≡ Some b → LocalsAreNamed b × LocalsAreNoVariables b

abbrev pub LocalsHaveBuiltTypes : Type 0
LocalsHaveBuiltTypes = (table : List (List ℕ)) (ds : List AdtDecl) (fs : List TypedFunction) (bs : Bodies) (cs : Contracts) (gones : List Initialised) → Lowers table ds fs bs cs gones
    → (n : ℕ) (b : Body) → slice_get bs.bodies n ≡ Some b → (x : ℕ) (t : Ty) → slice_get b.locals x ≡ Some t → Runs ds t

-- there are labellings that meet the rows of moves and by which heads speak of what is there
abbrev pub HeadsSpeakOfWhatIsThere : Type 0
HeadsSpeakOfWhatIsThere = (table : List (List ℕ)) (ds : List AdtDecl) (fs : List TypedFunction) (bs : Bodies) (cs : Contracts) (gones : List Initialised) → Lowers table ds fs bs cs gones
    → (at : ℕ → Labelling) × ((n : ℕ) (b : Body) (gone : Initialised) → slice_get bs.bodies n ≡ Some b → slice_get gones n ≡ Some gone → MeetsMoveRows b (at n) × HeadsAreThere b gone (at n))

-- each body has a contract and gone places
abbrev pub ContractsSpeakOfParameters : Type 0
ContractsSpeakOfParameters = (table : List (List ℕ)) (ds : List AdtDecl) (fs : List TypedFunction) (bs : Bodies) (cs : Contracts) (gones : List Initialised) → Lowers table ds fs bs cs gones
    → (n : ℕ) (b : Body) → slice_get bs.bodies n ≡ Some b → (c : Contract) × (gone : Initialised) × (slice_get cs.of n ≡ Some c) × (slice_get gones n ≡ Some gone) × ContractSpeaks b c × EnsuresAreWhole c
