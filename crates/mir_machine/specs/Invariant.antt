-- The invariant of a run, as a statement over its state: what the locals of each frame hold, by spots, and at which call each frame behind
-- the running one waits. It is what progress and preservation are shown of (Wright and Felleisen 1994, "A Syntactic Approach to Type
-- Soundness").
use Rattle.std.specs.Prelude.{◌≡◌, ℕ, ◌≤◌, true, List, [], ◌∷◌, length, Some, slice_get}
use Rattle.logic_term.specs.declared.kinds.Label.{Label}
use Rattle.logic_term.specs.Sort.{Declarations, instance}
use Rattle.logic_term.specs.Ty.{Ty, Tys, no_tys}
use Rattle.mir_ir.specs.declared.place.Operand.{Operand}
use Rattle.mir_ir.specs.declared.place.Place.{Place}
use Rattle.mir_ir.specs.declared.terminator.Callee.{Callee}
use Rattle.mir_ir.specs.declared.terminator.TerminatorKind.TheVariants.{Call}
use Rattle.mir_ir.specs.declared.body.Block.{Block}
use Rattle.mir_ir.specs.declared.body.Body.{Body}
use Rattle.mir_ir.specs.declared.body.Bodies.{Bodies}
use Rattle.mir_ir.specs.Acts.{acts_of_end}
use Rattle.mir_ir.specs.Body.{block_in, answer_ty}
use Rattle.mir_ir.specs.Callees.{callee_of}
use Rattle.mir_ir.specs.WellFormed.{Locals, Labelling, IsTyped, MeetsMoveRows, all_done}
use Rattle.mir_machine.specs.declared.spot.Spot.{Spot}
use Rattle.mir_machine.specs.Try.{Yields}
use Rattle.mir_machine.specs.Tree.{Tree}
use Rattle.mir_machine.specs.Frame.{Frame, State}
use Rattle.mir_machine.specs.Memory.{tree_at}
use Rattle.mir_machine.specs.Step.{Outcome, Running, Returned, Panicked, Stuck}
use Rattle.mir_machine.specs.Typed.{Met, Typed}
use Rattle.mir_machine.specs.Good.{Each}

-- ---- where frames stand

-- a frame without its trees
pub record Stop : Type 0 where
  pub function : ℕ
  pub types : Tys
  pub label : Label
  pub statement : ℕ

abbrev pub stop_of : {K : Type 0} → Frame K → Stop
stop_of f = record { function = f.function; types = f.types; label = f.label; statement = f.statement }

abbrev pub stops : {K : Type 0} → State K → List Stop
stops [] = []
stops (f ∷ fs) = stop_of f ∷ stops fs

-- ---- what locals hold

-- the whole of local x of the frame of this number
abbrev pub local_at : ℕ → ℕ → Spot
local_at frame x = record { frame = frame; local = x; path = [] }

-- the tree has the type in the state. So far what it refers to stands outside
pub record HasType {K : Type 0} (Δ : Declarations) (s : State K) (ty : Ty) (t : Tree K) : Type 0 where
  pub met : List Met
  pub typed : Typed Δ s t ty met
  pub outer : Each (λ r. r.place.frame ≡ 0) met

-- in the state the frame of this number has a tree for each local of the body, and those of the set have their types
pub record HoldsLocals {K : Type 0} (Δ : Declarations) (s : State K) (frame : ℕ) (b : Body) (θ : Tys) (set : Locals) : Type 0 where
  pub slot : (x : ℕ) (ty : Ty) → slice_get b.locals x ≡ Some ty → (t : Tree K) × (tree_at s (local_at frame x) ≡ Yields t)
  pub typed : (x : ℕ) (ty : Ty) (t : Tree K) → set x ≡ true → slice_get b.locals x ≡ Some ty → tree_at s (local_at frame x) ≡ Yields t → HasType Δ s (instance θ ty) t

-- ---- frames that wait

-- behind call c stand frames that wait, the outside last: each waits for the answer of the call before it. W n g c d: in call c the frame
-- of number n, which stands at g, waits for the answer of call d. C is what is told of a call
pub data Behind {C : Type 0} (W : ℕ → Stop → C → C → Type 0) (first : C) : C → List Stop → Type 0 where
  from_outside : {out : Stop} → Behind W first first (out ∷ [])
  one_waits : {g : Stop} {gs : List Stop} {c d : C} → W (length gs) g c d → Behind W first c gs → Behind W first d (g ∷ gs)

-- ---- the states of a run

-- each body is typed, and the sets at its points have only what is surely initialised there
abbrev pub AreLabelled : Bodies → (ℕ → Labelling) → Type 0
AreLabelled bodies labelling = (f : ℕ) (b : Body) → slice_get bodies.bodies f ≡ Some b → IsTyped bodies b × MeetsMoveRows b (labelling f)

-- the stop is in a body, at a block of it
pub record StandsIn (bodies : Bodies) (g : Stop) : Type 0 where
  pub body : Body
  pub is_body : slice_get bodies.bodies g.function ≡ Some body
  -- so far bodies have no type parameters
  pub ground : g.types ≡ no_tys
  pub block : Block
  pub is_block : block_in body.blocks g.label ≡ Some block

module _ {K : Type 0} (Δ : Declarations) (bodies : Bodies) (labelling : ℕ → Labelling) where
  -- in the state the frame of this number runs, and holds what is initialised where it stands
  pub record RunsAt (s : State K) (frame : ℕ) (g : Stop) : Type 0 where
    pub in_body : StandsIn bodies g
    pub within : g.statement ≤ length in_body.block.statements
    pub locals : HoldsLocals Δ s frame in_body.body g.types (labelling g.function g.label g.statement)

  -- the frame stands at its call of a function, which has taken the operands, and holds what was left
  pub record WaitsAt (s : State K) (frame : ℕ) (g : Stop) (caller called : ℕ) : Type 0 where
    pub is_caller : g.function ≡ caller
    pub in_body : StandsIn bodies g
    pub is_last : g.statement ≡ length in_body.block.statements
    pub place : Place
    pub callee : Callee
    pub types : List Ty
    pub operands : List Operand
    pub next : Label
    pub is_call : in_body.block.end.kind ≡ Call place callee types operands next
    pub is_callee : callee_of bodies callee ≡ Some called
    pub locals : HoldsLocals Δ s frame in_body.body g.types (all_done (acts_of_end in_body.block.end.kind) (labelling g.function g.label (length in_body.block.statements)))

  -- the first stop runs, and the others wait behind it, up to the call of function top from outside
  abbrev pub StandTyped : ℕ → State K → List Stop → Type 0
  StandTyped top s [] = ⊥
  StandTyped top s (g ∷ gs) = RunsAt s (length gs) g × Behind (WaitsAt s) top g.function gs

  -- the tree is an answer of the function
  pub record IsAnswerOf (s : State K) (f : ℕ) (t : Tree K) : Type 0 where
    pub body : Body
    pub is_body : slice_get bodies.bodies f ≡ Some body
    pub typed : HasType Δ s (answer_ty body no_tys) t

  -- the call of function top runs, or it has answered or panicked
  abbrev pub IsTypedRun : ℕ → Outcome K → Type 0
  IsTypedRun top (Running s) = StandTyped top s (stops s)
  IsTypedRun top (Returned s t) = IsAnswerOf s top t
  IsTypedRun top (Panicked cause span) = Unit {0}
  IsTypedRun top Stuck = ⊥
