-- How many frames a run has. The machine's definition bounds no number of them; a machine that runs many steps does.
use Rattle.std.specs.Prelude.{◌≡◌, ℕ, ◌<◌, ◌≤◌, [], ◌∷◌, Option, Some, option_and_then, slice_get, length}
use Rattle.text_core.specs.declared.refusal.LimitKind.TheVariants.{Frames}
use Rattle.mir_ir.specs.declared.terminator.TerminatorKind.{TerminatorKind}
use Rattle.mir_ir.specs.declared.terminator.TerminatorKind.TheVariants.{Goto, If, Switch, Call, Return, Panic}
use Rattle.mir_ir.specs.declared.body.Block.{Block}
use Rattle.mir_machine.specs.declared.run_error.RunError.{RunError}
use Rattle.mir_machine.specs.declared.run_error.RunError.TheVariants as run_error
use Rattle.mir_machine.specs.Frame.{Frame, State}
use Rattle.mir_machine.specs.Step.{Outcome, Running, Returned, Panicked, Stuck, next}
use Rattle.mir_machine.specs.Run.{Run, ran}
use Rattle.mir_ir.specs.declared.body.Bodies.{Bodies}
use Rattle.mir_ir.specs.Body.{block_in}
use Rattle.mir_machine.specs.Code.{code_of}

abbrev pub IsCall : TerminatorKind → Type 0
IsCall (Goto l) = ⊥
IsCall (If o on_true on_false) = ⊥
IsCall (Switch p ls) = ⊥
IsCall (Call p callee types os l) = Unit {0}
IsCall Return = ⊥
IsCall (Panic cause) = ⊥

-- the block in which a frame stands
abbrev pub frame_block : {K : Type 0} → Bodies → Frame K → Option Block
frame_block bodies f = option_and_then (λ b. block_in b.blocks f.label) (slice_get bodies.bodies f.function)

-- the frame's next step is a call
abbrev pub StandsAtCall : Bodies → Frame (Unit {0}) → Type 0
StandsAtCall bodies f = (k : Block) × (frame_block bodies f ≡ Some k) × (length k.statements ≤ f.statement) × IsCall k.end.kind

-- a call by the running frame would make more than 10,000 frames, the outside not counted
abbrev pub IsFull : Bodies → State (Unit {0}) → Type 0
IsFull bodies [] = ⊥
IsFull bodies (f ∷ fs) = StandsAtCall bodies f × (10000 ≤ length fs)

-- ---- the frames of a run, the outside not counted

abbrev pub frames_behind : State (Unit {0}) → ℕ
frames_behind [] = 0
frames_behind (f ∷ fs) = length fs

abbrev pub frame_count : Outcome (Unit {0}) → ℕ
frame_count (Running s) = frames_behind s
frame_count (Returned s t) = 0
frame_count (Panicked cause span) = 0
frame_count Stuck = 0

-- how many frames the run has after its next step
abbrev pub next_count : Run → ℕ
next_count m = frame_count (next (code_of m.bodies) m.outcome)

-- the next step is a call that makes more than 10,000 frames
abbrev pub CallsTooDeep : Run → Type 0
CallsTooDeep m = (frame_count m.outcome < next_count m) × (10000 < next_count m)

-- so many steps on from the run, no call has made more than 10,000 frames
abbrev pub StaysInDepth : Run → ℕ → Type 0
StaysInDepth m k = (j : ℕ) → j < k → CallsTooDeep (ran j m) → ⊥

-- why the run stops here
abbrev pub IsCause : Run → RunError → Type 0
IsCause m (run_error.Limit l) = CallsTooDeep m × (l ≡ record { kind = Frames; counted = next_count m; bound = 10000 })
IsCause m run_error.NoMemory = CallsTooDeep m → ⊥

-- the run stands k steps on, at which it has to stop
pub record Halts (old : Run) (n : ℕ) (new : Run) : Type 0 where
  pub steps : ℕ
  pub fewer : steps < n
  pub now : new ≡ ran steps old
  pub in_depth : StaysInDepth old steps
