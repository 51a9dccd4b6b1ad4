-- The operands that a step takes, one after another, and how they are put back.
use Rattle.std.specs.Prelude.{◌≡◌, ℕ, ◌≤◌, cond, List, [], ◌∷◌, ◌++◌, length, Option, Some, None, slice_get}
use Rattle.text_core.specs.declared.span.Span.{Span}
use Rattle.source_kinds.specs.declared.kinds.IntKind.{IntKind}
use Rattle.logic_term.specs.declared.kinds.Label.{Label}
use Rattle.logic_term.specs.Ty.{Tys, no_tys}
use Rattle.mir_ir.specs.Body.{block_in, place_ty, kind_in}
use Rattle.mir_ir.specs.declared.body.Body.{Body}
use Rattle.mir_ir.specs.declared.body.Bodies.{Bodies}
use Rattle.mir_ir.specs.declared.statement.StatementKind.{StatementKind}
use Rattle.mir_ir.specs.declared.statement.StatementKind.TheVariants.{Assign, Dead}
use Rattle.mir_ir.specs.declared.terminator.Callee.{Callee}
use Rattle.mir_ir.specs.declared.terminator.TerminatorKind.{TerminatorKind}
use Rattle.mir_ir.specs.declared.terminator.TerminatorKind.TheVariants.{Call}
use Rattle.mir_machine.specs.declared.ends.Waiting.{Waiting}
use Rattle.mir_ir.specs.declared.place.Place.{Place}
use Rattle.mir_ir.specs.declared.place.Operand.{Operand}
use Rattle.mir_ir.specs.declared.statement.Rvalue.{Rvalue}
use Rattle.mir_ir.specs.declared.statement.Rvalue.TheVariants.{Use, Binary, Neg, Not, Widen, Make, BoxNew}
use Rattle.mir_machine.specs.declared.spot.Spot.{Spot}
use Rattle.mir_machine.specs.declared.taken.Taken.{Taken}
use Rattle.mir_machine.specs.Try.{Try, Yields, Sticks, ◌>>=◌, need}
use Rattle.mir_machine.specs.Tree.{Tree, Made, Boxed, Gone, trees_of}
use Rattle.mir_machine.specs.Frame.{State}
use Rattle.mir_machine.specs.Memory.{put_at, write, spot_of}
use Rattle.mir_machine.specs.Step.{operand, operands, rvalue, binary, negated, inverted, truth_of, at_label, whole, callee_frame}

-- ---- taking

-- after these trees, that of one operand more
abbrev pub take_one : {K : Type 0} → State K → List (Tree K) → Operand → Try (State K × List (Tree K))
take_one s ts o = operand s o >>= λ r. Yields (r.0, ts ++ r.1 ∷ [])

-- after these trees, those of some operands more
abbrev pub take_more : {K : Type 0} → State K → List (Tree K) → List Operand → Try (State K × List (Tree K))
take_more s ts os = operands s os >>= λ r. Yields (r.0, ts ++ r.1)

abbrev pub operands_of : Rvalue → List Operand
operands_of (Use o) = o ∷ []
operands_of (Binary op a b) = a ∷ b ∷ []
operands_of (Neg o) = o ∷ []
operands_of (Not o) = o ∷ []
operands_of (Widen o k) = o ∷ []
operands_of (Make c os) = os
operands_of (BoxNew o) = o ∷ []

-- a box of the first tree
abbrev pub boxed_first : {K : Type 0} → List (Tree K) → Try (Tree K)
boxed_first ts = do
  t ← need (slice_get ts 0)
  Yields (Boxed t)

-- the value of a right side, from the trees of its operands
abbrev pub value_of : {K : Type 0} → Option IntKind → Span → Rvalue → List (Tree K) → Try (Tree K)
value_of kind span (Use o) ts = need (slice_get ts 0)
value_of kind span (Binary op a b) ts = do
  x ← need (slice_get ts 0)
  y ← need (slice_get ts 1)
  binary kind span op x y
value_of kind span (Neg o) ts = need (slice_get ts 0) >>= negated kind span
value_of kind span (Not o) ts = need (slice_get ts 0) >>= inverted
value_of kind span (Widen o k) ts = need (slice_get ts 0)
value_of kind span (Make c os) ts = Yields (Made c (trees_of ts))
value_of kind span (BoxNew o) ts = boxed_first ts

-- the state in which the place has the right side's value
abbrev pub assigned : {K : Type 0} → State K → Option IntKind → Span → Rvalue → Place → Try (State K)
assigned s kind span r p = do
  (s₁, t) ← rvalue s kind span r
  write s₁ p t

-- where the running frame stands in its block
abbrev pub statement_of : {K : Type 0} → State K → ℕ
statement_of [] = 0
statement_of (f ∷ fs) = f.statement

-- the types for the running function's type parameters
abbrev pub types_of : {K : Type 0} → State K → Tys
types_of [] = no_tys
types_of (f ∷ fs) = f.types

-- the state after a statement, at which the running frame stands still
abbrev pub changed : {K : Type 0} → Body → Tys → State K → Span → StatementKind → Try (State K)
changed b θ s span (Assign p r) = assigned s (kind_in (place_ty b θ p)) span r p
changed b θ s span (Dead x) = write s (whole x) Gone

-- the state after the choice between two blocks
abbrev pub branched : {K : Type 0} → State K → Operand → Label → Label → Try (State K)
branched s o on_true on_false = do
  (s₁, t) ← operand s o
  b ← truth_of t
  at_label (cond b on_true on_false) s₁

-- a call's frame runs before the frames
abbrev pub called_from : {K : Type 0} → Bodies → State K → Callee → List Operand → Try (State K)
called_from bodies s callee os = do
  (s₁, args) ← operands s os
  f ← callee_frame bodies callee args
  Yields (f ∷ s₁)

-- where the running frame waits for an answer
abbrev pub waiting_at : {K : Type 0} → State K → TerminatorKind → Try Waiting
waiting_at s (Call p callee types os l) = spot_of s p >>= λ at. Yields (record { at = at; next = l })
waiting_at s _ = Sticks

abbrev pub waiting : {K : Type 0} → Bodies → State K → Try Waiting
waiting bodies [] = Sticks
waiting bodies (f ∷ fs) = do
  b ← need (slice_get bodies.bodies f.function)
  k ← need (block_in b.blocks f.label)
  waiting_at (f ∷ fs) k.end.kind

-- the state in which the frame that waited has its answer
abbrev pub given : {K : Type 0} → State K → Waiting → Tree K → Try (State K)
given s w t = put_at s w.at t >>= at_label w.next

-- ---- putting back

-- the tree goes back to the spot that the move left; what was copied left none
abbrev pub put_back : {K : Type 0} → State K → Option Spot → Tree K → Try (State K)
put_back s None t = Yields s
put_back s (Some at) t = put_at s at t

-- all go back, the last one first
abbrev pub undone : {K : Type 0} → List (Option Spot) → List (Tree K) → State K → Try (State K)
undone [] ts s = Yields s
undone (l ∷ ls) [] s = Yields s
undone (l ∷ ls) (t ∷ ts) s = undone ls ts s >>= λ s'. put_back s' l t

abbrev pub IsEven : Taken → Type 0
IsEven taken = length taken.left.items ≡ length taken.trees.items

-- from the state s the operands go back so that it is s'
pub record Undoes (taken : Taken) (s s' : State (Unit {0})) : Type 0 where
  pub within : length taken.left.items ≤ length taken.trees.items
  pub leads : undone taken.left.items taken.trees.items s ≡ Yields s'

-- putting back from the second state leads where it led from the first
pub record GoesBack (old : Taken) (s : State (Unit {0})) (new : Taken) (s' : State (Unit {0})) : Type 0 where
  pub back : (s₀ : State (Unit {0})) → Undoes old s s₀ → Undoes new s' s₀
