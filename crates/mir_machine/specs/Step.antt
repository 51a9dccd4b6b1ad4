-- One step of the machine, and many. The rows are those of the Rust Reference: "Operator expressions" (overflow, and what
-- panics at `/`, `%` and `-x`), "Type cast expressions", "Expressions" (operands from the left), "if expressions", "Match expressions", and "Call expressions" (the operands
-- are evaluated from the left before the call). Definitions bound no number of frames.
use Rattle.std.specs.Prelude.{ℕ, zero, suc, ◌+◌, ◌-◌, ℤ, pos, neg_ℤ, ◌+ℤ◌, ◌-ℤ◌, ◌*ℤ◌, int_div, int_rem, int_lt, int_le, Bool, true, false, not, cond, List, [], ◌∷◌, ◌++◌, length, replicate, Option, Some, None, slice_get}
use Rattle.std.specs.Ordering.{int_eq}
use Rattle.text_core.specs.declared.refusal.Cause.{Cause}
use Rattle.text_core.specs.declared.refusal.Cause.TheVariants.{Overflow, Division}
use Rattle.text_core.specs.declared.span.Span.{Span}
use Rattle.source_kinds.specs.declared.kinds.IntKind.{IntKind}
use Rattle.logic_term.specs.declared.kinds.Ctor.{Ctor}
use Rattle.logic_term.specs.declared.kinds.Ctor.TheVariants.{Variant}
use Rattle.logic_term.specs.declared.kinds.Label.{Label}
use Rattle.source_kinds.specs.declared.kinds.BinaryOp.{BinaryOp}
use Rattle.source_kinds.specs.declared.kinds.BinaryOp.TheVariants.{Add, Sub, Mul, Div, Rem, Eq, Ne, Lt, Le, Gt, Ge}
use Rattle.source_kinds.specs.Range.{fits}
use Rattle.logic_term.specs.Ty.{Tys, no_tys}
use Rattle.mir_ir.specs.declared.place.Place.{Place}
use Rattle.mir_ir.specs.declared.place.Lit.{Lit}
use Rattle.mir_ir.specs.declared.place.Lit.TheVariants as lit
use Rattle.mir_ir.specs.declared.place.Operand.{Operand}
use Rattle.mir_ir.specs.declared.place.Operand.TheVariants.{Copy, Move, Const}
use Rattle.mir_ir.specs.declared.statement.Rvalue.{Rvalue}
use Rattle.mir_ir.specs.declared.statement.Rvalue.TheVariants.{Use, Binary, Neg, Not, Widen, Make, BoxNew}
use Rattle.mir_ir.specs.declared.statement.StatementKind.{StatementKind}
use Rattle.mir_ir.specs.declared.statement.StatementKind.TheVariants.{Assign, Dead}
use Rattle.mir_ir.specs.declared.statement.Statement.{Statement}
use Rattle.mir_ir.specs.declared.terminator.Callee.{Callee}
use Rattle.mir_ir.specs.declared.terminator.TerminatorKind.{TerminatorKind}
use Rattle.mir_ir.specs.declared.terminator.TerminatorKind.TheVariants.{Goto, If, Switch, Call, Return, Panic}
use Rattle.mir_ir.specs.declared.terminator.Terminator.{Terminator}
use Rattle.mir_ir.specs.declared.body.Body.{Body}
use Rattle.mir_machine.specs.Try.{Try, Yields, Panics, Sticks, ◌>>=◌, need}
use Rattle.mir_machine.specs.Tree.{Tree, Int, Truth, Gone, Made, Boxed, trees_of}
use Rattle.mir_machine.specs.Frame.{Frame, State}
use Rattle.mir_ir.specs.Body.{block_in, place_ty, kind_in}
use Rattle.mir_ir.specs.Callees.{callee_of}
use Rattle.mir_machine.specs.Memory.{is_there, read, write}
use Rattle.mir_ir.specs.declared.body.Bodies.{Bodies}
use Rattle.mir_machine.specs.Code.{Code}

-- ---- right sides

-- the exact integer, or a panic where it is not one of the type
abbrev pub fit : {K : Type 0} → IntKind → Span → ℤ → Try (Tree K)
fit k span z = cond (fits k z) (Yields (Int z)) (Panics Overflow span)

-- f: the quotient, which is cut toward zero, or the remainder. Both panic at 0, and where the quotient is not of the type
abbrev pub divide : {K : Type 0} → IntKind → Span → (ℤ → ℤ → ℤ) → ℤ → ℤ → Try (Tree K)
divide k span f a b = cond (int_eq b (pos 0)) (Panics Division span) (cond (fits k (int_div a b)) (Yields (Int (f a b))) (Panics Overflow span))

-- k: the kind of the place that is written
abbrev pub arithmetic : {K : Type 0} → Option IntKind → (IntKind → Try (Tree K)) → Try (Tree K)
arithmetic k f = need k >>= f

abbrev pub of_integers : {K : Type 0} → Option IntKind → Span → BinaryOp → ℤ → ℤ → Try (Tree K)
of_integers kind span Add a b = arithmetic kind (λ k. fit k span (a +ℤ b))
of_integers kind span Sub a b = arithmetic kind (λ k. fit k span (a -ℤ b))
of_integers kind span Mul a b = arithmetic kind (λ k. fit k span (a *ℤ b))
of_integers kind span Div a b = arithmetic kind (λ k. divide k span int_div a b)
of_integers kind span Rem a b = arithmetic kind (λ k. divide k span int_rem a b)
of_integers kind span Eq a b = Yields (Truth (int_eq a b))
of_integers kind span Ne a b = Yields (Truth (not (int_eq a b)))
of_integers kind span Lt a b = Yields (Truth (int_lt a b))
of_integers kind span Le a b = Yields (Truth (int_le a b))
of_integers kind span Gt a b = Yields (Truth (int_lt b a))
of_integers kind span Ge a b = Yields (Truth (int_le b a))

abbrev pub same_truth : Bool → Bool → Bool
same_truth true b = b
same_truth false b = not b

abbrev pub of_truths : {K : Type 0} → BinaryOp → Bool → Bool → Try (Tree K)
of_truths Eq a b = Yields (Truth (same_truth a b))
of_truths Ne a b = Yields (Truth (not (same_truth a b)))
of_truths _ a b = Sticks

abbrev pub binary : {K : Type 0} → Option IntKind → Span → BinaryOp → Tree K → Tree K → Try (Tree K)
binary kind span op (Int a) (Int b) = of_integers kind span op a b
binary kind span op (Truth a) (Truth b) = of_truths op a b
binary kind span op _ _ = Sticks

abbrev pub negated : {K : Type 0} → Option IntKind → Span → Tree K → Try (Tree K)
negated kind span (Int z) = arithmetic kind (λ k. fit k span (neg_ℤ z))
negated kind span _ = Sticks

-- a tree that has to be a truth value
abbrev pub truth_of : {K : Type 0} → Tree K → Try Bool
truth_of (Truth b) = Yields b
truth_of _ = Sticks

abbrev pub inverted : {K : Type 0} → Tree K → Try (Tree K)
inverted t = truth_of t >>= λ b. Yields (Truth (not b))

abbrev pub literal : {K : Type 0} → Lit → Tree K
literal (lit.Int z k) = Int z
literal (lit.Bool b) = Truth b

-- a tree, and the state after it was taken
abbrev pub Taken : Type 0 → Type 0
Taken K = State K × Tree K

abbrev pub operand : {K : Type 0} → State K → Operand → Try (Taken K)
operand s (Copy p) = read s p >>= λ t. Yields (s, t)
operand s (Move p) = do
  t ← read s p
  s' ← write s p Gone
  Yields (s', t)
operand s (Const l) = Yields (s, literal l)

-- operands from the left
abbrev pub operands : {K : Type 0} → State K → List Operand → Try (State K × List (Tree K))
operands s [] = Yields (s, [])
operands s (o ∷ os) = do
  (s₁, t) ← operand s o
  (s₂, ts) ← operands s₁ os
  Yields (s₂, t ∷ ts)

abbrev pub rvalue : {K : Type 0} → State K → Option IntKind → Span → Rvalue → Try (Taken K)
rvalue s kind span (Use o) = operand s o
rvalue s kind span (Binary op a b) = do
  (s₁, x) ← operand s a
  (s₂, y) ← operand s₁ b
  t ← binary kind span op x y
  Yields (s₂, t)
rvalue s kind span (Neg o) = do
  (s₁, x) ← operand s o
  t ← negated kind span x
  Yields (s₁, t)
rvalue s kind span (Not o) = do
  (s₁, x) ← operand s o
  t ← inverted x
  Yields (s₁, t)
-- the integer stays the same
rvalue s kind span (Widen o k) = operand s o
rvalue s kind span (Make c os) = do
  (s₁, ts) ← operands s os
  Yields (s₁, Made c (trees_of ts))
rvalue s kind span (BoxNew o) = do
  (s₁, t) ← operand s o
  Yields (s₁, Boxed t)

-- ---- steps

pub data Outcome (K : Type 0) : Type 0 where
  Running : State K → Outcome K
  -- with the answer
  Returned : State K → Tree K → Outcome K
  Panicked : Cause → Span → Outcome K
  -- no row applies
  Stuck : Outcome K

abbrev pub outcome_of : {K : Type 0} → Try (Outcome K) → Outcome K
outcome_of (Yields o) = o
outcome_of (Panics cause span) = Panicked cause span
outcome_of Sticks = Stuck

-- the running frame at its next statement
abbrev pub past : {K : Type 0} → State K → Try (State K)
past [] = Sticks
past (f ∷ fs) = Yields (record f { statement = f.statement + 1 } ∷ fs)

-- the running frame at the start of a block
abbrev pub at_label : {K : Type 0} → Label → State K → Try (State K)
at_label l [] = Sticks
at_label l (f ∷ fs) = Yields (record f { label = l; statement = 0 } ∷ fs)

-- the place of a local
abbrev pub whole : ℕ → Place
whole x = record { local = x; path = [] }

abbrev pub statement_step : {K : Type 0} → Body → Tys → State K → Span → StatementKind → Try (State K)
statement_step b θ s span (Assign p r) = do
  (s₁, t) ← rvalue s (kind_in (place_ty b θ p)) span r
  s₂ ← write s₁ p t
  past s₂
statement_step b θ s span (Dead x) = do
  s₁ ← write s (whole x) Gone
  past s₁

-- ---- calls

-- a frame at a body's entry: local 0 is the answer, then come the arguments, and all others are gone
abbrev pub entered : {K : Type 0} → Body → ℕ → Tys → List (Tree K) → Frame K
entered b f θ args = record {
  function = f;
  types = θ;
  label = b.entry;
  statement = 0;
  locals = Gone ∷ (args ++ replicate (length b.locals - 1 - length args) Gone);
}

-- frame 0, which holds these trees
abbrev pub outside : {K : Type 0} → List (Tree K) → Frame K
outside held = record { function = 0; types = no_tys; label = record { 0 = 0 }; statement = 0; locals = held }

-- the new frame of a call; so far bodies have no type parameters
abbrev pub callee_frame : {K : Type 0} → Bodies → Callee → List (Tree K) → Try (Frame K)
callee_frame bodies callee args = do
  n ← need (callee_of bodies callee)
  b ← need (slice_get bodies.bodies n)
  Yields (entered b n no_tys args)

-- the answer of a call goes to the caller's place, and the caller goes on at its label
abbrev pub answered : {K : Type 0} → Tree K → State K → TerminatorKind → Try (State K)
answered t s (Call p callee types os l) = do
  s₁ ← write s p t
  at_label l s₁
answered t s _ = Sticks

-- the outside runs nothing: where it alone is left the run has returned
abbrev pub come_back : {K : Type 0} → Bodies → Tree K → State K → Try (Outcome K)
come_back bodies t [] = Sticks
come_back bodies t (out ∷ []) = Yields (Returned (out ∷ []) t)
come_back bodies t (f ∷ g ∷ fs) = do
  b ← need (slice_get bodies.bodies f.function)
  k ← need (block_in b.blocks f.label)
  s ← answered t (f ∷ g ∷ fs) k.end.kind
  Yields (Running s)

-- the running frame ends, with local 0 as its answer
abbrev pub leave : {K : Type 0} → Bodies → State K → Try (Outcome K)
leave bodies [] = Sticks
leave bodies (f ∷ fs) = do
  t ← need (slice_get f.locals 0)
  t' ← is_there t
  come_back bodies t' fs

-- ---- ends of blocks

-- the variant of a tree that has to be one of a declared type
abbrev pub variant_of_ctor : Ctor → Try ℕ
variant_of_ctor (Variant d v) = Yields v
variant_of_ctor _ = Sticks

abbrev pub variant_of : {K : Type 0} → Tree K → Try ℕ
variant_of (Made c ts) = variant_of_ctor c
variant_of _ = Sticks

-- the label of the variant that the place has
abbrev pub switched : {K : Type 0} → State K → Place → List Label → Try Label
switched s p ls = do
  t ← read s p
  v ← variant_of t
  need (slice_get ls v)

abbrev pub end_step : {K : Type 0} → Code K → State K → Span → TerminatorKind → Try (Outcome K)
end_step code s span (Goto l) = at_label l s >>= λ s'. Yields (Running s')
end_step code s span (If o on_true on_false) = do
  (s₁, t) ← operand s o
  b ← truth_of t
  s₂ ← at_label (cond b on_true on_false) s₁
  Yields (Running s₂)
end_step code s span (Switch p ls) = do
  l ← switched s p ls
  s' ← at_label l s
  Yields (Running s')
end_step code s span (Call p callee types os l) = do
  (s₁, args) ← operands s os
  f ← callee_frame code.program callee args
  Yields (Running (f ∷ s₁))
end_step code s span Return = leave code.program s
end_step code s span (Panic cause) = Panics cause span

-- a block's end comes after its last statement
abbrev pub row : {K : Type 0} → Code K → Body → Tys → State K → Terminator → Option Statement → Try (Outcome K)
row code b θ s end (Some st) = statement_step b θ s st.span st.kind >>= λ s'. Yields (Running s')
row code b θ s end None = end_step code s end.span end.kind

abbrev pub try_step : {K : Type 0} → Code K → State K → Try (Outcome K)
try_step code [] = Sticks
try_step code (f ∷ fs) = do
  b ← need (slice_get code.program.bodies f.function)
  k ← need (block_in b.blocks f.label)
  row code b f.types (f ∷ fs) k.end (slice_get k.statements f.statement)

abbrev pub step : {K : Type 0} → Code K → State K → Outcome K
step code s = outcome_of (try_step code s)

-- a run that has ended stays as it is
abbrev pub next : {K : Type 0} → Code K → Outcome K → Outcome K
next code (Running s) = step code s
next code o = o

-- n steps on
abbrev pub after_from : {K : Type 0} → Code K → ℕ → Outcome K → Outcome K
after_from code zero o = o
after_from code (suc n) o = next code (after_from code n o)

abbrev pub after : {K : Type 0} → Code K → ℕ → State K → Outcome K
after code n s = after_from code n (Running s)
