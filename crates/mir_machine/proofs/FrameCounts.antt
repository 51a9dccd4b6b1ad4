-- How many frames a step leaves: as many as there were, one more at a call, and fewer at a return.
use Rattle.std.proofs.Common.{◌≡◌, ◌∙◌, refl, ℕ, zero, suc, ◌≤◌, ◌==◌, Bool, true, false, cond, List, [], ◌∷◌, length, Option, Some, None, slice_get, slice_set, arith}
use Rattle.text_core.specs.declared.span.Span.{Span}
use Rattle.source_kinds.specs.declared.kinds.IntKind.{IntKind}
use Rattle.logic_term.specs.declared.kinds.Ctor.{Ctor}
use Rattle.logic_term.specs.declared.kinds.Ctor.TheVariants as ctor
use Rattle.logic_term.specs.declared.kinds.Label.{Label}
use Rattle.logic_term.specs.Ty.{Tys, no_tys}
use Rattle.mir_ir.specs.declared.place.Place.{Place}
use Rattle.mir_ir.specs.declared.place.Proj.{Proj}
use Rattle.mir_ir.specs.declared.place.Proj.TheVariants.{Field, Variant, Deref}
use Rattle.mir_ir.specs.declared.place.Operand.{Operand}
use Rattle.mir_ir.specs.declared.place.Operand.TheVariants.{Copy, Move, Const}
use Rattle.mir_ir.specs.declared.statement.Rvalue.{Rvalue}
use Rattle.mir_ir.specs.declared.statement.Rvalue.TheVariants.{Use, Binary, Neg, Not, Widen, Make, BoxNew}
use Rattle.mir_ir.specs.declared.statement.StatementKind.{StatementKind}
use Rattle.mir_ir.specs.declared.statement.StatementKind.TheVariants.{Assign, Dead}
use Rattle.mir_ir.specs.declared.terminator.Callee.{Callee}
use Rattle.mir_ir.specs.declared.terminator.TerminatorKind.{TerminatorKind}
use Rattle.mir_ir.specs.declared.terminator.TerminatorKind.TheVariants.{Goto, If, Switch, Call, Return, Panic}
use Rattle.mir_ir.specs.declared.body.Body.{Body}
use Rattle.mir_ir.specs.declared.body.Bodies.{Bodies}
use Rattle.mir_ir.specs.Body.{block_in, place_ty, kind_in}
use Rattle.mir_ir.specs.Callees.{callee_of}
use Rattle.mir_machine.specs.declared.spot.Spot.{Spot}
use Rattle.mir_machine.specs.Try.{Try, Yields, Panics, Sticks, ◌>>=◌, need}
use Rattle.mir_machine.specs.Tree.{Tree, Trees, Int, Truth, Made, Boxed, Shared, Unique, Gone, nth_tree, trees_of}
use Rattle.mir_machine.specs.Frame.{Frame, State}
use Rattle.mir_machine.specs.Code.{Code}
use Rattle.mir_machine.specs.Memory.{child, with_child, tree_in, put_in, frame_at, set_frame, tree_at, put_at, onward, walk, running, spot_of, is_there, read, write}
use Rattle.mir_machine.specs.Step.{operand, operands, rvalue, binary, negated, inverted, truth_of, switched, past, at_label, whole, statement_step, entered, callee_frame, answered, come_back, end_step, Outcome, Running}
use Rattle.mir_machine.specs.Depth.{IsCall, frames_behind, frame_count}
use Rattle.mir_machine.proofs.Tried.{Quiet, quiet_then, quiet_need, quiet_weaker}
use Rattle.mir_machine.proofs.Undoing.{set_frame-length}

-- ---- what holds of each value that comes

abbrev pub Having : {A : Type 0} → (A → Type 0) → Try A → Type 0
Having P (Yields a) = P a
Having P (Panics cause span) = Unit {0}
Having P Sticks = Unit {0}

pub having_then : {A B : Type 0} (P : A → Type 0) (Q : B → Type 0) (m : Try A) (k : A → Try B) → Having P m → ((a : A) → P a → Having Q (k a)) → Having Q (m >>= k)
having_then P Q (Yields a) k h go = go a h
having_then P Q (Panics c s) k h go = tt
having_then P Q Sticks k h go = tt

-- whatever comes first
pub any_then : {A B : Type 0} (Q : B → Type 0) (m : Try A) (k : A → Try B) → ((a : A) → m ≡ Yields a → Having Q (k a)) → Having Q (m >>= k)
any_then Q (Yields a) k go = go a refl
any_then Q (Panics c s) k go = tt
any_then Q Sticks k go = tt

pub having_weaker : {A : Type 0} (P Q : A → Type 0) (m : Try A) → Having P m → ((a : A) → P a → Q a) → Having Q m
having_weaker P Q (Yields a) h go = go a h
having_weaker P Q (Panics c s) h go = tt
having_weaker P Q Sticks h go = tt

pub having_of : {A : Type 0} (P : A → Type 0) (m : Try A) → Quiet P m → Having P m
having_of P (Yields a) h = h
having_of P (Panics c s) h = absurd h
having_of P Sticks h = tt

-- ---- reading and writing do not panic, and leave as many frames

abbrev NoPanic : {A : Type 0} → Try A → Type 0
NoPanic m = Quiet (λ a. Unit {0}) m

then : {A B : Type 0} (Q : B → Type 0) (m : Try A) (k : A → Try B) → NoPanic m → ((a : A) → Quiet Q (k a)) → Quiet Q (m >>= k)
then Q m k h go = quiet_then (λ a. Unit {0}) Q m k h (λ a _. go a)

need_quiet : {A : Type 0} (o : Option A) → NoPanic (need o)
need_quiet (Some a) = tt
need_quiet None = tt

child_quiet : {K : Type 0} (t : Tree K) (n : ℕ) → NoPanic (child t n)
child_quiet (Made c ts) n = need_quiet (nth_tree ts n)
child_quiet (Boxed t) zero = tt
child_quiet (Boxed t) (suc n) = tt
child_quiet (Int z) n = tt
child_quiet (Truth b) n = tt
child_quiet (Shared at) n = tt
child_quiet (Unique k at) n = tt
child_quiet Gone n = tt

tree_in_quiet : {K : Type 0} (path : List ℕ) (t : Tree K) → NoPanic (tree_in path t)
tree_in_quiet [] t = tt
tree_in_quiet (n ∷ path) t = then (λ a. Unit {0}) (child t n) (tree_in path) (child_quiet t n) (tree_in_quiet path)

put_in_quiet : {K : Type 0} (path : List ℕ) (u t : Tree K) → NoPanic (put_in path u t)
put_in_quiet [] u t = tt
put_in_quiet (n ∷ path) u t =
    then (λ a. Unit {0}) (child t n) (λ c. put_in path u c >>= λ d. Yields (with_child t n d)) (child_quiet t n)
    (λ c. then (λ a. Unit {0}) (put_in path u c) (λ d. Yields (with_child t n d)) (put_in_quiet path u c) (λ d. tt))

frame_at_quiet : {K : Type 0} (s : State K) (n : ℕ) → NoPanic (frame_at s n)
frame_at_quiet [] n = tt
frame_at_quiet {K} (f ∷ fs) n = by (n == length fs) (frame_at_quiet fs n)
  where
    by : (b : Bool) → NoPanic (frame_at fs n) → NoPanic (cond b (Yields f) (frame_at fs n))
    by true h = tt
    by false h = h

tree_at_quiet : {K : Type 0} (s : State K) (at : Spot) → NoPanic (tree_at s at)
tree_at_quiet s at =
    then (λ a. Unit {0}) (frame_at s at.frame) (λ f. need (slice_get f.locals at.local) >>= tree_in at.path) (frame_at_quiet s at.frame)
    (λ f. then (λ a. Unit {0}) (need (slice_get f.locals at.local)) (tree_in at.path) (need_quiet (slice_get f.locals at.local)) (tree_in_quiet at.path))

abbrev AsMany : {K : Type 0} → State K → State K → Type 0
AsMany s s' = length s' ≡ length s

put_at_keeps : {K : Type 0} (s : State K) (at : Spot) (u : Tree K) → Quiet (AsMany s) (put_at s at u)
put_at_keeps {K} s at u =
    let set : Frame K → Tree K → Try (State K) = λ f t'. Yields (set_frame s at.frame (record f { locals = slice_set f.locals at.local t' })) in
    then (AsMany s) (frame_at s at.frame) (λ f. need (slice_get f.locals at.local) >>= λ t. put_in at.path u t >>= set f) (frame_at_quiet s at.frame)
    (λ f. then (AsMany s) (need (slice_get f.locals at.local)) (λ t. put_in at.path u t >>= set f) (need_quiet (slice_get f.locals at.local))
    (λ t. then (AsMany s) (put_in at.path u t) (set f) (put_in_quiet at.path u t) (λ t'. set_frame-length s at.frame (record f { locals = slice_set f.locals at.local t' }))))

chosen_quiet : (b : Bool) (at : Spot) → NoPanic (cond b (Yields at) Sticks)
chosen_quiet true at = tt
chosen_quiet false at = tt

made_quiet : {K : Type 0} (c : Ctor) (ts : Trees K) (at : Spot) (p : Proj) → NoPanic (onward {K = K} (Made c ts) at p)
made_quiet c ts at (Field n) = tt
made_quiet (ctor.Variant d v) ts at (Variant n) = chosen_quiet (v == n) at
made_quiet ctor.Tuple ts at (Variant n) = tt
made_quiet (ctor.Closure m) ts at (Variant n) = tt
made_quiet c ts at Deref = tt

onward_quiet : {K : Type 0} (t : Tree K) (at : Spot) (p : Proj) → NoPanic (onward t at p)
onward_quiet (Made c ts) at p = made_quiet c ts at p
onward_quiet (Boxed t) at Deref = tt
onward_quiet (Boxed t) at (Field n) = tt
onward_quiet (Boxed t) at (Variant n) = tt
onward_quiet (Shared to) at Deref = tt
onward_quiet (Shared to) at (Field n) = tt
onward_quiet (Shared to) at (Variant n) = tt
onward_quiet (Unique k to) at Deref = tt
onward_quiet (Unique k to) at (Field n) = tt
onward_quiet (Unique k to) at (Variant n) = tt
onward_quiet (Int z) at p = tt
onward_quiet (Truth b) at p = tt
onward_quiet Gone at p = tt

walk_quiet : {K : Type 0} (s : State K) (at : Spot) (path : List Proj) → NoPanic (walk s at path)
walk_quiet s at [] = tt
walk_quiet s at (p ∷ ps) =
    then (λ a. Unit {0}) (tree_at s at) (λ t. onward t at p >>= λ next. walk s next ps) (tree_at_quiet s at)
    (λ t. then (λ a. Unit {0}) (onward t at p) (λ next. walk s next ps) (onward_quiet t at p) (λ next. walk_quiet s next ps))

spot_quiet : {K : Type 0} (s : State K) (p : Place) → NoPanic (spot_of s p)
spot_quiet s p = walk_quiet s (record { frame = running s; local = p.local; path = [] }) p.path

there_quiet : {K : Type 0} (t : Tree K) → NoPanic (is_there t)
there_quiet (Int z) = tt
there_quiet (Truth b) = tt
there_quiet (Made c ts) = tt
there_quiet (Boxed t) = tt
there_quiet (Shared at) = tt
there_quiet (Unique k at) = tt
there_quiet Gone = tt

read_quiet : {K : Type 0} (s : State K) (p : Place) → NoPanic (read s p)
read_quiet s p =
    then (λ a. Unit {0}) (spot_of s p) (λ at. tree_at s at >>= is_there) (spot_quiet s p)
    (λ at. then (λ a. Unit {0}) (tree_at s at) is_there (tree_at_quiet s at) there_quiet)

write_keeps : {K : Type 0} (s : State K) (p : Place) (t : Tree K) → Quiet (AsMany s) (write s p t)
write_keeps s p t = then (AsMany s) (spot_of s p) (λ at. put_at s at t) (spot_quiet s p) (λ at. put_at_keeps s at t)

-- ---- operands, right sides and statements

abbrev TakenAsMany : {K A : Type 0} → State K → State K × A → Type 0
TakenAsMany s r = length r.0 ≡ length s

operand_keeps : {K : Type 0} (s : State K) (o : Operand) → Quiet (TakenAsMany s) (operand s o)
operand_keeps s (Copy p) = then (TakenAsMany s) (read s p) (λ t. Yields (s, t)) (read_quiet s p) (λ t. refl)
operand_keeps s (Move p) =
    then (TakenAsMany s) (read s p) (λ t. write s p Gone >>= λ s'. Yields (s', t)) (read_quiet s p)
    (λ t. quiet_then (AsMany s) (TakenAsMany s) (write s p Gone) (λ s'. Yields (s', t)) (write_keeps s p Gone) (λ s' e. e))
operand_keeps s (Const l) = refl

operands_keep : {K : Type 0} (s : State K) (os : List Operand) → Quiet (TakenAsMany s) (operands s os)
operands_keep s [] = refl
operands_keep s (o ∷ os) =
    quiet_then (TakenAsMany s) (TakenAsMany s) (operand s o) (λ r. operands r.0 os >>= λ q. Yields (q.0, r.1 ∷ q.1)) (operand_keeps s o)
    (λ r e. quiet_then (TakenAsMany r.0) (TakenAsMany s) (operands r.0 os) (λ q. Yields (q.0, r.1 ∷ q.1)) (operands_keep r.0 os) (λ q e'. e' ∙ e))

-- a value made of the tree of an operand
valued : {K : Type 0} (s : State K) (o : Operand) (f : Tree K → Try (Tree K)) → Having (TakenAsMany s) (operand s o >>= λ r. f r.1 >>= λ t. Yields (r.0, t))
valued s o f =
    having_then (TakenAsMany s) (TakenAsMany s) (operand s o) (λ r. f r.1 >>= λ t. Yields (r.0, t)) (having_of (TakenAsMany s) (operand s o) (operand_keeps s o))
    (λ r e. any_then (TakenAsMany s) (f r.1) (λ t. Yields (r.0, t)) (λ t _. e))

rvalue_keeps : {K : Type 0} (s : State K) (kind : Option IntKind) (span : Span) (r : Rvalue) → Having (TakenAsMany s) (rvalue s kind span r)
rvalue_keeps s kind span (Use o) = having_of (TakenAsMany s) (operand s o) (operand_keeps s o)
rvalue_keeps s kind span (Binary op a b) =
    having_then (TakenAsMany s) (TakenAsMany s) (operand s a) (λ r. operand r.0 b >>= λ q. binary kind span op r.1 q.1 >>= λ t. Yields (q.0, t)) (having_of (TakenAsMany s) (operand s a) (operand_keeps s a))
    (λ r e. having_weaker (TakenAsMany r.0) (TakenAsMany s) (operand r.0 b >>= λ q. binary kind span op r.1 q.1 >>= λ t. Yields (q.0, t)) (valued r.0 b (binary kind span op r.1)) (λ q e'. e' ∙ e))
rvalue_keeps s kind span (Neg o) = valued s o (negated kind span)
rvalue_keeps s kind span (Not o) = valued s o inverted
rvalue_keeps s kind span (Widen o k) = having_of (TakenAsMany s) (operand s o) (operand_keeps s o)
rvalue_keeps s kind span (BoxNew o) = valued s o (λ t. Yields (Boxed t))
rvalue_keeps s kind span (Make c os) =
    having_then (TakenAsMany s) (TakenAsMany s) (operands s os) (λ r. Yields (r.0, Made c (trees_of r.1))) (having_of (TakenAsMany s) (operands s os) (operands_keep s os)) (λ r e. e)

past_keeps : {K : Type 0} (s : State K) → Having (AsMany s) (past s)
past_keeps [] = tt
past_keeps (f ∷ fs) = refl

at_label_keeps : {K : Type 0} (l : Label) (s : State K) → Having (AsMany s) (at_label l s)
at_label_keeps l [] = tt
at_label_keeps l (f ∷ fs) = refl

written_past : {K : Type 0} (s : State K) (p : Place) (t : Tree K) → Having (AsMany s) (write s p t >>= past)
written_past s p t =
    having_then (AsMany s) (AsMany s) (write s p t) past (having_of (AsMany s) (write s p t) (write_keeps s p t)) (λ s' e. having_weaker (AsMany s') (AsMany s) (past s') (past_keeps s') (λ q e'. e' ∙ e))

statement_keeps : {K : Type 0} (b : Body) (θ : Tys) (s : State K) (span : Span) (kind : StatementKind) → Having (AsMany s) (statement_step b θ s span kind)
statement_keeps b θ s span (Assign p r) =
    having_then (TakenAsMany s) (AsMany s) (rvalue s (kind_in (place_ty b θ p)) span r) (λ q. write q.0 p q.1 >>= past) (rvalue_keeps s (kind_in (place_ty b θ p)) span r)
    (λ q e. having_weaker (AsMany q.0) (AsMany s) (write q.0 p q.1 >>= past) (written_past q.0 p q.1) (λ s' e'. e' ∙ e))
statement_keeps b θ s span (Dead x) = written_past s (whole x) Gone

-- ---- the frames of a run

abbrev S : Type 0
S = State (Unit {0})

abbrev Ends : Type 0
Ends = Try (Outcome (Unit {0}))

abbrev pub AtMost : ℕ → Outcome (Unit {0}) → Type 0
AtMost n o = frame_count o ≤ n

behind_is : (s : S) (n : ℕ) → length s ≡ suc n → frames_behind s ≡ n
behind_is [] n e = absurd (omega (arith, e))
behind_is (f ∷ fs) n e = omega (arith, e)

-- a run that goes on with as many frames
goes_on : (f : Frame (Unit {0})) (fs : S) (m : Try S) → Having (AsMany (f ∷ fs)) m → Having (AtMost (length fs)) (m >>= λ s'. Yields (Running s'))
goes_on f fs m h =
    having_then (AsMany (f ∷ fs)) (AtMost (length fs)) m (λ s'. Yields (Running s')) h (λ s' e. let is = behind_is s' (length fs) e in omega (arith, is))

pub statement_count : (b : Body) (θ : Tys) (f : Frame (Unit {0})) (fs : S) (span : Span) (kind : StatementKind) → Having (AtMost (length fs)) (statement_step b θ (f ∷ fs) span kind >>= λ s'. Yields (Running s'))
statement_count b θ f fs span kind = goes_on f fs (statement_step b θ (f ∷ fs) span kind) (statement_keeps b θ (f ∷ fs) span kind)

answered_keeps : (t : Tree (Unit {0})) (s : S) (end : TerminatorKind) → Having (AsMany s) (answered t s end)
answered_keeps t s (Call p callee types os l) =
    having_then (AsMany s) (AsMany s) (write s p t) (at_label l) (having_of (AsMany s) (write s p t) (write_keeps s p t)) (λ s' e. having_weaker (AsMany s') (AsMany s) (at_label l s') (at_label_keeps l s') (λ q e'. e' ∙ e))
answered_keeps t s (Goto l) = tt
answered_keeps t s (If o on_true on_false) = tt
answered_keeps t s (Switch p ls) = tt
answered_keeps t s Return = tt
answered_keeps t s (Panic cause) = tt

come_back_count : (bodies : Bodies) (t : Tree (Unit {0})) (fs : S) → Having (AtMost (length fs)) (come_back bodies t fs)
come_back_count bodies t [] = tt
come_back_count bodies t (out ∷ []) = omega arith
come_back_count bodies t (f ∷ g ∷ fs) =
    let s : S = f ∷ g ∷ fs in
    any_then (AtMost (length s)) (need (slice_get bodies.bodies f.function)) (λ b. need (block_in b.blocks f.label) >>= λ k. answered t s k.end.kind >>= λ s'. Yields (Running s'))
    (λ b _. any_then (AtMost (length s)) (need (block_in b.blocks f.label)) (λ k. answered t s k.end.kind >>= λ s'. Yields (Running s'))
    (λ k _. having_weaker (AtMost (length (g ∷ fs))) (AtMost (length s)) (answered t s k.end.kind >>= λ s'. Yields (Running s')) (goes_on f (g ∷ fs) (answered t s k.end.kind) (answered_keeps t s k.end.kind))
    (λ o few. omega (arith, few))))

-- ---- ends of blocks

pub no_call_count : (code : Code (Unit {0})) (f : Frame (Unit {0})) (fs : S) (at : Span) (end : TerminatorKind) → (IsCall end → ⊥) → Having (AtMost (length fs)) (end_step code (f ∷ fs) at end)
no_call_count code f fs at (Goto l) other = goes_on f fs (at_label l (f ∷ fs)) (at_label_keeps l (f ∷ fs))
no_call_count code f fs at (If o on_true on_false) other =
    let s : S = f ∷ fs in
    let P = AtMost (length fs) in
    having_then (TakenAsMany s) P (operand s o) (λ r. truth_of r.1 >>= λ b. at_label (cond b on_true on_false) r.0 >>= λ s'. Yields (Running s')) (having_of (TakenAsMany s) (operand s o) (operand_keeps s o))
    (λ r e. any_then P (truth_of r.1) (λ b. at_label (cond b on_true on_false) r.0 >>= λ s'. Yields (Running s'))
    (λ b _. goes_on f fs (at_label (cond b on_true on_false) r.0) (having_weaker (AsMany r.0) (AsMany s) (at_label (cond b on_true on_false) r.0) (at_label_keeps (cond b on_true on_false) r.0) (λ q e'. e' ∙ e))))
no_call_count code f fs at (Switch p ls) other =
    let s : S = f ∷ fs in
    any_then (AtMost (length fs)) (switched s p ls) (λ l. at_label l s >>= λ s'. Yields (Running s')) (λ l _. goes_on f fs (at_label l s) (at_label_keeps l s))
no_call_count code f fs at (Call p callee types os l) other = absurd (other tt)
no_call_count code f fs at Return other =
    any_then (AtMost (length fs)) (need (slice_get f.locals 0)) (λ t. is_there t >>= λ t'. come_back code.program t' fs)
    (λ t _. any_then (AtMost (length fs)) (is_there t) (λ t'. come_back code.program t' fs) (λ t' _. come_back_count code.program t' fs))
no_call_count code f fs at (Panic cause) other = tt

callee_quiet : (bodies : Bodies) (callee : Callee) (args : List (Tree (Unit {0}))) → NoPanic (callee_frame {K = Unit {0}} bodies callee args)
callee_quiet bodies callee args =
    quiet_need (λ a. Unit {0}) (callee_of bodies callee) (λ n. need (slice_get bodies.bodies n) >>= λ b. Yields (entered b n no_tys args))
    (λ n _. quiet_need (λ a. Unit {0}) (slice_get bodies.bodies n) (λ b. Yields (entered b n no_tys args)) (λ b _. tt))

-- a call does not panic, and makes one frame more
pub call_count : (code : Code (Unit {0})) (f : Frame (Unit {0})) (fs : S) (at : Span) (end : TerminatorKind) → IsCall end → Quiet (λ o. frame_count o ≡ suc (length fs)) (end_step code (f ∷ fs) at end)
call_count code f fs at (Goto l) is = absurd is
call_count code f fs at (If o on_true on_false) is = absurd is
call_count code f fs at (Switch p ls) is = absurd is
call_count code f fs at (Call p callee types os l) is =
    let s : S = f ∷ fs in
    quiet_then (TakenAsMany s) (λ o. frame_count o ≡ suc (length fs)) (operands s os) (λ r. callee_frame code.program callee r.1 >>= λ g. Yields (Running (g ∷ r.0))) (operands_keep s os)
    (λ r e. then (λ o. frame_count o ≡ suc (length fs)) (callee_frame code.program callee r.1) (λ g. Yields (Running (g ∷ r.0))) (callee_quiet code.program callee r.1) (λ g. e))
call_count code f fs at Return is = absurd is
call_count code f fs at (Panic cause) is = absurd is

more_allowed : (code : Code (Unit {0})) (f : Frame (Unit {0})) (fs : S) (at : Span) (end : TerminatorKind) → (IsCall end → ⊥) → Having (AtMost (suc (length fs))) (end_step code (f ∷ fs) at end)
more_allowed code f fs at end other = having_weaker (AtMost (length fs)) (AtMost (suc (length fs))) (end_step code (f ∷ fs) at end) (no_call_count code f fs at end other) (λ o few. omega (arith, few))

pub end_count : (code : Code (Unit {0})) (f : Frame (Unit {0})) (fs : S) (at : Span) (end : TerminatorKind) → Having (AtMost (suc (length fs))) (end_step code (f ∷ fs) at end)
end_count code f fs at (Goto l) = more_allowed code f fs at (Goto l) (λ h. h)
end_count code f fs at (If o on_true on_false) = more_allowed code f fs at (If o on_true on_false) (λ h. h)
end_count code f fs at (Switch p ls) = more_allowed code f fs at (Switch p ls) (λ h. h)
end_count code f fs at (Call p callee types os l) =
    let end : TerminatorKind = Call p callee types os l in
    having_of (AtMost (suc (length fs))) (end_step code (f ∷ fs) at end) (quiet_weaker (λ o. frame_count o ≡ suc (length fs)) (AtMost (suc (length fs))) (end_step code (f ∷ fs) at end) (call_count code f fs at end tt) (λ o e. omega (arith, e)))
end_count code f fs at Return = more_allowed code f fs at Return (λ h. h)
end_count code f fs at (Panic cause) = more_allowed code f fs at (Panic cause) (λ h. h)
