-- Ends of blocks, by what they do to the state.
use Rattle.std.proofs.Common.{◌≡◌, ◌∙◌, refl, sym, ap, subst, cond, Bool, ℕ, zero, suc, ◌≤◌, List, [], ◌∷◌, length, Some, None, slice_get, arith}
use Rattle.text_core.specs.declared.span.Span.{Span}
use Rattle.logic_term.specs.Ty.{Ty}
use Rattle.logic_term.specs.declared.kinds.Label.{Label}
use Rattle.mir_ir.specs.declared.place.Operand.{Operand}
use Rattle.mir_ir.specs.declared.place.Place.{Place}
use Rattle.mir_ir.specs.declared.terminator.Callee.{Callee}
use Rattle.mir_ir.specs.declared.terminator.TerminatorKind.TheVariants.{Goto, If, Switch, Call}
use Rattle.mir_ir.specs.declared.body.Block.{Block}
use Rattle.mir_ir.specs.declared.body.Body.{Body}
use Rattle.mir_ir.specs.declared.body.Bodies.{Bodies}
use Rattle.mir_ir.specs.Body.{block_in}
use Rattle.mir_machine.specs.declared.halt.Halt.{Halt}
use Rattle.mir_machine.specs.Halt.{Stops}
use Rattle.mir_machine.specs.Try.{Try, Yields, ◌>>=◌, need}
use Rattle.mir_machine.specs.Tree.{Tree}
use Rattle.mir_machine.specs.Frame.{Frame, State}
use Rattle.mir_machine.specs.Code.{code_of}
use Rattle.mir_machine.specs.Step.{operand, operands, truth_of, switched, callee_frame, at_label, Outcome, Running, end_step, row, try_step}
use Rattle.mir_machine.specs.Taken.{branched, called_from}
use Rattle.mir_machine.proofs.Coming.{stops_then}
use Rattle.mir_machine.proofs.Tried.{then_then, then_same}

abbrev T : Type 0
T = Tree (Unit {0})

abbrev S : Type 0
S = State (Unit {0})

abbrev Ends : Type 0
Ends = Try (Outcome (Unit {0}))

abbrev go_on : S → Ends
go_on s = Yields (Running s)

-- ---- ends of blocks

pub jump_goes : (bodies : Bodies) (s s' : S) (at : Span) (l : Label) → at_label l s ≡ Yields s' → end_step (code_of bodies) s at (Goto l) ≡ Yields (Running s')
jump_goes bodies s s' at l e = ap (λ (m : Try S). m >>= go_on) e

choice-row : (bodies : Bodies) (s : S) (at : Span) (o : Operand) (on_true on_false : Label) → end_step (code_of bodies) s at (If o on_true on_false) ≡ (branched s o on_true on_false >>= go_on)
choice-row bodies s at o on_true on_false =
    let to : S → Bool → Try S = λ s₁ b. at_label (cond b on_true on_false) s₁ in
    then_same (operand s o) (λ r. truth_of r.1 >>= λ b. to r.0 b >>= go_on) (λ r. (truth_of r.1 >>= to r.0) >>= go_on) (λ r. sym (then_then (truth_of r.1) (to r.0) go_on))
    ∙ sym (then_then (operand s o) (λ r. truth_of r.1 >>= to r.0) go_on)

pub choice_stops : (h : Halt) (bodies : Bodies) (s : S) (at : Span) (o : Operand) (on_true on_false : Label) → Stops h (branched s o on_true on_false) → Stops h (end_step (code_of bodies) s at (If o on_true on_false))
choice_stops h bodies s at o on_true on_false e = subst (Stops h) (sym (choice-row bodies s at o on_true on_false)) (stops_then h (branched s o on_true on_false) go_on e)

pub choice_goes : (bodies : Bodies) (s s' : S) (at : Span) (o : Operand) (on_true on_false : Label) → branched s o on_true on_false ≡ Yields s' → end_step (code_of bodies) s at (If o on_true on_false) ≡ Yields (Running s')
choice_goes bodies s s' at o on_true on_false e = choice-row bodies s at o on_true on_false ∙ ap (λ (m : Try S). m >>= go_on) e

pub switch_stops : (h : Halt) (bodies : Bodies) (s : S) (at : Span) (p : Place) (ls : List Label) → Stops h (switched s p ls) → Stops h (end_step (code_of bodies) s at (Switch p ls))
switch_stops h bodies s at p ls e = stops_then h (switched s p ls) (λ l. at_label l s >>= go_on) e

pub switch_goes : (bodies : Bodies) (s s' : S) (at : Span) (p : Place) (ls : List Label) (l : Label) → switched s p ls ≡ Yields l → at_label l s ≡ Yields s' → end_step (code_of bodies) s at (Switch p ls) ≡ Yields (Running s')
switch_goes bodies s s' at p ls l is_l e = ap (λ (m : Try Label). m >>= λ l. at_label l s >>= go_on) is_l ∙ ap (λ (m : Try S). m >>= go_on) e

call-row : (bodies : Bodies) (s : S) (at : Span) (p : Place) (callee : Callee) (types : List Ty) (os : List Operand) (l : Label) → end_step (code_of bodies) s at (Call p callee types os l) ≡ (called_from bodies s callee os >>= go_on)
call-row bodies s at p callee types os l =
    let runs : S → Frame (Unit {0}) → Try S = λ s₁ f. Yields (f ∷ s₁) in
    then_same (operands s os) (λ r. callee_frame bodies callee r.1 >>= λ f. go_on (f ∷ r.0)) (λ r. (callee_frame bodies callee r.1 >>= runs r.0) >>= go_on) (λ r. sym (then_then (callee_frame bodies callee r.1) (runs r.0) go_on))
    ∙ sym (then_then (operands s os) (λ r. callee_frame bodies callee r.1 >>= runs r.0) go_on)

pub call_stops : (h : Halt) (bodies : Bodies) (s : S) (at : Span) (p : Place) (callee : Callee) (types : List Ty) (os : List Operand) (l : Label) → Stops h (called_from bodies s callee os) → Stops h (end_step (code_of bodies) s at (Call p callee types os l))
call_stops h bodies s at p callee types os l e = subst (Stops h) (sym (call-row bodies s at p callee types os l)) (stops_then h (called_from bodies s callee os) go_on e)

pub call_goes : (bodies : Bodies) (s s' : S) (at : Span) (p : Place) (callee : Callee) (types : List Ty) (os : List Operand) (l : Label) → called_from bodies s callee os ≡ Yields s' → end_step (code_of bodies) s at (Call p callee types os l) ≡ Yields (Running s')
call_goes bodies s s' at p callee types os l e = call-row bodies s at p callee types os l ∙ ap (λ (m : Try S). m >>= go_on) e

-- ---- steps at ends of blocks

try_step-at : (bodies : Bodies) (f : Frame (Unit {0})) (fs : S) (b : Body) (k : Block) → slice_get bodies.bodies f.function ≡ Some b → block_in b.blocks f.label ≡ Some k
    → try_step (code_of bodies) (f ∷ fs) ≡ row (code_of bodies) b f.types (f ∷ fs) k.end (slice_get k.statements f.statement)
try_step-at bodies f fs b k is_body is_block =
    let at_block : Body → Block → Ends = λ c d. row (code_of bodies) c f.types (f ∷ fs) d.end (slice_get d.statements f.statement) in
    ap (λ o. need o >>= λ c. need (block_in c.blocks f.label) >>= at_block c) is_body ∙ ap (λ o. need o >>= at_block b) is_block

none_past : {A : Type 0} (xs : List A) (i : ℕ) → length xs ≤ i → slice_get xs i ≡ None
none_past [] i h = refl
none_past (x ∷ xs) zero h = absurd (omega arith)
none_past (x ∷ xs) (suc i) h = none_past xs i (omega arith)

pub try_step-end : (bodies : Bodies) (f : Frame (Unit {0})) (fs : S) (b : Body) (k : Block) → slice_get bodies.bodies f.function ≡ Some b → block_in b.blocks f.label ≡ Some k → length k.statements ≤ f.statement
    → try_step (code_of bodies) (f ∷ fs) ≡ end_step (code_of bodies) (f ∷ fs) k.end.span k.end.kind
try_step-end bodies f fs b k is_body is_block past = try_step-at bodies f fs b k is_body is_block ∙ ap (row (code_of bodies) b f.types (f ∷ fs) k.end) (none_past k.statements f.statement past)

pub ruleset block_ends = (choice_stops, choice_goes, call_stops, call_goes, jump_goes, switch_stops, switch_goes)
