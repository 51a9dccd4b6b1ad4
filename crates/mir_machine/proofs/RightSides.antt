-- Right sides, by the trees of their operands.
use Rattle.std.proofs.Common.{◌≡◌, ◌∙◌, refl, sym, ap, subst, Result, Bool, cond, ℤ, List, [], ◌∷◌, ◌++◌, append_assoc, slice_get, Option, None}
use Rattle.text_core.specs.declared.refusal.Cause.{Cause}
use Rattle.text_core.specs.declared.span.Span.{Span}
use Rattle.source_kinds.specs.declared.kinds.IntKind.{IntKind}
use Rattle.source_kinds.specs.declared.kinds.BinaryOp.{BinaryOp}
use Rattle.logic_term.specs.Ty.{Ty, Tys}
use Rattle.logic_term.specs.declared.kinds.Label.{Label}
use Rattle.mir_ir.specs.Body.{whole, place_ty, kind_in}
use Rattle.mir_ir.specs.declared.body.Body.{Body}
use Rattle.mir_ir.specs.declared.statement.StatementKind.{StatementKind}
use Rattle.mir_ir.specs.declared.statement.StatementKind.TheVariants.{Assign, Dead}
use Rattle.mir_ir.specs.declared.place.Place.{Place}
use Rattle.mir_ir.specs.declared.place.Proj.{Proj}
use Rattle.mir_ir.specs.declared.place.Operand.{Operand}
use Rattle.mir_ir.specs.declared.statement.Rvalue.{Rvalue}
use Rattle.mir_machine.specs.declared.spot.Spot.{Spot}
use Rattle.mir_machine.specs.declared.halt.Halt.{Halt}
use Rattle.mir_machine.specs.declared.halt.Halt.TheVariants as halt
use Rattle.mir_machine.specs.Halt.{Stops, Comes}
use Rattle.mir_machine.specs.Try.{Try, Yields, Panics, Sticks, ◌>>=◌, need}
use Rattle.mir_machine.specs.Tree.{Tree, Int, Truth, Made, Boxed, Shared, Unique, Gone}
use Rattle.mir_machine.specs.Frame.{State}
use Rattle.mir_machine.specs.Memory.{spot_of, put_at, write}
use Rattle.mir_machine.specs.Step.{operand, operands, rvalue, binary, negated, truth_of, at_label, past, statement_step}
use Rattle.mir_machine.specs.ScalarView.{scalar}
use Rattle.mir_machine.specs.Taken.{take_one, take_more, operands_of, value_of, assigned, changed, branched}
use Rattle.mir_machine.proofs.Coming.{stops_then}
use Rattle.mir_machine.proofs.OperandsFirst.{rvalue-row}
use Rattle.mir_machine.proofs.Undoing.{yields_same}
use Rattle.mir_machine.proofs.Tried.{then_then, then_same}

abbrev T : Type 0
T = Tree (Unit {0})

abbrev S : Type 0
S = State (Unit {0})

pub no_whole : (path : List Proj) (t : Option Ty) → (path ≡ [] → ⊥) → whole path t ≡ None
no_whole [] t h = absurd (h refl)
no_whole (p ∷ ps) t h = refl

-- ---- taking

abbrev Several : Type 0
Several = S × List T

abbrev One : Type 0
One = S × T

abbrev single : One → Try Several
single r = Yields (r.0, r.1 ∷ [])

abbrev front : List T → Several → Try Several
front ts r = Yields (r.0, ts ++ r.1)

abbrev added : List T → One → Try Several
added ts r = Yields (r.0, ts ++ r.1 ∷ [])

abbrev behind : T → Several → Try Several
behind t q = Yields (q.0, t ∷ q.1)

abbrev beside : S → T → Try One
beside s t = Yields (s, t)

after : (m : Try One) (ts : List T) → ((m >>= single) >>= front ts) ≡ (m >>= added ts)
after (Yields r) ts = refl
after (Panics c s) ts = refl
after Sticks ts = refl

pub take_single : (s : S) (ts : List T) (o : Operand) → take_more s ts (o ∷ []) ≡ take_one s ts o
take_single s ts o = after (operand s o) ts

pub single_comes : (r : Result (Unit {0}) Halt) (s s' : S) (ts us : List T) (o : Operand) → Comes r (take_one s ts o) (λ _. (s', us)) → Comes r (take_more s ts (o ∷ [])) (λ _. (s', us))
single_comes r s s' ts us o h = subst (λ m. Comes r m (λ _. (s', us))) (sym (take_single s ts o)) h

-- what stops before its value is used stops whatever is done with it
stops_with : {C : Type 0} (h : Halt) (m : Try One) (f : One → Several) (g : One → Try C) → Stops h (m >>= λ r. Yields (f r)) → Stops h (m >>= g)
stops_with halt.NoMemory m f g e = tt
stops_with halt.Stuck (Yields r) f g e = absurd (cc)
stops_with halt.Stuck (Panics c p) f g e = absurd (cc)
stops_with halt.Stuck Sticks f g e = refl
stops_with (halt.Panics c p) (Yields r) f g e = absurd (cc)
stops_with {C} (halt.Panics c p) (Panics d q) f g e = (let same_cause : d ≡ c = cc in let same_span : q ≡ p = cc in cc)
stops_with (halt.Panics c p) Sticks f g e = absurd (cc)

pub pair_stops : (h : Halt) (s : S) (ts : List T) (a b : Operand) → Stops h (take_one s ts a) → Stops h (take_more s ts (a ∷ b ∷ []))
pair_stops h s ts a b e =
    let rest : One → Try Several = λ r. operands r.0 (b ∷ []) >>= behind r.1 in
    let shown : One → Several = λ r. (r.0, ts ++ r.1 ∷ []) in
    stops_then h (operand s a >>= rest) (front ts) (stops_with h (operand s a) shown rest e)

second_taken : (n : Try One) (t : T) (ts us : List T) → us ≡ ts ++ t ∷ [] → (((n >>= single) >>= behind t) >>= front ts) ≡ (n >>= added us)
second_taken (Yields r) t ts us e = ap (λ vs. Yields (r.0, vs)) (sym (append_assoc ts (t ∷ []) (r.1 ∷ [])) ∙ ap (λ ws. ws ++ r.1 ∷ []) (sym e))
second_taken (Panics c p) t ts us e = refl
second_taken Sticks t ts us e = refl

same_taken : (p q : Several) → Yields p ≡ Yields q → p ≡ q
same_taken p q e = yields_same p q e

-- two operands, one after the other
pub take_pair : (s s₁ : S) (ts us : List T) (a b : Operand) → take_one s ts a ≡ Yields (s₁, us) → take_more s ts (a ∷ b ∷ []) ≡ take_one s₁ us b
take_pair s s₁ ts us a b e = known (operand s a) e
  where
    known : (m : Try One) → (m >>= added ts) ≡ Yields (s₁, us) → ((m >>= λ r. (operand r.0 b >>= single) >>= behind r.1) >>= front ts) ≡ take_one s₁ us b
    known (Panics c p) h = absurd (cc)
    known Sticks h = absurd (cc)
    known (Yields r) h =
        let pair = same_taken (r.0, ts ++ r.1 ∷ []) (s₁, us) h in
        second_taken (operand r.0 b) r.1 ts us (sym (ap (λ (q : Several). q.1) pair)) ∙ ap (λ q. take_one q us b) (ap (λ (q : Several). q.0) pair)

pub pair_comes : (r : Result (Unit {0}) Halt) (s s₁ s' : S) (ts us vs : List T) (a b : Operand) → take_one s ts a ≡ Yields (s₁, us) → Comes r (take_one s₁ us b) (λ _. (s', vs)) → Comes r (take_more s ts (a ∷ b ∷ [])) (λ _. (s', vs))
pair_comes r s s₁ s' ts us vs a b e h = subst (λ m. Comes r m (λ _. (s', vs))) (sym (take_pair s s₁ ts us a b e)) h

-- ---- integers and truth values

never_panics : (x : T) (c : Cause) (p : Span) → scalar x ≡ Panics c p → ⊥
never_panics (Int z) c p e = absurd (cc)
never_panics (Truth b) c p e = absurd (cc)
never_panics (Made d ts) c p e = absurd (cc)
never_panics (Boxed t) c p e = absurd (cc)
never_panics (Shared at) c p e = absurd (cc)
never_panics (Unique k at) c p e = absurd (cc)
never_panics Gone c p e = absurd (cc)

stops_scalar : {A : Type 0} (h : Halt) (x : T) (m : Try A) → (scalar x ≡ Sticks → m ≡ Sticks) → Stops h (scalar x) → Stops h m
stops_scalar halt.NoMemory x m stuck e = tt
stops_scalar halt.Stuck x m stuck e = stuck e
stops_scalar (halt.Panics c p) x m stuck e = absurd (never_panics x c p e)

same_scalar : (x y : T) → scalar x ≡ Yields y → x ≡ y
same_scalar (Int z) y e = yields_same (Int z) y e
same_scalar (Truth b) y e = yields_same (Truth b) y e
same_scalar (Made d ts) y e = absurd (cc)
same_scalar (Boxed t) y e = absurd (cc)
same_scalar (Shared at) y e = absurd (cc)
same_scalar (Unique k at) y e = absurd (cc)
same_scalar Gone y e = absurd (cc)

no_left : (kind : Option IntKind) (span : Span) (op : BinaryOp) (x y : T) → scalar x ≡ Sticks → binary kind span op x y ≡ Sticks
no_left kind span op (Int z) y e = absurd (cc)
no_left kind span op (Truth b) y e = absurd (cc)
no_left kind span op (Made d ts) y e = refl
no_left kind span op (Boxed t) y e = refl
no_left kind span op (Shared at) y e = refl
no_left kind span op (Unique k at) y e = refl
no_left kind span op Gone y e = refl

after_int : (kind : Option IntKind) (span : Span) (op : BinaryOp) (z : ℤ) (y : T) → scalar y ≡ Sticks → binary kind span op (Int z) y ≡ Sticks
after_int kind span op z (Int w) e = absurd (cc)
after_int kind span op z (Truth b) e = refl
after_int kind span op z (Made d ts) e = refl
after_int kind span op z (Boxed t) e = refl
after_int kind span op z (Shared at) e = refl
after_int kind span op z (Unique k at) e = refl
after_int kind span op z Gone e = refl

after_truth : (kind : Option IntKind) (span : Span) (op : BinaryOp) (b : Bool) (y : T) → scalar y ≡ Sticks → binary kind span op (Truth b) y ≡ Sticks
after_truth kind span op b (Int w) e = refl
after_truth kind span op b (Truth c) e = absurd (cc)
after_truth kind span op b (Made d ts) e = refl
after_truth kind span op b (Boxed t) e = refl
after_truth kind span op b (Shared at) e = refl
after_truth kind span op b (Unique k at) e = refl
after_truth kind span op b Gone e = refl

no_right : (kind : Option IntKind) (span : Span) (op : BinaryOp) (x y : T) → scalar y ≡ Sticks → binary kind span op x y ≡ Sticks
no_right kind span op (Int z) y e = after_int kind span op z y e
no_right kind span op (Truth b) y e = after_truth kind span op b y e
no_right kind span op (Made d ts) y e = refl
no_right kind span op (Boxed t) y e = refl
no_right kind span op (Shared at) y e = refl
no_right kind span op (Unique k at) y e = refl
no_right kind span op Gone y e = refl

no_negated : (kind : Option IntKind) (span : Span) (x : T) → scalar x ≡ Sticks → negated kind span x ≡ Sticks
no_negated kind span (Int z) e = absurd (cc)
no_negated kind span (Truth b) e = refl
no_negated kind span (Made d ts) e = refl
no_negated kind span (Boxed t) e = refl
no_negated kind span (Shared at) e = refl
no_negated kind span (Unique k at) e = refl
no_negated kind span Gone e = refl

no_truth : (x : T) → scalar x ≡ Sticks → truth_of x ≡ Sticks
no_truth (Int z) e = refl
no_truth (Truth b) e = absurd (cc)
no_truth (Made d ts) e = refl
no_truth (Boxed t) e = refl
no_truth (Shared at) e = refl
no_truth (Unique k at) e = refl
no_truth Gone e = refl

pub left_stops : (h : Halt) (kind : Option IntKind) (span : Span) (op : BinaryOp) (x y : T) → Stops h (scalar x) → Stops h (binary kind span op x y)
left_stops h kind span op x y e = stops_scalar h x (binary kind span op x y) (no_left kind span op x y) e

pub right_stops : (h : Halt) (kind : Option IntKind) (span : Span) (op : BinaryOp) (x y : T) → Stops h (scalar y) → Stops h (binary kind span op x y)
right_stops h kind span op x y e = stops_scalar h y (binary kind span op x y) (no_right kind span op x y) e

pub negated_stops : (h : Halt) (kind : Option IntKind) (span : Span) (x : T) → Stops h (scalar x) → Stops h (negated kind span x)
negated_stops h kind span x e = stops_scalar h x (negated kind span x) (no_negated kind span x) e

pub truth_stops : (h : Halt) (x : T) → Stops h (scalar x) → Stops h (truth_of x)
truth_stops h x e = stops_scalar h x (truth_of x) (no_truth x) e

pub on_scalars : (r : Result T Halt) (kind : Option IntKind) (span : Span) (op : BinaryOp) (x y x' y' : T) → scalar x ≡ Yields x' → scalar y ≡ Yields y' → Comes r (binary kind span op x' y') (λ t. t) → Comes r (binary kind span op x y) (λ t. t)
on_scalars r kind span op x y x' y' is_x is_y h =
    subst (λ w. Comes r (binary kind span op w y) (λ t. t)) (sym (same_scalar x x' is_x)) (subst (λ w. Comes r (binary kind span op x' w) (λ t. t)) (sym (same_scalar y y' is_y)) h)

pub on_negated : (r : Result T Halt) (kind : Option IntKind) (span : Span) (x x' : T) → scalar x ≡ Yields x' → Comes r (negated kind span x') (λ t. t) → Comes r (negated kind span x) (λ t. t)
on_negated r kind span x x' is_x h = subst (λ w. Comes r (negated kind span w) (λ t. t)) (sym (same_scalar x x' is_x)) h

pub on_truth : (r : Result Bool Halt) (x x' : T) → scalar x ≡ Yields x' → Comes r (truth_of x') (λ b. b) → Comes r (truth_of x) (λ b. b)
on_truth r x x' is_x h = subst (λ w. Comes r (truth_of w) (λ b. b)) (sym (same_scalar x x' is_x)) h

-- ---- right sides

from_none : (m : Try Several) → (m >>= front []) ≡ m
from_none (Yields r) = refl
from_none (Panics c p) = refl
from_none Sticks = refl

-- the operands were taken after no others
taken_first : (s : S) (ts : List T) (os : List Operand) → ts ≡ [] → take_more s ts os ≡ operands s os
taken_first s ts os e = ap (λ us. take_more s us os) e ∙ from_none (operands s os)

abbrev finish : Option IntKind → Span → Rvalue → Place → Several → Try S
finish kind span r p q = value_of kind span r q.1 >>= λ t. write q.0 p t

assigned-row : (s : S) (kind : Option IntKind) (span : Span) (r : Rvalue) (p : Place) → assigned s kind span r p ≡ (operands s (operands_of r) >>= finish kind span r p)
assigned-row s kind span r p =
    let write_it : S × T → Try S = λ q. write q.0 p q.1 in
    ap (λ (m : Try (S × T)). m >>= write_it) (rvalue-row s kind span r)
    ∙ then_then (operands s (operands_of r)) (λ q. value_of kind span r q.1 >>= beside q.0) write_it
    ∙ then_same (operands s (operands_of r)) (λ q. (value_of kind span r q.1 >>= beside q.0) >>= write_it) (finish kind span r p) (λ q. then_then (value_of kind span r q.1) (beside q.0) write_it)

pub operands_stop : (h : Halt) (s : S) (ts : List T) (kind : Option IntKind) (span : Span) (r : Rvalue) (p : Place) → ts ≡ [] → Stops h (take_more s ts (operands_of r)) → Stops h (assigned s kind span r p)
operands_stop h s ts kind span r p none e = subst (Stops h) (sym (assigned-row s kind span r p)) (stops_then h (operands s (operands_of r)) (finish kind span r p) (subst (Stops h) (taken_first s ts (operands_of r) none) e))

assigned-taken : (s s₁ : S) (ts us : List T) (kind : Option IntKind) (span : Span) (r : Rvalue) (p : Place) → ts ≡ [] → take_more s ts (operands_of r) ≡ Yields (s₁, us) → assigned s kind span r p ≡ finish kind span r p (s₁, us)
assigned-taken s s₁ ts us kind span r p none e = assigned-row s kind span r p ∙ ap (λ (m : Try Several). m >>= finish kind span r p) (sym (taken_first s ts (operands_of r) none) ∙ e)

pub value_stops : (h : Halt) (s s₁ : S) (ts us : List T) (kind : Option IntKind) (span : Span) (r : Rvalue) (p : Place) → ts ≡ [] → take_more s ts (operands_of r) ≡ Yields (s₁, us) → Stops h (value_of kind span r us)
    → Stops h (assigned s kind span r p)
value_stops h s s₁ ts us kind span r p none e stops = subst (Stops h) (sym (assigned-taken s s₁ ts us kind span r p none e)) (stops_then h (value_of kind span r us) (λ t. write s₁ p t) stops)

assigned-at : (s s₁ : S) (ts us : List T) (t : T) (at : Spot) (kind : Option IntKind) (span : Span) (r : Rvalue) (p : Place) → ts ≡ [] → take_more s ts (operands_of r) ≡ Yields (s₁, us) → value_of kind span r us ≡ Yields t
    → spot_of s₁ p ≡ Yields at → assigned s kind span r p ≡ put_at s₁ at t
assigned-at s s₁ ts us t at kind span r p none e is_t is_at =
    assigned-taken s s₁ ts us kind span r p none e ∙ ap (λ (m : Try T). m >>= λ t. write s₁ p t) is_t ∙ ap (λ (m : Try Spot). m >>= λ at. put_at s₁ at t) is_at

pub put_stops : (h : Halt) (s s₁ : S) (ts us : List T) (t : T) (at : Spot) (kind : Option IntKind) (span : Span) (r : Rvalue) (p : Place) → ts ≡ [] → take_more s ts (operands_of r) ≡ Yields (s₁, us) → value_of kind span r us ≡ Yields t
    → spot_of s₁ p ≡ Yields at
    → Stops h (put_at s₁ at t) → Stops h (assigned s kind span r p)
put_stops h s s₁ ts us t at kind span r p none e is_t is_at stops = subst (Stops h) (sym (assigned-at s s₁ ts us t at kind span r p none e is_t is_at)) stops

pub put_goes : (s s₁ s' : S) (ts us : List T) (t : T) (at : Spot) (kind : Option IntKind) (span : Span) (r : Rvalue) (p : Place) → ts ≡ [] → take_more s ts (operands_of r) ≡ Yields (s₁, us) → value_of kind span r us ≡ Yields t
    → spot_of s₁ p ≡ Yields at
    → put_at s₁ at t ≡ Yields s' → assigned s kind span r p ≡ Yields s'
put_goes s s₁ s' ts us t at kind span r p none e is_t is_at goes = assigned-at s s₁ ts us t at kind span r p none e is_t is_at ∙ goes

pub written_stops : (h : Halt) (s s₁ : S) (ts us : List T) (t : T) (kind : Option IntKind) (span : Span) (r : Rvalue) (p : Place) → ts ≡ [] → take_more s ts (operands_of r) ≡ Yields (s₁, us) → value_of kind span r us ≡ Yields t
    → Stops h (spot_of s₁ p) → Stops h (assigned s kind span r p)
written_stops h s s₁ ts us t kind span r p none e is_t stops =
    subst (Stops h) (sym (assigned-taken s s₁ ts us kind span r p none e ∙ ap (λ (m : Try T). m >>= λ t. write s₁ p t) is_t)) (stops_then h (spot_of s₁ p) (λ at. put_at s₁ at t) stops)

-- ---- statements

statement-row : (b : Body) (θ : Tys) (s : S) (span : Span) (kind : StatementKind) → statement_step b θ s span kind ≡ (changed b θ s span kind >>= past)
statement-row b θ s span (Assign p r) =
    let write_it : One → Try S = λ q. write q.0 p q.1 in
    sym (then_then (rvalue s (kind_in (place_ty b θ p)) span r) write_it past)
statement-row b θ s span (Dead x) = refl

pub statement_stops : (h : Halt) (b : Body) (θ : Tys) (s : S) (span : Span) (kind : StatementKind) → Stops h (changed b θ s span kind) → Stops h (statement_step b θ s span kind)
statement_stops h b θ s span kind e = subst (Stops h) (sym (statement-row b θ s span kind)) (stops_then h (changed b θ s span kind) past e)

pub statement_goes : (b : Body) (θ : Tys) (s s₁ s' : S) (span : Span) (kind : StatementKind) → changed b θ s span kind ≡ Yields s₁ → past s₁ ≡ Yields s' → statement_step b θ s span kind ≡ Yields s'
statement_goes b θ s s₁ s' span kind e h = statement-row b θ s span kind ∙ ap (λ (m : Try S). m >>= past) e ∙ h

-- ---- choices

known_one : (m : Try One) (us : List T) (s₁ : S) (g : One → Try S) → (m >>= added []) ≡ Yields (s₁, us) → (m >>= g) ≡ (need (slice_get us 0) >>= λ t. g (s₁, t))
known_one (Panics c p) us s₁ g e = absurd (cc)
known_one Sticks us s₁ g e = absurd (cc)
known_one (Yields r) us s₁ g e =
    let pair = same_taken (r.0, r.1 ∷ []) (s₁, us) e in
    ap (λ (q : Several). need (slice_get q.1 0) >>= λ t. g (q.0, t)) pair

abbrev chosen : Label → Label → One → Try S
chosen on_true on_false r = truth_of r.1 >>= λ b. at_label (cond b on_true on_false) r.0

branch_known : (s s₁ : S) (ts us : List T) (o : Operand) (on_true on_false : Label) → ts ≡ [] → take_one s ts o ≡ Yields (s₁, us) → branched s o on_true on_false ≡ (need (slice_get us 0) >>= λ t. chosen on_true on_false (s₁, t))
branch_known s s₁ ts us o on_true on_false none e = known_one (operand s o) us s₁ (chosen on_true on_false) (ap (λ vs. take_one s vs o) (sym none) ∙ e)

pub branch_stops : (h : Halt) (s : S) (ts : List T) (o : Operand) (on_true on_false : Label) → Stops h (take_one s ts o) → Stops h (branched s o on_true on_false)
branch_stops h s ts o on_true on_false e =
    let shown : One → Several = λ r. (r.0, ts ++ r.1 ∷ []) in
    stops_with h (operand s o) shown (chosen on_true on_false) e

pub branch_gone : (h : Halt) (s s₁ : S) (ts us : List T) (o : Operand) (on_true on_false : Label) → ts ≡ [] → take_one s ts o ≡ Yields (s₁, us) → Stops h (need (slice_get us 0)) → Stops h (branched s o on_true on_false)
branch_gone h s s₁ ts us o on_true on_false none e stops =
    subst (Stops h) (sym (branch_known s s₁ ts us o on_true on_false none e)) (stops_then h (need (slice_get us 0)) (λ t. chosen on_true on_false (s₁, t)) stops)

pub branch_untrue : (h : Halt) (s s₁ : S) (ts us : List T) (t : T) (o : Operand) (on_true on_false : Label) → ts ≡ [] → take_one s ts o ≡ Yields (s₁, us) → need (slice_get us 0) ≡ Yields t → Stops h (truth_of t)
    → Stops h (branched s o on_true on_false)
branch_untrue h s s₁ ts us t o on_true on_false none e is_t stops =
    subst (Stops h) (sym (branch_known s s₁ ts us o on_true on_false none e ∙ ap (λ (m : Try T). m >>= λ t. chosen on_true on_false (s₁, t)) is_t))
    (stops_then h (truth_of t) (λ b. at_label (cond b on_true on_false) s₁) stops)

pub branch_goes : (s s₁ s' : S) (ts us : List T) (t : T) (b : Bool) (o : Operand) (on_true on_false to : Label) → ts ≡ [] → take_one s ts o ≡ Yields (s₁, us) → need (slice_get us 0) ≡ Yields t → truth_of t ≡ Yields b
    → to ≡ cond b on_true on_false → at_label to s₁ ≡ Yields s'
    → branched s o on_true on_false ≡ Yields s'
branch_goes s s₁ s' ts us t b o on_true on_false to none e is_t is_b is_to goes =
    branch_known s s₁ ts us o on_true on_false none e ∙ ap (λ (m : Try T). m >>= λ t. chosen on_true on_false (s₁, t)) is_t
    ∙ ap (λ (m : Try Bool). m >>= λ b. at_label (cond b on_true on_false) s₁) is_b ∙ ap (λ l. at_label l s₁) (sym is_to) ∙ goes
