-- What the acts of statements, ends and edges ask and do, form by form: what an operand, an assignment or a call takes from a set of
-- initialised locals and puts into it.
use Rattle.std.proofs.Common.{◌≡◌, ◌∙◌, refl, sym, ap, subst, ℕ, ◌+◌, ◌==◌, ◌||◌, Bool, true, false, List, [], ◌∷◌, ◌++◌, length, Some, slice_get}
use Rattle.std.proofs.lemmas.Bool.{eqb-true, eq-eqb}
use Rattle.logic_term.specs.declared.kinds.Label.{Label}
use Rattle.mir_ir.specs.declared.place.Operand.{Operand}
use Rattle.mir_ir.specs.declared.place.Operand.TheVariants.{Copy, Move, Const}
use Rattle.mir_ir.specs.declared.statement.Rvalue.{Rvalue}
use Rattle.mir_ir.specs.declared.statement.Rvalue.TheVariants.{Use, Binary, Neg, Not, Widen, Make, BoxNew}
use Rattle.mir_ir.specs.declared.statement.StatementKind.{StatementKind}
use Rattle.mir_ir.specs.declared.statement.StatementKind.TheVariants.{Assign, Dead}
use Rattle.mir_ir.specs.declared.terminator.TerminatorKind.{TerminatorKind}
use Rattle.mir_ir.specs.declared.terminator.TerminatorKind.TheVariants.{Goto, If, Switch, Call, Return, Panic}
use Rattle.mir_ir.specs.Layout.{among, targets}
use Rattle.mir_ir.specs.Acts.{Act, writes, acts_of_operand, acts_of_operands, acts_of_rvalue, acts_of, acts_of_end, acts_along}
use Rattle.mir_ir.specs.declared.statement.Statement.{Statement}
use Rattle.mir_ir.specs.declared.body.Block.{Block}
use Rattle.mir_ir.specs.declared.body.Body.{Body}
use Rattle.mir_ir.specs.Body.{block_in}
use Rattle.mir_ir.specs.WellFormed.{Locals, with, without, Within, done, CanDoAll, all_done, parameters, Labelling, MeetsMoveRows}

-- ---- the forms

-- the locals that the operand reads are in the set
abbrev pub CanTake : Locals → Operand → Type 0
CanTake set (Copy p) = set p.local ≡ true
CanTake set (Move p) = set p.local ≡ true
CanTake set (Const l) = Unit {0}

abbrev pub taken : Operand → Locals → Locals
taken (Copy p) set = set
taken (Move p) set = without p.local set
taken (Const l) set = set

-- the operands one after another, from the left
abbrev pub CanTakeAll : Locals → List Operand → Type 0
CanTakeAll set [] = Unit {0}
CanTakeAll set (o ∷ os) = CanTake set o × CanTakeAll (taken o set) os

abbrev pub all_taken : List Operand → Locals → Locals
all_taken [] set = set
all_taken (o ∷ os) set = all_taken os (taken o set)

abbrev pub CanEvaluate : Locals → Rvalue → Type 0
CanEvaluate set (Use o) = CanTake set o
CanEvaluate set (Binary op x y) = CanTake set x × CanTake (taken x set) y
CanEvaluate set (Neg o) = CanTake set o
CanEvaluate set (Not o) = CanTake set o
CanEvaluate set (Widen o k) = CanTake set o
CanEvaluate set (Make c os) = CanTakeAll set os
CanEvaluate set (BoxNew o) = CanTake set o

abbrev pub evaluated : Rvalue → Locals → Locals
evaluated (Use o) set = taken o set
evaluated (Binary op x y) set = taken y (taken x set)
evaluated (Neg o) set = taken o set
evaluated (Not o) set = taken o set
evaluated (Widen o k) set = taken o set
evaluated (Make c os) set = all_taken os set
evaluated (BoxNew o) set = taken o set

abbrev pub CanRun : Locals → StatementKind → Type 0
CanRun set (Assign p r) = CanEvaluate set r
CanRun set (Dead x) = Unit {0}

abbrev pub run : StatementKind → Locals → Locals
run (Assign p r) set = with p.local (evaluated r set)
run (Dead x) set = without x set

abbrev pub CanEnd : Locals → TerminatorKind → Type 0
CanEnd set (Goto l) = Unit {0}
CanEnd set (If o on_true on_false) = CanTake set o
CanEnd set (Switch p ls) = set p.local ≡ true
CanEnd set (Call p callee types os l) = CanTakeAll set os
CanEnd set Return = set 0 ≡ true
CanEnd set (Panic cause) = Unit {0}

-- along each edge from a block's end: what is initialised where the next block starts is so at the end; after a call its place
-- is initialised too
abbrev pub Carries : (Label → Locals) → Locals → TerminatorKind → Type 0
Carries starts set (Goto l) = Within (starts l) set
Carries starts set (If o on_true on_false) = Within (starts on_true) (taken o set) × Within (starts on_false) (taken o set)
Carries starts set (Switch p ls) = (m : Label) → among m ls ≡ true → Within (starts m) set
Carries starts set (Call p callee types os l) = Within (starts l) (with p.local (all_taken os set))
Carries starts set Return = Unit {0}
Carries starts set (Panic cause) = Unit {0}

-- ---- one list of acts behind another

first_of : (xs ys : List Act) (there : Locals) → CanDoAll there (xs ++ ys) → CanDoAll there xs
first_of [] ys there h = tt
first_of (x ∷ xs) ys there h = (h.0, first_of xs ys (done x there) h.1)

second_of : (xs ys : List Act) (there : Locals) → CanDoAll there (xs ++ ys) → CanDoAll (all_done xs there) ys
second_of [] ys there h = h
second_of (x ∷ xs) ys there h = second_of xs ys (done x there) h.1

both_of : (xs ys : List Act) (there : Locals) → CanDoAll there xs → CanDoAll (all_done xs there) ys → CanDoAll there (xs ++ ys)
both_of [] ys there h g = g
both_of (x ∷ xs) ys there h g = (h.0, both_of xs ys (done x there) h.1 g)

done_both : (xs ys : List Act) (there : Locals) → all_done (xs ++ ys) there ≡ all_done ys (all_done xs there)
done_both [] ys there = refl
done_both (x ∷ xs) ys there = done_both xs ys (done x there)

-- ---- operands

operand_done : (o : Operand) (there : Locals) → all_done (acts_of_operand o) there ≡ taken o there
operand_done (Copy p) there = refl
operand_done (Move p) there = refl
operand_done (Const l) there = refl

from_operand : (o : Operand) (there : Locals) → CanDoAll there (acts_of_operand o) → CanTake there o
from_operand (Copy p) there h = h.0
from_operand (Move p) there h = h.0
from_operand (Const l) there h = tt

to_operand : (o : Operand) (there : Locals) → CanTake there o → CanDoAll there (acts_of_operand o)
to_operand (Copy p) there h = (h, tt)
to_operand (Move p) there h = (h, tt)
to_operand (Const l) there h = tt

pub operands_done : (os : List Operand) (there : Locals) → all_done (acts_of_operands os) there ≡ all_taken os there
operands_done [] there = refl
operands_done (o ∷ os) there = done_both (acts_of_operand o) (acts_of_operands os) there ∙ ap (all_done (acts_of_operands os)) (operand_done o there) ∙ operands_done os (taken o there)

from_operands : (os : List Operand) (there : Locals) → CanDoAll there (acts_of_operands os) → CanTakeAll there os
from_operands [] there h = tt
from_operands (o ∷ os) there h = (
  from_operand o there (first_of (acts_of_operand o) (acts_of_operands os) there h),
  from_operands os (taken o there) (subst (λ (s : Locals). CanDoAll s (acts_of_operands os)) (operand_done o there) (second_of (acts_of_operand o) (acts_of_operands os) there h)),
)

to_operands : (os : List Operand) (there : Locals) → CanTakeAll there os → CanDoAll there (acts_of_operands os)
to_operands [] there h = tt
to_operands (o ∷ os) there h =
    both_of (acts_of_operand o) (acts_of_operands os) there (to_operand o there h.0)
    (subst (λ (s : Locals). CanDoAll s (acts_of_operands os)) (sym (operand_done o there)) (to_operands os (taken o there) h.1))

-- ---- right sides

rvalue_done : (r : Rvalue) (there : Locals) → all_done (acts_of_rvalue r) there ≡ evaluated r there
rvalue_done (Use o) there = operand_done o there
rvalue_done (Binary op x y) there = done_both (acts_of_operand x) (acts_of_operand y) there ∙ ap (all_done (acts_of_operand y)) (operand_done x there) ∙ operand_done y (taken x there)
rvalue_done (Neg o) there = operand_done o there
rvalue_done (Not o) there = operand_done o there
rvalue_done (Widen o k) there = operand_done o there
rvalue_done (Make c os) there = operands_done os there
rvalue_done (BoxNew o) there = operand_done o there

from_rvalue : (r : Rvalue) (there : Locals) → CanDoAll there (acts_of_rvalue r) → CanEvaluate there r
from_rvalue (Use o) there h = from_operand o there h
from_rvalue (Binary op x y) there h = (
  from_operand x there (first_of (acts_of_operand x) (acts_of_operand y) there h),
  from_operand y (taken x there) (subst (λ (s : Locals). CanDoAll s (acts_of_operand y)) (operand_done x there) (second_of (acts_of_operand x) (acts_of_operand y) there h)),
)
from_rvalue (Neg o) there h = from_operand o there h
from_rvalue (Not o) there h = from_operand o there h
from_rvalue (Widen o k) there h = from_operand o there h
from_rvalue (Make c os) there h = from_operands os there h
from_rvalue (BoxNew o) there h = from_operand o there h

to_rvalue : (r : Rvalue) (there : Locals) → CanEvaluate there r → CanDoAll there (acts_of_rvalue r)
to_rvalue (Use o) there h = to_operand o there h
to_rvalue (Binary op x y) there h =
    both_of (acts_of_operand x) (acts_of_operand y) there (to_operand x there h.0)
    (subst (λ (s : Locals). CanDoAll s (acts_of_operand y)) (sym (operand_done x there)) (to_operand y (taken x there) h.1))
to_rvalue (Neg o) there h = to_operand o there h
to_rvalue (Not o) there h = to_operand o there h
to_rvalue (Widen o k) there h = to_operand o there h
to_rvalue (Make c os) there h = to_operands os there h
to_rvalue (BoxNew o) there h = to_operand o there h

-- ---- statements

pub statement_done : (kind : StatementKind) (there : Locals) → all_done (acts_of kind) there ≡ run kind there
statement_done (Assign p r) there = done_both (acts_of_rvalue r) (writes p ∷ []) there ∙ ap (with p.local) (rvalue_done r there)
statement_done (Dead x) there = refl

pub from_statement : (kind : StatementKind) (there : Locals) → CanDoAll there (acts_of kind) → CanRun there kind
from_statement (Assign p r) there h = from_rvalue r there (first_of (acts_of_rvalue r) (writes p ∷ []) there h)
from_statement (Dead x) there h = tt

pub to_statement : (kind : StatementKind) (there : Locals) → CanRun there kind → CanDoAll there (acts_of kind)
to_statement (Assign p r) there h = both_of (acts_of_rvalue r) (writes p ∷ []) there (to_rvalue r there h) (tt, tt)
to_statement (Dead x) there h = (tt, tt)

-- ---- ends

pub from_end : (kind : TerminatorKind) (there : Locals) → CanDoAll there (acts_of_end kind) → CanEnd there kind
from_end (Goto l) there h = tt
from_end (If o on_true on_false) there h = from_operand o there h
from_end (Switch p ls) there h = h.0
from_end (Call p callee types os l) there h = from_operands os there h
from_end Return there h = h.0
from_end (Panic cause) there h = tt

pub to_end : (kind : TerminatorKind) (there : Locals) → CanEnd there kind → CanDoAll there (acts_of_end kind)
to_end (Goto l) there h = tt
to_end (If o on_true on_false) there h = to_operand o there h
to_end (Switch p ls) there h = (h, tt)
to_end (Call p callee types os l) there h = to_operands os there h
to_end Return there h = (h, tt)
to_end (Panic cause) there h = tt

-- ---- edges

-- a block's end and an edge from it
abbrev pub carried : TerminatorKind → Locals → Locals
carried kind there = all_done (acts_of_end kind ++ acts_along kind) there

-- each edge is carried along
abbrev pub CarriesAll : (Label → Locals) → Locals → TerminatorKind → Type 0
CarriesAll starts there kind = (m : Label) → among m (targets kind) ≡ true → Within (starts m) (carried kind there)

test_done : (o : Operand) (there : Locals) → all_done (acts_of_operand o ++ []) there ≡ taken o there
test_done o there = done_both (acts_of_operand o) [] there ∙ operand_done o there

call_done : (os : List Operand) (x : ℕ) (there : Locals) (p : Act) → all_done (p ∷ []) ≡ with x → all_done (acts_of_operands os ++ p ∷ []) there ≡ with x (all_taken os there)
call_done os x there p is = done_both (acts_of_operands os) (p ∷ []) there ∙ ap (λ (f : Locals → Locals). f (all_done (acts_of_operands os) there)) is ∙ ap (with x) (operands_done os there)

within_same : (small large large' : Locals) → large ≡ large' → Within small large → Within small large'
within_same small large large' same w x h = subst (λ (s : Locals). s x ≡ true) same (w x h)

same_label : (l m : Label) → (l.0 == m.0) ≡ true → l ≡ m
same_label l m e = ap (λ n. let r : Label = record { 0 = n } in r) (eqb-true l.0 m.0 e)

itself : (l : Label) (ms : List Label) → among l (l ∷ ms) ≡ true
itself l ms = ap (λ t. t || among l ms) (eq-eqb l.0 l.0 refl)

pub from_edges : (kind : TerminatorKind) (starts : Label → Locals) (there : Locals) → CarriesAll starts there kind → Carries starts there kind
from_edges (Goto l) starts there h = h l (itself l [])
from_edges (If o on_true on_false) starts there h = (
  within_same (starts on_true) _ (taken o there) (test_done o there) (h on_true (itself on_true (on_false ∷ []))),
  within_same (starts on_false) _ (taken o there) (test_done o there) (h on_false (last (on_true.0 == on_false.0) (on_false.0 == on_false.0) (eq-eqb on_false.0 on_false.0 refl))),
)
  where
    last : (a b : Bool) → b ≡ true → (a || (b || false)) ≡ true
    last true b e = refl
    last false true e = refl
    last false false e = e
from_edges (Switch p ls) starts there h = h
from_edges (Call p callee types os l) starts there h = within_same (starts l) _ (with p.local (all_taken os there)) (call_done os p.local there (writes p) refl) (h l (itself l []))
from_edges Return starts there h = tt
from_edges (Panic cause) starts there h = tt

pub to_edges : (kind : TerminatorKind) (starts : Label → Locals) (there : Locals) → Carries starts there kind → CarriesAll starts there kind
to_edges (Goto l) starts there h m e = only (l.0 == m.0) refl e
  where
    only : (t : Bool) → (l.0 == m.0) ≡ t → (t || false) ≡ true → Within (starts m) there
    only true same e = subst (λ (k : Label). Within (starts k) there) (same_label l m same) h
    only false same e = absurd (cc)
to_edges (If o on_true on_false) starts there h m e = either (on_true.0 == m.0) (on_false.0 == m.0) refl refl e
  where
    at : (l : Label) → l ≡ m → Within (starts l) (taken o there) → Within (starts m) (carried (If o on_true on_false) there)
    at l same w = within_same (starts m) (taken o there) _ (sym (test_done o there)) (subst (λ (k : Label). Within (starts k) (taken o there)) same w)

    either : (s t : Bool) → (on_true.0 == m.0) ≡ s → (on_false.0 == m.0) ≡ t → (s || (t || false)) ≡ true → Within (starts m) (carried (If o on_true on_false) there)
    either true t same other e = at on_true (same_label on_true m same) h.0
    either false true same other e = at on_false (same_label on_false m other) h.1
    either false false same other e = absurd (cc)
to_edges (Switch p ls) starts there h m e = h m e
to_edges (Call p callee types os l) starts there h m e = only (l.0 == m.0) refl e
  where
    only : (t : Bool) → (l.0 == m.0) ≡ t → (t || false) ≡ true → Within (starts m) (carried (Call p callee types os l) there)
    only true same e =
        within_same (starts m) (with p.local (all_taken os there)) _ (sym (call_done os p.local there (writes p) refl))
        (subst (λ (k : Label). Within (starts k) (with p.local (all_taken os there))) (same_label l m same) h)
    only false same e = absurd (cc)
to_edges Return starts there h m e = absurd (let f : false ≡ true = e in cc)
to_edges (Panic cause) starts there h m e = absurd (let f : false ≡ true = e in cc)

-- ---- the rows, form by form

-- what the rows of a labelling say
pub record RowByRow (b : Body) (at : Labelling) : Type 0 where
  pub entry : Within (at b.entry 0) (parameters b)
  pub statements : (l : Label) (k : Block) (i : ℕ) (st : Statement) → block_in b.blocks l ≡ Some k → slice_get k.statements i ≡ Some st → CanRun (at l i) st.kind × Within (at l (i + 1)) (run st.kind (at l i))
  pub ends : (l : Label) (k : Block) → block_in b.blocks l ≡ Some k → CanEnd (at l (length k.statements)) k.end.kind
  pub edges : (l : Label) (k : Block) → block_in b.blocks l ≡ Some k → Carries (λ m. at m 0) (at l (length k.statements)) k.end.kind

pub row_by_row : (b : Body) (at : Labelling) → MeetsMoveRows b at → RowByRow b at
row_by_row b at r = record {
  entry = r.entry;
  statements = λ l k i st is_block is. let row = r.statements l k i st is_block is in (
    from_statement st.kind (at l i) row.0,
    within_same (at l (i + 1)) _ (run st.kind (at l i)) (statement_done st.kind (at l i)) row.1,
  );
  ends = λ l k is_block. from_end k.end.kind (at l (length k.statements)) (r.ends l k is_block);
  edges = λ l k is_block. from_edges k.end.kind (λ m. at m 0) (at l (length k.statements)) (λ m named. r.edges l m k is_block named);
}

pub rows_together : (b : Body) (at : Labelling) → RowByRow b at → MeetsMoveRows b at
rows_together b at r = record {
  entry = r.entry;
  statements = λ l k i st is_block is. let row = r.statements l k i st is_block is in (
    to_statement st.kind (at l i) row.0,
    within_same (at l (i + 1)) (run st.kind (at l i)) _ (sym (statement_done st.kind (at l i))) row.1,
  );
  ends = λ l k is_block. to_end k.end.kind (at l (length k.statements)) (r.ends l k is_block);
  edges = λ l m k is_block named. to_edges k.end.kind (λ n. at n 0) (at l (length k.statements)) (r.edges l k is_block) m named;
}
