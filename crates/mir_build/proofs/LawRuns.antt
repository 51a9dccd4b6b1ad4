-- Sets of locals that are surely initialised along a text.
use Rattle.std.proofs.Common.{◌≡◌, refl, ap, sym, ◌∙◌, ℕ, ◌≤◌, ◌==◌, Bool, true, false, cond, List, [], ◌∷◌, ◌++◌, map, true≢false}
use Rattle.std.proofs.lemmas.Bool.{eqb-true, eq-eqb}
use Rattle.logic_term.specs.declared.kinds.Label.{Label}
use Rattle.logic_term.specs.Ty.{Ty}
use Rattle.mir_ir.specs.declared.place.Operand.{Operand}
use Rattle.mir_ir.specs.declared.place.Operand.TheVariants.{Copy, Move, Const}
use Rattle.mir_ir.specs.declared.statement.Rvalue.{Rvalue}
use Rattle.mir_ir.specs.declared.statement.Rvalue.TheVariants.{Use, Binary, Neg, Not, Widen, Make, BoxNew}
use Rattle.mir_ir.specs.declared.statement.Statement.{Statement}
use Rattle.mir_ir.specs.declared.statement.StatementKind.{StatementKind}
use Rattle.mir_ir.specs.declared.statement.StatementKind.TheVariants.{Assign, Dead}
use Rattle.mir_ir.specs.declared.terminator.Terminator.{Terminator}
use Rattle.mir_ir.specs.declared.terminator.TerminatorKind.{TerminatorKind}
use Rattle.mir_ir.specs.declared.terminator.TerminatorKind.TheVariants.{Goto, If, Switch, Call, Return, Panic}
use Rattle.mir_ir.specs.WellFormed.{Locals, with, without, Within}
use Rattle.mir_ir.proofs.Taking.{taken, CanTake, CanTakeAll, all_taken, CanEvaluate, evaluated, CanRun, run, CanEnd, Carries}
use Rattle.mir_build.specs.Text.{Title, Line, Puts, Makes, Turns, Leaves, Owns, begun}
use Rattle.mir_build.specs.Lowering.{ends}
use Rattle.text_core.specs.declared.refusal.Cause.{Cause}
use Rattle.text_core.specs.declared.span.Span.{Span}
use Rattle.mir_build.proofs.Numbers.{count, labels_begun}
use Rattle.mir_build.proofs.LawLists.{begun-append}
use Rattle.mir_build.proofs.LawNames.{HeadFits}

-- ---- sets

pub with_self : (x : ℕ) (set : Locals) → with x set x ≡ true
with_self x set = ap (λ t. cond t true (set x)) (eq-eqb x x refl)

pub with_more : (x : ℕ) (set : Locals) → Within set (with x set)
with_more x set y h = by_test (y == x)
  where
    by_test : (t : Bool) → cond t true (set y) ≡ true
    by_test true = refl
    by_test false = h

pub with_within : (x : ℕ) (small large : Locals) → Within small large → Within (with x small) (with x large)
with_within x small large w y h = by_test (y == x) h
  where
    by_test : (t : Bool) → cond t true (small y) ≡ true → cond t true (large y) ≡ true
    by_test true q = refl
    by_test false q = w y q

pub without_within : (x : ℕ) (small large : Locals) → Within small large → Within (without x small) (without x large)
without_within x small large w y h = by_test (y == x) h
  where
    by_test : (t : Bool) → cond t false (small y) ≡ true → cond t false (large y) ≡ true
    by_test true q = absurd (true≢false (sym q))
    by_test false q = w y q

-- what is not in the set may go
pub kept : (x : ℕ) (small large : Locals) → small x ≡ false → Within small large → Within small (without x large)
kept x small large n w y h = by_test (y == x) refl
  where
    by_test : (t : Bool) → (y == x) ≡ t → cond t false (large y) ≡ true
    by_test true e = absurd (true≢false (sym h ∙ ap small (eqb-true y x e) ∙ n))
    by_test false e = w y h

pub within_trans : (a b c : Locals) → Within a b → Within b c → Within a c
within_trans a b c f g x h = g x (f x h)

taken_within : (o : Operand) (small large : Locals) → Within small large → Within (taken o small) (taken o large)
taken_within (Copy p) small large w = w
taken_within (Move p) small large w = without_within p.local small large w
taken_within (Const l) small large w = w

can_take : (o : Operand) (small large : Locals) → Within small large → CanTake small o → CanTake large o
can_take (Copy p) small large w h = w p.local h
can_take (Move p) small large w h = w p.local h
can_take (Const l) small large w h = tt

can_take_all : (os : List Operand) (small large : Locals) → Within small large → CanTakeAll small os → CanTakeAll large os
can_take_all [] small large w h = tt
can_take_all (o ∷ os) small large w h = (can_take o small large w h.0, can_take_all os (taken o small) (taken o large) (taken_within o small large w) h.1)

all_taken_within : (os : List Operand) (small large : Locals) → Within small large → Within (all_taken os small) (all_taken os large)
all_taken_within [] small large w = w
all_taken_within (o ∷ os) small large w = all_taken_within os (taken o small) (taken o large) (taken_within o small large w)

can_evaluate : (r : Rvalue) (small large : Locals) → Within small large → CanEvaluate small r → CanEvaluate large r
can_evaluate (Use o) small large w h = can_take o small large w h
can_evaluate (Binary op x y) small large w h = (can_take x small large w h.0, can_take y (taken x small) (taken x large) (taken_within x small large w) h.1)
can_evaluate (Neg o) small large w h = can_take o small large w h
can_evaluate (Not o) small large w h = can_take o small large w h
can_evaluate (Widen o k) small large w h = can_take o small large w h
can_evaluate (Make c os) small large w h = can_take_all os small large w h
can_evaluate (BoxNew o) small large w h = can_take o small large w h

evaluated_within : (r : Rvalue) (small large : Locals) → Within small large → Within (evaluated r small) (evaluated r large)
evaluated_within (Use o) small large w = taken_within o small large w
evaluated_within (Binary op x y) small large w = taken_within y (taken x small) (taken x large) (taken_within x small large w)
evaluated_within (Neg o) small large w = taken_within o small large w
evaluated_within (Not o) small large w = taken_within o small large w
evaluated_within (Widen o k) small large w = taken_within o small large w
evaluated_within (Make c os) small large w = all_taken_within os small large w
evaluated_within (BoxNew o) small large w = taken_within o small large w

can_run : (k : StatementKind) (small large : Locals) → Within small large → CanRun small k → CanRun large k
can_run (Assign p r) small large w h = can_evaluate r small large w h
can_run (Dead x) small large w h = tt

run_within : (k : StatementKind) (small large : Locals) → Within small large → Within (run k small) (run k large)
run_within (Assign p r) small large w = with_within p.local (evaluated r small) (evaluated r large) (evaluated_within r small large w)
run_within (Dead x) small large w = without_within x small large w

can_end : (k : TerminatorKind) (small large : Locals) → Within small large → CanEnd small k → CanEnd large k
can_end (Goto l) small large w h = tt
can_end (If o l m) small large w h = can_take o small large w h
can_end (Switch p ls) small large w h = w p.local h
can_end (Call p f types os l) small large w h = can_take_all os small large w h
can_end Return small large w h = w 0 h
can_end (Panic cause) small large w h = tt

carries : (at : Label → Locals) (k : TerminatorKind) (small large : Locals) → Within small large → Carries at small k → Carries at large k
carries at (Goto l) small large w h = within_trans (at l) small large h w
carries at (If o l m) small large w h =
    let v = taken_within o small large w in
    (within_trans (at l) (taken o small) (taken o large) h.0 v, within_trans (at m) (taken o small) (taken o large) h.1 v)
carries at (Switch p ls) small large w h = λ l named. within_trans (at l) small large (h l named) w
carries at (Call p f types os l) small large w h =
    within_trans (at l) (with p.local (all_taken os small)) (with p.local (all_taken os large)) h (with_within p.local (all_taken os small) (all_taken os large) (all_taken_within os small large w))
carries at Return small large w h = tt
carries at (Panic cause) small large w h = tt

-- ---- texts

-- the set has none of these
abbrev pub HasNone : Locals → List ℕ → Type 0
HasNone set xs = (x : ℕ) → 1 ≤ count x xs → set x ≡ false

-- behind what leaves, where nothing runs
abbrev pub everything : Locals
everything x = true

-- from the first set the text can run, and then at least the second is initialised; a block begins with the set of its label, of
-- which the invariants speak, and in which the loop's own locals are not
pub data Runs (at : Label → Locals) : Locals → List Line → Locals → Type 0 where
  stops : {set to : Locals} → Within to set → Runs at set [] to
  puts : {s : Statement} {set to : Locals} {xs : List Line} → CanRun set s.kind → Runs at (run s.kind set) xs to → Runs at set (Puts s ∷ xs) to
  makes : {x : ℕ} {t : Ty} {set to : Locals} {xs : List Line} → Runs at set xs to → Runs at set (Makes x t ∷ xs) to
  turns : {t : Terminator} {b : Title} {set to : Locals} {xs : List Line} → CanEnd set t.kind → Carries at set t.kind → HeadFits (at b.label) b.head → Runs at (at b.label) xs to → Runs at set (Turns t b ∷ xs) to
  leaves : {t : Terminator} {set to : Locals} {xs : List Line} → CanEnd set t.kind → Carries at set t.kind → Runs at everything xs to → Runs at set (Leaves t ∷ xs) to
  owns : {l : Label} {ys : List ℕ} {set to : Locals} {xs : List Line} → HasNone (at l) ys → Runs at set xs to → Runs at set (Owns l ys ∷ xs) to

module _ (at : Label → Locals) where
  pub runs_more : (small to : Locals) (xs : List Line) → Runs at small xs to → (large : Locals) → Within small large → Runs at large xs to
  runs_more small to xs (stops v) large w = stops (within_trans to small large v w)
  runs_more small to xs (puts {s = s} h p) large w = puts (can_run s.kind small large w h) (runs_more (run s.kind small) to _ p (run s.kind large) (run_within s.kind small large w))
  runs_more small to xs (makes p) large w = makes (runs_more small to _ p large w)
  runs_more small to xs (turns {t = t} h g f p) large w = turns (can_end t.kind small large w h) (carries at t.kind small large w g) f p
  runs_more small to xs (leaves {t = t} h g p) large w = leaves (can_end t.kind small large w h) (carries at t.kind small large w g) p
  runs_more small to xs (owns h p) large w = owns h (runs_more small to _ p large w)

  pub runs-append : (mid to : Locals) (ys : List Line) → Runs at mid ys to → (set : Locals) (xs : List Line) → Runs at set xs mid → Runs at set (xs ++ ys) to
  runs-append mid to ys q set xs (stops w) = runs_more mid to ys q set w
  runs-append mid to ys q set xs (puts {s = s} h p) = puts h (runs-append mid to ys q (run s.kind set) _ p)
  runs-append mid to ys q set xs (makes p) = makes (runs-append mid to ys q set _ p)
  runs-append mid to ys q set xs (turns {b = b} h g f p) = turns h g f (runs-append mid to ys q (at b.label) _ p)
  runs-append mid to ys q set xs (leaves h g p) = leaves h g (runs-append mid to ys q everything _ p)
  runs-append mid to ys q set xs (owns h p) = owns h (runs-append mid to ys q set _ p)

-- ---- sets for the labels that a text begins

abbrev pub Agree : (Label → Locals) → List (Label × Locals) → Type 0
Agree at [] = Unit {0}
Agree at (e ∷ es) = (at e.0 ≡ e.1) × Agree at es

pub agree_left : (at : Label → Locals) (as' bs : List (Label × Locals)) → Agree at (as' ++ bs) → Agree at as'
agree_left at [] bs g = tt
agree_left at (a ∷ as') bs g = (g.0, agree_left at as' bs g.1)

pub agree_right : (at : Label → Locals) (as' bs : List (Label × Locals)) → Agree at (as' ++ bs) → Agree at bs
agree_right at [] bs g = g
agree_right at (a ∷ as') bs g = agree_right at as' bs g.1

abbrev pub labels_in : List (Label × Locals) → List ℕ
labels_in es = map (λ (e : Label × Locals). e.0.0) es

-- the text runs from the one set to the other wherever its labels have these sets, and those of loops around meet B
pub record Laid (B : (Label → Locals) → Type 0) (set : Locals) (xs : List Line) (to : Locals) : Type 0 where
  pub starts : List (Label × Locals)
  pub are : labels_in starts ≡ labels_begun xs
  pub runs : (at : Label → Locals) → Agree at starts → B at → Runs at set xs to

pub labels_in-append : (as' bs : List (Label × Locals)) → labels_in (as' ++ bs) ≡ labels_in as' ++ labels_in bs
labels_in-append [] bs = refl
labels_in-append (a ∷ as') bs = ap (λ ls. a.0.0 ∷ ls) (labels_in-append as' bs)

begun_labels-append : (as' bs : List Title) → map (λ (b : Title). b.label.0) (as' ++ bs) ≡ map (λ (b : Title). b.label.0) as' ++ map (λ (b : Title). b.label.0) bs
begun_labels-append [] bs = refl
begun_labels-append (a ∷ as') bs = ap (λ ls. a.label.0 ∷ ls) (begun_labels-append as' bs)

pub labels_begun-append : (xs ys : List Line) → labels_begun (xs ++ ys) ≡ labels_begun xs ++ labels_begun ys
labels_begun-append xs ys = ap (λ bs. map (λ (b : Title). b.label.0) bs) (begun-append xs ys) ∙ begun_labels-append (begun xs) (begun ys)

pub laid_stops : {B : (Label → Locals) → Type 0} (set to : Locals) → Within to set → Laid B set [] to
laid_stops set to w = record { starts = []; are = refl; runs = λ at g b. stops w }

pub laid_puts : {B : (Label → Locals) → Type 0} (s : Statement) (set to : Locals) (xs : List Line) → CanRun set s.kind → Laid B (run s.kind set) xs to → Laid B set (Puts s ∷ xs) to
laid_puts s set to xs h p = record { starts = p.starts; are = p.are; runs = λ at g b. puts h (p.runs at g b) }

pub laid_makes : {B : (Label → Locals) → Type 0} (x : ℕ) (t : Ty) (set to : Locals) (xs : List Line) → Laid B set xs to → Laid B set (Makes x t ∷ xs) to
laid_makes x t set to xs p = record { starts = p.starts; are = p.are; runs = λ at g b. makes (p.runs at g b) }

-- behind a panic nothing runs
pub laid_panics : {B : (Label → Locals) → Type 0} (s : Span) (k : Cause) (set to : Locals) → Laid B set (Leaves (ends s (Panic k)) ∷ []) to
laid_panics s k set to = record { starts = []; are = refl; runs = λ at g b. leaves tt tt (stops (λ x h. refl)) }

-- nor behind a return
pub laid_returns : {B : (Label → Locals) → Type 0} (s : Span) (set to : Locals) → set 0 ≡ true → Laid B set (Leaves (ends s Return) ∷ []) to
laid_returns s set to h = record { starts = []; are = refl; runs = λ at g b. leaves h tt (stops (λ x q. refl)) }

-- nor behind an edge
pub laid_goes : {B : (Label → Locals) → Type 0} (s : Span) (l : Label) (base set to : Locals) → Within base set → ((at : Label → Locals) → B at → Within (at l) base) → Laid B set (Leaves (ends s (Goto l)) ∷ []) to
laid_goes s l base set to w h = record { starts = []; are = refl; runs = λ at g b. leaves tt (within_trans (at l) base set (h at b) w) (stops (λ x q. refl)) }

pub laid-append : {B : (Label → Locals) → Type 0} (set mid to : Locals) (xs ys : List Line) → Laid B set xs mid → Laid B mid ys to → Laid B set (xs ++ ys) to
laid-append set mid to xs ys p q = record {
  starts = p.starts ++ q.starts;
  are = labels_in-append p.starts q.starts ∙ ap (λ ls. ls ++ labels_in q.starts) p.are ∙ ap (λ ls. labels_begun xs ++ ls) q.are ∙ sym (labels_begun-append xs ys);
  runs = λ at g b. runs-append at mid to ys (q.runs at (agree_right at p.starts q.starts g) b) set xs (p.runs at (agree_left at p.starts q.starts g) b);
}
