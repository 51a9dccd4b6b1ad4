-- A walk down the left operands of an expression, with a stack of what is to be done: the text that is still to be written, with the
-- numbers that the code gives. Contracts of the code alone speak of it.
use Rattle.std.specs.Prelude.{ℕ, suc, ◌+◌, ◌*◌, max, Bool, true, false, List, [], ◌∷◌, ◌++◌, reverse, Option, None}
use Rattle.text_core.specs.declared.refusal.SourceError.{SourceError}
use Rattle.text_core.specs.declared.span.Span.{Span}
use Rattle.source_kinds.specs.declared.kinds.LazyOp.{LazyOp}
use Rattle.mir_ir.specs.declared.place.Operand.TheVariants.{Copy}
use Rattle.mir_ir.specs.declared.place.Place.{Place}
use Rattle.mir_ir.specs.declared.statement.Rvalue.TheVariants.{Use, Binary, Widen}
use Rattle.type_check.specs.Answers.{or_else}
use Rattle.type_check.specs.FirstBad.{bad_in}
use Rattle.type_check.specs.TypedExpr.{TypedExpr, variable, part}
use Rattle.type_check.specs.TypedExprView.{ty_of, typed_size}
use Rattle.mir_build.specs.declared.task.Behind.{Behind}
use Rattle.mir_build.specs.declared.task.Behind.TheVariants as behind
use Rattle.mir_build.specs.declared.task.Task.{Task}
use Rattle.mir_build.specs.declared.task.Task.TheVariants.{Lower, Finish}
use Rattle.runnable.specs.CopyDecided.{is_copied}
use Rattle.mir_build.specs.Taking.{taken}
use Rattle.mir_build.specs.Text.{Line, Makes}
use Rattle.mir_build.specs.Lowering.{Around, part_place, puts, puts_at, put_unit, moved, lazily}
use Rattle.mir_build.specs.Numbered.{label, place_of, labels, locals, into}
use Rattle.mir_build.specs.Reach.{reach}

-- ---- the roots of places

-- what parts are parts of; the expression itself where it is no part
abbrev pub root : TypedExpr → TypedExpr
root (part ty s e n) = root e
root e = e

abbrev pub is_part : TypedExpr → Bool
is_part (part ty s e n) = true
is_part _ = false

abbrev pub is_variable : TypedExpr → Bool
is_variable (variable ty s v) = true
is_variable _ = false

-- the part of this number of the part of the next number, and so on, of what is at the place
abbrev pub parts_of_place : Place → List ℕ → Place
parts_of_place p [] = p
parts_of_place p (n ∷ ns) = part_place (parts_of_place p ns) n

-- ---- behind a left operand, which is in local t

abbrev pub behind_labels : Behind → ℕ
behind_labels (behind.Binary op b) = labels b.now
behind_labels (behind.Cast k) = 0
behind_labels (behind.Lazy op b) = 3 + labels b.now
behind_labels (behind.Assign a v) = 0
behind_labels (behind.Update op a ty v) = 0
behind_labels (behind.Part e) = 0

abbrev pub behind_locals : Behind → ℕ
behind_locals (behind.Binary op b) = 1 + locals b.now
behind_locals (behind.Cast k) = 0
behind_locals (behind.Lazy op b) = locals b.now
behind_locals (behind.Assign a v) = 0
behind_locals (behind.Update op a ty v) = 1
behind_locals (behind.Part e) = 0

-- the text of `&&` or `||`
abbrev pub lazy_text : LazyOp → TypedExpr → Span → ℕ → ℕ → Around → ℕ → ℕ → List Line
lazy_text op b s t d c l u = lazily op c s t d (label l) (label (l + 1)) (label (l + 2)) (into b c (l + 3) u d)

abbrev pub behind_text : Behind → Span → ℕ → ℕ → Around → ℕ → ℕ → List Line
behind_text (behind.Binary op b) s t d c l u = Makes u (ty_of b.now) ∷ (into b.now c l (u + 1) u ++ puts s d (Binary op (moved t) (moved u)) ∷ [])
behind_text (behind.Cast k) s t d c l u = puts s d (Widen (moved t) k) ∷ []
behind_text (behind.Lazy op b) s t d c l u = lazy_text op b.now s t d c l u
behind_text (behind.Assign a v) s t d c l u = puts_at s (place_of c.scope t a.now) (Use (moved v)) ∷ put_unit s d ∷ []
behind_text (behind.Update op a ty v) s t d c l u =
    let p = place_of c.scope t a.now in
    Makes u ty.now ∷ puts s u (Binary op (Copy p) (moved v)) ∷ puts_at s p (Use (moved u)) ∷ put_unit s d ∷ []
behind_text (behind.Part e) s t d c l u = puts s d (Use (taken (is_copied c.types (ty_of e.now)) (place_of c.scope t e.now))) ∷ []

abbrev pub behind_size : Behind → ℕ
behind_size (behind.Binary op b) = typed_size b.now
behind_size (behind.Cast k) = 0
behind_size (behind.Lazy op b) = typed_size b.now
behind_size (behind.Assign a v) = 0
behind_size (behind.Update op a ty v) = 0
behind_size (behind.Part e) = 0

abbrev pub behind_reach : Behind → ℕ
behind_reach (behind.Binary op b) = reach b.now
behind_reach (behind.Cast k) = 0
behind_reach (behind.Lazy op b) = reach b.now
behind_reach (behind.Assign a v) = reach a.now
behind_reach (behind.Update op a ty v) = reach a.now
behind_reach (behind.Part e) = reach e.now

-- the first formula that is refused
abbrev pub behind_bad : Behind → Option SourceError
behind_bad (behind.Binary op b) = bad_in b.now
behind_bad (behind.Cast k) = None
behind_bad (behind.Lazy op b) = bad_in b.now
behind_bad (behind.Assign a v) = None
behind_bad (behind.Update op a ty v) = None
behind_bad (behind.Part e) = None

-- ---- tasks

abbrev pub task_labels : Task → ℕ
task_labels (Lower e d) = labels e.now
task_labels (Finish p) = behind_labels p.behind

abbrev pub task_locals : Task → ℕ
task_locals (Lower e d) = locals e.now
task_locals (Finish p) = behind_locals p.behind

abbrev pub task_text : Task → Around → ℕ → ℕ → List Line
task_text (Lower e d) c l u = into e.now c l u d
task_text (Finish p) c l u = behind_text p.behind p.span p.operand p.target c l u

-- those on a stack, the next one first
abbrev pub to_do : List Task → List Task
to_do ts = reverse ts

abbrev pub tasks_labels : List Task → ℕ
tasks_labels [] = 0
tasks_labels (t ∷ ts) = task_labels t + tasks_labels ts

abbrev pub tasks_locals : List Task → ℕ
tasks_locals [] = 0
tasks_locals (t ∷ ts) = task_locals t + tasks_locals ts

abbrev pub tasks_text : List Task → Around → ℕ → ℕ → List Line
tasks_text [] c l u = []
tasks_text (t ∷ ts) c l u = task_text t c l u ++ tasks_text ts c (l + task_labels t) (u + task_locals t)

-- how deep what is lowered is
abbrev pub task_size : Task → ℕ
task_size (Lower e d) = typed_size e.now
task_size (Finish p) = suc (behind_size p.behind)

abbrev pub tasks_size : List Task → ℕ
tasks_size [] = 0
tasks_size (t ∷ ts) = max (task_size t) (tasks_size ts)

-- how many variables have to be in scope
abbrev pub task_reach : Task → ℕ
task_reach (Lower e d) = reach e.now
task_reach (Finish p) = behind_reach p.behind

abbrev pub tasks_reach : List Task → ℕ
tasks_reach [] = 0
tasks_reach (t ∷ ts) = max (task_reach t) (tasks_reach ts)

-- the first formula that is refused
abbrev pub task_bad : Task → Option SourceError
task_bad (Lower e d) = bad_in e.now
task_bad (Finish p) = behind_bad p.behind

abbrev pub tasks_bad : List Task → Option SourceError
tasks_bad [] = None
tasks_bad (t ∷ ts) = or_else (task_bad t) (tasks_bad ts)

-- how much there is to do
abbrev pub task_weight : Task → ℕ
task_weight (Lower e d) = 2 * typed_size e.now
task_weight (Finish p) = 1

abbrev pub tasks_weight : List Task → ℕ
tasks_weight [] = 0
tasks_weight (t ∷ ts) = task_weight t + tasks_weight ts
