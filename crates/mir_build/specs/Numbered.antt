-- The text of the rows with the numbers that the code gives: labels from l on, locals from t on. Contracts of the code alone speak of it,
-- where each variable is in scope.
use Rattle.std.specs.Prelude.{ℕ, zero, suc, ℤ, ◌+◌, ◌-◌, ◌&&◌, Bool, true, false, List, [], ◌∷◌, ◌++◌, map, length, get_or, Option, Some, None}
use Rattle.std.specs.List.{range_with_len}
use Rattle.text_core.specs.declared.span.Span.{Span}
use Rattle.logic_term.specs.declared.kinds.Label.{Label}
use Rattle.logic_term.specs.Term as term
use Rattle.logic_term.specs.Ty.{Ty, int, bool}
use Rattle.source_kinds.specs.declared.kinds.BinaryOp.TheVariants.{Eq}
use Rattle.source_kinds.specs.declared.kinds.IntKind.{IntKind}
use Rattle.source_kinds.specs.declared.kinds.IntKind.TheVariants.{I32}
use Rattle.mir_ir.specs.declared.place.Lit.TheVariants as lit
use Rattle.mir_ir.specs.declared.place.Operand.TheVariants.{Copy, Const}
use Rattle.mir_ir.specs.declared.place.Place.{Place}
use Rattle.mir_ir.specs.declared.statement.Rvalue.{Rvalue}
use Rattle.mir_ir.specs.declared.statement.Rvalue.TheVariants.{Use, Binary, Neg, Not, Widen, Make}
use Rattle.mir_ir.specs.declared.terminator.FnId.TheVariants as fn_id
use Rattle.mir_ir.specs.declared.terminator.Callee.TheVariants.{Function}
use Rattle.mir_ir.specs.declared.terminator.TerminatorKind.TheVariants.{Goto, If, Call, Return, Panic}
use Rattle.type_check.specs.declared.assertion.Assertion.{Assertion}
use Rattle.type_check.specs.declared.assertion.Assertion.TheVariants.{Good, Bad}
use Rattle.type_check.specs.TypedExpr.{TypedExpr, TypedStmts, TypedExprs, integer, truth, variable, negative, denied, cast, binary, lazy, assign, update, call, make, part, block, branch, choice, matched, repeat, panics, returned, endless}
use Rattle.type_check.specs.TypedExpr.{until_break, break_off, go_on, done, last, leaving, bind, run, none, more, TypedArms, no_arms, with_arm}
use Rattle.type_check.specs.Leaves.{leaves, all_arms_leave}
use Rattle.type_check.specs.TypedExprView.{ty_of, patterns_of}
use Rattle.pat_check.specs.Decision.{Decision, leaf, switch, if_truth, if_literal}
use Rattle.pat_check.specs.Flat.{flat_tree}
use Rattle.pat_types.specs.declared.names.BoundName.{BoundName}
use Rattle.mir_build.specs.declared.around.Loop.{Loop}
use Rattle.runnable.specs.CopyDecided.{is_copied}
use Rattle.mir_build.specs.Taking.{taken}
use Rattle.mir_build.specs.Text.{Line, Makes, Turns, Leaves, Owns}
use Rattle.mir_build.specs.Lowering.{Around, Formula, binds, looping, at, at_head, head_of, whole, part_place, puts, puts_at, constant, put_unit, moved, ends, dies_in, die_from, lazily, test, fork, split, met, is_place}

abbrev pub label : ℕ → Label
label l = record { 0 = l }

abbrev pub variable_place : List Place → ℕ → Place
variable_place scope v = get_or scope v (whole 0)

-- the numbers from the first up to the last, which is none of them
abbrev pub between : ℕ → ℕ → List ℕ
between m n = range_with_len m (n - m)

-- the formula of an assertion that is not refused; of another one nothing is asked
abbrev pub formula_of : Assertion → Formula
formula_of (Good s t) = record { span = s; term = t }
formula_of (Bad e) = record { span = e.span; term = term.truth true }

-- the integer type that a cast has; of another one no row speaks
abbrev pub kind_of : Ty → IntKind
kind_of (int k) = k
kind_of _ = I32

-- ---- the innermost loop

-- where no loop is around, of which no row speaks, this one stands for it
abbrev pub no_loop : Loop
no_loop = record { head = label 0; after = label 0; depth = 0 }

abbrev pub loop_at : List Loop → Loop
loop_at ls = get_or ls (length ls - 1) no_loop

-- what is bound inside of a loop ends, and an edge leads to the label
abbrev pub jump : Span → ℕ → Label → List Place → List Line
jump s depth to scope = die_from s depth scope ++ Leaves (ends s (Goto to)) ∷ []

-- ---- places

-- the place of an expression, where t is the temporary of what names no place
abbrev pub place_of : List Place → ℕ → TypedExpr → Place
place_of scope t (variable ty s v) = variable_place scope v
place_of scope t (part ty s e n) = part_place (place_of scope t e) n
place_of scope t _ = whole t

-- how many temporaries stand for the expression itself: none for what names a place
abbrev pub temporary_count : Bool → ℕ
temporary_count true = 0
temporary_count false = 1

-- the text before what names a place, or the temporary, which another text writes
abbrev pub place_text : Bool → ℕ → Ty → List Line → List Line → List Line
place_text true t ty before xs = before
place_text false t ty before xs = Makes t ty ∷ xs

-- ---- `if` with `else`

-- the blocks of the sides, and the one behind them unless both leave
abbrev pub choice_labels : Bool → ℕ
choice_labels true = 2
choice_labels false = 3

-- the condition is in t, and the labels are m, m + 1 and, unless both sides leave, m + 2
abbrev pub choice_text : Bool → Around → Span → (t m : ℕ) → List Line → List Line → List Line
choice_text true c s t m ys zs = fork c s t (label m) (label (m + 1)) ys zs
choice_text false c s t m ys zs = test c s t (label m) (label (m + 1)) (label (m + 2)) ys zs

-- ---- `match`

-- the block behind the arms, unless all of them leave
abbrev pub met_labels : Bool → ℕ
met_labels true = 0
met_labels false = 1

abbrev pub behind_label : Bool → ℕ → Option Label
behind_label true l = None
behind_label false l = Some (label l)

-- the integer type of a literal at the type
abbrev pub literal_rvalue : Ty → Place → ℤ → Rvalue
literal_rvalue T p z = Binary Eq (Copy p) (Const (lit.Int z (kind_of T)))

-- how many labels or locals the tests take, each so many besides the parts, and arm n so many
abbrev pub tests_take : (each : ℕ) → (ℕ → ℕ) → Decision → ℕ
tests_take each arm (leaf n bs) = arm n
tests_take each arm (switch q Ds) = 0
tests_take each arm (if_truth q D E) = each + tests_take each arm D + tests_take each arm E
tests_take each arm (if_literal q z D E) = each + tests_take each arm D + tests_take each arm E

-- with no tree there is no test
abbrev pub match_takes : (each : ℕ) → (ℕ → ℕ) → Option Decision → ℕ
match_takes each arm None = 0
match_takes each arm (Some D) = tests_take each arm D

-- a local that says which of two texts is run
abbrev pub tested_by : Around → Span → ℕ → Rvalue → ℕ → Option Label → List Line → List Line → List Line
tested_by c s u r m to xs ys = Makes u bool ∷ puts s u r ∷ split c s u (label m) (label (m + 1)) to xs ys

-- the text of the tests, where arm n has so many labels, so many locals and the text with the numbers given
abbrev pub tests_text : Around → Span → Ty → Place → Option Label → (ℕ → ℕ) → (ℕ → ℕ) → (ℕ → ℕ → ℕ → List Line) → Decision → ℕ → ℕ → List Line
tests_text c s T p to ls ts arm (leaf n bs) l t = arm n l t
tests_text c s T p to ls ts arm (switch q Ds) l t = []
tests_text c s T p to ls ts arm (if_truth q D E) l t =
    tested_by c s t (Use (Copy p)) l to (tests_text c s T p to ls ts arm D (l + 2) (t + 1)) (tests_text c s T p to ls ts arm E (l + 2 + tests_take 2 ls D) (t + 1 + tests_take 1 ts D))
tests_text c s T p to ls ts arm (if_literal q z D E) l t =
    tested_by c s t (literal_rvalue T p z) l to (tests_text c s T p to ls ts arm D (l + 2) (t + 1)) (tests_text c s T p to ls ts arm E (l + 2 + tests_take 2 ls D) (t + 1 + tests_take 1 ts D))

abbrev pub tests_of : Around → Span → Ty → Place → Option Label → (ℕ → ℕ) → (ℕ → ℕ) → (ℕ → ℕ → ℕ → List Line) → Option Decision → ℕ → ℕ → List Line
tests_of c s T p to ls ts arm None l t = []
tests_of c s T p to ls ts arm (Some D) l t = tests_text c s T p to ls ts arm D l t

-- the text of an arm, where its body has this text with the scope and the numbers given: a name that is bound is local t
abbrev pub bound_text : List BoundName → (Around → ℕ → ℕ → List Line) → Around → Span → Ty → Place → ℕ → ℕ → List Line
bound_text [] body c s T p l t = body c l t
bound_text (y ∷ ys) body c s T p l t = Makes t T ∷ puts s t (Use (taken (is_copied c.types T) p)) ∷ (body (binds c t) l (t + 1) ++ dies_in false s t)

-- how many locals the names of an arm are
abbrev pub bound_locals : List BoundName → ℕ
bound_locals [] = 0
bound_locals (y ∷ ys) = 1

-- ---- how many blocks the text begins

abbrev mutual
  pub labels : TypedExpr → ℕ
  labels (integer ty s z k) = 0
  labels (truth ty s b) = 0
  labels (variable ty s v) = 0
  labels (negative ty s e) = labels e
  labels (denied ty s e) = labels e
  labels (cast ty s e) = labels e
  labels (binary ty s op a b) = labels a + labels b
  labels (lazy ty s op a b) = labels a + 3 + labels b
  labels (assign ty s a e) = labels e + labels a
  labels (update ty s op a e) = labels e + labels a
  labels (call ty s f es) = labels_in es + 1
  labels (make ty s k es) = labels_in es
  labels (part ty s e n) = labels e
  labels (block ty s ss) = labels_of ss
  labels (branch ty s e a) = labels e + 3 + labels a
  labels (choice ty s e a b) = labels e + choice_labels (leaves a && leaves b) + labels a + labels b
  labels (matched ty s e as') = labels e + met_labels (all_arms_leave as') + match_takes 2 (arm_labels as') (flat_tree (ty_of e) (patterns_of as'))
  labels (repeat ty s is e b) = 3 + labels e + labels b
  labels (panics ty s k) = 0
  labels (returned ty s e) = labels e
  labels (endless ty s is b) = 1 + labels b
  labels (until_break ty s is b) = 2 + labels b
  labels (break_off ty s) = 0
  labels (go_on ty s) = 0

  pub labels_of : TypedStmts → ℕ
  labels_of done = 0
  labels_of (last e) = labels e
  labels_of (leaving e) = labels e
  labels_of (bind e ss) = labels e + labels_of ss
  labels_of (run e ss) = labels e + labels_of ss

  pub labels_in : TypedExprs → ℕ
  labels_in none = 0
  labels_in (more e es) = labels e + labels_in es

  -- of arm n
  pub arm_labels : TypedArms → ℕ → ℕ
  arm_labels no_arms n = 0
  arm_labels (with_arm q ys e as') zero = labels e
  arm_labels (with_arm q ys e as') (suc n) = arm_labels as' n

-- ---- how many locals it makes

abbrev mutual
  pub locals : TypedExpr → ℕ
  locals (integer ty s z k) = 0
  locals (truth ty s b) = 0
  locals (variable ty s v) = 0
  locals (negative ty s e) = 1 + locals e
  locals (denied ty s e) = 1 + locals e
  locals (cast ty s e) = 1 + locals e
  locals (binary ty s op a b) = 1 + locals a + 1 + locals b
  locals (lazy ty s op a b) = 1 + locals a + locals b
  locals (assign ty s a e) = 1 + locals e + temporary_count (is_place a) + locals a
  locals (update ty s op a e) = 1 + locals e + temporary_count (is_place a) + locals a + 1
  locals (call ty s f es) = locals_in es
  locals (make ty s k es) = locals_in es
  locals (part ty s e n) = temporary_count (is_place e) + locals e
  locals (block ty s ss) = locals_of ss
  locals (branch ty s e a) = 1 + locals e + locals a
  locals (choice ty s e a b) = 1 + locals e + locals a + locals b
  locals (matched ty s e as') = temporary_count (is_place e) + locals e + match_takes 1 (arm_locals as') (flat_tree (ty_of e) (patterns_of as'))
  locals (repeat ty s is e b) = 1 + locals e + 1 + locals b
  locals (panics ty s k) = 0
  locals (returned ty s e) = locals e
  locals (endless ty s is b) = 1 + locals b
  locals (until_break ty s is b) = 1 + locals b
  locals (break_off ty s) = 0
  locals (go_on ty s) = 0

  pub locals_of : TypedStmts → ℕ
  locals_of done = 0
  locals_of (last e) = locals e
  locals_of (leaving e) = 1 + locals e
  locals_of (bind e ss) = 1 + locals e + locals_of ss
  locals_of (run e ss) = 1 + locals e + locals_of ss

  pub locals_in : TypedExprs → ℕ
  locals_in none = 0
  locals_in (more e es) = 1 + locals e + locals_in es

  pub arm_locals : TypedArms → ℕ → ℕ
  arm_locals no_arms n = 0
  arm_locals (with_arm q ys e as') zero = bound_locals ys + locals e
  arm_locals (with_arm q ys e as') (suc n) = arm_locals as' n

-- the temporaries of expressions in a row
abbrev pub temporaries : TypedExprs → ℕ → List ℕ
temporaries none t = []
temporaries (more e es) t = t ∷ temporaries es (t + 1 + locals e)

-- ---- the text

abbrev mutual
  pub into : TypedExpr → Around → ℕ → ℕ → ℕ → List Line
  into (integer ty s z k) c l t d = constant s d (lit.Int z k) ∷ []
  into (truth ty s b) c l t d = constant s d (lit.Bool b) ∷ []
  into (variable ty s v) c l t d = puts s d (Use (taken (is_copied c.types ty) (variable_place c.scope v))) ∷ []
  into (negative ty s e) c l t d = Makes t (ty_of e) ∷ (into e c l (t + 1) t ++ puts s d (Neg (moved t)) ∷ [])
  into (denied ty s e) c l t d = Makes t (ty_of e) ∷ (into e c l (t + 1) t ++ puts s d (Not (moved t)) ∷ [])
  into (cast ty s e) c l t d = Makes t (ty_of e) ∷ (into e c l (t + 1) t ++ puts s d (Widen (moved t) (kind_of ty)) ∷ [])
  into (binary ty s op a b) c l t d =
      let u = t + 1 + locals a in
      Makes t (ty_of a) ∷ (into a c l (t + 1) t ++ Makes u (ty_of b) ∷ (into b c (l + labels a) (u + 1) u ++ puts s d (Binary op (moved t) (moved u)) ∷ []))
  into (lazy ty s op a b) c l t d =
      let m = l + labels a in
      let ys = into b c (m + 3) (t + 1 + locals a) d in
      Makes t (ty_of a) ∷ (into a c l (t + 1) t ++ lazily op c s t d (label m) (label (m + 1)) (label (m + 2)) ys)
  into (assign ty s a e) c l t d =
      let u = t + 1 + locals e in
      Makes t (ty_of e) ∷ (into e c l (t + 1) t ++ (place_text (is_place a) u (ty_of a) (place_before a c (l + labels e) u) (into a c (l + labels e) (u + 1) u) ++ puts_at s (place_of c.scope u a) (Use (moved t)) ∷ put_unit s d ∷ []))
  into (update ty s op a e) c l t d =
      let u = t + 1 + locals e in
      let w = u + temporary_count (is_place a) + locals a in
      let p = place_of c.scope u a in
      Makes t (ty_of e) ∷ (into e c l (t + 1) t ++ (place_text (is_place a) u (ty_of a) (place_before a c (l + labels e) u) (into a c (l + labels e) (u + 1) u)
      ++ Makes w (ty_of e) ∷ puts s w (Binary op (Copy p) (moved t)) ∷ puts_at s p (Use (moved w)) ∷ put_unit s d ∷ []))
  into (call ty s f es) c l t d =
      let m = l + labels_in es in
      args es c l t ++ Turns (ends s (Call (whole d) (Function (fn_id.Body f)) [] (map moved (temporaries es t)) (label m))) (at c (label m)) ∷ []
  into (make ty s k es) c l t d = args es c l t ++ puts s d (Make k (map moved (temporaries es t))) ∷ []
  into (part ty s e n) c l t d = place_text (is_place e) t (ty_of e) (place_before e c l t) (into e c l (t + 1) t) ++ puts s d (Use (taken (is_copied c.types ty) (part_place (place_of c.scope t e) n))) ∷ []
  into (block ty s ss) c l t d = rest ss false s c l t d
  into (branch ty s e a) c l t d =
      let m = l + labels e in
      Makes t (ty_of e) ∷ (into e c l (t + 1) t ++ Turns (ends s (If (moved t) (label m) (label (m + 1)))) (at c (label m)) ∷ (into a c (m + 3) (t + 1 + locals e) d
      ++ Turns (ends s (Goto (label (m + 2)))) (at c (label (m + 1))) ∷ put_unit s d ∷ Turns (ends s (Goto (label (m + 2)))) (at c (label (m + 2))) ∷ []))
  into (choice ty s e a b) c l t d =
      let m = l + labels e in
      let n = m + choice_labels (leaves a && leaves b) in
      let u = t + 1 + locals e in
      Makes t (ty_of e) ∷ (into e c l (t + 1) t ++ choice_text (leaves a && leaves b) c s t m (into a c n u d) (into b c (n + labels a) (u + locals a) d))
  into (matched ty s e as') c l t d =
      let m = l + labels e in
      let both = all_arms_leave as' in
      place_text (is_place e) t (ty_of e) (place_before e c l t) (into e c l (t + 1) t)
      ++ (tests_of c s (ty_of e) (place_of c.scope t e) (behind_label both m) (arm_labels as') (arm_locals as') (arm_into as' c s (ty_of e) (place_of c.scope t e) d) (flat_tree (ty_of e) (patterns_of as')) (m + met_labels both) (t + temporary_count (is_place e) + locals e)
      ++ met c s (behind_label both m))
  into (repeat ty s is e b) c l t d =
      let inside = looping c (label l) (label (l + 2)) in
      let u = t + 1 + locals e in
      Turns (ends s (Goto (label l))) (at_head inside (label l) (head_of c (map formula_of is))) ∷ Makes t (ty_of e) ∷ (into e inside (l + 3) (t + 1) t
      ++ Turns (ends s (If (moved t) (label (l + 1)) (label (l + 2)))) (at inside (label (l + 1))) ∷ Makes u (ty_of b)
      ∷ (into b inside (l + 3 + labels e) (u + 1) u ++ Turns (ends s (Goto (label l))) (at c (label (l + 2))) ∷ Owns (label l) (between t (u + 1 + locals b)) ∷ put_unit s d ∷ []))
  into (panics ty s k) c l t d = Leaves (ends s (Panic k)) ∷ []
  into (returned ty s e) c l t d = into e c l t 0 ++ Leaves (ends s Return) ∷ []
  into (endless ty s is b) c l t d =
      let inside = looping c (label l) (label l) in
      Turns (ends s (Goto (label l))) (at_head inside (label l) (head_of c (map formula_of is))) ∷ Makes t (ty_of b)
      ∷ (into b inside (l + 1) (t + 1) t ++ Leaves (ends s (Goto (label l))) ∷ Owns (label l) (between t (t + 1 + locals b)) ∷ [])
  into (until_break ty s is b) c l t d =
      let inside = looping c (label l) (label (l + 1)) in
      Turns (ends s (Goto (label l))) (at_head inside (label l) (head_of c (map formula_of is))) ∷ Makes t (ty_of b)
      ∷ (into b inside (l + 2) (t + 1) t ++ Turns (ends s (Goto (label l))) (at c (label (l + 1))) ∷ Owns (label l) (between t (t + 1 + locals b)) ∷ put_unit s d ∷ [])
  into (break_off ty s) c l t d = jump s (loop_at c.loops).depth (loop_at c.loops).after c.scope
  into (go_on ty s) c l t d = jump s (loop_at c.loops).depth (loop_at c.loops).head c.scope

  -- the text before what names a place: none for a variable, and for a part that before what it is a part of
  pub place_before : TypedExpr → Around → ℕ → ℕ → List Line
  place_before (part ty s e n) c l t = place_text (is_place e) t (ty_of e) (place_before e c l t) (into e c l (t + 1) t)
  place_before _ c l t = []

  pub rest : TypedStmts → Bool → Span → Around → ℕ → ℕ → ℕ → List Line
  rest done outer s c l t d = put_unit s d ∷ []
  rest (last e) outer s c l t d = into e c l t d
  rest (leaving e) outer s c l t d = Makes t (ty_of e) ∷ into e c l (t + 1) t
  rest (bind e ss) outer s c l t d = Makes t (ty_of e) ∷ (into e c l (t + 1) t ++ (rest ss outer s (binds c t) (l + labels e) (t + 1 + locals e) d ++ dies_in outer s t))
  rest (run e ss) outer s c l t d = Makes t (ty_of e) ∷ (into e c l (t + 1) t ++ rest ss outer s c (l + labels e) (t + 1 + locals e) d)

  -- the text of arm n
  pub arm_into : TypedArms → Around → Span → Ty → Place → ℕ → ℕ → ℕ → ℕ → List Line
  arm_into no_arms c s T p d n l t = []
  arm_into (with_arm q ys e as') c s T p d zero l t = bound_text ys (λ c l t. into e c l t d) c s T p l t
  arm_into (with_arm q ys e as') c s T p d (suc n) l t = arm_into as' c s T p d n l t

  pub args : TypedExprs → Around → ℕ → ℕ → List Line
  args none c l t = []
  args (more e es) c l t = Makes t (ty_of e) ∷ (into e c l (t + 1) t ++ args es c (l + labels e) (t + 1 + locals e))

-- the text before the place of an expression
abbrev pub text_before : TypedExpr → Around → ℕ → ℕ → List Line
text_before e c l t = place_text (is_place e) t (ty_of e) (place_before e c l t) (into e c l (t + 1) t)

-- the text of `if` with `else`, by whether both sides leave
abbrev pub if_text : Bool → TypedExpr → TypedExpr → TypedExpr → Span → ℕ → Around → ℕ → ℕ → List Line
if_text both e a b s d c l t =
    let m = l + labels e in
    let n = m + choice_labels both in
    let u = t + 1 + locals e in
    Makes t (ty_of e) ∷ (into e c l (t + 1) t ++ choice_text both c s t m (into a c n u d) (into b c (n + labels a) (u + locals a) d))

-- the text of the tests by the tree, at whose leaves arms are
abbrev pub numbered_tests : Around → Span → Ty → Place → TypedArms → Option Label → Decision → ℕ → ℕ → ℕ → List Line
numbered_tests c s T x as' to D d l t = tests_text c s T x to (arm_labels as') (arm_locals as') (arm_into as' c s T x d) D l t

-- the text of a loop with the head from its condition to the end of its body
abbrev pub loop_text : TypedExpr → TypedExpr → Span → Around → ℕ → ℕ → ℕ → List Line
loop_text e b s c head l t =
    let u = t + 1 + locals e in
    Makes t (ty_of e) ∷ (into e c l (t + 1) t ++ Turns (ends s (If (moved t) (label (head + 1)) (label (head + 2)))) (at c (label (head + 1))) ∷ Makes u (ty_of b) ∷ into b c (l + labels e) (u + 1) u)

-- the text of `loop`
abbrev pub endless_text : TypedExpr → List Assertion → Span → Around → ℕ → ℕ → List Line
endless_text b is s c l t =
    let inside = looping c (label l) (label l) in
    Turns (ends s (Goto (label l))) (at_head inside (label l) (head_of c (map formula_of is))) ∷ Makes t (ty_of b)
    ∷ (into b inside (l + 1) (t + 1) t ++ Leaves (ends s (Goto (label l))) ∷ Owns (label l) (between t (t + 1 + locals b)) ∷ [])

-- the text of a `loop` that a `break` leaves
abbrev pub broken_text : TypedExpr → List Assertion → Span → Around → ℕ → ℕ → ℕ → List Line
broken_text b is s c l t d =
    let inside = looping c (label l) (label (l + 1)) in
    Turns (ends s (Goto (label l))) (at_head inside (label l) (head_of c (map formula_of is))) ∷ Makes t (ty_of b)
    ∷ (into b inside (l + 2) (t + 1) t ++ Turns (ends s (Goto (label l))) (at c (label (l + 1))) ∷ Owns (label l) (between t (t + 1 + locals b)) ∷ put_unit s d ∷ [])

-- the text of a body, whose outermost block ends no binding
abbrev pub body_text : TypedExpr → Around → ℕ → ℕ → List Line
body_text (block ty s ss) c l t = rest ss true s c l t 0
body_text e c l t = into e c l t 0
