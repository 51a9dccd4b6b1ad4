-- Lowering: a row for each form of expression, with any labels and temporaries, which a body has in the order of its rows: 0, 1 and so
-- on. The order of evaluation is that of the Rust Reference: operands from the left, the right side of an assignment before its place,
-- `&&` and `||` lazily.
use Rattle.std.specs.Prelude.{◌≡◌, ℕ, suc, ℤ, ◌+◌, ◌^◌, ◌<◌, ◌≤◌, ◌&&◌, Bool, true, false, ◌-◌, List, [], ◌∷◌, ◌++◌, length, map, drop, reverse, Option, Some, None, is_none, slice_get}
use Rattle.std.specs.Option.{option_map}
use Rattle.std.specs.List.{range_with_len}
use Rattle.text_core.specs.declared.name.Name.{Name}
use Rattle.text_core.specs.declared.refusal.Cause.{Cause}
use Rattle.text_core.specs.declared.span.Span.{Span}
use Rattle.text_core.specs.Names.{text_of}
use Rattle.source_kinds.specs.declared.kinds.BinaryOp.{BinaryOp}
use Rattle.source_kinds.specs.declared.kinds.BinaryOp.TheVariants.{Eq}
use Rattle.logic_term.specs.declared.declaration.AdtDecl.{AdtDecl}
use Rattle.logic_term.specs.declared.kinds.Ctor.{Ctor}
use Rattle.logic_term.specs.declared.kinds.Ctor.TheVariants.{Tuple}
use Rattle.source_kinds.specs.declared.kinds.IntKind.{IntKind}
use Rattle.logic_term.specs.declared.kinds.Label.{Label}
use Rattle.logic_term.specs.declared.obligation.Contract.{Contract}
use Rattle.logic_term.specs.declared.subst.Replacement.{Replacement}
use Rattle.logic_term.specs.Subst.{with_terms}
use Rattle.logic_term.specs.Term.{Term, var}
use Rattle.logic_term.specs.declared.pattern.Binding.{Binding}
use Rattle.logic_term.specs.Pattern.{Pat}
use Rattle.logic_term.specs.Ty.{Ty, int, bool}
use Rattle.source_kinds.specs.declared.kinds.LazyOp.{LazyOp}
use Rattle.source_kinds.specs.declared.kinds.LazyOp.TheVariants as lazy_op
use Rattle.type_check.specs.declared.program.ClauseKind.{ClauseKind}
use Rattle.type_check.specs.declared.program.ClauseKind.TheVariants.{Requires, Ensures}
use Rattle.rs_types.specs.Copied.{IsCopy}
use Rattle.pat_check.specs.Decision.{Decision, leaf, if_truth, if_literal}
use Rattle.pat_check.specs.Flat.{all_flat, flat_tree}
use Rattle.pat_types.specs.declared.names.BoundName.{BoundName}
use Rattle.source_kinds.specs.Range.{fits}
use Rattle.mir_ir.specs.declared.place.Lit.{Lit}
use Rattle.mir_ir.specs.declared.place.Lit.TheVariants as lit
use Rattle.mir_ir.specs.declared.place.Operand.{Operand}
use Rattle.mir_ir.specs.declared.place.Operand.TheVariants.{Copy, Move, Const}
use Rattle.mir_ir.specs.declared.place.Place.{Place}
use Rattle.mir_ir.specs.declared.place.Proj.TheVariants.{Field}
use Rattle.mir_ir.specs.declared.statement.Rvalue.{Rvalue}
use Rattle.mir_ir.specs.declared.statement.Rvalue.TheVariants.{Use, Binary, Neg, Not, Widen, Make}
use Rattle.mir_ir.specs.declared.statement.StatementKind.TheVariants.{Assign, Dead}
use Rattle.mir_ir.specs.declared.terminator.FnId.TheVariants as fn_id
use Rattle.mir_ir.specs.declared.terminator.Callee.TheVariants.{Function}
use Rattle.mir_ir.specs.declared.terminator.Terminator.{Terminator}
use Rattle.mir_ir.specs.declared.terminator.TerminatorKind.{TerminatorKind}
use Rattle.mir_ir.specs.declared.terminator.TerminatorKind.TheVariants.{Goto, If, Call, Return, Panic}
use Rattle.mir_ir.specs.declared.body.Block.{Block}
use Rattle.mir_ir.specs.declared.body.Body.{Body}
use Rattle.mir_ir.specs.declared.body.Contracts.{Contracts}
use Rattle.mir_ir.specs.declared.body.Head.{Head}
use Rattle.mir_ir.specs.declared.body.Initialised.{Initialised}
use Rattle.mir_ir.specs.declared.body.Point.{Point}
use Rattle.mir_ir.specs.declared.body.Signature.{Signature as CallSignature}
use Rattle.type_check.specs.declared.assertion.Assertion.{Assertion}
use Rattle.type_check.specs.declared.assertion.Assertion.TheVariants.{Good}
use Rattle.type_check.specs.declared.program.Signature.{Signature}
use Rattle.type_check.specs.declared.program.TypedClause.{TypedClause}
use Rattle.type_check.specs.declared.program.TypedFunction.{TypedFunction}
use Rattle.type_check.specs.declared.program.TypedProgram.{TypedProgram}
use Rattle.mir_build.specs.declared.around.Loop.{Loop}
use Rattle.mir_build.specs.declared.lowered.Lowered.{Lowered}
use Rattle.type_check.specs.TypedExpr.{TypedExpr, TypedStmts, TypedExprs, integer, variable, negative, denied, cast, binary, lazy, assign, update, call, make, part, block, branch, choice, matched, repeat, panics, returned, endless, until_break}
use Rattle.type_check.specs.TypedExpr.{break_off, go_on, done, last, leaving, bind, run, none, more, TypedArms, with_arm}
use Rattle.type_check.specs.Leaves.{leaves, all_arms_leave}
use Rattle.type_check.specs.TypedExpr as typed
use Rattle.type_check.specs.TypedExprView.{ty_of, span_of, patterns_of}
use Rattle.type_check.specs.VariableNames.{variable_name, answer_name}
use Rattle.type_check.specs.WellTyped.{signatures}
use Rattle.mir_build.specs.Text.{Title, Line, Puts, Makes, Turns, Leaves, Owns, fresh, closed, begun, made, owned}
use Rattle.mir_ir.specs.declared.body.Bodies.{Bodies}

-- ---- what stands around an expression

abbrev pub whole : ℕ → Place
whole x = record { local = x; path = [] }

-- part n of what is at the place
abbrev pub part_place : Place → ℕ → Place
part_place p n = record { local = p.local; path = p.path ++ Field n ∷ [] }

-- the declared types, the place of each variable in scope, and the loops around, both the outermost first. A loop has its head, the block behind
-- it, and how many variables are in scope around it
pub record Around : Type 0 where
  pub types : List AdtDecl
  pub scope : List Place
  pub loops : List Loop

-- the labels of the heads of loops
abbrev pub heads : List Loop → List Label
heads ls = map (λ (l : Loop). l.head) ls

-- a binding is a local of its own
abbrev pub binds : Around → ℕ → Around
binds c x = record { types = c.types; scope = c.scope ++ whole x ∷ []; loops = c.loops }

abbrev pub looping : Around → (head after : Label) → Around
looping c head after = record { types = c.types; scope = c.scope; loops = c.loops ++ record { head = head; after = after; depth = length c.scope } ∷ [] }

abbrev pub at : Around → Label → Title
at c l = record { label = l; nest = heads c.loops; head = None }

abbrev pub at_head : Around → Label → Head → Title
at_head c l h = record { label = l; nest = heads c.loops; head = Some h }

-- the innermost loop
abbrev pub innermost : Around → Option Loop
innermost c = slice_get c.loops (length c.loops - 1)

-- ---- formulas

-- the name of a local; no table of names gives it
unfoldable pub local_name : ℕ → Name
local_name x = record { 0 = 2 ^ 63 + x }

-- a formula that is not refused, and its span
pub record Formula : Type 0 where
  pub span : Span
  pub term : Term

abbrev pub term_of : Formula → Term
term_of f = f.term

abbrev pub formula_span : Formula → Span
formula_span f = f.span

abbrev pub accepted : Formula → Assertion
accepted f = Good f.span f.term

-- what a place holds, as a term. So far the places of variables are whole locals
abbrev pub held : Place → Term
held p = var (local_name p.local)

-- what the places hold for the names of the variables, of which k are before them
abbrev pub places_for : ℕ → List Place → List Replacement
places_for k [] = []
places_for k (p ∷ ps) = record { name = variable_name k; by = held p } ∷ places_for (k + 1) ps

-- the formula over what the places hold
abbrev pub at_places : List Place → Term → Term
at_places scope t = with_terms (places_for 0 scope) t

abbrev pub invariant_of : List Place → Formula → Term
invariant_of scope f = at_places scope f.term

abbrev pub head_of : Around → List Formula → Head
head_of c fs = record { invariants = map (invariant_of c.scope) fs; spans = map formula_span fs }

-- ---- lines

abbrev pub puts_at : Span → Place → Rvalue → Line
puts_at s p r = Puts (record { span = s; kind = Assign p r })

abbrev pub puts : Span → ℕ → Rvalue → Line
puts s d r = puts_at s (whole d) r

abbrev pub constant : Span → ℕ → Lit → Line
constant s d v = puts s d (Use (Const v))

-- d = ()
abbrev pub put_unit : Span → ℕ → Line
put_unit s d = puts s d (Make Tuple [])

abbrev pub moved : ℕ → Operand
moved x = Move (whole x)

abbrev pub ends : Span → TerminatorKind → Terminator
ends s k = record { span = s; kind = k }

abbrev pub dies : Span → ℕ → Line
dies s x = Puts (record { span = s; kind = Dead x })

-- a binding ends with its block, but for the outermost block of a body
abbrev pub dies_in : Bool → Span → ℕ → List Line
dies_in true s x = []
dies_in false s x = dies s x ∷ []

-- the bindings in scope inside of a loop end, the innermost first
abbrev pub die_from : Span → ℕ → List Place → List Line
die_from s depth scope = reverse (map (λ (p : Place). dies s p.local) (drop depth scope))

abbrev pub numbers : List (ℕ × Ty) → List ℕ
numbers xs = map (λ x. x.0) xs

-- ---- shapes of texts

-- a new local of the type, and what writes it
abbrev pub made_by : ℕ → Ty → List Line → List Line
made_by t ty xs = Makes t ty ∷ xs

-- an edge that is always taken, and the block of the label
abbrev pub goes : Around → Span → (to next : Label) → Line
goes c s to next = Turns (ends s (Goto to)) (at c next)

-- the value of a local, which is moved, says which of two texts is run; behind both the next block begins
abbrev pub test : Around → Span → ℕ → (yes no after : Label) → List Line → List Line → List Line
test c s t yes' no' after xs ys = Turns (ends s (If (moved t) yes' no')) (at c yes') ∷ (xs ++ goes c s after no' ∷ (ys ++ goes c s after after ∷ []))

-- where the edge at the end of all texts but the last leads: to the block behind them, or, where all of them leave, to the next block: it is in no block
abbrev pub edge_to : Option Label → (next : Label) → Label
edge_to (Some after) next = after
edge_to None next = next

-- the value of a local, which is moved, says which of two texts is run; the edge at the end of the second is still to come
abbrev pub split : Around → Span → ℕ → (yes no : Label) → Option Label → List Line → List Line → List Line
split c s t yes' no' to xs ys = Turns (ends s (If (moved t) yes' no')) (at c yes') ∷ (xs ++ goes c s (edge_to to no') no' ∷ ys)

-- both texts leave: no block stands behind them
abbrev pub fork : Around → Span → ℕ → (yes no : Label) → List Line → List Line → List Line
fork c s t yes' no' xs ys = split c s t yes' no' None xs ys

-- the last edge to the block behind texts, if there is one, and this block
abbrev pub met : Around → Span → Option Label → List Line
met c s None = []
met c s (Some after) = goes c s after after ∷ []

-- a function is called with what is in the temporaries, which are moved; its answer goes to d
abbrev pub calls : Around → Span → (f d : ℕ) → List ℕ → Label → Line
calls c s f d ts after = Turns (ends s (Call (whole d) (Function (fn_id.Body f)) [] (map moved ts) after)) (at c after)

-- a loop: at its head what writes the condition t, then what writes the body's value u, from which it turns back; zs stands behind it
abbrev pub turning : Around → Span → (head body after : Label) → List Formula → ℕ → Ty → List Line → ℕ → Ty → List Line → List Line → List Line
turning c s head body after fs t T xs u U ys zs =
    Turns (ends s (Goto head)) (at_head (looping c head after) head (head_of c fs)) ∷ (made_by t T xs ++ Turns (ends s (If (moved t) body after)) (at (looping c head after) body)
    ∷ (made_by u U ys ++ goes c s head after ∷ Owns head (t ∷ (numbers (made xs) ++ u ∷ numbers (made ys))) ∷ zs))

-- a loop that a `break` leaves: at its head what writes the body's value u, from which it turns back; zs stands behind it
abbrev pub spinning : Around → Span → (head after : Label) → List Formula → ℕ → Ty → List Line → List Line → List Line
spinning c s head after fs u U ys zs =
    Turns (ends s (Goto head)) (at_head (looping c head after) head (head_of c fs)) ∷ (made_by u U ys ++ goes c s head after ∷ Owns head (u ∷ numbers (made ys)) ∷ zs)

-- a loop that is not left: at its head what writes the body's value u, from which it turns back; no block stands behind it, and no
-- `break` names the label behind it
abbrev pub circling : Around → Span → (head : Label) → List Formula → ℕ → Ty → List Line → List Line
circling c s head fs u U ys =
    Turns (ends s (Goto head)) (at_head (looping c head head) head (head_of c fs)) ∷ (made_by u U ys ++ Leaves (ends s (Goto head)) ∷ Owns head (u ∷ numbers (made ys)) ∷ [])

-- the run of the body ends behind what writes its answer
abbrev pub returning : Span → List Line → List Line
returning s xs = xs ++ Leaves (ends s Return) ∷ []

-- the second operand of `&&` or `||` is evaluated only where the first, which is in t, leaves the value open
abbrev pub lazily : LazyOp → Around → Span → (t d : ℕ) → (yes no after : Label) → List Line → List Line
lazily lazy_op.And c s t d yes' no' after ys = test c s t yes' no' after ys (constant s d (lit.Bool false) ∷ [])
lazily lazy_op.Or c s t d yes' no' after ys = test c s t yes' no' after (constant s d (lit.Bool true) ∷ []) ys

-- ---- rows

-- the operand that takes what is at a place of the type: a Copy type is copied, another is moved
pub data Takes (ds : List AdtDecl) (t : Ty) (p : Place) : Operand → Type 0 where
  by_copy : IsCopy ds t → Takes ds t p (Copy p)
  by_move : (IsCopy ds t → ⊥) → Takes ds t p (Move p)

-- the expression names a place: a variable does, and a part
abbrev pub is_place : TypedExpr → Bool
is_place (variable ty s v) = true
is_place (part ty s e n) = true
is_place _ = false

mutual
  -- the text that writes the value of an expression to a local
  pub data Into : Around → TypedExpr → ℕ → List Line → Type 0 where
    of_integer : {c : Around} {ty : Ty} {s : Span} {z : ℤ} {k : IntKind} {d : ℕ} → Into c (integer ty s z k) d (constant s d (lit.Int z k) ∷ [])
    of_truth : {c : Around} {ty : Ty} {s : Span} {b : Bool} {d : ℕ} → Into c (typed.truth ty s b) d (constant s d (lit.Bool b) ∷ [])
    of_variable : {c : Around} {ty : Ty} {s : Span} {v d : ℕ} {o : Operand} (p : Place) → slice_get c.scope v ≡ Some p → Takes c.types ty p o → Into c (variable ty s v) d (puts s d (Use o) ∷ [])
    of_negative : {c : Around} {ty : Ty} {s : Span} {e : TypedExpr} {d t : ℕ} {xs : List Line} → Into c e t xs → Into c (negative ty s e) d (made_by t (ty_of e) xs ++ puts s d (Neg (moved t)) ∷ [])
    of_denied : {c : Around} {ty : Ty} {s : Span} {e : TypedExpr} {d t : ℕ} {xs : List Line} → Into c e t xs → Into c (denied ty s e) d (made_by t (ty_of e) xs ++ puts s d (Not (moved t)) ∷ [])
    of_cast : {c : Around} {k : IntKind} {s : Span} {e : TypedExpr} {d t : ℕ} {xs : List Line} → Into c e t xs → Into c (cast (int k) s e) d (made_by t (ty_of e) xs ++ puts s d (Widen (moved t) k) ∷ [])
    of_binary : {c : Around} {ty : Ty} {s : Span} {op : BinaryOp} {a b : TypedExpr} {d t u : ℕ} {xs ys : List Line} → Into c a t xs → Into c b u ys
        → Into c (binary ty s op a b) d (made_by t (ty_of a) xs ++ (made_by u (ty_of b) ys ++ puts s d (Binary op (moved t) (moved u)) ∷ []))
    of_lazy : {c : Around} {ty : Ty} {s : Span} {op : LazyOp} {a b : TypedExpr} {d t : ℕ} (yes' no' after : Label) {xs ys : List Line} → Into c a t xs → Into c b d ys
        → Into c (lazy ty s op a b) d (made_by t (ty_of a) xs ++ lazily op c s t d yes' no' after ys)
    of_assign : {c : Around} {ty : Ty} {s : Span} {a e : TypedExpr} {d t : ℕ} {p : Place} {xs ys : List Line} → Into c e t xs → PlaceOf c a p ys
        → Into c (assign ty s a e) d (made_by t (ty_of e) xs ++ (ys ++ puts_at s p (Use (moved t)) ∷ put_unit s d ∷ []))
    of_update : {c : Around} {ty : Ty} {s : Span} {op : BinaryOp} {a e : TypedExpr} {d t : ℕ} {p : Place} (u : ℕ) {xs ys : List Line} → Into c e t xs → PlaceOf c a p ys
        → Into c (update ty s op a e) d (made_by t (ty_of e) xs ++ (ys ++ (made_by u (ty_of e) (puts s u (Binary op (Copy p) (moved t)) ∷ []) ++ puts_at s p (Use (moved u)) ∷ put_unit s d ∷ [])))
    of_call : {c : Around} {ty : Ty} {s : Span} {f : ℕ} {es : TypedExprs} {d : ℕ} {ts : List ℕ} (after : Label) {xs : List Line} → Args c es ts xs → Into c (call ty s f es) d (xs ++ calls c s f d ts after ∷ [])
    of_make : {c : Around} {ty : Ty} {s : Span} {k : Ctor} {es : TypedExprs} {d : ℕ} {ts : List ℕ} {xs : List Line} → Args c es ts xs → Into c (make ty s k es) d (xs ++ puts s d (Make k (map moved ts)) ∷ [])
    of_part : {c : Around} {ty : Ty} {s : Span} {e : TypedExpr} {n d : ℕ} {p : Place} {o : Operand} {xs : List Line} → PlaceOf c (part ty s e n) p xs → Takes c.types ty p o → Into c (part ty s e n) d (xs ++ puts s d (Use o) ∷ [])
    of_block : {c : Around} {ty : Ty} {s : Span} {ss : TypedStmts} {d : ℕ} {xs : List Line} → Rest c false s ss d xs → Into c (block ty s ss) d xs
    of_branch : {c : Around} {ty : Ty} {s : Span} {e a : TypedExpr} {d t : ℕ} (yes' no' after : Label) {xs ys : List Line} → Into c e t xs → Into c a d ys
        → Into c (branch ty s e a) d (made_by t (ty_of e) xs ++ test c s t yes' no' after ys (put_unit s d ∷ []))
    of_choice : {c : Around} {ty : Ty} {s : Span} {e a b : TypedExpr} {d t : ℕ} (yes' no' after : Label) {xs ys zs : List Line} → leaves a && leaves b ≡ false → Into c e t xs → Into c a d ys → Into c b d zs
        → Into c (choice ty s e a b) d (made_by t (ty_of e) xs ++ test c s t yes' no' after ys zs)
    of_leaving_choice : {c : Around} {ty : Ty} {s : Span} {e a b : TypedExpr} {d t : ℕ} (yes' no' : Label) {xs ys zs : List Line} → leaves a && leaves b ≡ true → Into c e t xs → Into c a d ys → Into c b d zs
        → Into c (choice ty s e a b) d (made_by t (ty_of e) xs ++ fork c s t yes' no' ys zs)
    -- the arms are tried by the tree of their patterns, and meet behind it
    of_matched : {c : Around} {ty : Ty} {s : Span} {e : TypedExpr} {as' : TypedArms} {d : ℕ} {p : Place} (D : Decision) (to : Option Label) {xs ys : List Line} → all_flat (ty_of e) (patterns_of as') ≡ true → flat_tree (ty_of e) (patterns_of as') ≡ Some D
        → all_arms_leave as' ≡ is_none to → PlaceOf c e p xs → Tests c s (ty_of e) p as' to D d ys → Into c (matched ty s e as') d (xs ++ (ys ++ met c s to))
    of_repeat : {c : Around} {ty : Ty} {s : Span} {is : List Assertion} {e b : TypedExpr} {d t u : ℕ} (head body after : Label) (fs : List Formula) {xs ys : List Line}
        → is ≡ map accepted fs → Into (looping c head after) e t xs → Into (looping c head after) b u ys
        → Into c (repeat ty s is e b) d (turning c s head body after fs t (ty_of e) xs u (ty_of b) ys (put_unit s d ∷ []))
    of_panics : {c : Around} {ty : Ty} {s : Span} {k : Cause} {d : ℕ} → Into c (panics ty s k) d (Leaves (ends s (Panic k)) ∷ [])
    -- the answer is in local 0
    of_returned : {c : Around} {ty : Ty} {s : Span} {e : TypedExpr} {d : ℕ} {xs : List Line} → Into c e 0 xs → Into c (returned ty s e) d (returning s xs)
    of_endless : {c : Around} {ty : Ty} {s : Span} {is : List Assertion} {b : TypedExpr} {d u : ℕ} (head : Label) (fs : List Formula) {ys : List Line}
        → is ≡ map accepted fs → Into (looping c head head) b u ys → Into c (endless ty s is b) d (circling c s head fs u (ty_of b) ys)
    of_until_break : {c : Around} {ty : Ty} {s : Span} {is : List Assertion} {b : TypedExpr} {d u : ℕ} (head after : Label) (fs : List Formula) {ys : List Line}
        → is ≡ map accepted fs → Into (looping c head after) b u ys → Into c (until_break ty s is b) d (spinning c s head after fs u (ty_of b) ys (put_unit s d ∷ []))
    -- what is bound inside of the loop ends before the edge
    of_break_off : {c : Around} {ty : Ty} {s : Span} {d : ℕ} (l : Loop) → innermost c ≡ Some l → Into c (break_off ty s) d (die_from s l.depth c.scope ++ Leaves (ends s (Goto l.after)) ∷ [])
    of_go_on : {c : Around} {ty : Ty} {s : Span} {d : ℕ} (l : Loop) → innermost c ≡ Some l → Into c (go_on ty s) d (die_from s l.depth c.scope ++ Leaves (ends s (Goto l.head)) ∷ [])

  -- the place of an expression, with the text before it: that of a variable, a part of another place, or a temporary that holds the value
  pub data PlaceOf : Around → TypedExpr → Place → List Line → Type 0 where
    of_name : {c : Around} {ty : Ty} {s : Span} {v : ℕ} (p : Place) → slice_get c.scope v ≡ Some p → PlaceOf c (variable ty s v) p []
    of_part_place : {c : Around} {ty : Ty} {s : Span} {e : TypedExpr} {n : ℕ} {p : Place} {xs : List Line} → PlaceOf c e p xs → PlaceOf c (part ty s e n) (part_place p n) xs
    of_temporary : {c : Around} {e : TypedExpr} {t : ℕ} {xs : List Line} → is_place e ≡ false → Into c e t xs → PlaceOf c e (whole t) (made_by t (ty_of e) xs)

  -- the text that tests by the tree what is at the place, of the type, and writes the value of the arm that is taken. A test is evaluated to a temporary, as a
  -- condition is. An arm's body stands once, since each arm of flat patterns is at one leaf at most
  pub data Tests : Around → Span → Ty → Place → TypedArms → Option Label → Decision → ℕ → List Line → Type 0 where
    at_arm : {c : Around} {s : Span} {T : Ty} {p : Place} {as' : TypedArms} {to : Option Label} {n : ℕ} {bs : List Binding} {d : ℕ} {xs : List Line} → ArmInto c s T p as' n d xs → Tests c s T p as' to (leaf n bs) d xs
    on_truth : {c : Around} {s : Span} {T : Ty} {p : Place} {as' : TypedArms} {to : Option Label} {D E : Decision} {d : ℕ} (u : ℕ) (yes' no' : Label) {xs ys : List Line} → T ≡ bool → Tests c s T p as' to D d xs → Tests c s T p as' to E d ys
        → Tests c s T p as' to (if_truth [] D E) d (made_by u bool (puts s u (Use (Copy p)) ∷ []) ++ split c s u yes' no' to xs ys)
    on_literal : {c : Around} {s : Span} {T : Ty} {p : Place} {as' : TypedArms} {to : Option Label} {z : ℤ} {D E : Decision} {d : ℕ} (u : ℕ) (yes' no' : Label) (k : IntKind) {xs ys : List Line} → T ≡ int k → fits k z ≡ true
        → Tests c s T p as' to D d xs → Tests c s T p as' to E d ys
        → Tests c s T p as' to (if_literal [] z D E) d (made_by u bool (puts s u (Binary Eq (Copy p) (Const (lit.Int z k))) ∷ []) ++ split c s u yes' no' to xs ys)

  -- the text of an arm, by its number, where the value is at the place, of the type: a name that its pattern binds by value is a local of its own
  pub data ArmInto : Around → Span → Ty → Place → TypedArms → ℕ → ℕ → List Line → Type 0 where
    of_unbound : {c : Around} {s : Span} {T : Ty} {p : Place} {q : Pat} {e : TypedExpr} {as' : TypedArms} {d : ℕ} {xs : List Line} → Into c e d xs → ArmInto c s T p (with_arm q [] e as') 0 d xs
    of_bound : {c : Around} {s : Span} {T : Ty} {p : Place} {q : Pat} {y : BoundName} {e : TypedExpr} {as' : TypedArms} {d : ℕ} {o : Operand} (x : ℕ) {xs : List Line} → y.ty ≡ T → Takes c.types T p o → Into (binds c x) e d xs
        → ArmInto c s T p (with_arm q (y ∷ []) e as') 0 d (made_by x T (puts s x (Use o) ∷ []) ++ (xs ++ dies_in false s x))
    of_later : {c : Around} {s : Span} {T : Ty} {p : Place} {q : Pat} {ys : List BoundName} {e : TypedExpr} {as' : TypedArms} {n d : ℕ} {xs : List Line} → ArmInto c s T p as' n d xs → ArmInto c s T p (with_arm q ys e as') (suc n) d xs

  -- the text of a block's statements and of its last expression; whether it is the outermost block of a body
  pub data Rest : Around → Bool → Span → TypedStmts → ℕ → List Line → Type 0 where
    of_done : {c : Around} {outer : Bool} {s : Span} {d : ℕ} → Rest c outer s done d (put_unit s d ∷ [])
    of_last : {c : Around} {outer : Bool} {s : Span} {e : TypedExpr} {d : ℕ} {xs : List Line} → Into c e d xs → Rest c outer s (last e) d xs
    -- no value comes of it, and nothing stands behind it
    of_leaving : {c : Around} {outer : Bool} {s : Span} {e : TypedExpr} {d t : ℕ} {xs : List Line} → Into c e t xs → Rest c outer s (leaving e) d (made_by t (ty_of e) xs)
    of_bind : {c : Around} {outer : Bool} {s : Span} {e : TypedExpr} {ss : TypedStmts} {d t : ℕ} {xs ys : List Line} → Into c e t xs → Rest (binds c t) outer s ss d ys
        → Rest c outer s (bind e ss) d (made_by t (ty_of e) xs ++ (ys ++ dies_in outer s t))
    of_run : {c : Around} {outer : Bool} {s : Span} {e : TypedExpr} {ss : TypedStmts} {d t : ℕ} {xs ys : List Line} → Into c e t xs → Rest c outer s ss d ys → Rest c outer s (run e ss) d (made_by t (ty_of e) xs ++ ys)

  -- the text that writes each of the expressions to a temporary
  pub data Args : Around → TypedExprs → List ℕ → List Line → Type 0 where
    of_none : {c : Around} → Args c none [] []
    of_more : {c : Around} {e : TypedExpr} {es : TypedExprs} {t : ℕ} {ts : List ℕ} {xs ys : List Line} → Into c e t xs → Args c es ts ys → Args c (more e es) (t ∷ ts) (made_by t (ty_of e) xs ++ ys)

abbrev pub is_block : TypedExpr → Bool
is_block (block ty s ss) = true
is_block _ = false

-- the text of a body: that of its outermost block, or of an expression that is no block
pub data IntoBody : Around → TypedExpr → List Line → Type 0 where
  of_outermost : {c : Around} {ty : Ty} {s : Span} {ss : TypedStmts} {xs : List Line} → Rest c true s ss 0 xs → IntoBody c (block ty s ss) xs
  of_other : {c : Around} {e : TypedExpr} {xs : List Line} → is_block e ≡ false → Into c e 0 xs → IntoBody c e xs

-- ---- the order of labels

abbrev pub labels_at : Option Label → List ℕ
labels_at None = []
labels_at (Some l) = l.0 ∷ []

-- the labels that the rows name, in the order of the rows: those of the operand that is evaluated first, those of the row itself, and
-- those of its other parts; a loop's own labels come first, and of a match that of the block behind it
abbrev mutual
  pub named : {c : Around} {e : TypedExpr} {d : ℕ} {xs : List Line} → Into c e d xs → List ℕ
  named of_integer = []
  named of_truth = []
  named (of_variable x q k) = []
  named (of_negative p) = named p
  named (of_denied p) = named p
  named (of_cast p) = named p
  named (of_binary p q) = named p ++ named q
  named (of_lazy yes' no' after p q) = named p ++ yes'.0 ∷ no'.0 ∷ after.0 ∷ named q
  named (of_assign p q) = named p ++ named_place q
  named (of_update u p q) = named p ++ named_place q
  named (of_call after p) = named_args p ++ after.0 ∷ []
  named (of_make p) = named_args p
  named (of_part p k) = named_place p
  named (of_block p) = named_rest p
  named (of_branch yes' no' after p q) = named p ++ yes'.0 ∷ no'.0 ∷ after.0 ∷ named q
  named (of_choice yes' no' after n p q r) = named p ++ yes'.0 ∷ no'.0 ∷ after.0 ∷ (named q ++ named r)
  named (of_leaving_choice yes' no' n p q r) = named p ++ yes'.0 ∷ no'.0 ∷ (named q ++ named r)
  named (of_matched D to f q l p r) = named_place p ++ (labels_at to ++ named_tests r)
  named (of_repeat head body after fs g p q) = head.0 ∷ body.0 ∷ after.0 ∷ (named p ++ named q)
  named of_panics = []
  named (of_returned p) = named p
  named (of_endless head fs g p) = head.0 ∷ named p
  named (of_until_break head after fs g p) = head.0 ∷ after.0 ∷ named p
  named (of_break_off l p) = []
  named (of_go_on l p) = []

  pub named_place : {c : Around} {e : TypedExpr} {x : Place} {xs : List Line} → PlaceOf c e x xs → List ℕ
  named_place (of_name x q) = []
  named_place (of_part_place p) = named_place p
  named_place (of_temporary n p) = named p

  pub named_tests : {c : Around} {s : Span} {T : Ty} {p : Place} {as' : TypedArms} {to : Option Label} {D : Decision} {d : ℕ} {xs : List Line} → Tests c s T p as' to D d xs → List ℕ
  named_tests (at_arm p) = named_arm p
  named_tests (on_truth u yes' no' h p q) = yes'.0 ∷ no'.0 ∷ (named_tests p ++ named_tests q)
  named_tests (on_literal u yes' no' k h g p q) = yes'.0 ∷ no'.0 ∷ (named_tests p ++ named_tests q)

  pub named_arm : {c : Around} {s : Span} {T : Ty} {p : Place} {as' : TypedArms} {n d : ℕ} {xs : List Line} → ArmInto c s T p as' n d xs → List ℕ
  named_arm (of_unbound p) = named p
  named_arm (of_bound x h k p) = named p
  named_arm (of_later p) = named_arm p

  pub named_rest : {c : Around} {outer : Bool} {s : Span} {ss : TypedStmts} {d : ℕ} {xs : List Line} → Rest c outer s ss d xs → List ℕ
  named_rest of_done = []
  named_rest (of_last p) = named p
  named_rest (of_leaving p) = named p
  named_rest (of_bind p q) = named p ++ named_rest q
  named_rest (of_run p q) = named p ++ named_rest q

  pub named_args : {c : Around} {es : TypedExprs} {ts : List ℕ} {xs : List Line} → Args c es ts xs → List ℕ
  named_args of_none = []
  named_args (of_more p q) = named p ++ named_args q

abbrev pub named_body : {c : Around} {e : TypedExpr} {xs : List Line} → IntoBody c e xs → List ℕ
named_body (of_outermost p) = named_rest p
named_body (of_other q p) = named p

-- 0, 1 and so on
abbrev pub AreInOrder : List ℕ → Type 0
AreInOrder ns = ns ≡ range_with_len 0 (length ns)

-- ---- functions

-- n, n + 1 and so on, so many
abbrev pub counted : {A : Type 0} → ℕ → List A → List ℕ
counted n [] = []
counted n (x ∷ xs) = n ∷ counted (n + 1) xs

-- the formula is taken where the kinds are the same
abbrev pub picked : ClauseKind → ClauseKind → Assertion → List Assertion → List Assertion
picked Requires Requires a rest = a ∷ rest
picked Requires Ensures a rest = rest
picked Ensures Requires a rest = rest
picked Ensures Ensures a rest = a ∷ rest

abbrev pub formulas_of : ClauseKind → List TypedClause → List Assertion
formulas_of k [] = []
formulas_of k (c ∷ cs) = picked k c.kind c.formula (formulas_of k cs)

-- over the names of the variables that the parameters are
abbrev pub contract_over : TypedFunction → List Formula → List Formula → Contract
contract_over f before behind = record {
  params = map variable_name (counted 0 f.signature.params);
  answer = answer_name;
  pre = map term_of before;
  post = map term_of behind;
  variants = [];
  spans = map formula_span before ++ map formula_span behind;
}

-- the contract of a function, none of whose clauses is refused
pub record HasContract (f : TypedFunction) (c : Contract) : Type 0 where
  pub before : List Formula
  pub behind : List Formula
  pub are_before : formulas_of Requires f.clauses ≡ map accepted before
  pub are_behind : formulas_of Ensures f.clauses ≡ map accepted behind
  pub is : c ≡ contract_over f before behind

abbrev pub entry_title : Label → Title
entry_title l = record { label = l; nest = []; head = None }

-- the types with the numbers from n on
abbrev pub paired : ℕ → List Ty → List (ℕ × Ty)
paired n [] = []
paired n (t ∷ ts) = (n, t) ∷ paired (n + 1) ts

-- the locals of a body by number: the answer, the parameters, and those that the text makes
abbrev pub all_locals : TypedFunction → List Line → List (ℕ × Ty)
all_locals f xs = (0, f.signature.answer) ∷ (paired 1 f.signature.params ++ made xs)

-- at the head of a loop its own locals hold nothing
abbrev pub gone_at : Label × List ℕ → Point × List Place
gone_at g = (record { label = g.0; statement = 0 }, map whole g.1)

-- around the outermost block the parameters are in scope, which are locals from 1 on
abbrev pub around_body : List AdtDecl → TypedFunction → Around
around_body ds f = record { types = ds; scope = map whole (counted 1 f.signature.params); loops = [] }

-- the types of a function, as calls look them up; so far functions have no lifetimes
abbrev pub types_of_call : Signature → CallSignature
types_of_call s = record { params = s.params; result = s.answer; outlives = [] }

-- those of the function that a block's end calls, if it calls one
abbrev pub called : List Signature → TerminatorKind → Option CallSignature
called σ (Call p (Function (fn_id.Body n)) types os l) = option_map types_of_call (slice_get σ n)
called σ _ = None

abbrev pub with_call : Label → Option CallSignature → List (Label × CallSignature) → List (Label × CallSignature)
with_call l None calls = calls
with_call l (Some s) calls = (l, s) ∷ calls

-- the calls of blocks, with the types of what they call
abbrev pub calls_of : List Signature → List (Label × Block) → List (Label × CallSignature)
calls_of σ [] = []
calls_of σ (k ∷ ks) = with_call k.0 (called σ k.1.end.kind) (calls_of σ ks)

-- the body of a function of a program that declares these types, and what may be gone where in it: local 0 is the answer, then come the parameters
pub record LowersTo (ds : List AdtDecl) (σ : List Signature) (owner : List ℕ) (f : TypedFunction) (b : Body) (gone : Initialised) : Type 0 where
  pub text : List Line
  pub into : IntoBody (around_body ds f) f.body text
  -- behind its text the body returns
  pub blocks : b.blocks ≡ closed (fresh (entry_title b.entry)) (text ++ Leaves (ends (span_of f.body) Return) ∷ [])
  -- the entry has label 0, and the rows name the labels 1, 2 and so on
  pub labels_in_order : AreInOrder (b.entry.0 ∷ named_body into)
  -- the answer is local 0, and the parameters and the locals that the text makes are the locals 1, 2 and so on
  pub locals_in_order : AreInOrder (numbers (all_locals f text))
  pub locals : (i x : ℕ) (t : Ty) → slice_get (all_locals f text) i ≡ Some (x, t) → slice_get b.locals x ≡ Some t
  pub all : length b.locals ≡ length (all_locals f text)
  -- locals have numbers of 32 bits
  pub few : length b.locals ≤ 2 ^ 32
  pub owner_is : b.owner ≡ owner
  -- so far functions have no type parameters, and no lifetimes
  pub types : b.types ≡ []
  pub outlives : b.outlives ≡ []
  pub calls : b.calls ≡ calls_of σ b.blocks
  pub params : b.params ≡ length f.signature.params
  pub names : b.names ≡ map local_name (counted 0 b.locals)
  pub span : b.span ≡ f.span
  pub types_at : b.types_at ≡ f.types_at
  pub holds_nothing : gone.gone ≡ map gone_at (owned text)

-- the functions from number n on, each with its text, lower to these bodies, contracts and gone places, one for each
pub data EachLowersTo (table : List (List ℕ)) (ds : List AdtDecl) (σ : List Signature) : ℕ → List TypedFunction → List Body → List Contract → List Initialised → Type 0 where
  no_functions : {n : ℕ} → EachLowersTo table ds σ n [] [] [] []
  and_function : {n : ℕ} {f : TypedFunction} {fs : List TypedFunction} {b : Body} {bs : List Body} {c : Contract} {cs : List Contract} {gone : Initialised} {gones : List Initialised} (owner : List ℕ)
      → text_of table f.name ≡ Some owner → LowersTo ds σ owner f b gone → HasContract f c → b.id ≡ n → EachLowersTo table ds σ (suc n) fs bs cs gones
      → EachLowersTo table ds σ n (f ∷ fs) (b ∷ bs) (c ∷ cs) (gone ∷ gones)

-- the functions of a program that declares these types lower to these; so far it has no impls and no closures
pub record LowerTo (table : List (List ℕ)) (ds : List AdtDecl) (fs : List TypedFunction) (bodies : Bodies) (cs : Contracts) (gones : List Initialised) : Type 0 where
  pub each : EachLowersTo table ds (signatures fs) 0 fs bodies.bodies cs.of gones
  pub decls : bodies.decls ≡ ds
  pub impls : bodies.impls ≡ []
  pub closures : bodies.closures ≡ []
  pub traits : cs.traits ≡ []
  pub closure_decls : cs.closures ≡ []
  pub intrinsics : cs.intrinsics ≡ []

-- the program lowers to these, by this table of names
abbrev pub IsLowered : List (List ℕ) → List AdtDecl → TypedProgram → Lowered → Type 0
IsLowered table ds p l = LowerTo table ds p.functions l.bodies l.contracts l.gone

-- the blocks of a text, the first one included
abbrev pub blocks_in : List Line → ℕ
blocks_in xs = 1 + length (begun xs)

-- the text of some function has more blocks than the bound. The declared types, which say what is copied, make none
pub record HasMoreBlocks (p : TypedProgram) (bound : ℕ) : Type 0 where
  pub function : TypedFunction
  pub place : ℕ
  pub is_function : slice_get p.functions place ≡ Some function
  pub types : List AdtDecl
  pub text : List Line
  pub into : IntoBody (around_body types function) function.body text
  pub more : bound < blocks_in text
