-- Typing by rules: what each form asks of its parts, one after another in source order, and what it comes to itself where they have types
-- (bidirectional typing, Pierce and Turner 2000). Without an expected type an expression gives one, with one it fits it; a part that is
-- refused refuses the whole. One equation stands for each form, and no equation looks into a part.
use Rattle.std.specs.Prelude.{◌≡◌, Bool, true, false, List, [], Option, Some, None, Result, Ok, Err}
use Rattle.text_core.specs.declared.refusal.SourceError.{SourceError}
use Rattle.text_core.specs.declared.span.Span.{Span}
use Rattle.logic_term.specs.declared.declaration.FieldDecl.{FieldDecl}
use Rattle.logic_term.specs.declared.declaration.VariantKind.TheVariants.{Named}
use Rattle.logic_term.specs.Ty.{Ty, bool}
use Rattle.source_trees.specs.declared.operator.UnaryOp.TheVariants.{Neg, Not}
use Rattle.source_trees.specs.Expr as E
use Rattle.source_trees.specs.Expr.{Expr}
use Rattle.source_trees.specs.ExprView.{span_of}
use Rattle.source_trees.specs.Pat.{Pat}
use Rattle.source_trees.specs.TypeTree.{TypeTree}
use Rattle.source_trees.specs.TypeTreeView.{span_of as type_span}
use Rattle.type_check.specs.declared.operands.Operands.{Operands}
use Rattle.type_check.specs.declared.operands.Order.{Order}
use Rattle.type_check.specs.declared.operands.Order.TheVariants as order
use Rattle.type_check.specs.declared.scope.Variable.{Variable}
use Rattle.type_check.specs.Answers.{unbuilt, gather}
use Rattle.type_check.specs.Arms.{TypedArm, arm_of, pattern_at, in_arm, and_arm, or_else_arm}
use Rattle.type_check.specs.Makers.{Maker, maker_of}
use Rattle.type_check.specs.Setting.{Setting, looping, outside}
use Rattle.type_check.specs.TypedExpr.{TypedExpr, TypedExprs, TypedArms}
use Rattle.type_check.specs.TypedExpr as tree
use Rattle.type_check.specs.TypedExprView.{ty_of, stmts_of}
use Rattle.type_check.specs.Typing.{Typed, fit, asked, literal, named, negated, is_bare, order_of, operands_of, operated, widened, assigned, updated, callee_of, first_of, rest_of, params_of, called, parts_of, tupled, parted, selected, next_field, fields_behind, no_field_left, literal_made, Opened, opened, declared, behind, typed_stmt, without_last, closed, given, chosen, matched, chosen_by, repeated_by, nothing, panicked, returned, bare_return, endless, in_a_loop, invariant_of, typed}
use Rattle.type_check.specs.WellTyped.{unit, is_arithmetic}
use Rattle.type_check.specs.Written.{step_of, written_type}

-- what is asked: a part in its setting and scope, at an expected type if there is one, and from its typed tree on what else; or nothing
-- more
pub data Asks : Type 0 where
  comes : Typed → Asks
  part : Setting → List Variable → Expr → Option Ty → (TypedExpr → Asks) → Asks

-- something that is no expression, and then what else
abbrev pub first : {A : Type 0} → Result A SourceError → (A → Asks) → Asks
first (Ok a) k = k a
first (Err e) k = comes (Err e)

-- ---- operands

-- each operand in its turn
abbrev pub operands_in : Setting → Order → List Variable → Expr → Expr → (Operands → Asks) → Asks
operands_in σ (order.Against t) Γ a b k = part σ Γ a (Some t) λ x. part σ Γ b (Some t) λ y. k (operands_of x y)
operands_in σ order.SecondGives Γ a b k = part σ Γ b None λ y. part σ Γ a (Some (ty_of y)) λ x. k (operands_of x y)
operands_in σ order.FirstGives Γ a b k = part σ Γ a None λ x. part σ Γ b (Some (ty_of x)) λ y. k (operands_of x y)

-- the operand of a cast, which has the written type where it is an integer without one, and the type
abbrev pub cast_in : Setting → (bare : Bool) → List Variable → Expr → TypeTree → (TypedExpr × Ty → Asks) → Asks
cast_in σ true Γ e w k = first (written_type σ.types w) λ u. part σ Γ e (Some u) λ a. k (a, u)
cast_in σ false Γ e w k = part σ Γ e None λ a. first (written_type σ.types w) λ u. k (a, u)

-- ---- lists of parts

-- each argument at the type of its parameter
abbrev pub each_arg : Setting → List Variable → E.Exprs → List Ty → (TypedExprs → Asks) → Asks
each_arg σ Γ E.none ts k = k tree.none
each_arg σ Γ (E.more e es) ts k = part σ Γ e (first_of ts) λ a. each_arg σ Γ es (rest_of ts) λ as'. k (tree.more a as')

-- each field of a literal at its type, these being left
abbrev pub each_field : Setting → List Variable → Span → Maker → List FieldDecl → E.FieldExprs → (TypedExprs → Asks) → Asks
each_field σ Γ s m left E.no_fields k = first (no_field_left s left) k
each_field σ Γ s m left (E.with_field r x e fs) k = first (next_field σ.types m left x) λ u. part σ Γ e (Some u) λ a. each_field σ Γ s m (fields_behind left) fs λ as'. k (tree.more a as')

-- each statement in the scope that those before it leave
abbrev pub each_stmt : Setting → List Variable → E.Stmts → (Opened → Asks) → Asks
each_stmt σ Γ E.no_stmts k = k (opened Γ [])
each_stmt σ Γ (E.with_stmt s kind e ss) k = first (step_of σ.types kind) λ p. part σ Γ e p.expected λ a. each_stmt σ (declared Γ p.declares a) ss λ o. k (behind (typed_stmt p a) o)

-- an arm, at a value of type u, in the scope that its pattern gives, where t is asked
abbrev pub an_arm : Setting → List Variable → (u : Ty) → (t : Option Ty) → Pat → Expr → (TypedArm → Asks) → Asks
an_arm σ Γ u t p e k = first (pattern_at σ.types u p) λ b. part σ (in_arm Γ b.1) e t λ y. k (arm_of b y)

-- each arm behind those that are made
abbrev pub each_arm : Setting → List Variable → (u : Ty) → (t : Option Ty) → (made : TypedArms) → E.Arms → (TypedArms × Option Ty → Asks) → Asks
each_arm σ Γ u t made E.no_arms k = k (made, t)
each_arm σ Γ u t made (E.with_arm r p e as') k = an_arm σ Γ u t p e λ x. each_arm σ Γ u (given t x.body) (and_arm made x) as' k

-- ---- the rules

abbrev pub rule : Setting → List Variable → Expr → Option Ty → Asks
rule σ Γ (E.integer s z k) t = comes (literal t s z k)
rule σ Γ (E.truth s b) t = comes (fit t s (tree.truth bool s b))
rule σ Γ (E.path s p) t = comes (named σ.types Γ t s p.node)
rule σ Γ (E.unary s Neg o e) t = part σ Γ e t λ a. comes (negated t s o (span_of e) a)
rule σ Γ (E.unary s Not o e) t = part σ Γ e (Some bool) λ a. comes (fit t s (tree.denied bool s a))
rule σ Γ (E.cast s e w) t = cast_in σ (is_bare e) Γ e w λ p. comes (widened t s (span_of e) (type_span w) p)
rule σ Γ (E.binary s op o a b) t = operands_in σ (order_of (is_arithmetic op) t (is_bare a) (is_bare b)) Γ a b λ p. comes (operated t s o (span_of a) op p)
rule σ Γ (E.lazy s op a b) t = part σ Γ a (Some bool) λ x. part σ Γ b (Some bool) λ y. comes (fit t s (tree.lazy bool s op x y))
rule σ Γ (E.assign s l e) t = part σ Γ l None λ a. part σ Γ e (Some (ty_of a)) λ b. comes (assigned Γ t s (span_of l) a b)
rule σ Γ (E.update s op o l e) t = part σ Γ l None λ a. part σ Γ e (Some (ty_of a)) λ b. comes (updated Γ t s o (span_of l) op a b)
rule σ Γ (E.call s f es) t = first (callee_of σ Γ t s f) λ g. each_arg σ Γ es (params_of g) λ as'. comes (called t s g as')
rule σ Γ (E.tuple s es) t = each_arg σ Γ es (parts_of t) λ as'. comes (tupled t s as')
rule σ Γ (E.part s e k) t = part σ Γ e None λ a. comes (parted σ.types t s k a)
rule σ Γ (E.field s e x []) t = part σ Γ e None λ a. comes (selected σ.types t s x a)
rule σ Γ (E.literal s p fs) t = first (maker_of σ.types Named t s p.node) λ m. each_field σ Γ s m m.fields fs λ as'. comes (literal_made t s m as')
rule σ Γ (E.block s ss) t = each_stmt σ Γ ss λ o. comes (closed t s (without_last o.stmts))
rule σ Γ (E.block_with s ss e) t = each_stmt σ Γ ss λ o. part σ o.scope e t λ a. comes (closed t s (stmts_of o.stmts (tree.last a)))
rule σ Γ (E.branch s None c a) t = part σ Γ c (Some bool) λ x. part σ Γ a (Some unit) λ y. comes (fit t s (tree.branch unit s x y))
rule σ Γ (E.choice s None c a b) t = part σ Γ c (Some bool) λ x. part σ Γ a t λ y. part σ Γ b (given t y) λ z. comes (chosen t s x y z)
rule σ Γ (E.branch s (Some p) c e) t =
    part σ Γ c None λ a. an_arm σ Γ (ty_of a) (Some unit) p e λ x. comes (fit t s (tree.matched unit s a (or_else_arm (ty_of a) x (nothing s))))
rule σ Γ (E.choice s (Some p) c d e) t =
    part σ Γ c None λ a. an_arm σ Γ (ty_of a) t p d λ x. part σ Γ e (given t x.body) λ z. comes (chosen_by t s a x z)
rule σ Γ (E.matching s e as') t = part σ Γ e None λ a. each_arm σ Γ (ty_of a) t tree.no_arms as' λ p. comes (matched t s a p)
rule σ Γ (E.repeat s None c b) t = part (outside σ) Γ c (Some bool) λ x. part (looping σ) Γ b (Some unit) λ y. comes (fit t s (tree.repeat unit s [] x y))
-- a loop with its invariants, from the first attribute on
rule σ Γ (E.attributed s is (E.repeat r None c b)) t = first (gather (invariant_of σ.types Γ) is) λ is'. part (outside σ) Γ c (Some bool) λ x. part (looping σ) Γ b (Some unit) λ y. comes (fit t s (tree.repeat unit s is' x y))
rule σ Γ (E.repeat s (Some p) c b) t = part (outside σ) Γ c None λ a. an_arm (looping σ) Γ (ty_of a) (Some unit) p b λ x. comes (fit t s (repeated_by s [] a x))
rule σ Γ (E.attributed s is (E.repeat r (Some p) c b)) t =
    first (gather (invariant_of σ.types Γ) is) λ is'. part (outside σ) Γ c None λ a. an_arm (looping σ) Γ (ty_of a) (Some unit) p b λ x. comes (fit t s (repeated_by s is' a x))
rule σ Γ (E.panic s m text) t = comes (panicked t s m)
rule σ Γ (E.bare_return s) t = comes (bare_return σ.answer t s)
rule σ Γ (E.return_with s e) t = part σ Γ e (Some σ.answer) λ a. comes (Ok (returned t s a))
rule σ Γ (E.endless s b) t = part (looping σ) Γ b (Some unit) λ x. comes (endless t s [] x)
rule σ Γ (E.attributed s is (E.endless r b)) t = first (gather (invariant_of σ.types Γ) is) λ is'. part (looping σ) Γ b (Some unit) λ x. comes (endless t s is' x)
rule σ Γ (E.break_off s) t = comes (in_a_loop σ.in_loop s (tree.break_off (asked t) s))
rule σ Γ (E.go_on s) t = comes (in_a_loop σ.in_loop s (tree.go_on (asked t) s))
rule σ Γ e t = comes (Err (unbuilt (span_of e)))

-- ---- typing

mutual
  -- an expression comes to a typed tree or a refusal, by the rule of its form
  pub data Types : Setting → List Variable → Expr → Option Ty → Typed → Type 0 where
    by_rule : {σ : Setting} {Γ : List Variable} {e : Expr} {t : Option Ty} {r : Typed} → Comes (rule σ Γ e t) r → Types σ Γ e t r

  -- the first part that is refused refuses the whole; else the form itself answers
  pub data Comes : Asks → Typed → Type 0 where
    itself : {r : Typed} → Comes (comes r) r
    refused : {σ : Setting} {Γ : List Variable} {e : Expr} {t : Option Ty} {k : TypedExpr → Asks} {x : SourceError} → Types σ Γ e t (Err x) → Comes (part σ Γ e t k) (Err x)
    then : {σ : Setting} {Γ : List Variable} {e : Expr} {t : Option Ty} {k : TypedExpr → Asks} {v : TypedExpr} {r : Typed} → Types σ Γ e t (Ok v) → Comes (k v) r → Comes (part σ Γ e t k) r

-- the expression gives a type
abbrev pub Gives : Setting → List Variable → Expr → TypedExpr → Type 0
Gives σ Γ e v = Types σ Γ e None (Ok v)

-- it fits the expected one
abbrev pub Fits : Setting → List Variable → Expr → Ty → TypedExpr → Type 0
Fits σ Γ e t v = Types σ Γ e (Some t) (Ok v)

-- ---- laws

-- what an expression comes to by `typed`, with which the contract of `check` speaks, it comes to by the rules
abbrev pub TypedByRules : Type 0
TypedByRules = (σ : Setting) (Γ : List Variable) (e : Expr) (t : Option Ty) → Types σ Γ e t (typed σ Γ e t)

-- each expression has one outcome
abbrev pub TypingIsOne : Type 0
TypingIsOne = (σ : Setting) (Γ : List Variable) (e : Expr) (t : Option Ty) (r other : Typed) → Types σ Γ e t r → Types σ Γ e t other → r ≡ other
