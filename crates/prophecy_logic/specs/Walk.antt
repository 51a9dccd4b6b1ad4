-- Rows of the ends of blocks and of arrivals at heads; and what is left of a walk, as a tree of rows. The goals of a tree are those that
-- the walk meets, depth first, each made from the goal backwards to the point at which the walk begins.
use Rattle.std.specs.Prelude.{ℕ, false, ◌+◌, List, [], ◌∷◌, ◌++◌, length, map, drop, Option, Some, None, slice_get}
use Rattle.text_core.specs.declared.name.Name.{Name}
use Rattle.text_core.specs.declared.span.Span.{Span}
use Rattle.text_core.specs.declared.refusal.Kind.{Kind}
use Rattle.text_core.specs.declared.refusal.Kind.TheVariants.{Unreachable, Ensures, Requires, InvEntry, InvKept}
use Rattle.logic_term.specs.declared.declaration.AdtDecl.{AdtDecl}
use Rattle.logic_term.specs.declared.declaration.VariantDecl.{VariantDecl}
use Rattle.logic_term.specs.declared.kinds.Ctor.{Ctor}
use Rattle.logic_term.specs.declared.kinds.Ctor.TheVariants.{Variant}
use Rattle.logic_term.specs.declared.obligation.Contract.{Contract}
use Rattle.logic_term.specs.declared.subst.Replacement.{Replacement}
use Rattle.logic_term.specs.Subst.{with_terms, replaced}
use Rattle.logic_term.specs.Sort.{instance}
use Rattle.logic_term.specs.Term.{made, Term, var, truth, apply, is_equal}
use Rattle.logic_term.specs.TermView.{terms_of}
use Rattle.logic_term.specs.Theory.{variant_of}
use Rattle.logic_term.specs.Term as terms
use Rattle.logic_term.specs.Ty.{Ty, Tys, adt}
use Rattle.mir_ir.specs.declared.place.Operand.{Operand}
use Rattle.mir_ir.specs.declared.place.Place.{Place}
use Rattle.mir_ir.specs.declared.body.Body.{Body}
use Rattle.mir_ir.specs.declared.body.Head.{Head}
use Rattle.prophecy_logic.specs.declared.command.Command.{Command}
use Rattle.prophecy_logic.specs.declared.command.Command.TheVariants.{Set, Fresh, Assume}
use Rattle.prophecy_logic.specs.declared.goal.Goal.{Goal}
use Rattle.prophecy_logic.specs.Command.{before_all, assumed}
use Rattle.prophecy_logic.specs.Row.{value_name, part_names, name_of, operand_term}

-- ---- goals at other points

abbrev pub goal_before : List Command → Goal → Goal
goal_before cs g = record { kind = g.kind; span = g.span; formula = before_all cs g.formula }

-- these goals, the commands standing before each
abbrev pub seen_before : List Command → List Goal → List Goal
seen_before cs gs = map (goal_before cs) gs

-- the first span; where none is given, the empty one at the start of the source
abbrev pub first_span : List Span → Span
first_span [] = record { start = 0; end = 0 }
first_span (s ∷ spans) = s

-- one goal for each formula, with its span
abbrev pub each_goal : Kind → List Term → List Span → List Goal
each_goal kind [] spans = []
each_goal kind (t ∷ ts) spans = record { kind = kind; span = first_span spans; formula = t } ∷ each_goal kind ts (drop 1 spans)

-- one goal for each formula, all at one span
abbrev pub all_at : Kind → Span → List Term → List Goal
all_at kind at ts = map (λ t. record { kind = kind; span = at; formula = t }) ts

-- ---- the return

-- an `ensures` speaks of the answer, which is local 0
abbrev pub at_answer : Body → Contract → Term → Term
at_answer b c t = replaced c.answer (var (name_of b 0)) t

abbrev pub goals_at_return : Body → Contract → List Goal
goals_at_return b c = each_goal Ensures (map (at_answer b c) c.post) (drop (length c.pre) c.spans)

-- ---- the panic

-- no run comes there
abbrev pub goals_at_panic : Span → List Goal
goals_at_panic at = record { kind = Unreachable; span = at; formula = truth false } ∷ []

-- ---- branches

abbrev pub where_true : Body → Operand → List Command
where_true b o = Assume (operand_term b o) ∷ []

abbrev pub where_false : Body → Operand → List Command
where_false b o = Assume (terms.not (operand_term b o)) ∷ []

-- ---- loop heads

-- the invariants hold where a loop is entered, and after each turn
abbrev pub goals_at_entry : Head → List Goal
goals_at_entry h = each_goal InvEntry h.invariants h.spans

abbrev pub goals_after_turn : Head → List Goal
goals_after_turn h = each_goal InvKept h.invariants h.spans

-- ---- calls

-- the terms for the names, all at once
abbrev pub entries : List Name → List Term → List Replacement
entries [] ts = []
entries (x ∷ xs) [] = []
entries (x ∷ xs) (t ∷ ts) = record { name = x; by = t } ∷ entries xs ts

-- a `requires` or an `ensures` of the callee at these arguments; in an `ensures` the answer is the new value
abbrev pub at_arguments : Body → Contract → List Operand → Term → Term
at_arguments b d args t = with_terms (entries d.params (map (operand_term b) args)) t

abbrev pub at_arguments_and_answer : Body → Contract → List Operand → Term → Term
at_arguments_and_answer b d args t = with_terms (record { name = d.answer; by = var value_name } ∷ entries d.params (map (operand_term b) args)) t

abbrev pub goals_of_call : Body → Contract → Span → List Operand → List Goal
goals_of_call b d at args = all_at Requires at (map (at_arguments b d args) d.pre)

-- the place has some value of its type, of which each `ensures` is true
abbrev pub call_commands : Body → Contract → ℕ → Ty → List Operand → List Command
call_commands b d x t args =
    Fresh value_name t ∷ (assumed (map (at_arguments_and_answer b d args) d.post) ++ Set (name_of b x) (var value_name) ∷ [])

-- ---- the entry

-- each parameter has some value of its type, each `requires` is known, and the parameters' locals have these values
abbrev pub parameters : List Name → List Ty → List Command
parameters [] ts = []
parameters (x ∷ xs) [] = []
parameters (x ∷ xs) (t ∷ ts) = Fresh x t ∷ parameters xs ts

abbrev pub stored : Body → ℕ → List Name → List Command
stored b n [] = []
stored b n (x ∷ xs) = Set (name_of b n) (var x) ∷ stored b (n + 1) xs

abbrev pub entry_commands : Body → Contract → List Command
entry_commands b c = parameters c.params (drop 1 b.locals) ++ assumed c.pre ++ stored b 1 c.params

-- ---- switches

-- the types of the fields of a variant, at types for the parameters of its type
abbrev pub types_at : Tys → Option VariantDecl → List Ty
types_at ts None = []
types_at ts (Some v) = map (λ f. instance ts f.ty) v.fields

-- what is made of new values of these types
abbrev pub of_parts : Ctor → List Ty → Term
of_parts c tys = apply (made c) (terms_of (map var (part_names 0 tys)))

-- the local is made of some values of these types
abbrev pub of_variant : Body → ℕ → Ctor → List Ty → List Command
of_variant b x c tys = parameters (part_names 0 tys) tys ++ Assume (is_equal (var (name_of b x)) (of_parts c tys)) ∷ Set (name_of b x) (of_parts c tys) ∷ []

-- where a local of the type is of variant k
abbrev pub variant_commands : Body → List AdtDecl → ℕ → ℕ → Option Ty → List Command
variant_commands b ds x k (Some (adt d rs ts)) = of_variant b x (Variant d k) (types_at ts (variant_of (slice_get ds d.0) k))
variant_commands b ds x k _ = []

abbrev pub where_variant : Body → List AdtDecl → Place → ℕ → List Command
where_variant b ds p k = variant_commands b ds p.local k (slice_get b.locals p.local)

-- ---- trees of rows

-- what is left of a walk: nothing; a row, with the goals that are met and the commands behind them; two sides, the first one first
pub data Walk : Type 0 where
  stop : Walk
  row : List Goal → List Command → Walk → Walk
  fork : Walk → Walk → Walk

-- the goals of a walk that begins behind these commands, each closed by the commands before it, depth first
abbrev pub owed : List Command → Walk → List Goal
owed cs stop = []
owed cs (row gs ds v) = seen_before cs gs ++ owed (cs ++ ds) v
owed cs (fork a b) = owed cs a ++ owed cs b

-- the same goals, as they are seen from where the walk begins
abbrev pub met : Walk → List Goal
met stop = []
met (row gs cs v) = gs ++ seen_before cs (met v)
met (fork a b) = met a ++ met b

-- how many ends a walk has
abbrev pub paths : Walk → ℕ
paths stop = 1
paths (row gs cs v) = paths v
paths (fork a b) = paths a + paths b
