-- One row for each statement and each end of a block: the goals that are met there, and the commands to what comes after.
-- Arithmetic is that of the Rust Reference ("Operator expressions": overflow, division by zero, the least integer divided by -1).
use Rattle.std.specs.Prelude.{ℕ, ◌+◌, ◌^◌, pos, negsuc, Bool, true, false, List, [], ◌∷◌, map, Option, Some, None, slice_get, if◌then◌else◌}
use Rattle.text_core.specs.declared.name.Name.{Name}
use Rattle.text_core.specs.declared.span.Span.{Span}
use Rattle.text_core.specs.declared.refusal.Kind.TheVariants.{Overflow, Division}
use Rattle.source_kinds.specs.declared.kinds.ArithOp.{ArithOp}
use Rattle.source_kinds.specs.declared.kinds.ArithOp.TheVariants as arith
use Rattle.source_kinds.specs.declared.kinds.BinaryOp.{BinaryOp}
use Rattle.source_kinds.specs.declared.kinds.BinaryOp.TheVariants.{Add, Sub, Mul, Div, Rem, Eq, Ne, Lt, Le, Gt, Ge}
use Rattle.source_kinds.specs.declared.kinds.IntKind.{IntKind}
use Rattle.source_kinds.specs.declared.kinds.IntKind.TheVariants.{I8, I16, I32, I64, Isize, U8, U16, U32, U64, Usize}
use Rattle.source_kinds.specs.Range.{lowest, highest}
use Rattle.logic_term.specs.Term.{made, Term, var, lit, truth, apply, part, model, negative, not, calculate, is_less, is_at_most, is_equal, and}
use Rattle.logic_term.specs.TermView.{terms_of}
use Rattle.logic_term.specs.Ty.{Ty, int, bool, math_int}
use Rattle.mir_ir.specs.declared.place.Lit.{Lit}
use Rattle.mir_ir.specs.declared.place.Lit.TheVariants as literal
use Rattle.mir_ir.specs.declared.place.Operand.{Operand}
use Rattle.mir_ir.specs.declared.place.Operand.TheVariants.{Copy, Move, Const}
use Rattle.mir_ir.specs.declared.place.Place.{Place}
use Rattle.mir_ir.specs.declared.place.Proj.{Proj}
use Rattle.mir_ir.specs.declared.place.Proj.TheVariants.{Field, Variant, Deref}
use Rattle.mir_ir.specs.declared.statement.Rvalue.{Rvalue}
use Rattle.mir_ir.specs.declared.statement.Rvalue.TheVariants.{Use, Binary, Neg, Not, Widen, Make, BoxNew}
use Rattle.mir_ir.specs.declared.statement.StatementKind.{StatementKind}
use Rattle.mir_ir.specs.declared.statement.StatementKind.TheVariants.{Assign, Dead}
use Rattle.mir_ir.specs.declared.body.Body.{Body}
use Rattle.mir_ir.specs.Body.{kind_in}
use Rattle.prophecy_logic.specs.declared.command.Command.{Command}
use Rattle.prophecy_logic.specs.declared.command.Command.TheVariants.{Set, Fresh, Assume}
use Rattle.prophecy_logic.specs.declared.goal.Goal.{Goal}
use Rattle.prophecy_logic.specs.declared.operation.Operation.{Operation}
use Rattle.prophecy_logic.specs.declared.operation.Operation.TheVariants.{Exact, Divided, Compared}
use Rattle.prophecy_logic.specs.declared.operation.Compared.{Compared as Kinds}
use Rattle.prophecy_logic.specs.declared.operation.Compared.TheVariants.{Truths, Integers}

-- ---- names and operands

-- the name of a new value; no local and no contract has it
unfoldable pub value_name : Name
value_name = record { 0 = 2 ^ 63 + 2 ^ 62 }

-- names for this many new values more, one for each type
unfoldable pub part_name : ℕ → Name
part_name n = record { 0 = 2 ^ 63 + 2 ^ 62 + 1 + n }

abbrev pub part_names : ℕ → List Ty → List Name
part_names n [] = []
part_names n (t ∷ ts) = part_name n ∷ part_names (n + 1) ts

abbrev pub or_value_name : Option Name → Name
or_value_name None = value_name
or_value_name (Some x) = x

-- the name of a local
abbrev pub name_of : Body → ℕ → Name
name_of b x = or_value_name (slice_get b.names x)

-- the part at the end of the path. A box is what it holds
abbrev pub part_at : Term → List Proj → Term
part_at t [] = t
part_at t (Field n ∷ path) = part_at (part n t) path
part_at t (Variant n ∷ path) = part_at t path
part_at t (Deref ∷ path) = part_at t path

abbrev pub place_term : Body → Place → Term
place_term b p = part_at (var (name_of b p.local)) p.path

abbrev pub literal_term : Lit → Term
literal_term (literal.Int z k) = lit z (int k)
literal_term (literal.Bool x) = truth x

abbrev pub operand_term : Body → Operand → Term
operand_term b (Copy p) = place_term b p
operand_term b (Move p) = place_term b p
operand_term b (Const l) = literal_term l

abbrev pub literal_ty : Lit → Option Ty
literal_ty (literal.Int z k) = Some (int k)
literal_ty (literal.Bool x) = Some bool

abbrev pub operand_ty : Body → Operand → Option Ty
operand_ty b (Copy p) = slice_get b.locals p.local
operand_ty b (Move p) = slice_get b.locals p.local
operand_ty b (Const l) = literal_ty l

-- the unbounded integer that the operand is
abbrev pub integer_term : Body → Operand → Term
integer_term b o = model (operand_term b o)

-- ---- formulas

-- lowest <= t && t <= highest
unfoldable pub in_range : IntKind → Term → Term
in_range k t = and (is_at_most (lit (lowest k) math_int) t) (is_at_most t (lit (highest k) math_int))

unfoldable pub is_signed : IntKind → Bool
is_signed I8 = true
is_signed I16 = true
is_signed I32 = true
is_signed I64 = true
is_signed Isize = true
is_signed U8 = false
is_signed U16 = false
is_signed U32 = false
is_signed U64 = false
is_signed Usize = false

-- !(b@ == 0)
unfoldable pub not_zero : Term → Term
not_zero b = not (is_equal b (lit (pos 0) math_int))

-- !(a@ == lowest && b@ == -1)
unfoldable pub not_least_by_minus_one : IntKind → Term → Term → Term
not_least_by_minus_one k a b = not (and (is_equal a (lit (lowest k) math_int)) (is_equal b (lit (negsuc 0) math_int)))

abbrev pub operation : BinaryOp → Operation
operation Add = Exact arith.Add
operation Sub = Exact arith.Sub
operation Mul = Exact arith.Mul
operation Div = Divided arith.Div
operation Rem = Divided arith.Rem
operation Eq = Compared
operation Ne = Compared
operation Lt = Compared
operation Le = Compared
operation Gt = Compared
operation Ge = Compared

-- what is compared, by the type of the first operand
abbrev pub compared_ty : Option Ty → Kinds
compared_ty (Some bool) = Truths
compared_ty _ = Integers

abbrev pub equality : Kinds → Term → Term → Term
equality Truths a b = is_equal a b
equality Integers a b = is_equal (model a) (model b)

-- the truth value of a comparison
abbrev pub comparison : Kinds → BinaryOp → Term → Term → Term
comparison of Eq a b = equality of a b
comparison of Ne a b = not (equality of a b)
comparison of Lt a b = is_less (model a) (model b)
comparison of Le a b = is_at_most (model a) (model b)
comparison of Gt a b = is_less (model b) (model a)
comparison of Ge a b = is_at_most (model b) (model a)
comparison of _ a b = truth false

-- ---- statements

abbrev pub overflow : Span → Term → Goal
overflow at φ = record { kind = Overflow; span = at; formula = φ }

abbrev pub division : Span → Term → Goal
division at φ = record { kind = Division; span = at; formula = φ }

abbrev pub if_signed : IntKind → List Goal → List Goal
if_signed k gs = if is_signed k then gs else []

abbrev pub goals_of_operation : IntKind → Span → Operation → Term → Term → List Goal
goals_of_operation k at (Exact op) a b = overflow at (in_range k (calculate op a b)) ∷ []
goals_of_operation k at (Divided op) a b = division at (not_zero b) ∷ if_signed k (overflow at (not_least_by_minus_one k a b) ∷ [])
goals_of_operation k at Compared a b = []

-- goals of a right side whose place has integers of the kind
abbrev pub goals_of_kind : Body → Option IntKind → Span → Rvalue → List Goal
goals_of_kind b (Some k) at (Binary op x y) = goals_of_operation k at (operation op) (integer_term b x) (integer_term b y)
goals_of_kind b (Some k) at (Neg x) = overflow at (in_range k (negative (integer_term b x))) ∷ []
goals_of_kind b _ at _ = []

abbrev pub goals_of : Body → Span → StatementKind → List Goal
goals_of b at (Assign p r) = goals_of_kind b (kind_in (slice_get b.locals p.local)) at r
goals_of b at (Dead x) = []

-- local x gets a new value of the kind, of which it is known that it is the exact one
abbrev pub new_integer : Body → IntKind → ℕ → Term → List Command
new_integer b k x t = Fresh value_name (int k) ∷ Assume (is_equal (model (var value_name)) t) ∷ Set (name_of b x) (var value_name) ∷ []

-- the commands of arithmetic, where the place has integers
abbrev pub of_arithmetic : Body → Option IntKind → ℕ → ArithOp → Operand → Operand → List Command
of_arithmetic b (Some k) x a o q = new_integer b k x (calculate a (integer_term b o) (integer_term b q))
of_arithmetic b None x a o q = []

abbrev pub of_comparison : Body → ℕ → BinaryOp → Operand → Operand → List Command
of_comparison b x op o q = Set (name_of b x) (comparison (compared_ty (operand_ty b o)) op (operand_term b o) (operand_term b q)) ∷ []

abbrev pub of_operation : Body → Option IntKind → ℕ → BinaryOp → Operand → Operand → Operation → List Command
of_operation b k x op o q (Exact a) = of_arithmetic b k x a o q
of_operation b k x op o q (Divided a) = of_arithmetic b k x a o q
of_operation b k x op o q Compared = of_comparison b x op o q

abbrev pub of_negation : Body → Option IntKind → ℕ → Operand → List Command
of_negation b (Some k) x o = new_integer b k x (negative (integer_term b o))
of_negation b None x o = []

-- the local gets a new value of the wider type, which is the same integer
abbrev pub of_widening : Body → IntKind → ℕ → Operand → List Command
of_widening b k x o = new_integer b k x (integer_term b o)

abbrev pub of_rvalue : Body → Option IntKind → ℕ → Rvalue → List Command
of_rvalue b k x (Use o) = Set (name_of b x) (operand_term b o) ∷ []
of_rvalue b k x (Binary op o q) = of_operation b k x op o q (operation op)
of_rvalue b k x (Neg o) = of_negation b k x o
of_rvalue b k x (Not o) = Set (name_of b x) (not (operand_term b o)) ∷ []
of_rvalue b k x (Widen o wide) = of_widening b wide x o
of_rvalue b k x (Make c os) = Set (name_of b x) (apply (made c) (terms_of (map (operand_term b) os))) ∷ []
-- a box is what it holds
of_rvalue b k x (BoxNew o) = Set (name_of b x) (operand_term b o) ∷ []

abbrev pub commands_of : Body → StatementKind → List Command
commands_of b (Assign p r) = of_rvalue b (kind_in (slice_get b.locals p.local)) p.local r
commands_of b (Dead x) = []
