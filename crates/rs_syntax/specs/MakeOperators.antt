-- What operators make of their operands (Rust Reference, "Operator expressions"), and what attributes make of loops and closures.
use Rattle.std.specs.Prelude.{ℕ, ◌-◌, ◌==◌, if◌then◌else◌, List, [], ◌∷◌, Option, None, Some, unwrap_or, reverse, false}
use Rattle.text_core.specs.declared.span.Span.{Span}
use Rattle.source_kinds.specs.declared.kinds.BinaryOp.{BinaryOp}
use Rattle.source_kinds.specs.declared.kinds.BinaryOp.TheVariants as O
use Rattle.source_kinds.specs.declared.kinds.LazyOp.TheVariants as Z
use Rattle.source_grammar.specs.Classes.{kind_of}
use Rattle.source_grammar.specs.Terminals.{EqualEqual, NotEqual, AtMost, AtLeast, AndAnd, OrOr, MinusEqual, StarEqual, SlashEqual, PercentEqual, Less, Greater, Equal, Minus, Star, Slash, Percent}
use Rattle.source_words.specs.declared.word.Word.{Word}
use Rattle.pearlite.specs.declared.part.Value.TheVariants as S
use Rattle.pearlite.specs.Parts.{nowhere, word_at, span_from}
use Rattle.source_trees.specs.declared.attribute.Attribute.{Attribute}
use Rattle.rs_syntax.specs.declared.part.Part.{Part}
use Rattle.rs_syntax.specs.declared.part.Suffix.{Suffix}
use Rattle.rs_syntax.specs.declared.part.Suffix.TheVariants as X
use Rattle.rs_syntax.specs.declared.part.Value.{Value}
use Rattle.rs_syntax.specs.declared.part.Value.TheVariants as V
use Rattle.source_trees.specs.Expr as E
use Rattle.source_trees.specs.Expr.{Expr}
use Rattle.source_trees.specs.ExprView.{exprs_of, span_of}

-- ---- an operator on its operand

abbrev pub applied : Span → Expr → Suffix → Expr
applied span operand (X.Assign value) = E.assign span operand value
applied span operand (X.Update op place value) = E.update span op place operand value
applied span operand (X.Lazy op value) = E.lazy span op operand value
applied span operand (X.Binary op place value) = E.binary span op place operand value
applied span operand (X.Cast ty) = E.cast span operand ty
applied span operand (X.Field name types) = E.field span operand name types
applied span operand (X.Part number) = E.part span operand number
applied span operand (X.Method name types arguments) = E.method span operand name types (exprs_of arguments)
applied span operand (X.Call arguments) = E.call span operand (exprs_of arguments)

-- ---- the operators that tokens are

unfoldable pub binary_of : ℕ → BinaryOp
binary_of kind =
    if kind == kind_of Minus then O.Sub
    else (if kind == kind_of Star then O.Mul
    else (if kind == kind_of Slash then O.Div
    else (if kind == kind_of Percent then O.Rem
    else (if kind == kind_of EqualEqual then O.Eq
    else (if kind == kind_of NotEqual then O.Ne
    else (if kind == kind_of Less then O.Lt
    else (if kind == kind_of AtMost then O.Le
    else (if kind == kind_of Greater then O.Gt
    else (if kind == kind_of AtLeast then O.Ge else O.Add)))))))))

unfoldable pub updating_of : ℕ → BinaryOp
updating_of kind =
    if kind == kind_of MinusEqual then O.Sub
    else (if kind == kind_of StarEqual then O.Mul
    else (if kind == kind_of SlashEqual then O.Div
    else (if kind == kind_of PercentEqual then O.Rem else O.Add)))

-- the operator of that token, with its second operand
unfoldable pub computing : Word → Expr → Suffix
computing word operand =
    if word.kind == kind_of OrOr then X.Lazy Z.Or operand
    else (if word.kind == kind_of AndAnd then X.Lazy Z.And operand else X.Binary (binary_of word.kind) word.span operand)

unfoldable pub assigning : Word → Expr → Suffix
assigning word value = if word.kind == kind_of Equal then X.Assign value else X.Update (updating_of word.kind) word.span value

-- ---- chains

unfoldable pub as_expr : Value → Option Expr
as_expr (V.Expr expr) = Some expr
as_expr value = None

-- where it is none, `false` at the start of the source
abbrev pub expr_in : Value → Expr
expr_in value = unwrap_or (as_expr value) (E.truth nowhere false)

-- what stands behind an operand: a second operand behind the token of its operator, the type of a cast, a member or arguments
unfoldable pub suffix_by : Word → Value → Option Suffix
suffix_by word (V.Expr expr) = Some (computing word expr)
suffix_by word (V.Shape (S.Type ty)) = Some (X.Cast ty)
suffix_by word (V.Suffix suffix) = Some suffix
suffix_by word (V.Arguments arguments) = Some (X.Call arguments)
suffix_by word value = None

unfoldable pub applied_to : Span → Expr → Option Suffix → Expr
applied_to span operand None = operand
applied_to span operand (Some suffix) = applied span operand suffix

-- the operators behind the operand, which begins at the token `from`, one after another
unfoldable pub operated : List Word → ℕ → Expr → List Part → Expr
operated words from operand [] = operand
operated words from operand (part ∷ parts) = operated words from (applied_to (span_from words from part.to) operand (suffix_by (word_at words (part.from - 1)) part.value)) parts

unfoldable pub operation_of : List Word → ℕ → List Part → Expr
operation_of words from [] = E.truth nowhere false
operation_of words from (part ∷ parts) = operated words from (expr_in part.value) parts

-- from the left
unfoldable pub operation_made : List Word → ℕ → List Part → Value
operation_made words from parts = V.Expr (operation_of words from parts)

-- a target, with the token of its operator behind it and then the value
unfoldable pub assigned_to : Span → Word → Expr → Option Expr → Expr
assigned_to span word value None = value
assigned_to span word value (Some target) = applied span target (assigning word value)

-- the targets before the value, which ends before the token `to`, the last one first
unfoldable pub assigned : List Word → ℕ → Expr → List Part → Expr
assigned words to value [] = value
assigned words to value (part ∷ parts) = assigned words to (assigned_to (span_from words part.from to) (word_at words part.to) value (as_expr part.value)) parts

unfoldable pub assignment_of : List Word → ℕ → List Part → Expr
assignment_of words to [] = E.truth nowhere false
assignment_of words to (part ∷ parts) = assigned words to (expr_in part.value) parts

-- from the right
unfoldable pub assignment_made : List Word → ℕ → List Part → Value
assignment_made words to parts = V.Expr (assignment_of words to (reverse parts))

-- ---- attributes

abbrev pub across : Span → Span → Span
across first last = record { start = first.start; end = last.end }

-- Attributes belong to the operand that they stand before. It and the operators behind it begin where they do.
unfoldable pub on_operand : Span → List Attribute → Expr → Expr
on_operand start attributes (E.assign span operand value) = E.assign (across start span) (on_operand start attributes operand) value
on_operand start attributes (E.update span op place operand value) = E.update (across start span) op place (on_operand start attributes operand) value
on_operand start attributes (E.lazy span op operand other) = E.lazy (across start span) op (on_operand start attributes operand) other
on_operand start attributes (E.binary span op place operand other) = E.binary (across start span) op place (on_operand start attributes operand) other
on_operand start attributes (E.cast span operand ty) = E.cast (across start span) (on_operand start attributes operand) ty
on_operand start attributes (E.field span operand name types) = E.field (across start span) (on_operand start attributes operand) name types
on_operand start attributes (E.part span operand number) = E.part (across start span) (on_operand start attributes operand) number
on_operand start attributes (E.method span operand name types arguments) = E.method (across start span) (on_operand start attributes operand) name types arguments
on_operand start attributes (E.call span operand arguments) = E.call (across start span) (on_operand start attributes operand) arguments
on_operand start attributes expr = E.attributed (across start (span_of expr)) attributes expr

unfoldable pub with_attributes : List Attribute → Expr → Expr
with_attributes [] expr = expr
with_attributes (attribute ∷ attributes) expr = on_operand attribute.span (attribute ∷ attributes) expr

-- from the first attribute on
unfoldable pub begun : List Attribute → Span → Span
begun [] span = span
begun (attribute ∷ attributes) span = across attribute.span span
