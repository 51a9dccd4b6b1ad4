-- What operands make (Rust Reference, "Literal expressions", "Path expressions", "Struct expressions", "return expressions", "Closure expressions", "Operator expressions").
use Rattle.std.specs.Prelude.{ℕ, ◌+◌, ◌-◌, ℤ, neg_ℤ, Bool, true, false, if◌then◌else◌, List, [], ◌∷◌, Option, None, Some, get_or, slice_get}
use Rattle.text_core.specs.declared.span.Span.{Span}
use Rattle.source_kinds.specs.declared.kinds.IntKind.{IntKind}
use Rattle.source_grammar.specs.Terminals.{StringLiteral, Integer, KwMove, KwMut, KwTrue, Minus, Star, Not, Comma, CloseBrace, WordUnreachable, WordSnapshot}
use Rattle.source_words.specs.declared.word.Word.{Word}
use Rattle.source_trees.specs.declared.operator.GhostMacro.TheVariants as G
use Rattle.source_trees.specs.declared.operator.PanicMacro.TheVariants as P
use Rattle.source_trees.specs.declared.path.Path.{Path}
use Rattle.source_trees.specs.declared.path.PathNode.TheVariants as N
use Rattle.source_trees.specs.declared.path.Segment.{Segment}
use Rattle.pearlite.specs.MakeTerms.{number_of, unsigned}
use Rattle.pearlite.specs.Parts.{nowhere, no_path, word_at, is_at, segment_at, span_from}
use Rattle.source_trees.specs.Pterm.{Pterm}
use Rattle.source_trees.specs.Pterm as T
use Rattle.source_trees.specs.TypeTree.{TypeTree}
use Rattle.source_trees.specs.declared.operator.UnaryOp.TheVariants as U
use Rattle.rs_syntax.specs.declared.part.Part.{Part}
use Rattle.rs_syntax.specs.declared.part.Suffix.{Suffix}
use Rattle.rs_syntax.specs.declared.part.Suffix.TheVariants as X
use Rattle.rs_syntax.specs.declared.part.Value.{Value}
use Rattle.rs_syntax.specs.declared.part.Value.TheVariants as V
use Rattle.source_trees.specs.declared.expr.Stmt.{Stmt}
use Rattle.source_trees.specs.Expr as E
use Rattle.source_trees.specs.Expr.{Expr}
use Rattle.source_trees.specs.ExprView.{exprs_of, field_exprs_of}
use Rattle.rs_syntax.specs.MakeStatements.{statements_in, no_statements}
use Rattle.rs_syntax.specs.Parts.{found_in, expr_at}

-- ---- tokens

unfoldable pub integer_made : List Word → ℕ → ℕ → Value
integer_made words from to = V.Expr (E.integer (span_from words from to) (word_at words from).value (word_at words from).suffix)

unfoldable pub truth_made : List Word → ℕ → ℕ → Value
truth_made words from to = V.Expr (E.truth (span_from words from to) (is_at KwTrue words from))

unfoldable pub self_made : List Word → ℕ → ℕ → Value
self_made words from to = V.Expr (E.receiver (span_from words from to))

unfoldable pub break_made : List Word → ℕ → ℕ → Value
break_made words from to = V.Expr (E.break_off (span_from words from to))

unfoldable pub continue_made : List Word → ℕ → ℕ → Value
continue_made words from to = V.Expr (E.go_on (span_from words from to))

-- ---- parentheses

unfoldable pub arguments_made : List Part → Value
arguments_made parts = V.Arguments (found_in parts).exprs

-- one expression without a comma is itself, and else a tuple
unfoldable pub parens_by : Span → Bool → List Expr → Expr
parens_by span false (expr ∷ []) = expr
parens_by span comma exprs = E.tuple span (exprs_of exprs)

-- a last comma stands before the `)`
unfoldable pub parens_made : List Word → ℕ → ℕ → List Part → Value
parens_made words from to parts = V.Expr (parens_by (span_from words from to) (is_at Comma words (to - 2)) (found_in parts).exprs)

-- ---- macros

unfoldable pub text_at : Bool → Word → Option Span
text_at true word = Some word.span
text_at false word = None

-- the text of `panic!("..")` is its fourth token
unfoldable pub panic_made : List Word → ℕ → ℕ → Value
panic_made words from to =
    let name = if is_at WordUnreachable words from then P.Unreachable else P.Panic in
    V.Expr (E.panic (span_from words from to) name (text_at (is_at StringLiteral words (from + 3)) (word_at words (from + 3))))

unfoldable pub ghost_made : List Word → ℕ → ℕ → List Part → Value
ghost_made words from to parts =
    let name = if is_at WordSnapshot words from then G.Snapshot else G.ProofAssert in
    V.Expr (E.logical (span_from words from to) name (get_or (found_in parts).terms 0 (T.truth nowhere false)))

-- ---- paths and struct literals

-- the path, where no braces stand behind it
unfoldable pub path_made : List Word → ℕ → ℕ → List Part → Value
path_made words from to parts = let found = found_in parts in let path = get_or found.paths 0 no_path in
    V.Expr (if is_at CloseBrace words (to - 1) then E.literal (span_from words from to) path (field_exprs_of found.fields) else E.path (span_from words from to) path)

abbrev pub own_path : Segment → Path
own_path name = record { span = name.span; node = N.Names name [] [] }

-- a name alone is its own value
abbrev pub own_value : Segment → Expr
own_value name = E.path name.span (own_path name)

unfoldable pub field_made : List Word → ℕ → ℕ → List Part → Value
field_made words from to parts = let name = segment_at words from in
    V.FieldExpr (record { span = span_from words from to; name = name; value = get_or (found_in parts).exprs 0 (own_value name) })

-- ---- `return` and closures

unfoldable pub return_by : Span → Option Expr → Expr
return_by span None = E.bare_return span
return_by span (Some expr) = E.return_with span expr

unfoldable pub return_made : List Word → ℕ → ℕ → List Part → Value
return_made words from to parts = V.Expr (return_by (span_from words from to) (slice_get (found_in parts).exprs 0))

unfoldable pub closure_made : List Word → ℕ → ℕ → List Part → Value
closure_made words from to parts = let found = found_in parts in
    V.Expr (E.closure (span_from words from to) (word_at words from).span (is_at KwMove words from) found.params (slice_get found.types 0) (expr_at found.exprs 0))

-- a loop or a closure, as it stands last in a block
unfoldable pub value_of : Option Stmt → Expr
value_of None = E.truth nowhere false
value_of (Some stmt) = stmt.value

unfoldable pub attributed_made : List Word → List Part → Value
attributed_made words parts = V.Expr (value_of (statements_in words no_statements parts).last)

-- ---- prefixes and members

-- an integer that is not negative
unfoldable pub magnitude : Expr → Option (ℤ × Option IntKind)
magnitude (E.integer span value suffix) = unsigned value suffix
magnitude _ = None

-- a `-` before an integer that is not negative belongs to it
unfoldable pub negated : Option (ℤ × Option IntKind) → Span → Span → Expr → Expr
negated None span place operand = E.unary span U.Neg place operand
negated (Some (value, suffix)) span place operand = E.integer span (neg_ℤ value) suffix

unfoldable pub prefixed : List Word → ℕ → Span → Expr → Expr
prefixed words from span operand =
    if is_at Minus words from then negated (magnitude operand) span (word_at words from).span operand
    else (if is_at Not words from then E.unary span U.Not (word_at words from).span operand
    else (if is_at Star words from then E.unary span U.Deref (word_at words from).span operand
    else E.borrow span (is_at KwMut words (from + 1)) operand))

unfoldable pub prefix_made : List Word → ℕ → ℕ → List Part → Value
prefix_made words from to parts = V.Expr (prefixed words from (span_from words from to) (expr_at (found_in parts).exprs 0))

unfoldable pub member_by : Segment → List TypeTree → Option (List Expr) → Suffix
member_by name types None = X.Field name types
member_by name types (Some arguments) = X.Method name types arguments

-- behind the `.` stands a number or a name
unfoldable pub member_made : List Word → ℕ → List Part → Value
member_made words from parts = let found = found_in parts in
    V.Suffix (if is_at Integer words (from + 1) then X.Part (number_of (word_at words (from + 1))) else member_by (segment_at words (from + 1)) found.types (slice_get found.arguments 0))
