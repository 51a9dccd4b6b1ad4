-- What blocks, statements, conditions and arms make (Rust Reference, "Statements", "Block expressions", "if expressions", "match expressions", "Loops and other breakable expressions").
use Rattle.std.specs.Prelude.{ℕ, ◌-◌, Bool, true, false, List, [], ◌∷◌, ◌++◌, Option, None, Some, unwrap_or, slice_get}
use Rattle.text_core.specs.declared.span.Span.{Span}
use Rattle.grammar_tables.specs.Trees.{option_list}
use Rattle.source_grammar.specs.Terminals.{Semicolon}
use Rattle.source_words.specs.declared.word.Word.{Word}
use Rattle.pearlite.specs.Parts.{nowhere, is_at, span_from}
use Rattle.source_trees.specs.Pat.{Pat}
use Rattle.source_trees.specs.declared.attribute.Attribute.{Attribute}
use Rattle.rs_syntax.specs.declared.element.Element.{Element}
use Rattle.rs_syntax.specs.declared.element.Element.TheVariants as L
use Rattle.source_trees.specs.declared.expr.Stmt.{Stmt}
use Rattle.rs_syntax.specs.declared.make_blocks.Statements.{Statements}
use Rattle.rs_syntax.specs.declared.make_matches.Matching.{Matching}
use Rattle.rs_syntax.specs.declared.part.Part.{Part}
use Rattle.rs_syntax.specs.declared.part.Value.{Value}
use Rattle.rs_syntax.specs.declared.part.Value.TheVariants as V
use Rattle.source_trees.specs.declared.statement.StmtKind.{StmtKind}
use Rattle.source_trees.specs.declared.statement.StmtKind.TheVariants as K
use Rattle.source_trees.specs.Expr as E
use Rattle.source_trees.specs.Expr.{Expr}
use Rattle.source_trees.specs.ExprView.{stmts_of, arms_of}
use Rattle.rs_syntax.specs.MakeOperators.{across, begun, with_attributes}
use Rattle.rs_syntax.specs.Parts.{found_in, expr_at, pattern_at, element_of, part_span}

-- ---- blocks

-- a statement with the attributes before its value
unfoldable pub statement_of : StmtKind → List Attribute → Span → Expr → Stmt
statement_of kind attributes span expr = record { span = begun attributes span; kind = kind; value = with_attributes attributes expr }

-- all statements so far: behind the last one another stands, so that it is not the value of the block
abbrev pub settled : Statements → List Stmt
settled state = state.done ++ option_list state.last

-- behind a `;` a blocklike is a statement, and else it may yet be the value of its block
unfoldable pub with_blocklike : Statements → Stmt → Bool → Statements
with_blocklike state stmt true = record { done = settled state ++ stmt ∷ []; last = None; attributes = [] }
with_blocklike state stmt false = record { done = settled state; last = Some stmt; attributes = [] }

-- the last statement ends with this `;`
unfoldable pub with_end : Statements → Span → Option Stmt → Statements
with_end state span None = state
with_end state span (Some stmt) = record { done = state.done ++ record stmt { span = across stmt.span span } ∷ []; last = None; attributes = state.attributes }

unfoldable pub with_element : Statements → Span → Element → Statements
with_element state span (L.Stmt stmt) = record { done = settled state ++ stmt ∷ []; last = None; attributes = [] }
with_element state span (L.Blocklike expr closed) = with_blocklike state (statement_of K.Blocklike state.attributes span expr) closed
with_element state span (L.Expr expr) = record { done = settled state; last = Some (statement_of K.Run state.attributes span expr); attributes = [] }
with_element state span (L.Attribute attribute) = record state { attributes = state.attributes ++ attribute ∷ [] }
with_element state span L.Semicolon = with_end state span state.last
with_element state span (L.Pattern pattern) = state
with_element state span L.Other = state

-- behind these statements
unfoldable pub statements_in : List Word → Statements → List Part → Statements
statements_in words state [] = state
statements_in words state (part ∷ parts) = statements_in words (with_element state (part_span words part) (element_of words part)) parts

abbrev pub no_statements : Statements
no_statements = record { done = []; last = None; attributes = [] }

-- an expression that stands last is the value of the block
unfoldable pub block_by : Span → List Stmt → Option Stmt → Expr
block_by span done None = E.block span (stmts_of done)
block_by span done (Some last) = E.block_with span (stmts_of done) last.value

abbrev pub block_of : Span → Statements → Expr
block_of span state = block_by span state.done state.last

unfoldable pub block_made : List Word → ℕ → ℕ → List Part → Value
block_made words from to parts = V.Expr (block_of (span_from words from to) (statements_in words no_statements parts))

-- ---- statements

unfoldable pub blocklike_made : List Word → ℕ → List Part → Value
blocklike_made words to parts = V.BlocklikeStatement (expr_at (found_in parts).exprs 0) (is_at Semicolon words (to - 1))

unfoldable pub let_made : List Word → ℕ → ℕ → List Part → Value
let_made words from to parts = V.Stmt (record { span = span_from words from to; kind = K.Let (pattern_at (found_in parts).patterns 0) (slice_get (found_in parts).types 0); value = expr_at (found_in parts).exprs 0 })

-- ---- branches and loops

unfoldable pub let_condition_made : List Part → Value
let_condition_made parts = V.Condition (pattern_at (found_in parts).patterns 0) (expr_at (found_in parts).exprs 0)

-- behind the block of an `if` stands that of its `else`, or another `if`
unfoldable pub if_by : Span → Option Pat → Expr → Expr → Option Expr → Expr
if_by span pattern condition body None = E.branch span pattern condition body
if_by span pattern condition body (Some other) = E.choice span pattern condition body other

unfoldable pub if_made : List Word → ℕ → ℕ → List Part → Value
if_made words from to parts = let found = found_in parts in
    V.Expr (if_by (span_from words from to) (slice_get found.patterns 0) (expr_at found.exprs 0) (expr_at found.exprs 1) (slice_get found.exprs 2))

unfoldable pub while_made : List Word → ℕ → ℕ → List Part → Value
while_made words from to parts = let found = found_in parts in
    V.Expr (E.repeat (span_from words from to) (slice_get found.patterns 0) (expr_at found.exprs 0) (expr_at found.exprs 1))

unfoldable pub forever_made : List Word → ℕ → ℕ → List Part → Value
forever_made words from to parts = V.Expr (E.endless (span_from words from to) (expr_at (found_in parts).exprs 0))

-- ---- `match`

-- an expression before the first pattern is what is matched, and one behind a pattern the body of its arm
unfoldable pub with_body : Matching → Span → Expr → Option Pat → Matching
with_body state span expr None = record state { matched = Some expr }
with_body state span expr (Some pattern) = record state {
  arms = state.arms ++ record { span = across state.start span; pattern = pattern; body = with_attributes state.attributes expr } ∷ [];
  pattern = None;
  attributes = [];
}

unfoldable pub with_part : Matching → Span → Element → Matching
with_part state span (L.Pattern pattern) = record state { pattern = Some pattern; start = span }
with_part state span (L.Expr expr) = with_body state span expr state.pattern
with_part state span (L.Attribute attribute) = record state { attributes = state.attributes ++ attribute ∷ [] }
with_part state span (L.Stmt stmt) = state
with_part state span (L.Blocklike expr closed) = state
with_part state span L.Semicolon = state
with_part state span L.Other = state

-- behind these arms
unfoldable pub arms_in : List Word → Matching → List Part → Matching
arms_in words state [] = state
arms_in words state (part ∷ parts) = arms_in words (with_part state (part_span words part) (element_of words part)) parts

abbrev pub no_arms : Matching
no_arms = record { matched = None; arms = []; pattern = None; start = nowhere; attributes = [] }

unfoldable pub match_of : Span → Matching → Expr
match_of span state = E.matching span (unwrap_or state.matched (E.truth nowhere false)) (arms_of state.arms)

unfoldable pub match_made : List Word → ℕ → ℕ → List Part → Value
match_made words from to parts = V.Expr (match_of (span_from words from to) (arms_in words no_arms parts))
