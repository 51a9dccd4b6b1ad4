-- What is made of the parts of each line of terms (Creusot, "Pearlite"; Rust Reference, "Operator expressions"). A line has the tokens from `from` to before `to`.
use Rattle.std.specs.Prelude.{ℕ, ℤ, pos, neg_ℤ, ◌-◌, nat_eq, if◌then◌else◌, List, [], ◌∷◌, Option, None, Some, unwrap_or}
use Rattle.text_core.specs.declared.span.Span.{Span}
use Rattle.source_kinds.specs.declared.kinds.ArithOp.TheVariants as A
use Rattle.source_kinds.specs.declared.kinds.Comparison.TheVariants as C
use Rattle.source_kinds.specs.declared.kinds.IntKind.{IntKind}
use Rattle.source_grammar.specs.Classes.{kind_of}
use Rattle.source_grammar.specs.Terminals.{AndAnd, AtLeast, AtMost, CloseBrace, CloseParen, EqualEqual, Greater, Integer, KwTrue, Less, Minus, Not, NotEqual, OrOr, Percent, Plus, Slash, Star, WordExists}
use Rattle.source_grammar.specs.Terminals.{WordPostcondition, WordPostconditionMut, WordPostconditionOnce}
use Rattle.source_words.specs.declared.word.Word.{Word}
use Rattle.source_trees.specs.declared.operator.BinaryTerm.{BinaryTerm}
use Rattle.source_trees.specs.declared.operator.BinaryTerm.TheVariants as B
use Rattle.source_trees.specs.declared.operator.Predicate.{Predicate}
use Rattle.source_trees.specs.declared.operator.Predicate.TheVariants as R
use Rattle.source_trees.specs.declared.operator.Quantifier.{Quantifier}
use Rattle.source_trees.specs.declared.operator.Quantifier.TheVariants.{Forall, Exists}
use Rattle.source_trees.specs.declared.operator.UnaryTerm.{UnaryTerm}
use Rattle.source_trees.specs.declared.operator.UnaryTerm.TheVariants as U
use Rattle.pearlite.specs.declared.part.Part.{Part}
use Rattle.pearlite.specs.declared.part.TermSuffix.{TermSuffix}
use Rattle.pearlite.specs.declared.part.TermSuffix.TheVariants as S
use Rattle.pearlite.specs.declared.part.Value.{Value}
use Rattle.pearlite.specs.declared.part.Value.TheVariants as V
use Rattle.source_trees.specs.declared.path.Number.{Number}
use Rattle.source_trees.specs.declared.path.Path.{Path}
use Rattle.pearlite.specs.Parts.{word_at, is_at, segment_at, span_from, others, second, last, front, alone, as_term, as_field_term, as_arm, as_binder, as_pattern, as_path, all_of, behind, first_type, first_pattern, first_path, first_term, term_or}
use Rattle.source_trees.specs.Pterm as T
use Rattle.source_trees.specs.Pterm.{Pterm}
use Rattle.source_trees.specs.PtermView.{terms_of, field_terms_of, arms_of}

-- ---- operations

-- what an operator between two terms is; of the tokens that stand there, `==>` is left
abbrev pub operator_of : ℕ → BinaryTerm
operator_of kind =
    if nat_eq kind (kind_of OrOr) then B.Or else (
    if nat_eq kind (kind_of AndAnd) then B.And else (
    if nat_eq kind (kind_of EqualEqual) then B.Compare C.Eq else (
    if nat_eq kind (kind_of NotEqual) then B.Compare C.Ne else (
    if nat_eq kind (kind_of Less) then B.Compare C.Lt else (
    if nat_eq kind (kind_of AtMost) then B.Compare C.Le else (
    if nat_eq kind (kind_of Greater) then B.Compare C.Gt else (
    if nat_eq kind (kind_of AtLeast) then B.Compare C.Ge else (
    if nat_eq kind (kind_of Plus) then B.Calculate A.Add else (
    if nat_eq kind (kind_of Minus) then B.Calculate A.Sub else (
    if nat_eq kind (kind_of Star) then B.Calculate A.Mul else (
    if nat_eq kind (kind_of Slash) then B.Calculate A.Div else (
    if nat_eq kind (kind_of Percent) then B.Calculate A.Rem else B.Implies))))))))))))

-- an operand with what stands behind it
unfoldable pub suffixed : Span → Pterm → TermSuffix → Pterm
suffixed span operand S.View = T.unary span U.View operand
suffixed span operand (S.Field name) = T.field span operand name
suffixed span operand (S.Part number) = T.part span operand number
suffixed span operand (S.Method name terms) = T.method span operand name (terms_of terms)

-- what stands so far, with one more operand or suffix
unfoldable pub applied_by : Span → BinaryTerm → Pterm → Value → Pterm
applied_by span op left (V.Term right) = T.binary span op left right
applied_by span op left (V.Suffix suffix) = suffixed span left suffix
applied_by span op left value = left

-- the operator of an operand stands right before it
unfoldable pub applied : List Word → ℕ → Pterm → Part → Pterm
applied words from left part = applied_by (span_from words from part.to) (operator_of (word_at words (part.from - 1)).kind) left part.value

-- from the left; each operation reaches from the first token of the line
unfoldable pub operation : List Word → ℕ → Pterm → List Part → Pterm
operation words from left [] = left
operation words from left (part ∷ parts) = operation words from (applied words from left part) parts

-- a first operand, and others with their operators, or suffixes
unfoldable pub term_operation_made : List Word → ℕ → List Part → Value
term_operation_made words from parts = V.Term (operation words from (first_term parts) (behind as_term parts))

abbrev pub prefix_of : ℕ → UnaryTerm
prefix_of kind = if nat_eq kind (kind_of Minus) then U.Neg else (if nat_eq kind (kind_of Not) then U.Not else (if nat_eq kind (kind_of Star) then U.Current else U.Final))

-- a number with its type, where it is not negative
abbrev pub unsigned : ℤ → Option IntKind → Option (ℤ × Option IntKind)
unsigned (pos n) suffix = Some (pos n, suffix)
unsigned number suffix = None

-- the integer, where it is one that is not negative
unfoldable pub magnitude : Pterm → Option (ℤ × Option IntKind)
magnitude (T.integer span value suffix) = unsigned value suffix
magnitude term = None

-- a `-` before an integer that is not negative belongs to it
unfoldable pub prefixed : Span → UnaryTerm → Option (ℤ × Option IntKind) → Pterm → Pterm
prefixed span U.Neg (Some (value, suffix)) operand = T.integer span (neg_ℤ value) suffix
prefixed span op number operand = T.unary span op operand

-- `TermPrefix TermUnary`
unfoldable pub prefix_term_made : List Word → ℕ → ℕ → List Part → Value
prefix_term_made words from to parts = V.Term (prefixed (span_from words from to) (prefix_of (word_at words from).kind) (magnitude (first_term parts)) (first_term parts))

abbrev pub number_of : Word → Number
number_of word = record { span = word.span; value = word.value; suffix = word.suffix }

-- `"@"`
abbrev pub view_made : Value
view_made = V.Suffix S.View

-- `"." ( Name [ TermArguments ] | integer )`
unfoldable pub term_member_made : List Word → ℕ → List Part → Value
term_member_made words to parts = V.Suffix (
    if is_at CloseParen words (to - 1) then S.Method (segment_at words (second parts).from) (all_of as_term (others (others parts))) else (
    if is_at Integer words (to - 1) then S.Part (number_of (word_at words (to - 1))) else
    S.Field (segment_at words (to - 1))))

-- ---- operands

-- `integer`
unfoldable pub integer_term_made : List Word → ℕ → ℕ → Value
integer_term_made words from to = V.Term (T.integer (span_from words from to) (word_at words from).value (word_at words from).suffix)

-- `Truth`
unfoldable pub truth_term_made : List Word → ℕ → ℕ → Value
truth_term_made words from to = V.Term (T.truth (span_from words from to) (is_at KwTrue words from))

-- `"result"`
unfoldable pub answer_term_made : List Word → ℕ → ℕ → Value
answer_term_made words from to = V.Term (T.answer (span_from words from to) (word_at words from).name)

-- `"self"`
unfoldable pub self_term_made : List Word → ℕ → ℕ → Value
self_term_made words from to = V.Term (T.receiver (span_from words from to))

-- `"(" list(Term) ")"`: one term without a comma is itself, and else a tuple
unfoldable pub paren_term_made : List Word → ℕ → ℕ → List Part → Value
paren_term_made words from to parts = unwrap_or (alone parts) (V.Term (T.tuple (span_from words from to) (terms_of (all_of as_term parts))))

-- `TermPath TermParts`: the path, and what stands behind it
unfoldable pub path_term_by : List Word → ℕ → Span → Path → List Part → Pterm
path_term_by words to span path parts =
    if is_at CloseParen words (to - 1) then T.call span path (terms_of (all_of as_term parts)) else (
    if is_at CloseBrace words (to - 1) then T.literal span path (field_terms_of (all_of as_field_term parts)) else
    T.path span path)

unfoldable pub path_term_made : List Word → ℕ → ℕ → List Part → Value
path_term_made words from to parts = V.Term (path_term_by words to (span_from words from to) (first_path parts) (behind as_path parts))

-- `Name ":" Term`
unfoldable pub field_term_made : List Word → ℕ → ℕ → List Part → Value
field_term_made words from to parts = V.FieldTerm (record { span = span_from words from to; name = segment_at words from; value = first_term parts })

-- `level( "if" HeadTerm ) "{" Term "}" level( "else" "{" Term "}" )`
unfoldable pub if_term_made : List Word → ℕ → ℕ → List Part → Value
if_term_made words from to parts = V.Term (T.choice (span_from words from to) (first_term parts) (first_term (behind as_term parts)) (first_term (behind as_term (behind as_term parts))))

-- `level( "match" HeadTerm ) "{" list(TermArm) "}"`
unfoldable pub match_term_made : List Word → ℕ → ℕ → List Part → Value
match_term_made words from to parts = V.Term (T.matching (span_from words from to) (first_term parts) (arms_of (all_of as_arm (behind as_term parts))))

-- `Pattern "=>" Term`
unfoldable pub term_arm_made : List Word → ℕ → ℕ → List Part → Value
term_arm_made words from to parts = V.Arm (record { span = span_from words from to; pattern = first_pattern parts; body = first_term (behind as_pattern parts) })

-- `"MutRef" "(" Term "," Term ")"`
unfoldable pub mut_ref_term_made : List Word → ℕ → ℕ → List Part → Value
mut_ref_term_made words from to parts = V.Term (T.mut_ref (span_from words from to) (first_term parts) (first_term (behind as_term parts)))

abbrev pub predicate_of : ℕ → Predicate
predicate_of kind =
    if nat_eq kind (kind_of WordPostcondition) then R.Postcondition else (
    if nat_eq kind (kind_of WordPostconditionMut) then R.PostconditionMut else (
    if nat_eq kind (kind_of WordPostconditionOnce) then R.PostconditionOnce else
    R.Precondition))

-- `ClosurePredicate TermArguments`
unfoldable pub predicate_term_made : List Word → ℕ → ℕ → List Part → Value
predicate_term_made words from to parts = V.Term (T.predicate (span_from words from to) (predicate_of (word_at words from).kind) (terms_of (all_of as_term parts)))

-- ---- quantifiers

abbrev pub quantifier_of : ℕ → Quantifier
quantifier_of kind = if nat_eq kind (kind_of WordExists) then Exists else Forall

-- `Quantifier "<" list(Binder) level( ">" Term )`
unfoldable pub quantified_made : List Word → ℕ → ℕ → List Part → Value
quantified_made words from to parts = V.Term (T.quantified (span_from words from to) (quantifier_of (word_at words from).kind) (all_of as_binder (front parts)) (term_or (as_term (last parts).value)))

-- `Name ":" AnyType`
unfoldable pub binder_made : List Word → ℕ → ℕ → List Part → Value
binder_made words from to parts = V.Binder (record { span = span_from words from to; name = segment_at words from; ty = first_type parts })
