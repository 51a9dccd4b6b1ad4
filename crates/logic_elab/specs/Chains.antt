-- Chains of operations in terms, which group to the left: what stands above a left operand.
use Rattle.std.specs.Prelude.{ℕ, suc, max, Bool, true, false, List, [], ◌∷◌, Result, Ok}
use Rattle.text_core.specs.declared.refusal.SourceError.{SourceError}
use Rattle.text_core.specs.declared.span.Span.{Span}
use Rattle.source_kinds.specs.declared.kinds.ArithOp.{ArithOp}
use Rattle.logic_term.specs.Term.{Term, calculate, and as and_term, or as or_term, implies as implies_term}
use Rattle.logic_term.specs.Ty.{bool, math_int}
use Rattle.source_trees.specs.declared.operator.BinaryTerm.{BinaryTerm}
use Rattle.source_trees.specs.declared.operator.BinaryTerm.TheVariants.{Implies, Or, And, Compare, Calculate}
use Rattle.source_trees.specs.declared.operator.UnaryTerm.TheVariants.{View}
use Rattle.source_trees.specs.Pterm as T
use Rattle.source_trees.specs.Pterm.{Pterm}
use Rattle.source_trees.specs.PtermView.{pterm_size, span_of}
use Rattle.logic_elab.specs.declared.sorted.SortedTerm.{SortedTerm}
use Rattle.logic_elab.specs.declared.chain.Connective.{Connective}
use Rattle.logic_elab.specs.declared.chain.Connective.TheVariants as connective
use Rattle.logic_elab.specs.declared.chain.TermOperation.{TermOperation}
use Rattle.logic_elab.specs.declared.chain.TermOperation.TheVariants as operation
use Rattle.logic_elab.specs.Answers.{◌>>=◌}
use Rattle.logic_elab.specs.Scope.{Scope}
use Rattle.logic_elab.specs.declared.scope.Symbol.{Symbol}
use Rattle.logic_elab.specs.Elaborated.{asserted_under, compared, elaborated_under, formula, model_of, number, parted, selected, sorted}

-- whether the term is an operation that has a left operand
abbrev pub has_left : Pterm → Bool
has_left (T.unary s View t) = true
has_left (T.part s t k) = true
has_left (T.field s t x) = true
has_left (T.binary s op t u) = true
has_left t = false

abbrev pub operator : Connective → BinaryTerm
operator connective.And = And
operator connective.Or = Or
operator connective.Implies = Implies

-- the term that the operation is
abbrev pub written : Span → TermOperation → Pterm
written s (operation.View t) = T.unary s View t.now
written s (operation.Part r t k) = T.part r t.now k.now
written s (operation.Field r t x) = T.field r t.now x
written s (operation.Calculate op t u) = T.binary s (Calculate op) t.now u.now
written s (operation.Compare op t u) = T.binary s (Compare op) t.now u.now
written s (operation.Connect op t u) = T.binary s (operator op) t.now u.now

abbrev pub left_of : TermOperation → Pterm
left_of (operation.View t) = t.now
left_of (operation.Part r t k) = t.now
left_of (operation.Field r t x) = t.now
left_of (operation.Calculate op t u) = t.now
left_of (operation.Compare op t u) = t.now
left_of (operation.Connect op t u) = t.now

-- the spans are those of the two terms
abbrev pub calculated : ArithOp → Span → Span → SortedTerm → SortedTerm → Result SortedTerm SourceError
calculated op s r a b = do
  x ← number s a
  y ← number r b
  Ok (sorted math_int (calculate op x y))

abbrev pub connection : Connective → Term → Term → Term
connection connective.And = and_term
connection connective.Or = or_term
connection connective.Implies = implies_term

-- what the operation becomes behind its left operand
abbrev pub behind : Scope → List Symbol → TermOperation → SortedTerm → Result SortedTerm SourceError
behind Γ bs (operation.View t) a = model_of (span_of t.now) a
behind Γ bs (operation.Part r t k) a = parted Γ.types r k.now a
behind Γ bs (operation.Field r t x) a = selected Γ.types r x a
behind Γ bs (operation.Calculate op t u) a = elaborated_under Γ bs u.now >>= calculated op (span_of t.now) (span_of u.now) a
behind Γ bs (operation.Compare op t u) a = elaborated_under Γ bs u.now >>= compared op (span_of t.now) (span_of u.now) a
behind Γ bs (operation.Connect op t u) a = do
  x ← formula (span_of t.now) a
  y ← asserted_under Γ bs u.now
  Ok (sorted bool (connection op x y))

-- what the outermost of these operations becomes, from the left operand of the innermost
abbrev pub climbed : Scope → List Symbol → List TermOperation → Result SortedTerm SourceError → Result SortedTerm SourceError
climbed Γ bs [] m = m
climbed Γ bs (o ∷ os) m = climbed Γ bs os m >>= behind Γ bs o

-- more than the size of the right operand, where there is one
abbrev pub operation_size : TermOperation → ℕ
operation_size (operation.View t) = 0
operation_size (operation.Part r t k) = 0
operation_size (operation.Field r t x) = 0
operation_size (operation.Calculate op t u) = suc (pterm_size u.now)
operation_size (operation.Compare op t u) = suc (pterm_size u.now)
operation_size (operation.Connect op t u) = suc (pterm_size u.now)

abbrev pub operations_size : List TermOperation → ℕ
operations_size [] = 0
operations_size (o ∷ os) = max (operation_size o) (operations_size os)
