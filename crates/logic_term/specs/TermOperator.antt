-- The operators of terms that code names, as those of contracts.
use Rattle.logic_term.specs.Term.{Operator, modeled, negated, denied, field, arith, less, at_most, equal, both, either, implied, Quantifier, every, some}
use Rattle.logic_term.specs.declared.kinds.Quantifier.{Quantifier as Word}
use Rattle.logic_term.specs.declared.kinds.Quantifier.TheVariants as word
use Rattle.logic_term.specs.declared.kinds.TermUnary.{TermUnary}
use Rattle.logic_term.specs.declared.kinds.TermUnary.TheVariants as unary
use Rattle.logic_term.specs.declared.kinds.TermBinary.{TermBinary}
use Rattle.logic_term.specs.declared.kinds.TermBinary.TheVariants as binary

abbrev pub unary_operator : TermUnary → Operator
unary_operator unary.Model = modeled
unary_operator unary.Negative = negated
unary_operator unary.Not = denied
unary_operator (unary.Field n) = field n

abbrev pub binary_operator : TermBinary → Operator
binary_operator (binary.Arith op) = arith op
binary_operator binary.Less = less
binary_operator binary.AtMost = at_most
binary_operator binary.Equal = equal
binary_operator binary.And = both
binary_operator binary.Or = either
binary_operator binary.Implies = implied

abbrev pub quantifier : Word → Quantifier
quantifier word.Forall = every
quantifier word.Exists = some
