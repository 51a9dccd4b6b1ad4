-- A right side takes its operands from the left, and then makes its value of their trees.
use Rattle.std.proofs.Common.{◌≡◌, refl, Option, List, [], ◌∷◌, slice_get}
use Rattle.text_core.specs.declared.span.Span.{Span}
use Rattle.source_kinds.specs.declared.kinds.IntKind.{IntKind}
use Rattle.mir_ir.specs.declared.statement.Rvalue.{Rvalue}
use Rattle.mir_ir.specs.declared.statement.Rvalue.TheVariants.{Use, Binary, Neg, Not, Widen, Make, BoxNew}
use Rattle.mir_machine.specs.Try.{Try, Yields, Panics, Sticks, ◌>>=◌, need}
use Rattle.mir_machine.specs.Tree.{Tree, Boxed}
use Rattle.mir_machine.specs.Frame.{State}
use Rattle.mir_machine.specs.Step.{Taken, operand, operands, rvalue, binary, negated, inverted}
use Rattle.mir_machine.specs.Taken.{operands_of, value_of}

abbrev Several : Type 0 → Type 0
Several K = State K × List (Tree K)

module _ {K : Type 0} where
  abbrev single : Taken K → Try (Several K)
  single r = Yields (r.0, r.1 ∷ [])

  abbrev behind : Tree K → Several K → Try (Several K)
  behind t q = Yields (q.0, t ∷ q.1)

  abbrev beside : State K → Tree K → Try (Taken K)
  beside s t = Yields (s, t)

  single_row : (m : Try (Taken K)) (f : Tree K → Try (Tree K)) → (m >>= λ r. f r.1 >>= beside r.0) ≡ ((m >>= single) >>= λ q. (need (slice_get q.1 0) >>= f) >>= beside q.0)
  single_row (Yields r) f = refl
  single_row (Panics c p) f = refl
  single_row Sticks f = refl

  use_row : (m : Try (Taken K)) → m ≡ ((m >>= single) >>= λ q. need (slice_get q.1 0) >>= beside q.0)
  use_row (Yields r) = refl
  use_row (Panics c p) = refl
  use_row Sticks = refl

  abbrev both : (Tree K → Tree K → Try (Tree K)) → Several K → Try (Tree K)
  both f q = need (slice_get q.1 0) >>= λ v. need (slice_get q.1 1) >>= f v

  second_row : (n : Try (Taken K)) (x : Tree K) (f : Tree K → Tree K → Try (Tree K)) → (n >>= λ q. f x q.1 >>= beside q.0) ≡ (((n >>= single) >>= behind x) >>= λ q. both f q >>= beside q.0)
  second_row (Yields r) x f = refl
  second_row (Panics c p) x f = refl
  second_row Sticks x f = refl

  pair_row : (m : Try (Taken K)) (k : State K → Try (Taken K)) (f : Tree K → Tree K → Try (Tree K))
      → (m >>= λ r. k r.0 >>= λ q. f r.1 q.1 >>= beside q.0) ≡ ((m >>= λ r. (k r.0 >>= single) >>= behind r.1) >>= λ q. both f q >>= beside q.0)
  pair_row (Yields r) k f = second_row (k r.0) r.1 f
  pair_row (Panics c p) k f = refl
  pair_row Sticks k f = refl

  pub rvalue-row : (s : State K) (kind : Option IntKind) (span : Span) (r : Rvalue) → rvalue s kind span r ≡ (operands s (operands_of r) >>= λ q. value_of kind span r q.1 >>= beside q.0)
  rvalue-row s kind span (Use o) = use_row (operand s o)
  rvalue-row s kind span (Binary op a b) = pair_row (operand s a) (λ s₁. operand s₁ b) (binary kind span op)
  rvalue-row s kind span (Neg o) = single_row (operand s o) (negated kind span)
  rvalue-row s kind span (Not o) = single_row (operand s o) inverted
  rvalue-row s kind span (Widen o k) = use_row (operand s o)
  rvalue-row s kind span (Make c os) = refl
  rvalue-row s kind span (BoxNew o) = single_row (operand s o) (λ t. Yields (Boxed t))
