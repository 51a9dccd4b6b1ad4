-- The trees of the operands of operators.
use Rattle.mir_machine.specs.declared.scalar.Scalar.{Scalar}
use Rattle.mir_machine.specs.declared.scalar.Scalar.TheVariants as operand
use Rattle.mir_machine.specs.Try.{Try, Yields, Sticks}
use Rattle.mir_machine.specs.Tree.{Tree, Int, Truth}

abbrev pub scalar_tree : {K : Type 0} → Scalar → Tree K
scalar_tree (operand.Int z) = Int z
scalar_tree (operand.Truth b) = Truth b

-- an integer or a truth value
abbrev pub scalar : {K : Type 0} → Tree K → Try (Tree K)
scalar (Int z) = Yields (Int z)
scalar (Truth b) = Yields (Truth b)
scalar _ = Sticks
