-- The code that a machine runs. So far no row steps into an intrinsic function, and none makes a reference.
use Rattle.std.specs.Prelude.{ℕ, List}
use Rattle.logic_term.specs.Ty.{Tys}
use Rattle.mir_ir.specs.declared.body.Bodies.{Bodies}
use Rattle.mir_ir.specs.declared.place.Place.{Place}
use Rattle.mir_machine.specs.Try.{Try, Sticks}
use Rattle.mir_machine.specs.Tree.{Tree}
use Rattle.mir_machine.specs.Frame.{State}

pub record Code (K : Type 0) : Type 0 where
  pub program : Bodies
  -- a step of the intrinsic function of the number, at types for its type parameters and with these arguments: the state after it, and
  -- the answer
  pub intrinsic : ℕ → Tys → List (Tree K) → State K → Try (State K × Tree K)
  -- what marks a reference that is made to the place, where so many were made before it in the run: what a mark is given to once, it is
  -- given to no other, also where the reference has ended
  pub mark : ℕ → State K → Place → K

-- the bodies alone: intrinsic functions stick, and marks say nothing
abbrev pub code_of : Bodies → Code (Unit {0})
code_of bodies = record { program = bodies; intrinsic = λ n θ args s. Sticks; mark = λ k s p. tt }
