-- Frames and states.
use Rattle.std.specs.Prelude.{ℕ, List}
use Rattle.logic_term.specs.declared.kinds.Label.{Label}
use Rattle.logic_term.specs.Ty.{Tys}
use Rattle.mir_machine.specs.Tree.{Tree}

-- a call that runs: its function, the types for the function's type parameters, where it stands in its code, and a tree
-- for each local
pub record Frame (K : Type 0) : Type 0 where
  pub function : ℕ
  pub types : Tys
  pub label : Label
  pub statement : ℕ
  pub locals : List (Tree K)

-- the frames, the running one first. A frame's number is the number of frames behind it; frame 0, the last, is the outside,
-- which holds trees and runs nothing
abbrev pub State : Type 0 → Type 0
State K = List (Frame K)
