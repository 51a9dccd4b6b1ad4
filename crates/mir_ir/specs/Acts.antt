-- What a statement, a block's end and an edge do to places, one after another. All that is asked of a body along its ways is read from
-- here: what is initialised, and what a loop writes. (Rust Reference, "Variables" and "Move and copy types"; the accesses of RFC 2094,
-- "Non-lexical lifetimes".)
use Rattle.std.specs.Prelude.{ℕ, List, [], ◌∷◌, ◌++◌}
use Rattle.mir_ir.specs.declared.place.Place.{Place}
use Rattle.mir_ir.specs.declared.place.Operand.{Operand}
use Rattle.mir_ir.specs.declared.place.Operand.TheVariants.{Copy, Move, Const}
use Rattle.mir_ir.specs.declared.statement.Rvalue.{Rvalue}
use Rattle.mir_ir.specs.declared.statement.Rvalue.TheVariants.{Use, Binary, Neg, Not, Widen, Make, BoxNew}
use Rattle.mir_ir.specs.declared.statement.StatementKind.{StatementKind}
use Rattle.mir_ir.specs.declared.statement.StatementKind.TheVariants.{Assign, Dead}
use Rattle.mir_ir.specs.declared.terminator.TerminatorKind.{TerminatorKind}
use Rattle.mir_ir.specs.declared.terminator.TerminatorKind.TheVariants.{Goto, If, Switch, Call, Return, Panic}

pub data Act : Type 0 where
  -- the place's value is copied
  reads : Place → Act
  -- the place's value is moved out
  takes : Place → Act
  -- the place gets a value
  writes : Place → Act
  -- the local dies
  dies : ℕ → Act

abbrev pub acts_of_operand : Operand → List Act
acts_of_operand (Copy p) = reads p ∷ []
acts_of_operand (Move p) = takes p ∷ []
acts_of_operand (Const l) = []

-- operands are evaluated from the left
abbrev pub acts_of_operands : List Operand → List Act
acts_of_operands [] = []
acts_of_operands (o ∷ os) = acts_of_operand o ++ acts_of_operands os

abbrev pub acts_of_rvalue : Rvalue → List Act
acts_of_rvalue (Use o) = acts_of_operand o
acts_of_rvalue (Binary op x y) = acts_of_operand x ++ acts_of_operand y
acts_of_rvalue (Neg o) = acts_of_operand o
acts_of_rvalue (Not o) = acts_of_operand o
acts_of_rvalue (Widen o k) = acts_of_operand o
acts_of_rvalue (Make c os) = acts_of_operands os
acts_of_rvalue (BoxNew o) = acts_of_operand o

abbrev pub acts_of : StatementKind → List Act
acts_of (Assign p r) = acts_of_rvalue r ++ writes p ∷ []
acts_of (Dead x) = dies x ∷ []

-- the answer
abbrev pub answer_place : Place
answer_place = record { local = 0; path = [] }

abbrev pub acts_of_end : TerminatorKind → List Act
acts_of_end (Goto l) = []
acts_of_end (If o on_true on_false) = acts_of_operand o
acts_of_end (Switch p ls) = reads p ∷ []
acts_of_end (Call p callee types os l) = acts_of_operands os
acts_of_end Return = takes answer_place ∷ []
acts_of_end (Panic cause) = []

-- along each edge from the end: where a call has answered, its place gets the answer
abbrev pub acts_along : TerminatorKind → List Act
acts_along (Call p callee types os l) = writes p ∷ []
acts_along _ = []
