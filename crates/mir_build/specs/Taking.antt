-- The operand that takes what is at a place. Contracts of the code alone speak of it.
use Rattle.std.specs.Prelude.{Bool, true, false}
use Rattle.mir_ir.specs.declared.place.Operand.{Operand}
use Rattle.mir_ir.specs.declared.place.Operand.TheVariants.{Copy, Move}
use Rattle.mir_ir.specs.declared.place.Place.{Place}

abbrev pub taken : Bool → Place → Operand
taken true p = Copy p
taken false p = Move p
