use Rattle.std.proofs.Common.{◌≡◌, drop}
use Rattle.rs_types.specs.Table.{number_of}
use Rattle.logic_elab.proofs.ArgumentsByPart.{further}
use Rattle.logic_elab.proofs.written_sorts.declared_number.Given as goal

-- it is among those that are left
abbrev pub invariant-loop-i : goal.invariant-loop-i
invariant-loop-i l = number_of l.name.0 l.declared ≡ further l.i (number_of l.name.0 (drop l.i l.declared))
