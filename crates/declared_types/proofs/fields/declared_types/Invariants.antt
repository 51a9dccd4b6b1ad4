use Rattle.std.proofs.Common.{◌≡◌, ◌++◌, drop}
use Rattle.declared_types.specs.DeclaredTypes.{prelude, types_from, first_number}
use Rattle.declared_types.proofs.fields.declared_types.Given as goal

abbrev pub invariant-loop-item : goal.invariant-loop-item
invariant-loop-item l = l.table ++ types_from l.known l.number (drop l.item-index l.items) ≡ prelude l.items ++ types_from l.known (first_number l.items) l.items
