use Rattle.std.proofs.Common.{◌≡◌, ◌++◌, [], drop}
use Rattle.declared_types.specs.DeclaredTypes.{first_number}
use Rattle.declared_types.specs.Declaring.{checks_from}
use Rattle.declared_types.proofs.checks.checks.Given as goal

abbrev pub invariant-loop-item : goal.invariant-loop-item
invariant-loop-item l = l.made.items ++ checks_from l.known l.number l.types.items l.values.items (drop l.item-index l.items) ≡ checks_from l.known (first_number l.items) [] [] l.items
