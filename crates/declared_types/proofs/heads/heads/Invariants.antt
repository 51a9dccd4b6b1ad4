use Rattle.std.proofs.Common.{◌≡◌, ◌++◌, drop}
use Rattle.declared_types.specs.DeclaredTypes.{prelude, heads_from}
use Rattle.declared_types.proofs.heads.heads.Given as goal

abbrev pub invariant-loop-item : goal.invariant-loop-item
invariant-loop-item l = l.table ++ heads_from (drop l.item-index l.items) ≡ prelude l.items ++ heads_from l.items
