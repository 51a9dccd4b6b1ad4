use Rattle.std.proofs.Common.{◌≡◌, drop}
use Rattle.declared_types.specs.DeclaredTypes.{declares_option}
use Rattle.declared_types.proofs.heads.declares_option.Given as goal

abbrev pub invariant-loop-item : goal.invariant-loop-item
invariant-loop-item l = declares_option l.items ≡ declares_option (drop l.item-index l.items)
