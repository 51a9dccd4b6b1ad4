use Rattle.std.proofs.Common.{◌≡◌, ◌-◌}
use Rattle.declared_types.proofs.Declaration.{params_behind}
use Rattle.rs_types.specs.Bounded.{params_from}
use Rattle.declared_types.proofs.fields.params_of.Given as goal

abbrev pub invariant-loop-i : goal.invariant-loop-i
invariant-loop-i l = params_behind l.made.items (params_from (l.count - l.i) l.i) ≡ params_from l.count 0
