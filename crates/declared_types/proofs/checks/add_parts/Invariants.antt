use Rattle.std.proofs.Common.{◌≡◌, ◌++◌, drop}
use Rattle.rs_types.specs.Meant.{scope_of}
use Rattle.declared_types.specs.Declaring.{parts_checks}
use Rattle.declared_types.proofs.checks.add_parts.Given as goal

abbrev pub invariant-loop-i : goal.invariant-loop-i
invariant-loop-i l = l.checks.items ++ parts_checks (scope_of l.scope) (drop l.i l.types) ≡ l.fn.checks.items ++ parts_checks (scope_of l.scope) l.types
