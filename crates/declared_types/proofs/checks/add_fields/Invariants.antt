use Rattle.std.proofs.Common.{◌≡◌, ◌++◌, [], drop}
use Rattle.rs_types.specs.Meant.{scope_of}
use Rattle.declared_types.specs.Declaring.{fields_checks}
use Rattle.declared_types.proofs.checks.add_fields.Given as goal

abbrev pub invariant-loop-field : goal.invariant-loop-field
invariant-loop-field l = l.checks.items ++ fields_checks (scope_of l.scope) l.seen.items (drop l.field-index l.fields) ≡ l.fn.checks.items ++ fields_checks (scope_of l.scope) [] l.fields
