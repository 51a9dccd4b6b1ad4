use Rattle.std.proofs.Common.{◌≡◌, ◌++◌, drop}
use Rattle.rs_types.specs.Meant.{scope_of}
use Rattle.declared_types.specs.DeclaredTypes.{fields_from}
use Rattle.declared_types.proofs.fields.fields_of.Given as goal

abbrev pub invariant-loop-i : goal.invariant-loop-i
invariant-loop-i l = l.made ++ fields_from (scope_of l.scope) l.i (drop l.i l.fields) ≡ fields_from (scope_of l.scope) 0 l.fields
