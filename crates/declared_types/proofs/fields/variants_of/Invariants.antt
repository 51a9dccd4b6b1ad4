use Rattle.std.proofs.Common.{◌≡◌, ◌++◌, drop}
use Rattle.rs_types.specs.Meant.{scope_of}
use Rattle.declared_types.specs.DeclaredTypes.{variants_of}
use Rattle.declared_types.proofs.fields.variants_of.Given as goal

abbrev pub invariant-loop-variant : goal.invariant-loop-variant
invariant-loop-variant l = l.made ++ variants_of (scope_of l.scope) (drop l.variant-index l.variants) ≡ variants_of (scope_of l.scope) l.variants
