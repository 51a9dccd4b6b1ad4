use Rattle.std.proofs.Common.{◌≡◌, ◌++◌, [], drop}
use Rattle.rs_types.specs.Meant.{scope_of}
use Rattle.declared_types.specs.Declaring.{variants_checks}
use Rattle.declared_types.proofs.checks.add_variants.Given as goal

abbrev pub invariant-loop-variant : goal.invariant-loop-variant
invariant-loop-variant l = l.checks.items ++ variants_checks (scope_of l.scope) l.seen.items (drop l.variant-index l.variants) ≡ l.fn.checks.items ++ variants_checks (scope_of l.scope) [] l.variants
