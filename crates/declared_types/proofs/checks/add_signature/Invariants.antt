use Rattle.std.proofs.Common.{◌≡◌, ◌++◌, [], drop}
use Rattle.rs_types.specs.Meant.{scope_of}
use Rattle.rs_types.specs.declared.written.Elision.TheVariants.{Numbered}
use Rattle.declared_types.specs.Declaring.{signature_checks}
use Rattle.declared_types.proofs.checks.add_signature.Given as goal

abbrev pub invariant-loop-param : goal.invariant-loop-param
invariant-loop-param l = l.checks.items ++ signature_checks (scope_of l.scope) l.f.answer l.seen.items l.elision (drop l.param-index l.params) ≡ l.fn.checks.items ++ signature_checks (scope_of l.scope) l.f.answer [] (Numbered 0) l.f.params
