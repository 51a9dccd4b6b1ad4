use Rattle.std.proofs.Common.{◌≡◌, ◌++◌, ◌-◌, false, length, replicate}
use Rattle.logic_term.specs.TyView.{tys_of}
use Rattle.pat_types.specs.PatternTyping.{wildcards}
use Rattle.pat_types.proofs.fields.no_fields.Given as goal

abbrev pub invariant-loop : goal.invariant-loop
invariant-loop l = record {
  made : l.made.items ≡ wildcards (tys_of l.types);
  given : l.given.items ++ replicate (l.end - l.counter) false ≡ replicate (length l.fields) false;
}
