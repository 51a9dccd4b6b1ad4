use Rattle.std.proofs.Common.{◌≡◌, ◌++◌, drop}
use Rattle.logic_term.specs.TyView.{tys_of}
use Rattle.pat_types.specs.PatternTyping.{wildcards}
use Rattle.pat_types.proofs.fields.wildcards.Given as goal

abbrev pub invariant-loop-i : goal.invariant-loop-i
invariant-loop-i l = l.made.items ++ wildcards (tys_of (drop l.i l.types)) ≡ wildcards (tys_of l.types)
