use Rattle.std.proofs.Common.{take}
use Rattle.pat_check.specs.Typed.{fields_in, AllPats}
use Rattle.pattern_tests.proofs.typing.are_patterns.Given as goal

abbrev pub invariant-loop-i : goal.invariant-loop-i
invariant-loop-i l = AllPats (fields_in l.decls) (take l.i l.pats) l.t
