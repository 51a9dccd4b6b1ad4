use Rattle.std.proofs.Common.{◌≡◌, take, length}
use Rattle.logic_term.specs.PatternView.{pat_size, pats_size, pats_of}
use Rattle.logic_term.specs.TyView.{tys_of}
use Rattle.pat_check.specs.Typed.{fields_in, ArePats}
use Rattle.pattern_tests.proofs.typing.+pattern.Given as goal

abbrev pub decreases-is_pattern : goal.decreases-is_pattern
decreases-is_pattern l = pat_size l.pat.now

abbrev pub decreases-are_parts : goal.decreases-are_parts
decreases-are_parts l = pats_size (pats_of l.pats.now)

abbrev pub invariant-are_parts-loop-i : goal.invariant-are_parts-loop-i
invariant-are_parts-loop-i l = (length l.pats ≡ length l.types) × ArePats (fields_in l.decls) (pats_of (take l.i l.pats)) (tys_of (take l.i l.types))
