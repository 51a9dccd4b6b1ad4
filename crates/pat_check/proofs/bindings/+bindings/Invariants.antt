use Rattle.std.proofs.Common.{◌≡◌, ◌++◌, take}
use Rattle.logic_term.specs.Matches.{bindings_from}
use Rattle.logic_term.specs.PatternView.{pat_size, pats_size, pats_of}
use Rattle.pat_check.specs.Tasks.{under}
use Rattle.pat_check.proofs.bindings.+bindings.Given as goal

abbrev pub decreases-push_bindings : goal.decreases-push_bindings
decreases-push_bindings l = pat_size l.pat.now

abbrev pub decreases-push_all_bindings : goal.decreases-push_all_bindings
decreases-push_all_bindings l = pats_size (pats_of l.parts.now)

abbrev pub invariant-push_all_bindings-loop-i : goal.invariant-push_all_bindings-loop-i
invariant-push_all_bindings-loop-i l = l.out.items ≡ l.fn.out.items ++ under l.path (bindings_from l.variant 0 (pats_of (take l.i l.parts)))
