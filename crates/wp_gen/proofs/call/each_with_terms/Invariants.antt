use Rattle.std.proofs.Common.{◌≡◌, take, map}
use Rattle.logic_term.specs.Subst.{with_terms}
use Rattle.wp_gen.proofs.call.each_with_terms.Given as goal

abbrev pub invariant-loop-term : goal.invariant-loop-term
invariant-loop-term l = l.all.items ≡ map (with_terms l.sub) (take l.term-index l.terms)
