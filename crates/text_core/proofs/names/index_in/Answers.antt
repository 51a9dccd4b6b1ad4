use Rattle.std.proofs.Common.{arith, below_more}
use Rattle.text_core.proofs.NamesLemmas.{slice_get-equal, slice_get-unequal, length-map_within}
use Rattle.text_core.proofs.names.index_in.Goals as goal

pub returns-then-eq-clause-found : goal.returns-then-eq-clause-found
returns-then-eq-clause-found c = slice_get-equal (λ word. word.now) c.args.text.now c.args.list.now c.loop-at.at _ c.loop-at-test.true c.if-eq.ensures

pub loop-at-preserved : goal.loop-at-preserved
loop-at-preserved c =
    below_more _ _ c.loop-at.invariant (slice_get-unequal (λ word. word.now) c.args.text.now c.args.list.now c.loop-at.at _ c.loop-at-test.true c.if-eq.ensures)

pub returns-clause-absent : goal.returns-clause-absent
returns-clause-absent c k e = c.loop-at.invariant k (omega (arith, c.loop-at-test.false, length-map_within (λ word. word.now) c.args.list.now k c.args.text.now e)) e
