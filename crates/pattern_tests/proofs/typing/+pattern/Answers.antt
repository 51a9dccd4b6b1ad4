use Rattle.pat_check.specs.Typed.{fields_in}
use Rattle.pattern_tests.proofs.Lists.{are_pats_more}
use Rattle.pattern_tests.proofs.typing.+pattern.Goals as goal

pub are_parts-loop-i-preserved : goal.are_parts-loop-i-preserved
are_parts-loop-i-preserved t c = (
  c.loop-i.invariant.0,
  are_pats_more
      (fields_in c.args.decls.now) c.loop-i.i c.args.pats.now c.index-pats-i.result c.args.types.now c.index-types-i.result c.index-pats-i.is c.index-types-i.is c.loop-i-test.true c.loop-i.invariant.0 (c.in_ok-is_pattern.ensures c.if-not-branch.false) c.loop-i.invariant.1,
)
