use Rattle.pat_check.specs.Typed.{fields_in}
use Rattle.pattern_tests.proofs.Lists.{all_pats_more}
use Rattle.pattern_tests.proofs.typing.are_patterns.Goals as goal

pub loop-i-preserved : goal.loop-i-preserved
loop-i-preserved c = all_pats_more (fields_in c.args.decls.now) c.loop-i.i c.args.pats.now c.index-pats-i.result c.args.t.now c.index-pats-i.is c.loop-i-test.true (c.in_ok-is_pattern.ensures c.if-not-branch.false) c.loop-i.invariant
