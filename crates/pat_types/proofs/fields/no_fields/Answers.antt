use Rattle.std.proofs.Common.{◌∙◌, length}
use Rattle.pat_types.proofs.Places.{one_more}
use Rattle.pat_types.proofs.fields.no_fields.Goals as goal

pub loop-preserved : goal.loop-preserved
loop-preserved c = record {
  made = c.loop.invariant.made;
  given = one_more c.loop.given.items c.push.new.self.items (length c.args.fields.now) c.loop.counter c.loop-test.true c.in_ok-push.ensures.items ∙ c.loop.invariant.given;
}
