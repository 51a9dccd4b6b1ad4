use Rattle.std.proofs.Common.{◌∙◌, ◌+◌, ◌-◌, ◌/◌, arith}
use Rattle.report_out.proofs.LineFeedLaws.{at_start, in_upper_half, in_lower_half, found}
use Rattle.report_out.proofs.line_feeds.feeds_before.Goals as goal

pub loop-first-init : goal.loop-first-init
loop-first-init c = (at_start c.args.lines.now.source.now c.as_slice-feeds.result.now c.args.offset (c.as_slice-feeds.ensures ∙ c.requires.feeds), omega arith)

pub loop-first-preserved-then-feeds-middle : goal.loop-first-preserved-then-feeds-middle
loop-first-preserved-then-feeds-middle c = (
  in_upper_half c.args.lines.now.source.now c.as_slice-feeds.result.now c.args.offset c.loop-first.first c.loop-first.last (c.loop-first.first + (c.loop-first.last - c.loop-first.first) / 2) _
      (c.as_slice-feeds.ensures ∙ c.requires.feeds) c.loop-first.invariant.0 (omega (arith, c.loop-first.invariant.1, c.loop-first-test.true)) c.if-feeds-middle.true,
  c.loop-first.invariant.1,
)

pub loop-first-preserved : goal.loop-first-preserved
loop-first-preserved c = (
  in_lower_half c.args.lines.now.source.now c.as_slice-feeds.result.now c.args.offset c.loop-first.first c.loop-first.last (c.loop-first.first + (c.loop-first.last - c.loop-first.first) / 2) _
      (c.as_slice-feeds.ensures ∙ c.requires.feeds) c.loop-first.invariant.0 (omega (arith, c.loop-first.invariant.1, c.loop-first-test.true)) c.if-feeds-middle.false,
  omega (arith, c.loop-first.invariant.1, c.loop-first-test.true),
)
