use Rattle.std.proofs.Common.{◌≤◌, ◌-◌, length}
use Rattle.report_out.proofs.LineFeedLaws.{IsBetween}
use Rattle.report_out.proofs.line_feeds.feeds_before.Given as goal

abbrev pub invariant-loop-first : goal.invariant-loop-first
invariant-loop-first l = IsBetween l.lines.source.now l.offset l.first l.last × (l.last ≤ length l.feeds)

abbrev pub decreases-loop-first : goal.decreases-loop-first
decreases-loop-first l = l.last - l.first
