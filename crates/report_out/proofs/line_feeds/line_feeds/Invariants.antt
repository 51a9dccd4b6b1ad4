use Rattle.std.proofs.Common.{◌≡◌, ◌++◌, drop}
use Rattle.report_out.specs.LineFeeds.{feeds_from, line_feeds}
use Rattle.report_out.proofs.line_feeds.line_feeds.Given as goal

abbrev pub invariant-loop-at : goal.invariant-loop-at
invariant-loop-at l = line_feeds l.source ≡ l.feeds ++ feeds_from l.at (drop l.at l.source)
