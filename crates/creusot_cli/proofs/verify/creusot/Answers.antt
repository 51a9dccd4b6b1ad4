use Rattle.std.proofs.Common.{map, string_bytes, inr}
use Rattle.call_words.specs.Asked.{asked_of}
use Rattle.creusot_cli.proofs.CallLaws.{reports, never_five, never_planned_six, at_most_eight}
use Rattle.creusot_cli.proofs.OneCall.{exactly}
use Rattle.creusot_cli.proofs.verify.creusot.Goals as goal

pub returns-in-Ok-clause-verified : goal.returns-in-Ok-clause-verified
returns-in-Ok-clause-verified g c =
    reports (g.S.Shelf.holds c.args.shelf.now) (asked_of (map string_bytes c.args.words.now)) c.in-Ok.plan.status c.print.result c.in-Ok.plan.bytes.items
    (g.K.Sink.written c.args.out.now) (g.K.Sink.written c.print.new.out) c.in-Ok.ensures.ok c.print.ensures.printed

pub returns-in-Ok-clause-part : goal.returns-in-Ok-clause-part
returns-in-Ok-clause-part g c = inr (c.in-Ok.plan.status, c.in-Ok.plan.bytes.items, c.in-Ok.ensures.ok, c.print.ensures.part)

pub returns-in-Ok-clause-exactly : goal.returns-in-Ok-clause-exactly
returns-in-Ok-clause-exactly g c =
    exactly (g.S.Shelf.holds c.args.shelf.now) (asked_of (map string_bytes c.args.words.now)) c.in-Ok.plan.status c.print.result c.in-Ok.plan.bytes.items
    (g.K.Sink.written c.args.out.now) (g.K.Sink.written c.print.new.out) c.in-Ok.ensures.ok c.print.ensures.printed

pub returns-in-Ok-clause-unread : goal.returns-in-Ok-clause-unread
returns-in-Ok-clause-unread g c = λ five.
    absurd (never_five (g.S.Shelf.holds c.args.shelf.now) (asked_of (map string_bytes c.args.words.now)) c.in-Ok.plan.status c.print.result c.in-Ok.plan.bytes.items
    (g.K.Sink.written c.args.out.now) (g.K.Sink.written c.print.new.out) c.in-Ok.ensures.ok c.print.ensures.printed five)

pub returns-in-Ok-clause-unwritten : goal.returns-in-Ok-clause-unwritten
returns-in-Ok-clause-unwritten g c = λ six.
    c.print.ensures.failed (never_planned_six (g.S.Shelf.holds c.args.shelf.now) (asked_of (map string_bytes c.args.words.now)) c.in-Ok.plan.status c.in-Ok.plan.bytes.items c.in-Ok.ensures.ok) six

pub returns-in-Ok-clause-number : goal.returns-in-Ok-clause-number
returns-in-Ok-clause-number g c =
    at_most_eight (g.S.Shelf.holds c.args.shelf.now) (asked_of (map string_bytes c.args.words.now)) c.in-Ok.plan.status c.print.result c.in-Ok.plan.bytes.items
    (g.K.Sink.written c.args.out.now) (g.K.Sink.written c.print.new.out) c.in-Ok.ensures.ok c.print.ensures.printed
