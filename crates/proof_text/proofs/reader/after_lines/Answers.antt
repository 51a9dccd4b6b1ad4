use Rattle.proof_text.proofs.StageLemmas.{keeps_on, room_after}
use Rattle.proof_text.proofs.NameOrder.{line_named, all_named}
use Rattle.proof_text.proofs.reader.after_lines.Goals as goal

pub returns-in-Err-clause-kept : goal.returns-in-Err-clause-kept
returns-in-Err-clause-kept c = λ name text h. c.next.ensures.kept name text (c.loop-at.invariant.kept name text h)

pub returns-clause-table : goal.returns-clause-table
returns-clause-table c = all_named c.args.names.now c.loop-at.names c.args.lines.now c.loop-at.at c.loop-at-test.false c.loop-at.invariant.table

pub loop-at-preserved : goal.loop-at-preserved
loop-at-preserved c =
    let so_far = c.loop-at.invariant.said in
    let more = keeps_on c.next.new.names c.args.lines.now c.loop-at.at _ so_far.0 c.in-Ok.next _ c.loop-at-test.true (c.in-Ok.ensures.said so_far.0 so_far.1) so_far.2 in
    record {
      said = (more.0, more.1, more.2);
      table = line_named c.args.names.now c.loop-at.names c.next.new.names c.args.lines.now c.loop-at.at _ c.loop-at-test.true c.loop-at.invariant.table c.in-Ok.ensures.table;
      kept = λ name text h. c.next.ensures.kept name text (c.loop-at.invariant.kept name text h);
      room = room_after c.args.lines.now c.loop-at.at _ _ _ _ c.loop-at-test.true c.next.ensures.grown c.loop-at.invariant.room;
    }
