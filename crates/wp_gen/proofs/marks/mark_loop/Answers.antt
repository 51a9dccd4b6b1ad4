use Rattle.std.proofs.Common.{◌≡◌, ◌<◌, subst, ap, length, get_or, ◌&&◌, arith}
use Rattle.logic_term.specs.declared.kinds.Label.{Label}
use Rattle.mir_ir.specs.declared.body.Block.{Block}
use Rattle.prophecy_logic.specs.Loop.{is_in_loop, block_writes}
use Rattle.wp_gen.proofs.MarkLaws.{adds_more}
use Rattle.wp_gen.proofs.marks.mark_loop.Goals as goal

pub loop-entry-preserved : goal.loop-entry-preserved
loop-entry-preserved c =
    let same = c.as_slice-entry-items.ensures in
    let below : c.loop-entry.entry-index < length c.args.body.now.blocks = omega (arith, ap length same) in
    adds_more (λ x (e : Label × Block). is_in_loop c.args.head e.1 && block_writes x e.1) c.args.body.now.blocks c.loop-entry.entry-index c.entry-item.result c.args.marks.now c.loop-entry.marks c.mark_if_inside.new.marks
    below (subst (λ xs. c.entry-item.result ≡ get_or xs c.loop-entry.entry-index c.entry-item.result) same c.entry-item.is) c.loop-entry.invariant c.mark_if_inside.ensures
