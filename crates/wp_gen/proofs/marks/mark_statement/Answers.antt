use Rattle.std.proofs.Common.{refl, ap, [], ◌∷◌}
use Rattle.mir_ir.specs.Acts.{acts_of_rvalue, acts_of, writes}
use Rattle.wp_gen.proofs.MarkLaws.{touched_both, written}
use Rattle.wp_gen.proofs.marks.mark_statement.Goals as goal

pub returns-in-Assign : goal.returns-in-Assign
returns-in-Assign c =
    touched_both (acts_of_rvalue c.in-Assign.rvalue) (writes c.in-Assign.place ∷ []) _ c.args.marks.now c.mark_rvalue.new.marks _ (ap acts_of c.in-Assign.is) c.mark_rvalue.ensures
    (written _ c.in-Assign.place _ _ refl c.mark.ensures)
