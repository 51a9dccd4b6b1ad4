use Rattle.rs_types.specs.Growing.{declared_by, AreHeld, HaveWidths, left_in_rows}
use Rattle.rs_types.proofs.holding.held_params.Given as goal

abbrev pub decreases-loop-rows : goal.decreases-loop-rows
decreases-loop-rows l = left_in_rows l.rows.items

abbrev pub invariant-loop-rows : goal.invariant-loop-rows
invariant-loop-rows l = AreHeld (declared_by l.decls) l.rows.items × HaveWidths l.decls l.rows.items
