use Rattle.std.proofs.Common.{take, List, ◌==◌, ◌&&◌}
use Rattle.std.specs.List.{list_any}
use Rattle.mir_ir.specs.declared.body.Point.{Point}
use Rattle.mir_ir.specs.declared.place.Place.{Place}
use Rattle.prophecy_logic.specs.Loop.{is_whole}
use Rattle.wp_gen.specs.Marks.{AddsMarks}
use Rattle.wp_gen.proofs.marks.mark_gone.Given as goal

abbrev pub invariant-loop-entry : goal.invariant-loop-entry
invariant-loop-entry l = AddsMarks (λ x. list_any (λ (e : Point × List Place). (e.0.label.0 == l.label.0 && e.0.statement == 0) && list_any (is_whole x) e.1) (take l.entry-index l.init.gone)) l.fn.marks l.marks
