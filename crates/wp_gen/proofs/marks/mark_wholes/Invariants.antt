use Rattle.std.proofs.Common.{take}
use Rattle.std.specs.List.{list_any}
use Rattle.prophecy_logic.specs.Loop.{is_whole}
use Rattle.wp_gen.specs.Marks.{AddsMarks}
use Rattle.wp_gen.proofs.marks.mark_wholes.Given as goal

abbrev pub invariant-loop-place : goal.invariant-loop-place
invariant-loop-place l = AddsMarks (λ x. list_any (is_whole x) (take l.place-index l.places)) l.fn.marks l.marks
