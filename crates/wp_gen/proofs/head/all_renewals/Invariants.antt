use Rattle.std.proofs.Common.{◌≡◌, ◌++◌, drop}
use Rattle.prophecy_logic.specs.Loop.{renewals}
use Rattle.wp_gen.specs.Marks.{touch_by}
use Rattle.wp_gen.proofs.head.all_renewals.Given as goal

abbrev pub invariant-loop-ty : goal.invariant-loop-ty
invariant-loop-ty l = record {
  number : l.x ≡ l.ty-index;
  so_far : renewals l.body (touch_by l.gone l.written) 0 l.body.locals ≡ l.commands.items ++ renewals l.body (touch_by l.gone l.written) l.ty-index (drop l.ty-index l.body.locals);
}
