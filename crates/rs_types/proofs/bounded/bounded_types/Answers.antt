use Rattle.std.proofs.Common.{length, subst, sym, ap, ◌∙◌}
use Rattle.rs_types.specs.Growing.{declared_by}
use Rattle.rs_types.proofs.Bounds.{falses_long, first_bounded, none_bounded_yet}
use Rattle.rs_types.proofs.Fields.{AreBounded}
use Rattle.rs_types.proofs.bounded.bounded_types.Goals as goal

pub loop-set-init : goal.loop-set-init
loop-set-init c = (
  ap length c.in_ok-set.ensures ∙ falses_long (length c.args.decls.now),
  subst (AreBounded (declared_by c.args.decls.now) c.in_ok-rows.rows.items) (sym c.in_ok-set.ensures) (none_bounded_yet c.args.decls.now c.in_ok-rows.rows.items),
)

pub returns-then-same_row-clause-bounded : goal.returns-then-same_row-clause-bounded
returns-then-same_row-clause-bounded c = λ d e. first_bounded c.args.decls.now c.in_ok-rows.rows.items c.loop-set.set.items c.loop-set.invariant.1 d e
