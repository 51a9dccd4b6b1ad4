use Rattle.std.proofs.Common.{◌≡◌, sym, subst, ◌∙◌, arith, IfOk}
use Rattle.logic_term.proofs.Bound.{found_here, found_below}
use Rattle.logic_term.proofs.placed.looked_up.Goals as goal

pub returns-then-name-renaming : goal.returns-then-name-renaming
returns-then-name-renaming c = subst (λ u. IfOk c.var.result (λ t. t ≡ u))
    (sym (sym c.loop-left.invariant.same ∙ found_here c.args.bound.now c.loop-left.left _ c.args.sub.now c.args.name (omega arith) c.loop-left.invariant.within c.if-name-renaming.true)) c.var.ensures

pub loop-left-preserved : goal.loop-left-preserved
loop-left-preserved c = record {
  within = omega (arith, c.loop-left.invariant.within);
  same = found_below c.args.bound.now c.loop-left.left _ c.args.sub.now c.args.name (omega arith) c.loop-left.invariant.within c.if-name-renaming.false ∙ c.loop-left.invariant.same;
}
