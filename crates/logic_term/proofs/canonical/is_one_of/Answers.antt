use Rattle.std.proofs.Common.{sym, ◌∙◌, arith}
use Rattle.logic_term.proofs.Bound.{is_here, is_below}
use Rattle.logic_term.proofs.canonical.is_one_of.Goals as goal

pub returns-then-name-other : goal.returns-then-name-other
returns-then-name-other c = sym (sym c.loop-left.invariant.same ∙ is_here c.args.names.now c.loop-left.left (record { 0 = 0 }) c.args.name (omega arith) c.loop-left.invariant.within c.if-name-other.true)

pub loop-left-preserved : goal.loop-left-preserved
loop-left-preserved c = record {
  within = omega (arith, c.loop-left.invariant.within);
  same = is_below c.args.names.now c.loop-left.left (record { 0 = 0 }) c.args.name (omega arith) c.loop-left.invariant.within c.if-name-other.false ∙ c.loop-left.invariant.same;
}
