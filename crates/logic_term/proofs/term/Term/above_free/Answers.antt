use Rattle.std.proofs.Common.{[], ap, ◌∙◌, arith}
use Rattle.logic_term.specs.Canonical.{above_free}
use Rattle.logic_term.specs.Scopes.{above_free_top, scope}
use Rattle.logic_term.proofs.ScopesWalk.{within_step, within_smaller}
use Rattle.logic_term.proofs.term.Term.above_free.Goals as goal

pub loop-next-smaller-in_ok-push_scoped-in-Within : goal.loop-next-smaller-in_ok-push_scoped-in-Within
loop-next-smaller-in_ok-push_scoped-in-Within c =
    within_smaller c.loop-next.left.items c.pop.new.self.items c.in-Some.next c.in-Some.ensures.items c.in-Within.t.now c.push_scoped.new.left.items (ap scope c.in-Within.is) c.in_ok-push_scoped-in-Within.ensures.left

pub loop-next-preserved-in_ok-push_scoped-in-Within : goal.loop-next-preserved-in_ok-push_scoped-in-Within
loop-next-preserved-in_ok-push_scoped-in-Within c =
    let e = within_step c.loop-next.left.items c.pop.new.self.items c.in-Some.next c.in-Some.ensures.items c.in-Within.t.now c.push_scoped.new.left.items c.loop-next.bound.items c.push_scoped.new.bound.items c.loop-next.most
    c.in_ok-above_free_top-in-Within.field-0 (above_free [] c.args.self.now) (ap scope c.in-Within.is) c.in_ok-push_scoped-in-Within.ensures.bound c.in_ok-push_scoped-in-Within.ensures.left
    (c.in_ok-above_free_top-in-Within.ensures ∙ ap (λ ys. above_free_top ys c.in-Within.t.now) c.as_slice.ensures.value) c.loop-next.invariant in
    omega (arith, e)
