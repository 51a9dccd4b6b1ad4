use Rattle.std.proofs.Common.{sym, ◌∙◌}
use Rattle.logic_term.specs.Free.{free}
use Rattle.logic_term.proofs.Walking.{above_lighter, free_step}
use Rattle.logic_term.proofs.term.Term.free_in.Goals as goal

pub loop-t-smaller-in-Continue-branch-2 : goal.loop-t-smaller-in-Continue-branch-2
loop-t-smaller-in-Continue-branch-2 c = above_lighter c.loop-t.left.items c.pop.new.self.items c.push_parts.new.left.items c.in-Some.t c.in-Some.ensures.items c.in_ok-push_parts.ensures

pub loop-t-preserved-in-Continue-branch-2 : goal.loop-t-preserved-in-Continue-branch-2
loop-t-preserved-in-Continue-branch-2 c =
    free_step c.args.name c.loop-t.left.items c.pop.new.self.items c.in-Some.t c.in-Some.ensures.items (free c.args.name c.args.self.now) c.loop-t.invariant c.push_parts.new.left.items
    (sym c.is_name.ensures ∙ c.if-is_name.false) (sym c.binds.ensures ∙ c.if-not-binds.true) c.in_ok-push_parts.ensures
