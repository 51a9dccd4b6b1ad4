use Rattle.pat_check.proofs.Searching.{searching_goes_on, free_value, open_at}
use Rattle.pat_check.proofs.coverage.missing.Goals as goal

pub look_into-requires : goal.look_into-requires
look_into-requires c = record {
  passed = (open_at c.args.decls.now c.args.arms.now c.args.t.now c.loop-state.states.items c.pop.new.self.items
      c.in-Some.state c.in-Some.ensures.items c.loop-state.invariant).1;
}

pub returns-then-branch : goal.returns-then-branch
returns-then-branch c = free_value c.args.decls.now c.args.arms.now c.args.t.now c.loop-state.states.items c.pop.new.self.items c.look_into.new.states.items c.in-Some.state
    c.in_ok-look_into.field-0 c.in_ok-value.value c.in-Some.ensures.items c.loop-state.invariant c.in_ok-look_into.ensures c.if-branch.true c.in_ok-value.ensures

pub loop-state-smaller : goal.loop-state-smaller
loop-state-smaller c =
    (searching_goes_on c.args.decls.now c.args.arms.now c.args.t.now c.loop-state.states.items c.pop.new.self.items c.look_into.new.states.items c.in-Some.state c.in_ok-look_into.field-0 c.requires.typed c.in-Some.ensures.items c.loop-state.invariant c.in_ok-look_into.ensures c.if-branch.false).1

pub loop-state-preserved : goal.loop-state-preserved
loop-state-preserved c =
    (searching_goes_on c.args.decls.now c.args.arms.now c.args.t.now c.loop-state.states.items c.pop.new.self.items c.look_into.new.states.items c.in-Some.state c.in_ok-look_into.field-0 c.requires.typed c.in-Some.ensures.items c.loop-state.invariant c.in_ok-look_into.ensures c.if-branch.false).0
