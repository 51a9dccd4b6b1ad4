use Rattle.std.proofs.Common.{rules, ◌≡◌, ◌∷◌, [], ◌++◌}
use Rattle.pat_check.proofs.Stacks.{state_pushed}
use Rattle.pat_check.proofs.state.push_states.Goals as goal

pub loop-i-preserved : goal.loop-i-preserved
loop-i-preserved c =
    let known = c.index-branches-i.result in
    let pushed : c.push.new.self.items ≡ c.loop-i.states.items ++ record { from = c.args.from; known = known } ∷ [] = search rules in
    state_pushed c.args.from c.loop-i.i c.args.branches.now known c.args.states.now.items c.loop-i.states.items c.push.new.self.items c.index-branches-i.is c.loop-i-test.true c.loop-i.invariant pushed
