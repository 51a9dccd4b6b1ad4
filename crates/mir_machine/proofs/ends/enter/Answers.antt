use Rattle.std.proofs.Common.{◌≡◌, [], ◌∷◌, ◌++◌, length, arith}
use Rattle.mir_machine.proofs.Stepping.{exchanged}
use Rattle.mir_machine.proofs.ends.enter.Goals as goal

pub returns-clause-ok : goal.returns-clause-ok
returns-clause-ok c =
    let pushed : c.push.new.self.items ≡ c.state.inside.behind.items ++ c.args.frame ∷ [] = grind arith in
    let count : c.len-last.result ≡ length c.push.new.self.items = omega (arith, c.len-last.ensures, c.push.new.self.ok.0) in
    rw (← c.state.view_is)
    (exchanged c.state.inside.behind.items c.push.new.self.items c.args.frame c.index_mut.result.now c.swap.new.x c.swap.new.y _ c.len-last.result
    pushed count c.index_mut.ensures.value c.swap.ensures.x_after c.swap.ensures.y_after)
