use Rattle.std.proofs.Common.{◌≡◌, ◌+◌, ◌++◌, replicate, arith, rules}
use Rattle.std.proofs.lemmas.Grind.{common_steps}
use Rattle.mir_machine.specs.Tree.{Gone}
use Rattle.mir_machine.proofs.Undoing.{back_along}
use Rattle.mir_machine.proofs.ends.add_gone.Goals as goal

pub returns-in_err-add-clause-back : goal.returns-in_err-add-clause-back
returns-in_err-add-clause-back c = λ s. back_along c.args.taken.now c.loop.taken c.add.new.self s s s (c.loop.invariant.back s) (c.add.ensures.back s)

pub loop-preserved : goal.loop-preserved
loop-preserved c =
    let trees : c.add.new.self.trees.items ≡ c.args.taken.now.trees.items ++ replicate (c.loop.counter + 1) Gone = grind (arith, common_steps) in
    record {
      trees = trees;
      even = search rules;
      back = λ s. back_along c.args.taken.now c.loop.taken c.add.new.self s s s (c.loop.invariant.back s) (c.add.ensures.back s);
    }
