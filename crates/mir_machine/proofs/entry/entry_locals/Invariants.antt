use Rattle.std.proofs.Common.{◌≡◌, ◌∷◌, ◌++◌, replicate}
use Rattle.mir_machine.specs.Tree.{Gone}
use Rattle.mir_machine.proofs.entry.entry_locals.Given as goal

abbrev pub invariant-loop-arg : goal.invariant-loop-arg
invariant-loop-arg l = l.locals.items ≡ Gone ∷ l.yielded

abbrev pub invariant-loop : goal.invariant-loop
invariant-loop l = l.locals.items ≡ Gone ∷ (l.fn.args.items ++ replicate l.counter Gone)
