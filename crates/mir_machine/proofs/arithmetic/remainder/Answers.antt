use Rattle.std.proofs.Common.{rules, ◌≡◌, ◌∙◌, sym, ap, int_rem}
use Rattle.std.specs.Int.{w128}
use Rattle.std.proofs.lemmas.Int.{rem_is}
use Rattle.mir_machine.specs.Try.{Yields}
use Rattle.mir_machine.specs.Tree.{Int}
use Rattle.mir_machine.specs.Step.{divide, arithmetic}
use Rattle.mir_machine.proofs.arithmetic.remainder.Goals as goal

pub returns-in-Some-clause-exact : goal.returns-in-Some-clause-exact
returns-in-Some-clause-exact c =
    let exact : arithmetic {K = Unit {0}} c.args.kind (λ k. divide k c.args.span int_rem c.args.a c.args.b) ≡ Yields (Int (int_rem c.args.a c.args.b)) = search rules in
    let computed : c.integer.result ≡ Int (int_rem c.args.a c.args.b) = c.integer.ensures ∙ ap Int (rem_is w128 c.args.a c.args.b c.ranges.a c.ranges.b) in
    exact ∙ ap Yields (sym computed)
