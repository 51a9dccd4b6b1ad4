use Rattle.std.proofs.Common.{◌∙◌, sym, ap}
use Rattle.std.specs.Option.{option_copied}
use Rattle.proof_kernel.specs.LocalContext.{variables_in}
use Rattle.proof_kernel.specs.Rules.{sort_of}
use Rattle.proof_kernel.proofs.LocalLaw.{or_else, sort_removed, sort_seen}
use Rattle.proof_kernel.proofs.local_context.LocalContext.sort_of.Goals as goal

pub returns-then-removes : goal.returns-then-removes
returns-then-removes c =
    sym (sort_removed c.args.name c.in-Some.entry.now c.loop-entry.here.now c.in-Some.before.now (sort_of c.args.name (variables_in c.args.self.now)) (option_copied c.loop-entry.found)
    (sym c.removes.ensures ∙ c.if-removes.true) c.in-Some.ensures c.loop-entry.invariant)

pub loop-entry-preserved-in-Some-sort_at : goal.loop-entry-preserved-in-Some-sort_at
loop-entry-preserved-in-Some-sort_at c =
    sort_seen c.args.name c.in-Some.entry.now c.loop-entry.here.now c.in-Some.before.now (sort_of c.args.name (variables_in c.args.self.now)) (option_copied c.loop-entry.found) (option_copied c.sort_at.result)
    (sym c.removes.ensures ∙ c.if-removes.false) c.in-Some.ensures c.sort_at.ensures c.loop-entry.invariant
    ∙ ap (λ o. or_else (sort_of c.args.name (variables_in c.in-Some.before.now)) (or_else (option_copied o) (option_copied c.loop-entry.found))) c.in-Some-sort_at.is

pub loop-entry-preserved : goal.loop-entry-preserved
loop-entry-preserved c =
    sort_seen c.args.name c.in-Some.entry.now c.loop-entry.here.now c.in-Some.before.now (sort_of c.args.name (variables_in c.args.self.now)) (option_copied c.loop-entry.found) (option_copied c.sort_at.result)
    (sym c.removes.ensures ∙ c.if-removes.false) c.in-Some.ensures c.sort_at.ensures c.loop-entry.invariant
    ∙ ap (λ o. or_else (sort_of c.args.name (variables_in c.in-Some.before.now)) (or_else (option_copied o) (option_copied c.loop-entry.found))) c.in_default-sort_at.is
