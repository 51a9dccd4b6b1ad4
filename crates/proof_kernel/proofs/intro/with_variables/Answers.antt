use Rattle.std.proofs.Common.{◌∙◌, sym, append-nil}
use Rattle.std.proofs.lemmas.List.{nil_from_length}
use Rattle.proof_kernel.proofs.OpenedStart.{all_variables}
use Rattle.proof_kernel.proofs.intro.with_variables.Goals as goal

pub returns : goal.returns
returns c =
    all_variables c.args.names.now c.loop-sort.used c.args.q c.loop-sort.all c.args.sorts.items c.loop-sort.sorts.items
    (c.in_default.ensures.items ∙ append-nil c.pop.new.self.items ∙ nil_from_length c.pop.new.self.items (sym c.pop.new.self.ok.0 ∙ c.in_default.ensures.cases.1))
    c.loop-sort.invariant.vars c.loop-sort.invariant.hyps c.loop-sort.invariant.goal
