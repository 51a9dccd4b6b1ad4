use Rattle.std.proofs.Common.{◌≡◌, ◌∙◌, ap₂, rules, SFits, to_z, of_z}
use Rattle.std.specs.Int.{w128}
use Rattle.std.proofs.lemmas.Int.{to_z-of_z}
use Rattle.proof_kernel.specs.Polynomial.{coefficient}
use Rattle.proof_kernel.proofs.LinearParts.{parts_more, number_is}
use Rattle.proof_kernel.proofs.linear.parts.Goals as goal

pub loop-at-preserved : goal.loop-at-preserved
loop-at-preserved c =
    let pushed = c.in_ok-push.ensures {u = tt} in
    let numbered = c.in_ok-atom.ensures {u = tt} in
    let is_number : c.in_ok-atom.atom ≡ c.loop-at.at = number_is c.try_from.result c.ok.result c.in_ok-atom.atom c.loop-at.at c.try_from.ensures numbered.ok_part c.ok.ensures.value in
    let fits : SFits w128 c.in_ok-factor.factor = search rules in
    parts_more c.args.table.now c.loop-at.at c.index-table-at.result c.args.form.now (record { atom = c.in_ok-atom.atom; factor = to_z w128 (of_z w128 c.in_ok-factor.factor) }) c.loop-at.all c.push.new.self c.loop-at-test.true c.index-table-at.is is_number
    (to_z-of_z w128 c.in_ok-factor.factor fits ∙ c.in_ok-factor.ensures ∙ ap₂ coefficient c.as_slice.ensures c.as_slice-in-loop-at.ensures) c.loop-at.invariant pushed.ok
