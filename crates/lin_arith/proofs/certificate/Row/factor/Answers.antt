use Rattle.std.proofs.Common.{get_or, pos, sym, ◌∙◌, ap, rules, SFits}
use Rattle.std.specs.Int.{w128}
use Rattle.std.proofs.lemmas.Int.{to_z-of_z}
use Rattle.lin_arith.specs.Certificate.{factor_of}
use Rattle.lin_arith.proofs.Sums.{rising, factor_of-found, factor_of-absent_below}
use Rattle.lin_arith.proofs.certificate.Row.factor.Goals as goal

pub returns-then-part-atom : goal.returns-then-part-atom
returns-then-part-atom c =
    let parts = c.as_slice-part-items.result.now in
    let k = c.loop-part.part-index in
    let part = get_or parts k (record { atom = 0; factor = pos 0 }) in
    let fits : SFits w128 part.factor = search rules in
    to_z-of_z w128 part.factor fits
    ∙ sym (factor_of-found c.args.atom parts k _ (rw c.as_slice-part-items.ensures (rising c.args.self.now c.requires)) c.loop-part-test.true c.if-part-atom.true)
    ∙ ap (factor_of c.args.atom) c.as_slice-part-items.ensures

pub returns : goal.returns
returns c =
    sym (factor_of-absent_below c.args.atom c.as_slice-part-items.result.now c.loop-part.part-index c.loop-part-test.false c.loop-part.invariant)
    ∙ ap (factor_of c.args.atom) c.as_slice-part-items.ensures
