use Rattle.std.proofs.Common.{sym, ◌∙◌, ap, arith}
use Rattle.lin_arith.specs.Certificate.{factor_of}
use Rattle.lin_arith.proofs.Sums.{rising, factor_of-absent_below, factor_of-between}
use Rattle.lin_arith.proofs.certificate.Row.next_atom.Goals as goal

pub returns-then-from : goal.returns-then-from
returns-then-from c =
    let parts = c.as_slice-part-items.result.now in
    let k = c.loop-part.part-index in
    let i = c.if-from.true in
    let j = c.from.ensures in (
      omega arith,
      λ a l m. ap (factor_of a) (sym c.as_slice-part-items.ensures)
          ∙ factor_of-between c.args.from parts k _ (rw c.as_slice-part-items.ensures (rising c.args.self.now c.requires)) c.loop-part-test.true c.loop-part.invariant a l m,
    )

pub returns : goal.returns
returns c = λ a l.
    ap (factor_of a) (sym c.as_slice-part-items.ensures)
    ∙ factor_of-absent_below a c.as_slice-part-items.result.now c.loop-part.part-index c.loop-part-test.false
    (λ k d low below same. let under = c.loop-part.invariant k d low below in omega arith)
