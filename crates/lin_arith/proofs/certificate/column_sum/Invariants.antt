use Rattle.std.proofs.Common.{◌≡◌, take}
use Rattle.lin_arith.specs.Certificate.{int_sum, products}
use Rattle.lin_arith.specs.Columns.{IsNarrowBelow}
use Rattle.lin_arith.proofs.certificate.column_sum.Given as goal

abbrev pub invariant-loop-at : goal.invariant-loop-at
invariant-loop-at l =
    (l.sum ≡ int_sum (take l.at (products l.column l.rows l.mult))) × IsNarrowBelow l.column l.rows l.mult l.at
