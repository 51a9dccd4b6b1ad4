use Rattle.lin_arith.specs.declared.certificate.Column.{Column}
use Rattle.lin_arith.specs.declared.certificate.Column.TheVariants.{Factors, Constants}
use Rattle.lin_arith.specs.Certificate.{IsCertificate, combination}
use Rattle.lin_arith.specs.Columns.{IsFalseSum}
use Rattle.lin_arith.proofs.Farkas.{no_common_solution}
use Rattle.lin_arith.proofs.certificate.check_certificate.Goals as goal

pub returns-in-None-clause-sound : goal.returns-in-None-clause-sound
returns-in-None-clause-sound c = λ e value hold.
    let rows = c.args.rows.now in
    let mult = c.args.mult.now in
    let false_row : (column : Column) → Unit {0} → IsFalseSum column (combination column rows mult) =
    rw c.if-is_false.true at c.in-Ok.ensures.1 in
    let certificate : IsCertificate rows mult = record {
      none_negative = c.in-None.ensures;
      factors_vanish = λ a. false_row (Factors a) tt;
      constant_negative = false_row Constants tt;
    } in
    no_common_solution rows mult certificate value hold
