use Rattle.std.proofs.Common.{sym}
use Rattle.verify_core.specs.Verdict.{Settles}
use Rattle.verify_core.proofs.RunLaws.{proof_accepted, proof_refused}
use Rattle.verify_core.proofs.judge.reason_for.Goals as goal

pub returns-in_default : goal.returns-in_default
returns-in_default c = Settles.missing (sym c.in_default.ensures)

pub returns-in-None : goal.returns-in-None
returns-in-None c =
    proof_accepted c.args.tables.now c.args.proofs.now c.args.obligation.now c.in-Some.proof.now c.as_slice.result.now c.in_ok-refused_line.field-0
    (sym c.in-Some.ensures) c.as_slice.ensures c.in_ok-refused_line.ensures c.in-None.is

pub returns-in-Some-2 : goal.returns-in-Some-2
returns-in-Some-2 c =
    proof_refused c.args.tables.now c.args.proofs.now c.args.obligation.now c.in-Some.proof.now c.as_slice.result.now c.in_ok-refused_line.field-0 c.in-Some-2.line
    (sym c.in-Some.ensures) c.as_slice.ensures c.in_ok-refused_line.ensures c.in-Some-2.is
