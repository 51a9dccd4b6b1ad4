use Rattle.std.proofs.lemmas.Result.{err_from_is_err_and}
use Rattle.verify_core.specs.Verdict.{IsVerdict}
use Rattle.verify_core.proofs.PassLaws.{source_refused, proofs_refused}
use Rattle.verify_core.proofs.VerdictLaws.{with_any_names}
use Rattle.verify_core.proofs.Verified.{owners_of_prepared, verified_is_good}
use Rattle.verify_core.proofs.verifying.verify.Goals as goal

pub returns-in_err-program-clause-refused : goal.returns-in_err-program-clause-refused
returns-in_err-program-clause-refused c =
    let p = err_from_is_err_and c.from_residual.result c.from_residual.ensures.1 in
    rw (p.1, p.2) (source_refused c.args.source.now c.args.proofs.now c.in_err-program.field-0.0 c.in_err-program.ensures.refused)

pub returns-in_err-file-clause-refused : goal.returns-in_err-file-clause-refused
returns-in_err-file-clause-refused c =
    let p = err_from_is_err_and c.from_residual-in_err-file.result c.from_residual-in_err-file.ensures.1 in
    rw (p.1, p.2) (proofs_refused c.args.source.now c.args.proofs.now c.in_ok-program.program c.in_err-file.field-0.0 c.in_ok-program.ensures.ok c.in_err-file.ensures.refused)

pub verdict_on-requires : goal.verdict_on-requires
verdict_on-requires c = owners_of_prepared c.args.source.now c.in_ok-program.program c.in_ok-program.ensures.ok

pub returns-clause-ok : goal.returns-clause-ok
returns-clause-ok c =
    let program = c.in_ok-program.program in
    let file = c.in_ok-file.file in
    let verdict = c.in_ok-verdict.verdict in
    let after : IsVerdict file.proofs (record program { names = c.proofs_of.new.names }) verdict = rw c.as_slice.ensures at c.in_ok-verdict.ensures in
    let is : IsVerdict file.proofs program verdict = with_any_names file.proofs program c.proofs_of.new.names verdict after in
    record {
      program = program;
      prepared = c.in_ok-program.ensures.ok;
      file = file;
      spelled = c.in_ok-file.ensures.ok;
      is_verdict = is;
      good = verified_is_good c.args.source.now program c.in_ok-program.ensures.ok file.proofs verdict is;
    }
