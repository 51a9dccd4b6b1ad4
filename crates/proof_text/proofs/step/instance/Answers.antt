use Rattle.std.proofs.Common.{ap, arith, map}
use Rattle.proof_text.specs.ProofTextReads.{total_length}
use Rattle.proof_text.proofs.StageLemmas.{now}
use Rattle.proof_text.proofs.TwoTerms.{read_shorter}
use Rattle.proof_text.proofs.step.instance.Goals as goal

pub returns-in_err-terms-clause-grown : goal.returns-in_err-terms-clause-grown
returns-in_err-terms-clause-grown c =
    let short = read_shorter c.args.rest.now c.in_ok-label.label c.in_ok-label.texts c.in_ok-label.ensures in
    let same = ap (λ ts. total_length (map now ts)) c.deref.ensures.value in
    let grown = c.terms.ensures.grown in
    omega (arith, short, same, grown)

pub returns-clause-grown : goal.returns-clause-grown
returns-clause-grown c =
    let short = read_shorter c.args.rest.now c.in_ok-label.label c.in_ok-label.texts c.in_ok-label.ensures in
    let same = ap (λ ts. total_length (map now ts)) c.deref.ensures.value in
    let grown = c.terms.ensures.grown in
    omega (arith, short, same, grown)
