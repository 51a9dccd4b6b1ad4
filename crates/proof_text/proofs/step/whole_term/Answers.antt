use Rattle.std.proofs.Common.{◌≡◌, ◌∙◌, ap, Err}
use Rattle.term_texts.specs.declared.reading.TermFault.TheVariants.{NoTerm}
use Rattle.proof_text.proofs.TermLists.{not_told}
use Rattle.proof_text.proofs.step.whole_term.Goals as goal

pub returns-in-Err-NoTerm-clause-bad : goal.returns-in-Err-NoTerm-clause-bad
returns-in-Err-NoTerm-clause-bad c = λ e.
    let same : c.read_whole_term.result ≡ Err NoTerm = c.in-Err-NoTerm.is ∙ ap Err c.in-Err-NoTerm.field-0-is in
    not_told c.args.text.now (c.read_whole_term.ensures.refused same)
