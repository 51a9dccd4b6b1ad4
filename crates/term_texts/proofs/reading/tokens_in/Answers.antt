use Rattle.std.proofs.Common.{◌≡◌}
use Rattle.term_texts.specs.declared.reading.TermFault.TheVariants.{NoTerm}
use Rattle.term_texts.proofs.TermLaw.{no_tokens}
use Rattle.term_texts.proofs.reading.tokens_in.Goals as goal

pub returns-in-Err-clause-refused : goal.returns-in-Err-clause-refused
returns-in-Err-clause-refused c = λ e is.
    let same : c.fault_of.result ≡ NoTerm = cc in
    no_tokens c.args.text.now c.in-Err.error c.in-Err.ensures.refused (c.fault_of.ensures same) is
