use Rattle.std.proofs.Common.{◌∙◌, sym}
use Rattle.proof_text.proofs.NumeralLemmas.{number_parsed}
use Rattle.proof_text.proofs.word.number.Goals as goal

pub returns : goal.returns
returns c = c.ok.ensures.value ∙ number_parsed c.args.word.now c.parse.result (sym c.is_numeral.ensures ∙ c.if-not-is_numeral.false) c.parse.ensures.value.0
