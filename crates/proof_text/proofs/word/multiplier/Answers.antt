use Rattle.std.proofs.Common.{◌∙◌, sym, ap}
use Rattle.proof_text.proofs.NumeralLemmas.{multiplier_parsed, multiplier_refused, unwrapped}
use Rattle.proof_text.proofs.word.multiplier.Goals as goal

pub returns-then-not-is_numeral : goal.returns-then-not-is_numeral
returns-then-not-is_numeral c = sym (multiplier_refused c.args.word.now c.unwrap_or-digits.result.now (ap (λ r. r.now) c.unwrap_or-digits.ensures ∙ unwrapped _ _ _ c.after_minus.ensures) (sym c.is_numeral.ensures ∙ c.if-not-is_numeral.true))

pub returns : goal.returns
returns c = c.ok.ensures.value ∙ multiplier_parsed c.args.word.now c.unwrap_or-digits.result.now c.parse.result (ap (λ r. r.now) c.unwrap_or-digits.ensures ∙ unwrapped _ _ _ c.after_minus.ensures) (sym c.is_numeral.ensures ∙ c.if-not-is_numeral.false) c.parse.ensures.value.0
