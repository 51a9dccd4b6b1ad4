use Rattle.std.proofs.Common.{◌∙◌, ap}
use Rattle.std.specs.Option.{option_copied}
use Rattle.proof_text.proofs.LineLemmas.{utf8_is}
use Rattle.proof_text.proofs.line.utf8.Goals as goal

pub returns : goal.returns
returns c = ap option_copied c.ok.ensures.value ∙ utf8_is c.args.bytes.now c.from_utf8.result _ c.from_utf8.ensures.cases
