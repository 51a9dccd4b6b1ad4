use Rattle.std.proofs.Common.{◌∙◌}
use Rattle.proof_text.proofs.StageLemmas.{same_proved}
use Rattle.proof_text.proofs.reader.is_proved.Goals as goal

pub returns : goal.returns
returns c table said h = c.has.ensures ∙ same_proved table c.args.number c.args.owner.now said c.args.proofs.now h
