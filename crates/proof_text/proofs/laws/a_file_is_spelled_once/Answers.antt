use Rattle.proof_text.proofs.FormLaw.{spelled_once}
use Rattle.proof_text.proofs.laws.a_file_is_spelled_once.Goals as goal

pub returns : goal.returns
returns c = spelled_once
