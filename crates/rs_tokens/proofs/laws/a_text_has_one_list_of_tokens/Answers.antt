use Rattle.rs_tokens.proofs.OneReading.{one_list}
use Rattle.rs_tokens.proofs.laws.a_text_has_one_list_of_tokens.Goals as goal

pub returns : goal.returns
returns c = one_list
