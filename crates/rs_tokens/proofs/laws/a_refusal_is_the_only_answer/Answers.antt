use Rattle.rs_tokens.proofs.OneReading.{one_refusal, end_no_refusal}
use Rattle.rs_tokens.proofs.laws.a_refusal_is_the_only_answer.Goals as goal

pub returns : goal.returns
returns c = record { span = one_refusal; end = end_no_refusal }
