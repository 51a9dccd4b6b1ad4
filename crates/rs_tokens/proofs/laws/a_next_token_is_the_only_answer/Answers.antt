use Rattle.rs_tokens.proofs.OneReading.{one_token, token_no_end, token_no_refusal}
use Rattle.rs_tokens.proofs.laws.a_next_token_is_the_only_answer.Goals as goal

pub returns : goal.returns
returns c = record { token = one_token; end = token_no_end; refusal = token_no_refusal }
