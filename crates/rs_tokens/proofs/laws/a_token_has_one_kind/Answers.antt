use Rattle.rs_tokens.proofs.TokenLaws.{one_kind}
use Rattle.rs_tokens.proofs.laws.a_token_has_one_kind.Goals as goal

pub returns : goal.returns
returns c = one_kind
