use Rattle.rs_tokens.proofs.IdentifierLaws.{identifier_token, token_identifier}
use Rattle.rs_tokens.proofs.laws.an_identifier_is_an_admitted_token.Goals as goal

pub returns : goal.returns
returns c = λ text. (identifier_token text, λ t. token_identifier text t.0 t.1)
