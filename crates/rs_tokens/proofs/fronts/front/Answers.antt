use Rattle.std.proofs.Common.{ℕ, List, ap, sym, ◌∙◌, length, take, refl, arith}
use Rattle.rs_tokens.specs.Blanks.{opens_comment}
use Rattle.rs_tokens.specs.Tokens.{refused_of}
use Rattle.rs_tokens.specs.Reading.{comment, token}
use Rattle.rs_tokens.proofs.TokenLaws.{token_some}
use Rattle.rs_tokens.proofs.fronts.front.Goals as goal

pub returns-then-begins-clause-token : goal.returns-then-begins-clause-token
returns-then-begins-clause-token c =
    comment (ap opens_comment (sym c.as_bytes-bytes.ensures.value) ∙ sym c.begins.ensures ∙ c.if-begins.true) refl

pub refused_of-requires : goal.refused_of-requires
refused_of-requires c =
    let stands = c.in-Some.ensures.stands in
    let same = ap (λ (t : List ℕ). length (take c.in-Some.front.len t)) c.as_bytes-bytes.ensures.value in
    omega (arith, same, token_some c.in-Some.front.kind (take c.in-Some.front.len c.args.text.now) stands.token)

pub returns-in-Some-refused_of-clause-token : goal.returns-in-Some-refused_of-clause-token
returns-in-Some-refused_of-clause-token c =
    let text = c.args.text.now in
    token (ap opens_comment (sym c.as_bytes-bytes.ensures.value) ∙ sym c.begins.ensures ∙ c.if-begins.false) c.in-Some.ensures.stands
    (ap (λ (t : List ℕ). refused_of c.in-Some.front.kind (take c.in-Some.front.len t)) (sym c.as_bytes-bytes.ensures.value) ∙ sym c.refused_of.ensures ∙ c.in-Some-refused_of.is)
