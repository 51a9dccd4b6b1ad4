use Rattle.std.proofs.Common.{◌≡◌, ◌↔◌}
use Rattle.std.specs.Prelude.{IsTrue}
use Rattle.std.proofs.lemmas.Result.{IfOk-weaker}
use Rattle.logic_term.specs.Same.{same_term}
use Rattle.logic_term.proofs.SameLaw.{same_term_is}
use Rattle.proof_kernel.proofs.exchange.is_same.Goals as goal

pub returns : goal.returns
returns c =
    IfOk-weaker c.same.result (λ b. IsTrue b ↔ (c.args.t.now ≡ c.args.other.now)) (λ b. b ≡ same_term c.args.t.now c.args.other.now)
    (λ b h. same_term_is c.args.t.now c.args.other.now b h) c.same.ensures
