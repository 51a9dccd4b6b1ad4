use Rattle.std.specs.Prelude.{◌≡◌, ◌↔◌, IsTrue}
use Rattle.std.proofs.lemmas.Result.{IfOk-weaker}
use Rattle.logic_term.specs.Canonical.{canonical, SameUpToNames}
use Rattle.logic_term.proofs.SameLaw.{same_term_is}
use Rattle.proof_kernel.specs.Rules.{same_up_to_names}
use Rattle.proof_kernel.proofs.rules.are_same.Goals as goal

pub returns : goal.returns
returns c =
    IfOk-weaker c.same_up_to_names.result (λ b. IsTrue b ↔ SameUpToNames c.args.t.now c.args.other.now) (λ b. b ≡ same_up_to_names c.args.t.now c.args.other.now)
    (λ b h. same_term_is (canonical c.args.t.now) (canonical c.args.other.now) b h) c.same_up_to_names.ensures
