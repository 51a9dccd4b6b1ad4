use Rattle.std.proofs.Common.{◌∙◌, ◌&&◌, nat_eq, ap}
use Rattle.std.specs.List.{find}
use Rattle.std.specs.Option.{option_copied}
use Rattle.std.specs.Str.{bytes_eq}
use Rattle.verify_core.specs.Verdict.{is_for}
use Rattle.verify_core.proofs.table.ProofTable.proof_for.Goals as goal

pub returns : goal.returns
returns c =
    ap option_copied (c.copied.ensures ∙ c.get.ensures.value)
    ∙ c.self.invariant (c.args.obligation.now.number, c.bytes.result)
    ∙ ap (λ owner. find (λ p. nat_eq p.number c.args.obligation.now.number && bytes_eq p.owner owner) c.self.inside.proofs.now) c.bytes.ensures
    ∙ ap (find (is_for c.args.obligation.now)) c.self.view_is
