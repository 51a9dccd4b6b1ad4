use Rattle.std.proofs.Common.{◌∙◌, ◌&&◌, nat_eq, ap}
use Rattle.std.specs.List.{list_any}
use Rattle.std.specs.Str.{bytes_eq}
use Rattle.proof_text.proofs.table.ProofTable.has.Goals as goal

pub returns : goal.returns
returns c =
    c.contains.ensures
    ∙ c.self.invariant (c.args.number, c.as_bytes.result)
    ∙ ap (λ owner. list_any (λ p. nat_eq p.number c.args.number && bytes_eq p.owner owner) c.self.inside.proofs.items) c.as_bytes.ensures.value
    ∙ ap (list_any (λ p. nat_eq p.number c.args.number && bytes_eq p.owner c.args.owner.now)) c.self.view_is
