-- The part of a tuple.
use Rattle.std.proofs.Common.{◌≡◌, ◌∙◌, List, ap, sym}
use Rattle.logic_term.specs.Ty.{Ty, tuple}
use Rattle.logic_term.specs.TyView.{ty_of, tys_of}
use Rattle.type_parts.specs.Parts.{part_of}
use Rattle.type_parts.proofs.Numbered.{tuple_part}
use Rattle.type_parts.proofs.finding.part_at.Goals as goal

pub returns-in_ok-found-in-Tuple : goal.returns-in_ok-found-in-Tuple
returns-in_ok-found-in-Tuple c =
    let parts : tuple (tys_of c.deref.result.now) ≡ tuple (tys_of c.in-Tuple.parts.items) = ap (λ (ts : List Ty). tuple (tys_of ts)) c.deref.ensures.value in
    let seen : tuple (tys_of c.in-Tuple.parts.items) ≡ c.args.ty.now = ap ty_of (sym c.in-Tuple.is) ∙ c.ty.view_is in
    tuple_part c.args.decls.now c.deref.result.now c.args.number c.in_ok-found-in-Tuple.found c.in_ok-found-in-Tuple.ensures
    ∙ ap (λ t. part_of c.args.decls.now t c.args.number) (parts ∙ seen)
