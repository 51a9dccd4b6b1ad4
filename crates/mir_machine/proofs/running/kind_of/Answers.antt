use Rattle.std.proofs.Common.{◌∙◌, refl, ap}
use Rattle.std.proofs.lemmas.List.{get_or_past}
use Rattle.logic_term.specs.Ty.{math_int}
use Rattle.mir_ir.specs.Body.{kind_of}
use Rattle.mir_machine.proofs.GivenTypes.{nth_ty-tys_of}
use Rattle.mir_machine.proofs.running.kind_of.Goals as goal

pub returns-in-Some : goal.returns-in-Some
returns-in-Some c =
    rw (← c.ty.view_is, c.in-Param.is, nth_ty-tys_of c.args.types.now c.in-Param.number)
    (c.kind_of_ground.ensures ∙ ap kind_of (c.in-Some.ensures.lookup.3.1 math_int))

pub returns-in-None : goal.returns-in-None
returns-in-None c =
    rw (← c.ty.view_is, c.in-Param.is, nth_ty-tys_of c.args.types.now c.in-Param.number)
    (rw (get_or_past c.args.types.now c.in-Param.number math_int c.in-None.ensures.lookup.3) refl)
