use Rattle.std.proofs.Common.{◌≡◌, drop, length, map}
use Rattle.logic_term.specs.Theory.{field_ty}
use Rattle.logic_term.specs.TyView.{tys_of}
use Rattle.rs_types.specs.Weighing.{AreAsked, Grows}
use Rattle.rs_types.proofs.asking.ask_fields.Given as goal

abbrev pub invariant-loop-i : goal.invariant-loop-i
invariant-loop-i l =
    Grows l.fn.cases.items l.cases.items × (length l.cases.items ≡ length l.fn.cases.items → AreAsked l.question l.fn.cases.items l.given (tys_of (map field_ty (drop l.i l.fields))))
