use Rattle.std.proofs.Common.{◌≡◌, ◌+◌, ◌*◌, drop, length}
use Rattle.logic_term.specs.TyView.{compound_of, ty_size, tys_size, tys_of}
use Rattle.rs_types.specs.Weighing.{AreAsked, Grows}
use Rattle.rs_types.proofs.asking.+ask.Given as goal

abbrev pub decreases-ask : goal.decreases-ask
decreases-ask l = 2 * ty_size l.t.now + 1

abbrev pub decreases-ask_parts : goal.decreases-ask_parts
decreases-ask_parts l = 2 * ty_size (compound_of l.parts.now)

abbrev pub decreases-ask_each : goal.decreases-ask_each
decreases-ask_each l = 2 * tys_size (tys_of l.types.now)

abbrev pub invariant-ask_each-loop-i : goal.invariant-ask_each-loop-i
invariant-ask_each-loop-i l =
    Grows l.fn.cases.items l.cases.items × (length l.cases.items ≡ length l.fn.cases.items → AreAsked l.question l.fn.cases.items l.given (tys_of (drop l.i l.types)))
