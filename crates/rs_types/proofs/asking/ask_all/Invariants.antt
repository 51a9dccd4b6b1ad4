use Rattle.std.proofs.Common.{◌≡◌, drop, length}
use Rattle.rs_types.specs.Weighing.{EachAsked, Grows}
use Rattle.rs_types.proofs.asking.ask_all.Given as goal

abbrev pub invariant-loop-i : goal.invariant-loop-i
invariant-loop-i l =
    Grows l.fn.cases.items l.cases.items × (length l.cases.items ≡ length l.fn.cases.items → EachAsked l.question l.decls l.fn.cases.items (drop l.i l.of))
