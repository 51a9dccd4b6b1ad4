use Rattle.std.proofs.Common.{◌≡◌, drop, length}
use Rattle.rs_types.specs.Weighing.{AllAsked, Grows}
use Rattle.rs_types.proofs.asking.ask_variants.Given as goal

abbrev pub invariant-loop-i : goal.invariant-loop-i
invariant-loop-i l =
    Grows l.fn.cases.items l.cases.items × (length l.cases.items ≡ length l.fn.cases.items → AllAsked l.question l.fn.cases.items l.given (drop l.i l.variants))
