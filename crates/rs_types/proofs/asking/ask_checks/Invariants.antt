use Rattle.std.proofs.Common.{◌≡◌, drop, length}
use Rattle.rs_types.specs.Refused.{ChecksAreAsked}
use Rattle.rs_types.specs.Weighing.{Grows}
use Rattle.rs_types.proofs.asking.ask_checks.Given as goal

abbrev pub invariant-loop-i : goal.invariant-loop-i
invariant-loop-i l =
    Grows l.fn.cases.items l.cases.items × (length l.cases.items ≡ length l.fn.cases.items → ChecksAreAsked l.question l.fn.cases.items (drop l.i l.checks))
