use Rattle.std.proofs.Common.{◌≡◌, ◌+◌}
use Rattle.logic_tests.proofs.rule_rows.closes.Given as goal

-- as many steps are done as were gone over
abbrev pub invariant-loop-numbered : goal.invariant-loop-numbered
invariant-loop-numbered l = l.kernel.step ≡ l.numbered-index + 1
