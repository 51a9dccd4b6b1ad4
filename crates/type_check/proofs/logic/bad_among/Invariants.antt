use Rattle.std.proofs.Common.{◌≡◌, drop}
use Rattle.type_check.specs.FirstBad.{bad_among}
use Rattle.type_check.proofs.logic.bad_among.Given as goal

abbrev pub invariant-loop-assertion : goal.invariant-loop-assertion
invariant-loop-assertion l = bad_among (drop l.assertion-index l.assertions) ≡ bad_among l.assertions
