use Rattle.std.proofs.Common.{◌≡◌, drop}
use Rattle.type_check.specs.Functions.{function_from}
use Rattle.type_check.proofs.heading.find_function.Given as goal

abbrev pub invariant-loop-heading : goal.invariant-loop-heading
invariant-loop-heading l = function_from l.place l.name (drop l.heading-index l.headings) ≡ function_from 0 l.name l.headings
