use Rattle.std.proofs.Common.{pos, ◌≤ℤ◌}
use Rattle.std.specs.List.{AllWithin}
use Rattle.lin_arith.proofs.certificate.first_negative.Given as goal

abbrev pub invariant-loop-row : goal.invariant-loop-row
invariant-loop-row l = AllWithin (λ m. pos 0 ≤ℤ m) l.mult 0 l.row
