use Rattle.std.proofs.Common.{◌≡◌, ◌++◌, ◌-◌, ◌≤◌, drop}
use Rattle.proof_kernel.specs.Opened.{renames_from}
use Rattle.proof_kernel.proofs.opened.renames.Given as goal

abbrev pub invariant-loop-i : goal.invariant-loop-i
invariant-loop-i l = record {
  place : l.number ≡ l.i;
  within : l.number ≤ l.count;
  renames : renames_from 0 l.count l.names ≡ l.all.items ++ renames_from l.number (l.count - l.number) (drop l.i l.names);
}
