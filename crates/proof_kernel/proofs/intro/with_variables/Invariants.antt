use Rattle.std.proofs.Common.{◌≡◌, ◌+◌, ◌≤◌, ◌++◌, drop, length, reverse, vec_len}
use Rattle.std.specs.Prelude.{zip}
use Rattle.proof_kernel.proofs.intro.with_variables.Given as goal

abbrev pub invariant-loop-sort : goal.invariant-loop-sort
invariant-loop-sort l = record {
  within : l.used + length l.sorts.items ≤ length l.names;
  vars : l.fn.q.vars ++ zip l.names (reverse l.fn.sorts.items) ≡ l.all.vars ++ zip (drop l.used l.names) (reverse l.sorts.items);
  hyps : l.all.hyps ≡ l.fn.q.hyps;
  goal : l.all.goal ≡ l.fn.q.goal;
}

abbrev pub decreases-loop-sort : goal.decreases-loop-sort
decreases-loop-sort l = vec_len l.sorts
