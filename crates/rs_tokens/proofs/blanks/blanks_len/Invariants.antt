use Rattle.std.proofs.Common.{List, ℕ, length, ◌-◌, ◌≤◌, drop}
use Rattle.rs_tokens.specs.Blanks.{Skips}
use Rattle.rs_tokens.proofs.blanks.blanks_len.Given as goal

abbrev pub invariant-loop-len : goal.invariant-loop-len
invariant-loop-len l = record {
  within : l.at ≤ length l.text;
  so_far : (rest : List ℕ) → Skips (drop l.at l.text) rest → Skips l.text rest;
}

abbrev pub decreases-loop-len : goal.decreases-loop-len
decreases-loop-len l = length l.text - l.at
