use Rattle.std.proofs.Common.{length, ◌-◌, ◌≤◌, ◌+◌, drop}
use Rattle.rs_tokens.proofs.StringLaws.{SameEnd}
use Rattle.rs_tokens.proofs.strings.string_len.Given as goal

abbrev pub invariant-loop-at : goal.invariant-loop-at
invariant-loop-at l = record {
  within : l.at ≤ length l.text + 1;
  so_far : SameEnd l.text (drop l.at l.text);
}

abbrev pub decreases-loop-at : goal.decreases-loop-at
decreases-loop-at l = length l.text - l.at
