use Rattle.std.proofs.Common.{length, ◌-◌, ◌≤◌, ◌+◌, drop}
use Rattle.rs_tokens.proofs.CommentLaws.{SameClose}
use Rattle.rs_tokens.proofs.blanks.comment_len.Given as goal

abbrev pub invariant-loop-at : goal.invariant-loop-at
invariant-loop-at l = record {
  within : l.at ≤ length l.text;
  some : 1 ≤ l.depth;
  few : l.depth ≤ l.at + 1;
  so_far : SameClose l.text (drop l.at l.text) l.depth;
}

abbrev pub decreases-loop-at : goal.decreases-loop-at
decreases-loop-at l = length l.text - l.at
