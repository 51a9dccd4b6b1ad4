use Rattle.std.proofs.Common.{◌≡◌, ◌++◌, drop, length}
use Rattle.logic_term.specs.Pairs.{firsts, seconds}
use Rattle.logic_term.proofs.term.push_all_pairs.Given as goal

abbrev pub invariant-loop-i : goal.invariant-loop-i
invariant-loop-i l = record {
  as_many : length l.a ≡ length l.b;
  left : firsts l.left.items ≡ drop l.i l.a ++ firsts l.initial.left.items;
  right : seconds l.left.items ≡ drop l.i l.b ++ seconds l.initial.left.items;
}
