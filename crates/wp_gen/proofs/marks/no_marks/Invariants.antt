use Rattle.std.proofs.Common.{◌≡◌, ℕ, false, length, get_or}
use Rattle.wp_gen.proofs.marks.no_marks.Given as goal

abbrev pub invariant-loop : goal.invariant-loop
invariant-loop l = record {
  as_many : length l.marks.items ≡ l.counter;
  none : (x : ℕ) → get_or l.marks.items x false ≡ false;
}
