use Rattle.grammar_tables.proofs.Sums.{sums_are_ll1, sums_are_planned, derives_a_sum}
use Rattle.grammar_tables.proofs.laws.sums_meet_the_conditions.Goals as goal

pub returns : goal.returns
returns c = record {
  ll1 = sums_are_ll1;
  planned = sums_are_planned;
  derived = derives_a_sum;
}
