use Rattle.std.proofs.Common.{ap, ◌∙◌, length}
use Rattle.grammar_tables.proofs.LL1Test.{is_ll1_grammar}
use Rattle.grammar_tables.proofs.PlanTest.{plans}
use Rattle.grammar_tables.proofs.TableTest.{states, flat_length}
use Rattle.grammar_tables.proofs.laws.the_tests_show_the_conditions.Goals as goal

pub returns : goal.returns
returns c = record {
  ll1 = λ classes firsts g depths e f. is_ll1_grammar classes firsts g depths e f;
  planned = λ firsts g depths l e f h. plans firsts g depths l e f h;
  stated = λ classes firsts g depths e f t k m h i j. states classes firsts g depths e f t k m h i j (ap length i ∙ flat_length classes firsts g);
}
