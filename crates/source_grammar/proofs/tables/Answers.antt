use Rattle.std.proofs.Common.{refl, sym}
use Rattle.grammar_tables.specs.Tables.{depth_in, mark_in}
use Rattle.source_grammar.proofs.Listed.{class_lists, marks, listed}
use Rattle.source_grammar.proofs.Firsts.{firsts, depths}
use Rattle.source_grammar.proofs.Arrays.{symbols, bodies, offsets}
use Rattle.source_grammar.proofs.Conditions.{source_marks_at}
use Rattle.source_grammar.proofs.Stated.{are_stated, are_ll1}
use Rattle.source_grammar.proofs.tables.Goals as goal

pub returns : goal.returns
unfolding symbols bodies offsets class_lists listed firsts depths marks depth_in mark_in
returns c = record {
  grammar = are_stated _ refl refl refl refl refl;
  ll1 = are_ll1 _ _ (are_stated _ refl refl refl refl refl) refl;
  marks = λ n. sym (source_marks_at n);
}
