use Rattle.std.proofs.Common.{arith, rules}
use Rattle.std.proofs.lemmas.Grind.{common_steps}
use Rattle.io_edge.proofs.PieceLemmas.{Appends-piece}
use Rattle.io_edge.proofs.writing.write_all.Goals as goal

pub loop-done-preserved : goal.loop-done-preserved
loop-done-preserved g c = record {
  within = grind (arith, common_steps);
  taken = search (rules, Appends-piece);
  untold = search rules;
  never_falls = omega arith;
}
