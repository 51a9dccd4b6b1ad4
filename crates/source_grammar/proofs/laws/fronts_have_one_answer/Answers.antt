use Rattle.source_grammar.proofs.OneAnswer.{one_front, fault_of_all, front_or_fault}
use Rattle.source_grammar.proofs.laws.fronts_have_one_answer.Goals as goal

pub returns : goal.returns
returns c = record {
  front = λ goal levels kinds one other d e. one_front goal kinds levels one other d e;
  fault = λ goal levels kinds fault a. fault_of_all goal kinds levels fault a;
  either = λ goal levels kinds front fault n d a. front_or_fault goal kinds levels front d fault n a;
}
