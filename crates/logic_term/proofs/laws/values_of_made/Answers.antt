use Rattle.logic_term.specs.Term.{no_terms}
use Rattle.logic_term.specs.Value.{no_values}
use Rattle.logic_term.proofs.Made.{made_exactly}
use Rattle.logic_term.proofs.laws.values_of_made.Goals as goal

pub returns : goal.returns
returns c = record {
  parts = λ S ρ d ts vs h. made_exactly S d ts ρ vs h;
  unit = λ S ρ. made_exactly S _ no_terms ρ no_values (tt {0});
}
