use Rattle.pearlite.proofs.Asked as asked
use Rattle.pearlite.proofs.Finding as finding
use Rattle.pearlite.proofs.laws.each_part_is_there.Goals as goal

pub returns-clause-lines : goal.returns-clause-lines
returns-clause-lines c = asked.each_part_is_there

pub returns-clause-term : goal.returns-clause-term
returns-clause-term c = asked.a_term_is_there

pub returns-clause-found : goal.returns-clause-found
returns-clause-found c = (finding.type_found, finding.pattern_found, finding.path_found, finding.term_found)
