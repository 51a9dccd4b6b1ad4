use Rattle.text_core.proofs.NamesLemmas.{HaveOnePlace-texts-empty}
use Rattle.text_core.proofs.names.Names.new.Goals as goal

pub invariant_of-result : goal.invariant_of-result
invariant_of-result c = HaveOnePlace-texts-empty c.new.result c.new.ensures.empty
