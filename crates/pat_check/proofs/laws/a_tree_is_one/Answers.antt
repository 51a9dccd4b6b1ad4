use Rattle.pat_check.specs.Known.{anything}
use Rattle.pat_check.proofs.OneTree.{tree_one}
use Rattle.pat_check.proofs.laws.a_tree_is_one.Goals as goal

pub returns : goal.returns
returns c = λ ds ps D E d e. tree_one ds ps anything D E d e
