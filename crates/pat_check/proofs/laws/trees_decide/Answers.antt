use Rattle.std.proofs.Common.{refl}
use Rattle.pat_check.specs.Known.{anything}
use Rattle.pat_check.proofs.TreeLaw.{tree_right}
use Rattle.pat_check.proofs.laws.trees_decide.Goals as goal

pub returns : goal.returns
returns c = λ ds ps t D h tree θ v s. tree_right ds ps t θ v h s anything D tree tt refl
