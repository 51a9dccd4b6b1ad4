use Rattle.logic_term.specs.TyView.{ty_size}
use Rattle.pattern_tests.proofs.typing.+core.Given as goal

abbrev pub decreases-core : goal.decreases-core
decreases-core l = ty_size l.t.now
