use Rattle.type_check.specs.TypedExprView.{typed_size}
use Rattle.type_check.proofs.typing.+may_write.Given as goal

abbrev pub decreases-may_write : goal.decreases-may_write
decreases-may_write l = typed_size l.target.now
