use Rattle.std.proofs.Common.{◌≡◌, ◌≤◌, List}
use Rattle.source_trees.specs.ExprView.{expr_size}
use Rattle.type_check.specs.declared.scope.Variable.{Variable}
use Rattle.type_check.specs.Chains.{climbed, frames_size}
use Rattle.type_check.specs.Setting.{Setting}
use Rattle.type_check.specs.Typing.{typed}
use Rattle.type_check.proofs.chain.descend.Given as goal

abbrev pub invariant-loop-above : goal.invariant-loop-above
invariant-loop-above l = record {
  typed : (σ : Setting) (Γ : List Variable) → typed σ Γ l.e l.expected ≡ climbed σ Γ l.frames.items (typed σ Γ l.bottom l.wanted);
  smaller : expr_size l.bottom ≤ expr_size l.e;
  frames : frames_size l.frames.items ≤ expr_size l.e;
}

abbrev pub decreases-loop-above : goal.decreases-loop-above
decreases-loop-above l = expr_size l.bottom
