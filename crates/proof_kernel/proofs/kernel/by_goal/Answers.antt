use Rattle.proof_kernel.specs.Setting.{setting}
use Rattle.proof_kernel.proofs.KernelLaw.{goal_given, no_goal}
use Rattle.proof_kernel.proofs.kernel.by_goal.Goals as goal

pub returns-in-Some : goal.returns-in-Some
returns-in-Some c = goal_given (setting c.args.scope.now) c.args.number c.args.q.now c.in_ok-goal_rule.field-0 c.args.rule c.in-Some.premises c.in-Some.is c.in_ok-goal_rule.ensures

pub returns-in-None : goal.returns-in-None
returns-in-None c = (no_goal (setting c.args.scope.now) c.args.number c.args.q.now c.in_ok-goal_rule.field-0 c.args.rule c.in-None.is c.in_ok-goal_rule.ensures, λ n. n)
