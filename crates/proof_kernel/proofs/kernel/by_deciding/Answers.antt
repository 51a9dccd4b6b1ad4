use Rattle.proof_kernel.specs.Setting.{setting}
use Rattle.proof_kernel.proofs.KernelLaw.{decide_given, no_decision}
use Rattle.proof_kernel.proofs.kernel.by_deciding.Goals as goal

pub returns-in-Some : goal.returns-in-Some
returns-in-Some c = decide_given (setting c.args.scope.now) c.args.number c.args.q.now c.in_ok-decide_rule.field-0 c.args.label c.args.target c.in-Some.premises c.in-Some.is c.in_ok-decide_rule.ensures

pub returns-in-None : goal.returns-in-None
returns-in-None c = (no_decision (setting c.args.scope.now) c.args.number c.args.q.now c.in_ok-decide_rule.field-0 c.args.label c.args.target c.in-None.is c.in_ok-decide_rule.ensures, λ n. n)
