use Rattle.proof_kernel.specs.Setting.{setting}
use Rattle.proof_kernel.proofs.KernelLaw.{hypothesis_given, no_hypothesis}
use Rattle.proof_kernel.proofs.kernel.by_hypothesis.Goals as goal

pub returns-in-Some : goal.returns-in-Some
returns-in-Some c = hypothesis_given (setting c.args.scope.now) c.args.number c.args.q.now c.in_ok-hypothesis_rule.field-0 c.args.rule c.args.label c.in-Some.premises c.in-Some.is c.in_ok-hypothesis_rule.ensures

pub returns-in-None : goal.returns-in-None
returns-in-None c = (no_hypothesis (setting c.args.scope.now) c.args.number c.args.q.now c.in_ok-hypothesis_rule.field-0 c.args.rule c.args.label c.in-None.is c.in_ok-hypothesis_rule.ensures, λ n. n)
