use Rattle.proof_kernel.specs.Setting.{setting}
use Rattle.proof_kernel.proofs.KernelLaw.{two_given, no_two}
use Rattle.proof_kernel.proofs.kernel.by_two.Goals as goal

pub returns-in-Some : goal.returns-in-Some
returns-in-Some c = two_given (setting c.args.scope.now) c.args.number c.args.q.now c.in_ok-pair_rule.field-0 c.args.rule c.args.first c.args.second c.in-Some.premises c.in-Some.is c.in_ok-pair_rule.ensures

pub returns-in-None : goal.returns-in-None
returns-in-None c = (no_two (setting c.args.scope.now) c.args.number c.args.q.now c.in_ok-pair_rule.field-0 c.args.rule c.args.first c.args.second c.in-None.is c.in_ok-pair_rule.ensures, λ n. n)
