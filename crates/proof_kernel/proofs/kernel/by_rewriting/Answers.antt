use Rattle.proof_kernel.specs.Setting.{setting}
use Rattle.proof_kernel.proofs.KernelLaw.{rewriting_given, no_rewriting}
use Rattle.proof_kernel.proofs.kernel.by_rewriting.Goals as goal

pub returns-in-Some : goal.returns-in-Some
returns-in-Some c = rewriting_given (setting c.args.scope.now) c.args.number c.args.q.now c.in_ok-rewrite_rule.field-0 c.args.rewriting c.in-Some.premises c.in-Some.is c.in_ok-rewrite_rule.ensures

pub returns-in-None : goal.returns-in-None
returns-in-None c = (no_rewriting (setting c.args.scope.now) c.args.number c.args.q.now c.in_ok-rewrite_rule.field-0 c.args.rewriting c.in-None.is c.in_ok-rewrite_rule.ensures, λ n. n)
