use Rattle.std.proofs.Common.{rules}
use Rattle.std.specs.Prelude.{IsTrue}
use Rattle.proof_kernel.specs.Setting.{setting}
use Rattle.proof_kernel.proofs.KernelLaw.{unpack_given}
use Rattle.proof_kernel.proofs.kernel.by_unpacking.Goals as goal

pub returns-in-Some : goal.returns-in-Some
returns-in-Some c =
    let holds : IsTrue c.in_ok-is_new_in.field-0 = search rules in
    unpack_given (setting c.args.scope.now) c.args.number c.args.q.now c.in_ok-unpack_rule.field-0 c.args.label c.args.name c.in-Some.premises (c.in_ok-is_new_in.ensures.0 holds) c.in-Some.is c.in_ok-unpack_rule.ensures
