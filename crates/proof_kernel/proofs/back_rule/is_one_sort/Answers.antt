use Rattle.logic_elab.proofs.SameSorts.{same_ty_is}
use Rattle.proof_kernel.proofs.back_rule.is_one_sort.Goals as goal

pub returns-in-Some-Some : goal.returns-in-Some-Some
returns-in-Some-Some c = rw (c.in-Some-Some.is-0, c.in-Some-Some.is-1) (same_ty_is c.in-Some-Some.s.now c.in-Some-Some.t.now c.same.result c.same.ensures)
