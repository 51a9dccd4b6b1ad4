use Rattle.mir_machine.proofs.Coming.{comes_along}
use Rattle.mir_machine.proofs.Places.{child_made}
use Rattle.mir_machine.proofs.memory.child.Goals as goal

pub returns-in-Made-clause-child : goal.returns-in-Made-clause-child
returns-in-Made-clause-child c =
    let made = child_made c.in-Made.field-0 c.in-Made.parts.items c.args.n in
    rw (← c.tree.view_is, c.in-Made.is)
    (comes_along c.nth.result _ _ (λ t. t.now) made (rw c.deref.ensures.value at c.nth.ensures.tree))
