use Rattle.io_edge.proofs.FaultLemmas.{NoneFalls-raised, RaisesOnly-push}
use Rattle.io_edge.proofs.memory_shelf.note_fault.Goals as goal

pub returns-clause-ok : goal.returns-clause-ok
returns-clause-ok c = rw c.in_ok-push.ensures.items (RaisesOnly-push c.args.name.now c.in_ok-from_str.field-0 c.args.names.now.items c.in_ok-from_str.ensures.ok)

pub returns-clause-none_falls : goal.returns-clause-none_falls
returns-clause-none_falls c = NoneFalls-raised c.args.name.now _ _ (returns-clause-ok c)
