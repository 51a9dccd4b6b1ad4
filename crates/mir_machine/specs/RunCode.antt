-- A code for runs, by which the logic tells them apart.
use Rattle.std.specs.Prelude.{◌≡◌, refl}
use Rattle.std.specs.Coded.{Coded, code_by, coded×, coded_option, coded_list}
use Rattle.std.specs.Prelude.{Option, Some, None}
use Rattle.text_core.specs.declared.refusal.Cause.{Cause}
use Rattle.text_core.specs.declared.span.Span.{Span}
use Rattle.text_core.specs.contracts.refusal.Cause as cause
use Rattle.text_core.specs.contracts.span.Span as span
use Rattle.mir_ir.specs.contracts.body.Bodies as bodies
use Rattle.mir_ir.specs.declared.body.Bodies.{Bodies}
use Rattle.mir_machine.specs.Tree.{Tree}
use Rattle.mir_machine.specs.TreeCode.{coded_tree}
use Rattle.mir_machine.specs.Frame.{State}
use Rattle.mir_machine.specs.FrameCode.{coded_frame}
use Rattle.mir_machine.specs.Step.{Outcome, Running, Returned, Panicked, Stuck}
use Rattle.mir_machine.specs.Run.{Run}

-- a state with the answer, if there is one; else a panic, if there is one
abbrev pub Stored : Type 0
Stored = Option (State (Unit {0}) × Option (Tree (Unit {0}))) × Option (Cause × Span)

abbrev pub stored : Outcome (Unit {0}) → Stored
stored (Running s) = (Some (s, None), None)
stored (Returned s t) = (Some (s, Some t), None)
stored (Panicked c at) = (None, Some (c, at))
stored Stuck = (None, None)

abbrev pub from_stored : Stored → Outcome (Unit {0})
from_stored (Some (s, None), p) = Running s
from_stored (Some (s, Some t), p) = Returned s t
from_stored (None, Some (c, at)) = Panicked c at
from_stored (None, None) = Stuck

abbrev pub coded_stored : Coded Stored
coded_stored = coded× (coded_option (coded× (coded_list coded_frame) (coded_option coded_tree))) (coded_option (coded× cause.the_row.coded span.the_row.coded))

pub from_stored-stored : (o : Outcome (Unit {0})) → from_stored (stored o) ≡ o
from_stored-stored (Running s) = refl
from_stored-stored (Returned s t) = refl
from_stored-stored (Panicked c at) = refl
from_stored-stored Stuck = refl

abbrev pub coded_outcome : Coded (Outcome (Unit {0}))
coded_outcome = code_by Stored coded_stored stored from_stored from_stored-stored

abbrev pub coded_run : Coded Run
coded_run =
    code_by (Bodies × Outcome (Unit {0})) (coded× bodies.the_row.coded coded_outcome)
    (λ m. (m.bodies, m.outcome))
    (λ p. record { bodies = p.0; outcome = p.1 })
    (λ _. refl)
