use Rattle.std.proofs.Common.{◌≡◌, ◌+◌, ap, rules, arith}
use Rattle.text_core.specs.declared.refusal.LimitKind.TheVariants.{Frames}
use Rattle.mir_machine.specs.Depth.{IsFull, next_count}
use Rattle.mir_machine.specs.Run.{IsRunning}
use Rattle.mir_machine.specs.RunView.{outcome_at}
use Rattle.mir_machine.proofs.Stepping.{at}
use Rattle.mir_machine.proofs.Depths.{has_room, is_too_deep}
use Rattle.mir_machine.proofs.machine.Machine.has_room.Goals as goal

pub returns-then-not-is_full-clause-ok : goal.returns-then-not-is_full-clause-ok
returns-then-not-is_full-clause-ok g c =
    let m = c.self.inside in
    let running : IsRunning (outcome_at m.state m.status) = rw (← c.self.view_is) at c.requires in
    rw (← c.self.view_is)
    (has_room m.bodies.now m.state m.status c.self.invariant running (λ full. let none = c.if-not-is_full.ensures.1 full in grind arith))

pub returns-clause-limit : goal.returns-clause-limit
returns-clause-limit g c =
    let m = c.self.inside in
    let running : IsRunning (outcome_at m.state m.status) = rw (← c.self.view_is) at c.requires in
    let full : IsFull m.bodies.now m.state = search rules in
    let deep = is_too_deep m.bodies.now m.state m.status c.self.invariant running full in
    let counted : c.frame_count.result + 1 ≡ next_count (at m.bodies.now (outcome_at m.state m.status)) = omega (arith, deep.1, c.frame_count.ensures.count) in
    rw (← c.self.view_is) (deep.0, ap (λ n. record { kind = Frames; counted = n; bound = 10000 }) counted)
