use Rattle.std.proofs.Common.{◌≡◌, [], ◌∷◌, ◌++◌, length, reverse, slice_get, rules, arith}
use Rattle.std.proofs.lemmas.Result.{err_from_is_err_and}
use Rattle.mir_machine.specs.Halt.{Stops}
use Rattle.mir_machine.specs.Memory.{is_there}
use Rattle.mir_machine.specs.Try.{Yields, need}
use Rattle.mir_machine.specs.Taken.{waiting, given}
use Rattle.mir_machine.proofs.Returns.{leave_stops, leave_goes}
use Rattle.mir_machine.proofs.ends.leave.Goals as goal

pub returns-in_err-give-in-Ok-clause-leaves : goal.returns-in_err-give-in-Ok-clause-leaves
returns-in_err-give-in-Ok-clause-leaves c =
    let p = err_from_is_err_and c.from_residual-in_err-give-in-Ok.result c.from_residual-in_err-give-in-Ok.ensures.1 in
    let h = c.in_err-give-in-Ok.field-0.0 in
    let f = c.state.inside.running in
    let g = c.in-Some.caller in
    let left = c.pop.new.self.items in
    let answer = c.in_ok-first_of-in-Ok.field-0 in
    let popped : c.state.inside.behind.items ≡ left ++ g ∷ [] = search rules in
    let some_left : length left ≡ 0 → ⊥ = (λ e. let no_more = c.if-is_empty.ensures in grind arith) in
    let first : need (slice_get f.locals 0) ≡ Yields answer = search rules in
    let found : waiting c.args.bodies.now (g ∷ reverse left) ≡ Yields c.in-Ok.waiting = search rules in
    let stops : Stops h (given (g ∷ reverse left) c.in-Ok.waiting answer) = search rules in
    let there : is_there answer ≡ Yields c.in_ok-is_there.field-0.now = search rules in
    rw (p.1, p.2, ← c.state.view_is) (leave_stops h c.args.bodies.now f g c.state.inside.behind.items left c.in-Ok.waiting answer _ popped some_left first there found stops)

pub returns-in_ok-give-in-Ok-clause-leaves : goal.returns-in_ok-give-in-Ok-clause-leaves
returns-in_ok-give-in-Ok-clause-leaves c =
    let f = c.state.inside.running in
    let g = c.in-Some.caller in
    let left = c.pop.new.self.items in
    let answer = c.in_ok-first_of-in-Ok.field-0 in
    let popped : c.state.inside.behind.items ≡ left ++ g ∷ [] = search rules in
    let some_left : length left ≡ 0 → ⊥ = (λ e. let no_more = c.if-is_empty.ensures in grind arith) in
    let first : need (slice_get f.locals 0) ≡ Yields answer = search rules in
    let found : waiting c.args.bodies.now (g ∷ reverse left) ≡ Yields c.in-Ok.waiting = search rules in
    let gives : given (g ∷ reverse left) c.in-Ok.waiting answer ≡ Yields c.give.new.state = search rules in
    let there : is_there answer ≡ Yields c.in_ok-is_there.field-0.now = search rules in
    rw (← c.state.view_is) (leave_goes c.args.bodies.now f g c.state.inside.behind.items left c.give.new.state c.in-Ok.waiting answer _ popped some_left first there found gives)
