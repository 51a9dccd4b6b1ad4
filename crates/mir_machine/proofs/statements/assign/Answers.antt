use Rattle.std.proofs.Common.{◌≡◌, rules}
use Rattle.std.proofs.lemmas.Result.{err_from_is_err_and}
use Rattle.mir_machine.specs.Halt.{Stops}
use Rattle.mir_machine.specs.Try.{Yields}
use Rattle.mir_machine.specs.Memory.{spot_of}
use Rattle.mir_machine.specs.Taken.{value_of}
use Rattle.mir_machine.proofs.RightSides.{written_stops, put_stops, put_goes}
use Rattle.mir_machine.proofs.statements.assign.Goals as goal

pub returns-in_err-at-clause-assigns : goal.returns-in_err-at-clause-assigns
returns-in_err-at-clause-assigns c =
    let p = err_from_is_err_and c.from_residual-in_err-at.result c.from_residual-in_err-at.ensures.1 in
    let s = c.take_rvalue.new.state in
    let us = c.take_rvalue.new.taken.trees.items in
    let value : value_of c.args.kind c.args.span c.args.rvalue.now us ≡ Yields c.in_ok-tree.tree = search rules in
    let stops : Stops c.in_err-at.field-0.0 (spot_of s c.args.place.now) = rw c.in_err-at.was at c.spot_of-at.ensures in
    rw (p.1, p.2)
    (written_stops c.in_err-at.field-0.0 c.args.state.now s c.args.taken.now.trees.items us c.in_ok-tree.tree c.args.kind c.args.span c.args.rvalue.now c.args.place.now
    c.requires.empty c.in_ok-take_rvalue.ensures.takes value stops)

pub returns-in_err-put_at-clause-assigns : goal.returns-in_err-put_at-clause-assigns
returns-in_err-put_at-clause-assigns c =
    let p = err_from_is_err_and c.from_residual-in_err-put_at.result c.from_residual-in_err-put_at.ensures.1 in
    let s = c.take_rvalue.new.state in
    let us = c.take_rvalue.new.taken.trees.items in
    let value : value_of c.args.kind c.args.span c.args.rvalue.now us ≡ Yields c.in_ok-tree.tree = search rules in
    let found : spot_of s c.args.place.now ≡ Yields c.in_ok-at.field-0 = rw c.in_ok-at.was at c.spot_of-at.ensures in
    rw (p.1, p.2)
    (put_stops c.in_err-put_at.field-0.0 c.args.state.now s c.args.taken.now.trees.items us c.in_ok-tree.tree c.in_ok-at.field-0 c.args.kind c.args.span c.args.rvalue.now c.args.place.now
    c.requires.empty c.in_ok-take_rvalue.ensures.takes value found c.in_err-put_at.ensures.new)

pub returns-clause-assigns : goal.returns-clause-assigns
returns-clause-assigns c =
    let s = c.take_rvalue.new.state in
    let us = c.take_rvalue.new.taken.trees.items in
    let value : value_of c.args.kind c.args.span c.args.rvalue.now us ≡ Yields c.in_ok-tree.tree = search rules in
    let found : spot_of s c.args.place.now ≡ Yields c.in_ok-at.field-0 = rw c.in_ok-at.was at c.spot_of-at.ensures in
    put_goes c.args.state.now s c.put_at.new.state c.args.taken.now.trees.items us c.in_ok-tree.tree c.in_ok-at.field-0 c.args.kind c.args.span c.args.rvalue.now c.args.place.now
    c.requires.empty c.in_ok-take_rvalue.ensures.takes value found c.in_ok-put_at.ensures.new
