use Rattle.std.proofs.Common.{◌≡◌, [], ◌∷◌, ap, length, rules, arith, None, Some}
use Rattle.std.proofs.lemmas.List.{length-append}
use Rattle.mir_machine.specs.Try.{Yields}
use Rattle.mir_machine.specs.Tree.{Gone}
use Rattle.mir_machine.specs.Memory.{put_at}
use Rattle.mir_machine.proofs.Undoing.{moved, set_pushed, one_more, put_at-back}
use Rattle.mir_machine.proofs.taken.take_out.Goals as goal

pub returns-clause-takes : goal.returns-clause-takes
returns-clause-takes c =
    let size : c.len-last.result ≡ length c.add.new.self.trees.items = omega (arith, c.len-last.ensures, c.add.new.self.trees.ok.0) in
    let empty : put_at c.args.state.now c.in_ok-at.at Gone ≡ Yields c.put_at.new.state = search rules in
    moved c.args.state.now c.put_at.new.state c.args.place.now c.in_ok-at.at _ _ c.in_ok-tree.tree c.args.taken.now.trees.items _
    c.in_ok-at.ensures c.in_ok-tree_at.ensures.tree c.in_ok-is_there.ensures.tree c.in_ok-tree.ensures.old empty
    (set_pushed c.args.taken.now.trees.items c.add.new.self.trees.items _ c.in_ok-tree.tree c.len-last.result c.in_ok-add.ensures.trees size)

pub returns-clause-ok : goal.returns-clause-ok
returns-clause-ok c =
    let now = c.args.taken.now in
    let size : c.len-last.result ≡ length c.add.new.self.trees.items = omega (arith, c.len-last.ensures, c.add.new.self.trees.ok.0) in
    let count : c.len-last.result ≡ length c.add.new.self.left.items =
    omega (arith, size, ap length c.in_ok-add.ensures.trees, ap length c.in_ok-add.ensures.left, length-append now.trees.items (c.gone.result ∷ []), length-append now.left.items (None ∷ []), c.requires) in
    let empty : put_at c.args.state.now c.in_ok-at.at Gone ≡ Yields c.put_at.new.state = search rules in
    one_more now _ c.args.state.now c.put_at.new.state (Some c.in_ok-at.at) c.in_ok-tree.tree c.requires
    (set_pushed now.trees.items c.add.new.self.trees.items _ c.in_ok-tree.tree c.len-last.result c.in_ok-add.ensures.trees size)
    (set_pushed now.left.items c.add.new.self.left.items None (Some c.in_ok-at.at) c.len-last.result c.in_ok-add.ensures.left count)
    (put_at-back c.args.state.now c.put_at.new.state c.in_ok-at.at Gone c.in_ok-tree.tree empty c.in_ok-tree.ensures.old)
