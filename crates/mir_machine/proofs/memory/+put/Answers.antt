use Rattle.std.proofs.Common.{ap, sym, ◌∙◌}
use Rattle.mir_machine.specs.TreeView.{tree_of, pointer_of}
use Rattle.mir_machine.proofs.Places.{old_made, new_made, old_same, new_same, old_stuck, new_stuck, is_leaf}
use Rattle.mir_machine.proofs.memory.+put.Goals as goal

pub put_in-returns-clause-old : goal.put_in-returns-clause-old
put_in-returns-clause-old t c =
    let path = c.in-Some.ensures.cases.0 in
    let here = c.here.view_is in
    elim c.match-here.branch [
      | goal.put_in-in-Made w ↦ old_made _ _ _ _ _ _ _ _ w.result-is path (sym here ∙ ap tree_of w.in-Made.is) w.put_in_list.ensures.old
      | goal.put_in-in-Pointer w ↦ old_same _ _ _ _ _ (pointer_of w.deref_mut.result.now) w.result-is path (sym here ∙ ap tree_of w.in-Pointer.is ∙ ap pointer_of (sym w.deref_mut.ensures.value)) w.put_in_pointer.ensures.old
      | goal.put_in-in_default-node+in-Made-1 w ↦ old_stuck _ _ _ _ _ _ path (sym here) (is_leaf _ w.in_default-node.not-Made w.in_default-node.not-Pointer) w.result-is
      | goal.put_in-in_default-node+in-Pointer-1 w ↦ old_stuck _ _ _ _ _ _ path (sym here) (is_leaf _ w.in_default-node.not-Made w.in_default-node.not-Pointer) w.result-is
      | goal.put_in-in_default-node+in-Int-1 w ↦ old_stuck _ _ _ _ _ _ path (sym here) (is_leaf _ w.in_default-node.not-Made w.in_default-node.not-Pointer) w.result-is
    ]

pub put_in-returns-clause-new : goal.put_in-returns-clause-new
put_in-returns-clause-new t c =
    let path = c.in-Some.ensures.cases.0 in
    let here = c.here.view_is in
    elim c.match-here.branch [
      | goal.put_in-in-Made w ↦ new_made _ _ _ _ _ c.args.tree _ _ _ _ w.put_in_list.new.trees.items w.result-is path (sym here ∙ ap tree_of w.in-Made.is) (ap (λ h. tree_of h.node) w.here-inside-is) w.put_in_list.ensures.new
      | goal.put_in-in-Pointer w ↦
          new_same _ _ _ _ c.args.tree _ (pointer_of w.deref_mut.result.now) _ (pointer_of w.put_in_pointer.new.pointer) w.result-is path
          (sym here ∙ ap tree_of w.in-Pointer.is ∙ ap pointer_of (sym w.deref_mut.ensures.value)) (ap (λ h. tree_of h.node) w.here-inside-is) w.put_in_pointer.ensures.new
      | goal.put_in-in_default-node+in-Made-1 w ↦ new_stuck _ _ _ _ c.args.tree _ _ _ path (sym here) (is_leaf _ w.in_default-node.not-Made w.in_default-node.not-Pointer) w.result-is
      | goal.put_in-in_default-node+in-Pointer-1 w ↦ new_stuck _ _ _ _ c.args.tree _ _ _ path (sym here) (is_leaf _ w.in_default-node.not-Made w.in_default-node.not-Pointer) w.result-is
      | goal.put_in-in_default-node+in-Int-1 w ↦ new_stuck _ _ _ _ c.args.tree _ _ _ path (sym here) (is_leaf _ w.in_default-node.not-Made w.in_default-node.not-Pointer) w.result-is
    ]
