use Rattle.std.proofs.Common.{◌≡◌, [], ◌∷◌, ◌++◌, ap, sym, ◌∙◌, arith, rules}
use Rattle.std.proofs.lemmas.Grind.{common_steps}
use Rattle.source_trees.specs.PtermView.{span_of}
use Rattle.logic_elab.specs.Chains.{climbed}
use Rattle.logic_elab.specs.Elaborated.{elaborated_under}
use Rattle.logic_elab.proofs.Chains.{down, sizes_down}
use Rattle.logic_elab.proofs.chain.descend.Goals as goal

pub loop-operation-preserved : goal.loop-operation-preserved
loop-operation-preserved c =
    let pushed : c.push.new.self.items ≡ c.loop-operation.operations.items ++ c.in-Some.operation ∷ [] = first_of (search rules, grind (arith, common_steps)) in
    let span = span_of c.loop-operation.bottom.now in
    let sizes = sizes_down c.loop-operation.operations.items c.push.new.self.items c.in-Some.operation span c.loop-operation.bottom.now c.left_of-bottom.result.now _ pushed c.in-Some.ensures c.left_of-bottom.ensures
    c.loop-operation.invariant.smaller c.loop-operation.invariant.operations in
    record {
      elaborated = λ Γ bs.
          c.loop-operation.invariant.elaborated Γ bs
          ∙ down Γ bs c.loop-operation.operations.items c.push.new.self.items c.in-Some.operation span c.loop-operation.bottom.now pushed c.in-Some.ensures
          ∙ ap (λ x. climbed Γ bs c.push.new.self.items (elaborated_under Γ bs x)) (sym c.left_of-bottom.ensures);
      smaller = sizes.0;
      operations = sizes.1;
    }
