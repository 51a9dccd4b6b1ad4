use Rattle.std.proofs.Common.{◌≡◌, [], ◌∷◌, ◌++◌, ap, ap₂, sym, ◌∙◌, arith, rules}
use Rattle.std.proofs.lemmas.Grind.{common_steps}
use Rattle.type_check.specs.declared.chain.Frame.{Frame}
use Rattle.type_check.specs.Chains.{climbed, written_above}
use Rattle.type_check.specs.Typing.{typed}
use Rattle.type_check.proofs.Chains.{down, sizes_down}
use Rattle.type_check.proofs.chain.descend.Goals as goal

pub loop-above-preserved : goal.loop-above-preserved
loop-above-preserved c =
    let f : Frame = record { whole = c.span_of-whole.result; above = c.in-Some.above; expected = c.loop-above.wanted } in
    let pushed : c.push.new.self.items ≡ c.loop-above.frames.items ++ f ∷ [] = first_of (search rules, grind (arith, common_steps)) in
    let is : written_above f.whole f.above ≡ c.loop-above.bottom.now = ap (λ s. written_above s c.in-Some.above) c.span_of-whole.ensures ∙ c.in-Some.ensures.written in
    let sizes = sizes_down c.loop-above.frames.items c.push.new.self.items f c.loop-above.bottom.now c.operand_of-bottom.result.now _ pushed is c.operand_of-bottom.ensures
    c.loop-above.invariant.smaller c.loop-above.invariant.frames in
    record {
      typed = λ σ Γ.
          c.loop-above.invariant.typed σ Γ
          ∙ down σ Γ c.loop-above.frames.items c.push.new.self.items f c.loop-above.bottom.now pushed is c.in-Some.ensures.first
          ∙ ap₂ (λ x t. climbed σ Γ c.push.new.self.items (typed σ Γ x t)) (sym c.operand_of-bottom.ensures) (sym c.in_ok-first.ensures);
      smaller = sizes.0;
      frames = sizes.1;
    }
