use Rattle.std.proofs.Common.{◌≤◌, ap, sym, ◌∙◌, [], ◌∷◌, length, drop, take, length-append, arith}
use Rattle.std.proofs.lemmas.List.{take-append-le}
use Rattle.mir_build.specs.Lowering.{dies_in}
use Rattle.mir_build.specs.Built.{written}
use Rattle.mir_build.specs.Bindings.{all_die}
use Rattle.mir_build.proofs.Runs.{written-append}
use Rattle.mir_build.proofs.Bindings.{one_more}
use Rattle.mir_build.proofs.binding.end_bindings.Goals as goal

pub loop-span-preserved : goal.loop-span-preserved
loop-span-preserved c =
    let outer = c.args.outer in
    let s = c.args.span in
    let n = c.args.before in
    let x = c.in-Some.place in
    let left = c.pop.new.self.items in
    let is = c.in-Some.ensures.items in
    let text = c.loop-span.b.text in
    let within : n ≤ length left = omega (arith, c.loop-span-test.true, c.len.ensures, ap length is, length-append left (x ∷ [])) in
    record {
      text =
          ap (λ t. written (all_die outer s (drop n left)) t) c.in_ok-end_binding.ensures.text
          ∙ sym (written-append (dies_in outer s x.local) (all_die outer s (drop n left)) text)
          ∙ ap (λ xs. written xs text) (sym (one_more outer s n left x within) ∙ ap (λ xs. all_die outer s (drop n xs)) (sym is))
          ∙ c.loop-span.invariant.text;
      labels = c.in_ok-end_binding.ensures.labels ∙ c.loop-span.invariant.labels;
      locals = c.in_ok-end_binding.ensures.locals ∙ c.loop-span.invariant.locals;
      scope = sym (take-append-le n left (x ∷ []) within) ∙ ap (take n) (sym is) ∙ c.loop-span.invariant.scope;
      types = c.loop-span.invariant.types;
      loops = c.loop-span.invariant.loops;
    }
