use Rattle.std.proofs.Common.{◌≡◌, ◌∷◌, [], ◌∙◌, sym, ap}
use Rattle.proof_kernel.specs.Dropped.{free_but_in}
use Rattle.proof_kernel.specs.LocalContext.{hypotheses_in}
use Rattle.proof_kernel.proofs.DroppedLaw.{free_without_drops, none_free_before, some_free_here}
use Rattle.proof_kernel.proofs.local_context.LocalContext.is_free.Goals as goal

pub loop-entry-init : goal.loop-entry-init
loop-entry-init c =
    free_without_drops c.args.name (hypotheses_in c.args.self.now) ∙ ap (λ ls. free_but_in c.args.name ls (hypotheses_in c.args.self.now)) (sym c.new-dropped.ensures.items)

pub returns-then-branch : goal.returns-then-branch
returns-then-branch c =
    let here : free_but_in c.args.name c.loop-entry.dropped.items (hypotheses_in (c.in-Some.entry.now ∷ [])) ≡ c.in_ok-is_free_at.field-0 =
    ap (λ ls. free_but_in c.args.name ls (hypotheses_in (c.in-Some.entry.now ∷ []))) (sym c.as_slice.ensures.value) ∙ sym c.in_ok-is_free_at.ensures in
    sym (c.loop-entry.invariant ∙ some_free_here c.args.name c.loop-entry.dropped.items c.in-Some.entry.now c.loop-entry.here.now c.in-Some.before.now c.in-Some.ensures (here ∙ c.if-branch.true))

pub loop-entry-preserved : goal.loop-entry-preserved
loop-entry-preserved c =
    let here : free_but_in c.args.name c.loop-entry.dropped.items (hypotheses_in (c.in-Some.entry.now ∷ [])) ≡ c.in_ok-is_free_at.field-0 =
    ap (λ ls. free_but_in c.args.name ls (hypotheses_in (c.in-Some.entry.now ∷ []))) (sym c.as_slice.ensures.value) ∙ sym c.in_ok-is_free_at.ensures in
    c.loop-entry.invariant
    ∙ none_free_before c.args.name c.loop-entry.dropped.items c.in-Some.entry.now c.loop-entry.here.now c.in-Some.before.now c.in-Some.ensures (here ∙ c.if-branch.false)
    ∙ ap (λ ls. free_but_in c.args.name ls (hypotheses_in c.in-Some.before.now)) (sym c.in_ok-add_dropped.ensures)
