use Rattle.std.proofs.Common.{rules, ◌≡◌, ◌∙◌, ◌≤◌, ◌∷◌, ap, length, arith, Some, slice_get, reverse}
use Rattle.std.proofs.lemmas.Option.{slice_get_read, slice_get_past}
use Rattle.mir_machine.specs.Try.{need}
use Rattle.mir_machine.proofs.Places.{frame_at-behind, old_in_frame, new_in_frame, behind_set, no_frame}
use Rattle.mir_machine.proofs.memory.put_at.Goals as goal

pub returns-then-number-count-2-clause-old : goal.returns-then-number-count-2-clause-old
returns-then-number-count-2-clause-old c =
    let s = c.state.inside in
    let other : c.args.at.now.frame ≡ length s.behind.items → ⊥ = (λ e. omega arith) in
    let past : length s.behind.items ≤ c.args.at.now.frame = omega arith in
    rw (← c.state.view_is)
    (no_frame (s.running ∷ reverse s.behind.items) c.args.at.now c.args.tree (frame_at-behind s.running s.behind.items c.args.at.now.frame other ∙ ap need (slice_get_past s.behind.items c.args.at.now.frame past))).0

pub returns-then-number-count-2-clause-new : goal.returns-then-number-count-2-clause-new
returns-then-number-count-2-clause-new c =
    let s = c.state.inside in
    let other : c.args.at.now.frame ≡ length s.behind.items → ⊥ = (λ e. omega arith) in
    let past : length s.behind.items ≤ c.args.at.now.frame = omega arith in
    rw (← c.state.view_is)
    (no_frame (s.running ∷ reverse s.behind.items) c.args.at.now c.args.tree (frame_at-behind s.running s.behind.items c.args.at.now.frame other ∙ ap need (slice_get_past s.behind.items c.args.at.now.frame past))).1

pub returns-clause-old : goal.returns-clause-old
returns-clause-old c =
    let s = c.state.inside in
    let other : c.args.at.now.frame ≡ length s.behind.items → ⊥ = (λ e. omega arith) in
    let got : slice_get s.behind.items c.args.at.now.frame ≡ Some c.index_mut.result.now = search (rules, slice_get_read) in
    rw (← c.state.view_is)
    (old_in_frame c.put_in_frame-2.result (s.running ∷ reverse s.behind.items) c.args.at.now c.index_mut.result.now
    (frame_at-behind s.running s.behind.items c.args.at.now.frame other ∙ ap need got) c.put_in_frame-2.ensures.old)

pub returns-clause-new : goal.returns-clause-new
returns-clause-new c =
    let s = c.state.inside in
    let other : c.args.at.now.frame ≡ length s.behind.items → ⊥ = (λ e. omega arith) in
    let got : slice_get s.behind.items c.args.at.now.frame ≡ Some c.index_mut.result.now = search (rules, slice_get_read) in
    rw (← c.state.view_is)
    (new_in_frame c.put_in_frame-2.result (s.running ∷ reverse s.behind.items) _ c.args.at.now c.index_mut.result.now c.put_in_frame-2.new.frame c.args.tree
    (frame_at-behind s.running s.behind.items c.args.at.now.frame other ∙ ap need got) (behind_set s.running c.put_in_frame-2.new.frame s.behind.items c.args.at.now.frame other) c.put_in_frame-2.ensures.new)
