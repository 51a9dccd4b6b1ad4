-- Answers, and the frames that wait for them.
use Rattle.std.proofs.Common.{◌≡◌, ◌∙◌, refl, sym, ap, subst, [], ◌∷◌, ◌++◌, length, reverse, slice_get}
use Rattle.std.proofs.lemmas.List.{length-reverse}
use Rattle.mir_ir.specs.declared.terminator.TerminatorKind.{TerminatorKind}
use Rattle.mir_ir.specs.declared.terminator.TerminatorKind.TheVariants.{Goto, If, Switch, Call, Return, Panic}
use Rattle.mir_ir.specs.declared.body.Block.{Block}
use Rattle.mir_ir.specs.declared.body.Body.{Body}
use Rattle.mir_ir.specs.declared.body.Bodies.{Bodies}
use Rattle.mir_ir.specs.Body.{block_in}
use Rattle.mir_machine.specs.declared.halt.Halt.{Halt}
use Rattle.mir_machine.specs.declared.ends.Waiting.{Waiting}
use Rattle.mir_machine.specs.declared.spot.Spot.{Spot}
use Rattle.mir_machine.specs.Halt.{Stops}
use Rattle.mir_machine.specs.Try.{Try, Yields, ◌>>=◌, need}
use Rattle.mir_machine.specs.Tree.{Tree}
use Rattle.mir_machine.specs.Frame.{Frame, State}
use Rattle.mir_machine.specs.Memory.{put_at, spot_of, is_there}
use Rattle.mir_machine.specs.Step.{at_label, Outcome, Running, answered, come_back, leave}
use Rattle.mir_machine.specs.Taken.{waiting_at, waiting, given}
use Rattle.mir_machine.proofs.Coming.{stops_then}
use Rattle.mir_machine.proofs.Stepping.{last_first}
use Rattle.mir_machine.proofs.Undoing.{same_there}
use Rattle.mir_machine.proofs.Tried.{then_then, then_same}

abbrev T : Type 0
T = Tree (Unit {0})

abbrev S : Type 0
S = State (Unit {0})

pub give_stops : (h : Halt) (s : S) (w : Waiting) (t : T) → Stops h (put_at s w.at t) → Stops h (given s w t)
give_stops h s w t e = stops_then h (put_at s w.at t) (at_label w.next) e

pub give_goes : (s s₁ s' : S) (w : Waiting) (t : T) → put_at s w.at t ≡ Yields s₁ → at_label w.next s₁ ≡ Yields s' → given s w t ≡ Yields s'
give_goes s s₁ s' w t e h = ap (λ (m : Try S). m >>= at_label w.next) e ∙ h

-- ---- an answer goes to the frame that waits for it

abbrev go_on : S → Try (Outcome (Unit {0}))
go_on s = Yields (Running s)

abbrev take_answer : S → T → Waiting → Try S
take_answer s t w = given s w t

answered-row : (s : S) (t : T) (end : TerminatorKind) → answered t s end ≡ (waiting_at s end >>= take_answer s t)
answered-row s t (Goto l) = refl
answered-row s t (If o on_true on_false) = refl
answered-row s t (Switch p ls) = refl
answered-row s t Return = refl
answered-row s t (Panic cause) = refl
answered-row s t (Call p callee types os l) =
    let waits : Spot → Try Waiting = λ at. Yields (record { at = at; next = l }) in
    then_then (spot_of s p) (λ at. put_at s at t) (at_label l) ∙ then_same (spot_of s p) (λ at. put_at s at t >>= at_label l) (λ at. waits at >>= take_answer s t) (λ at. refl) ∙ sym (then_then (spot_of s p) waits (take_answer s t))

pub come_back-row : (bodies : Bodies) (t : T) (f g : Frame (Unit {0})) (fs : S) → come_back bodies t (f ∷ g ∷ fs) ≡ (waiting bodies (f ∷ g ∷ fs) >>= λ w. given (f ∷ g ∷ fs) w t >>= go_on)
come_back-row bodies t f g fs =
    let s : S = f ∷ g ∷ fs in
    let at_block : Body → Try Block = λ b. need (block_in b.blocks f.label) in
    let answers : Block → Try (Outcome (Unit {0})) = λ k. answered t s k.end.kind >>= go_on in
    let waits : Block → Try Waiting = λ k. waiting_at s k.end.kind in
    let last : Waiting → Try (Outcome (Unit {0})) = λ w. given s w t >>= go_on in
    then_same (need (slice_get bodies.bodies f.function)) (λ b. at_block b >>= answers) (λ b. (at_block b >>= waits) >>= last)
    (λ b.
    then_same (at_block b) answers (λ k. waits k >>= last) (λ k. ap (λ (m : Try S). m >>= go_on) (answered-row s t k.end.kind) ∙ then_then (waits k) (take_answer s t) go_on)
    ∙ sym (then_then (at_block b) waits last))
    ∙ sym (then_then (need (slice_get bodies.bodies f.function)) (λ b. at_block b >>= waits) last)

-- ---- the end of the running frame

ended-row : (bodies : Bodies) (f : Frame (Unit {0})) (fs : S) (t u : T) → need (slice_get f.locals 0) ≡ Yields t → is_there t ≡ Yields u → leave bodies (f ∷ fs) ≡ come_back bodies u fs
ended-row bodies f fs t u is_t is_u =
    ap (λ (m : Try T). m >>= λ t. is_there t >>= λ t'. come_back bodies t' fs) is_t ∙ ap (λ (m : Try T). m >>= λ t'. come_back bodies t' fs) is_u

pub no_local : (h : Halt) (bodies : Bodies) (f : Frame (Unit {0})) (fs : S) → Stops h (need (slice_get f.locals 0)) → Stops h (leave bodies (f ∷ fs))
no_local h bodies f fs e = stops_then h (need (slice_get f.locals 0)) (λ t. is_there t >>= λ t'. come_back bodies t' fs) e

pub no_answer : (h : Halt) (bodies : Bodies) (f : Frame (Unit {0})) (fs : S) (t : T) → need (slice_get f.locals 0) ≡ Yields t → Stops h (is_there t) → Stops h (leave bodies (f ∷ fs))
no_answer h bodies f fs t is_t e =
    subst (Stops h) (sym (ap (λ (m : Try T). m >>= λ t. is_there t >>= λ t'. come_back bodies t' fs) is_t)) (stops_then h (is_there t) (λ t'. come_back bodies t' fs) e)

behind_row : (bodies : Bodies) (t : T) (f : Frame (Unit {0})) (fs : S) → (length fs ≡ 0 → ⊥) → come_back bodies t (f ∷ fs) ≡ (waiting bodies (f ∷ fs) >>= λ w. given (f ∷ fs) w t >>= go_on)
behind_row bodies t f [] some = absurd (some refl)
behind_row bodies t f (g ∷ fs) some = come_back-row bodies t f g fs

-- where a frame is behind the one that ended, which waits at the spot, and behind it there is another
waits_row : (bodies : Bodies) (f g : Frame (Unit {0})) (xs ys : S) (w : Waiting) (t u : T) → xs ≡ ys ++ g ∷ [] → (length ys ≡ 0 → ⊥) → need (slice_get f.locals 0) ≡ Yields t → is_there t ≡ Yields u → waiting bodies (g ∷ reverse ys) ≡ Yields w
    → leave bodies (f ∷ reverse xs) ≡ (given (g ∷ reverse ys) w t >>= go_on)
waits_row bodies f g xs ys w t u is some is_t is_u is_w =
    ended-row bodies f (reverse xs) t u is_t is_u ∙ ap (come_back bodies u) (last_first xs ys g is) ∙ behind_row bodies u g (reverse ys) (λ e. some (sym (length-reverse ys) ∙ e))
    ∙ ap (λ (m : Try Waiting). m >>= λ w. given (g ∷ reverse ys) w u >>= go_on) is_w ∙ ap (λ v. given (g ∷ reverse ys) w v >>= go_on) (sym (same_there t u is_u))

pub leave_stops : (h : Halt) (bodies : Bodies) (f g : Frame (Unit {0})) (xs ys : S) (w : Waiting) (t u : T) → xs ≡ ys ++ g ∷ [] → (length ys ≡ 0 → ⊥) → need (slice_get f.locals 0) ≡ Yields t → is_there t ≡ Yields u
    → waiting bodies (g ∷ reverse ys) ≡ Yields w
    → Stops h (given (g ∷ reverse ys) w t) → Stops h (leave bodies (f ∷ reverse xs))
leave_stops h bodies f g xs ys w t u is some is_t is_u is_w e =
    subst (Stops h) (sym (waits_row bodies f g xs ys w t u is some is_t is_u is_w)) (stops_then h (given (g ∷ reverse ys) w t) go_on e)

pub leave_goes : (bodies : Bodies) (f g : Frame (Unit {0})) (xs ys s' : S) (w : Waiting) (t u : T) → xs ≡ ys ++ g ∷ [] → (length ys ≡ 0 → ⊥) → need (slice_get f.locals 0) ≡ Yields t → is_there t ≡ Yields u → waiting bodies (g ∷ reverse ys) ≡ Yields w
    → given (g ∷ reverse ys) w t ≡ Yields s' → leave bodies (f ∷ reverse xs) ≡ Yields (Running s')
leave_goes bodies f g xs ys s' w t u is some is_t is_u is_w e = waits_row bodies f g xs ys w t u is some is_t is_u is_w ∙ ap (λ (m : Try S). m >>= go_on) e
