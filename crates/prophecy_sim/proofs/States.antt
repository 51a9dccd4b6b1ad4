-- Runs of a program: the first frame stands, and the others wait, each for the answer of the call that it made.
use Rattle.std.proofs.Common.{◌≡◌, ◌∙◌, refl, sym, ap, subst, ℕ, zero, suc, ◌≤◌, List, [], ◌∷◌, length, arith}
use Rattle.logic_term.specs.Meaning.{Env}
use Rattle.logic_term.specs.Ty.{no_tys}
use Rattle.mir_machine.specs.Frame.{Frame, State}
use Rattle.mir_machine.specs.Invariant.{Stop, stop_of, stops, local_at, Behind, one_waits}
use Rattle.mir_machine.specs.Step.{Outcome, Running, Returned, Panicked, Stuck, outcome_of, try_step, step, next, after_from, come_back, entered}
use Rattle.mir_machine.specs.Tree.{Tree}
use Rattle.mir_machine.specs.Try.{Try, Yields, Panics, Sticks}
use Rattle.mir_machine.proofs.Stacks.{behind_some, behind_to, outside_is, Waited, waits_are}
use Rattle.mir_machine.proofs.Tried.{Quiet}
use Rattle.mir_machine.proofs.Writes.{SameElsewhere, same_behind, stops_length}
use Rattle.prophecy_sim.specs.Programs.{Reaches, by_call, by_use, AreProvedFrom, HasTrueObligations}
use Rattle.prophecy_sim.specs.declared.node.Node.TheVariants.{Function}
use Rattle.prophecy_sim.proofs.Setup.{Setup, FunctionOf, program, bodies, own, walked}
use Rattle.prophecy_sim.proofs.Standing.{Standing}
use Rattle.prophecy_sim.proofs.Waits.{IsAnswer, Waiting, waiting_elsewhere, answer_comes}
use Rattle.prophecy_sim.proofs.Ends.{with_call, Continues, CallsFine}
use Rattle.prophecy_sim.proofs.Rows.{first_comes}
use Rattle.prophecy_sim.proofs.Begins.{begins}

-- a call of a function, which began in the environment
pub record CallOf {K : Type 0} (s : Setup K) : Type 0 where
  pub function : FunctionOf s
  pub env : Env

module _ {K : Type 0} (s : Setup K) (top : FunctionOf s) (proved : AreProvedFrom s.theory (program s) (Function top.number)) (top_env : Env) where
  abbrev Reached : CallOf s → Type 0
  Reached c = Reaches (bodies s) (Function top.number) (Function c.function.number)

  -- the first call is that of the outside
  abbrev pub first_call : CallOf s
  first_call = record { function = top; env = top_env }

  -- in a call that the first one may reach, the frame waits for the answer of a call
  pub record Waits (st : State K) (frame : ℕ) (g : Stop) (c d : CallOf s) : Type 0 where
    pub reached : Reached c
    pub waiting : Waiting s c.function c.env st frame g d.function d.env

  -- the first frame stands in a call that the first one may reach, and the others wait behind it
  pub record Runs (st : State K) (g : Stop) (gs : List Stop) : Type 0 where
    pub call : CallOf s
    pub reached : Reached call
    pub standing : Standing s call.function call.env st (length gs) g
    pub behind : Behind (Waits st) first_call call gs

  abbrev pub StateFine : State K → List Stop → Type 0
  StateFine st [] = ⊥
  StateFine st (g ∷ gs) = Runs st g gs

  abbrev pub OutcomeFine : Outcome K → Type 0
  OutcomeFine (Running st) = StateFine st (stops st)
  OutcomeFine (Returned st t) = IsAnswer s st top top_env t
  OutcomeFine (Panicked cause span) = ⊥
  OutcomeFine Stuck = Unit {0}

  fine : (st : State K) (g : Stop) (gs : List Stop) → stops st ≡ g ∷ gs → Runs st g gs → OutcomeFine (Running st)
  fine st g gs e runs = subst (StateFine st) (sym e) runs

  obligations_of : (f : FunctionOf s) → Reaches (bodies s) (Function top.number) (Function f.number) → HasTrueObligations s.theory (walked s f)
  obligations_of f reached = proved f.number f.body (own s f).contract reached f.is_body (own s f).is_contract

  -- frames wait in a state in which no frame but one was changed that is not among them
  waiting_in : {st u : State K} {c : CallOf s} {gs : List Stop} (n : ℕ) → (n ≡ 0 → ⊥) → length gs ≤ n → SameElsewhere n st u → Behind (Waits st) first_call c gs → Behind (Waits u) first_call c gs
  waiting_in {u = u} n inside fewer same behind =
      behind_to n (λ m g c d less w. record {
        reached = w.reached;
        waiting = waiting_elsewhere s c.function c.env u (λ x. same (local_at m x) (λ e. omega (arith, less, e))) (λ at e. same at (λ q. inside (sym q ∙ e))) w.waiting;
      }) fewer behind

  -- ---- answers

  resumed : (c : CallOf s) (t : Tree K) (fr h : Frame K) (us : State K) → IsAnswer s (fr ∷ h ∷ us) c.function c.env t → Waited (Waits (fr ∷ h ∷ us)) first_call c (stop_of fr) (stops (h ∷ us)) →
      Quiet OutcomeFine (come_back (bodies s) t (fr ∷ h ∷ us))
  resumed c t fr h us a w =
      let r = answer_comes s w.caller.function w.caller.env fr h us c.function c.env w.waits.waiting t a in
      subst (Quiet OutcomeFine) (sym r.yields) (fine r.after r.stop (stops (h ∷ us)) r.stay (record {
        call = w.caller;
        reached = w.waits.reached;
        standing = r.standing;
        behind = waiting_in (length (stops (h ∷ us))) (λ e. omega (arith, e)) (omega arith) r.elsewhere w.behind;
      }))

  answered : (c : CallOf s) (t : Tree K) (u : State K) → IsAnswer s u c.function c.env t → Behind (Waits u) first_call c (stops u) → Quiet OutcomeFine (come_back (bodies s) t u)
  answered c t [] a behind = absurd (behind_some behind refl)
  answered c t (out ∷ []) a behind = subst (λ (d : CallOf s). IsAnswer s (out ∷ []) d.function d.env t) (outside_is behind) a
  answered c t (fr ∷ h ∷ us) a behind = resumed c t fr h us a (waits_are behind)

  -- ---- steps

  module _ (fr : Frame K) (fs : State K) (r : Runs (fr ∷ fs) (stop_of fr) (stops fs)) where
    abbrev n : ℕ
    n = length (stops fs)

    inside : n ≡ 0 → ⊥
    inside e = behind_some r.behind e

    called : (u : State K) → stops u ≡ stop_of fr ∷ stops fs → SameElsewhere n (fr ∷ fs) u → (c : CallsFine s r.call.function r.call.env u n (stop_of fr)) → OutcomeFine (Running (with_call s c.callee c.args u))
    called u stay elsewhere c =
        let h : Frame K = entered c.callee.body c.callee.number no_tys c.args in
        let reached' : Reaches (bodies s) (Function top.number) (Function c.callee.number) = by_use r.reached (by_call c.calls) in
        let more : length u ≡ suc n = sym (stops_length u) ∙ ap length stay in
        let other : length u ≡ 0 → ⊥ = λ e. omega (arith, more, e) in
        fine (with_call s c.callee c.args u) (stop_of h) (stop_of fr ∷ stops fs) (ap (λ ks. stop_of h ∷ ks) stay) (record {
          call = record { function = c.callee; env = c.env };
          reached = reached';
          standing = subst (λ i. Standing s c.callee c.env (with_call s c.callee c.args u) i (stop_of h)) more (begins s c.callee (obligations_of c.callee reached') c.env c.args u c.begun);
          behind = one_waits (record { reached = r.reached; waiting = c.waiting })
              (waiting_in (length u) other (omega (arith, more)) (same_behind h u) (waiting_in n inside (omega arith) elsewhere r.behind));
        })

    continues : Continues s r.call.function r.call.env OutcomeFine fr fs
    continues = record {
      stays = λ v h stay elsewhere standing. fine v h (stops fs) stay (record { call = r.call; reached = r.reached; standing = standing; behind = waiting_in n inside (omega arith) elsewhere r.behind });
      calls = called;
      answers = λ t a. answered r.call t fs a
          (waiting_in (length fs) (λ e. inside (stops_length fs ∙ e)) (omega (arith, stops_length fs)) (λ at d. sym (same_behind fr fs at d)) r.behind);
    }

    pub first_fine : Quiet OutcomeFine (try_step s.code (fr ∷ fs))
    first_fine = first_comes s r.call.function r.call.env fr fs inside r.standing OutcomeFine continues

  -- ---- runs

  of_try : (m : Try (Outcome K)) → Quiet OutcomeFine m → OutcomeFine (outcome_of m)
  of_try (Yields o) h = h
  of_try (Panics cause span) h = absurd h
  of_try Sticks h = tt

  step_fine : (st : State K) → OutcomeFine (Running st) → OutcomeFine (step s.code st)
  step_fine [] h = absurd h
  step_fine (fr ∷ fs) h = of_try (try_step s.code (fr ∷ fs)) (first_fine fr fs h)

  next_fine : (o : Outcome K) → OutcomeFine o → OutcomeFine (next s.code o)
  next_fine (Running st) h = step_fine st h
  next_fine (Returned st t) h = h
  next_fine (Panicked cause span) h = h
  next_fine Stuck h = h

  pub run_fine : (n : ℕ) (o : Outcome K) → OutcomeFine o → OutcomeFine (after_from s.code n o)
  run_fine zero o h = h
  run_fine (suc n) o h = next_fine (after_from s.code n o) (run_fine n o h)
