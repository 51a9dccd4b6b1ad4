-- One more step.
use Rattle.std.proofs.Common.{◌≡◌, ◌∙◌, sym, ap, subst, ℕ, ◌+◌, ◌<◌, ◌≤◌, List, [], ◌∷◌, ◌++◌, length, take, get_or, arith}
use Rattle.std.proofs.lemmas.List.{take_more, take_all, map-append}
use Rattle.std.proofs.lemmas.Option.{get_or_from_slice_get, slice_get_within}
use Rattle.proof_kernel.specs.declared.step.Step.{Step}
use Rattle.proof_kernel.specs.Accepts.{Does, Runs, none, more}
use Rattle.proof_kernel.specs.Progress.{Progress}
use Rattle.proof_text.specs.declared.proof.NumberedStep.{NumberedStep}
use Rattle.verify_core.specs.Verdict.{steps_of}
use Rattle.creusot_pages.specs.Attempt.{StopsBehind}

one_more_step : {k m l : Progress} {steps : List Step} (step : Step) → Runs k steps m → Does m step l → Runs k (steps ++ step ∷ []) l
one_more_step step none does = more does none
one_more_step step (more first rest) does = more first (one_more_step step rest does)

pub goes_on : (before : Progress) (steps : List NumberedStep) (i : ℕ) (d : NumberedStep) (k m : Progress) →
    i < length steps → Runs before (steps_of (take i steps)) k → Does k (get_or steps i d).step m → Runs before (steps_of (take (i + 1) steps)) m
goes_on before steps i d k m within runs does =
    let as_steps : steps_of (take (i + 1) steps) ≡ steps_of (take i steps) ++ (get_or steps i d).step ∷ [] =
    ap steps_of (take_more steps i d within) ∙ map-append (λ (n : NumberedStep). n.step) (take i steps) (get_or steps i d ∷ []) in
    subst (λ (ss : List Step). Runs before ss m) (sym as_steps) (one_more_step (get_or steps i d).step runs does)

pub stops_there : (before : Progress) (steps : List NumberedStep) (i : ℕ) (d : NumberedStep) (k m : Progress) →
    m ≡ k → Runs before (steps_of (take i steps)) k → ((next : Progress) → Does k (get_or steps i d).step next → ⊥) → StopsBehind before steps m i
stops_there before steps i d k m same runs never = subst (λ (after : Progress). StopsBehind before steps after i) (sym same) (record {
  runs = runs;
  stops = λ n found. subst (λ (x : NumberedStep). (next : Progress) → Does k x.step next → ⊥) (get_or_from_slice_get steps i n d found) never;
})

pub stops_at_end : (before : Progress) (steps : List NumberedStep) (i : ℕ) (k : Progress) →
    length steps ≤ i → Runs before (steps_of (take i steps)) k → StopsBehind before steps k (length steps)
stops_at_end before steps i k past runs = record {
  runs = subst (λ (ns : List NumberedStep). Runs before (steps_of ns) k) (take_all i steps past ∙ sym (take_all (length steps) steps (omega arith))) runs;
  stops = λ m found. absurd (let within : length steps < length steps = slice_get_within steps (length steps) m found in omega arith);
}

pub done_number : (k m : Progress) (step : Step) → Does k step m → m.step ≡ k.step + 1
done_number k m step does = ap (λ (p : Progress). p.step) does.applies.is
