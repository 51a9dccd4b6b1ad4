-- One more step, and one more obligation.
use Rattle.std.proofs.Common.{◌≡◌, ◌∙◌, refl, sym, ap, subst, ℕ, zero, suc, ◌+◌, ◌<◌, ◌≤◌, List, [], ◌∷◌, ◌++◌, length, take, get_or, Option, None, Some, arith}
use Rattle.std.specs.List.{find}
use Rattle.std.proofs.lemmas.List.{take_more, take_all, map-append}
use Rattle.logic_term.specs.declared.obligation.Obligation.{Obligation}
use Rattle.proof_kernel.specs.declared.setting.Tables.{Tables}
use Rattle.proof_kernel.specs.declared.step.Step.{Step}
use Rattle.proof_kernel.specs.Accepts.{Accepts, Does, Runs, none, more, begun, RefusesFrom, here, later, «open»}
use Rattle.proof_kernel.specs.Progress.{Progress}
use Rattle.proof_text.specs.declared.proof.NumberedStep.{NumberedStep}
use Rattle.proof_text.specs.declared.proof.Proof.{Proof}
use Rattle.report_out.specs.declared.verdict.Reason.{Reason}
use Rattle.report_out.specs.declared.verdict.Reason.TheVariants.{Proof as Refused}
use Rattle.report_out.specs.declared.verdict.LeftItem.{LeftItem}
use Rattle.verify_core.specs.Verdict.{steps_of, line_behind, IsRefusedAt, is_for, Settles, Judges, left_item}
use Rattle.verify_core.specs.VerdictWords.{Checks}

-- ---- the steps of a proof

one_more_step : {k m l : Progress} {steps : List Step} (step : Step) → Runs k steps m → Does m step l → Runs k (steps ++ step ∷ []) l
one_more_step step none does = more does none
one_more_step step (more first rest) does = more first (one_more_step step rest does)

pub begins : (T : Tables) (o : Obligation) (k : Progress) → k ≡ begun T o → Runs (begun T o) [] k
begins T o k e = subst (λ (p : Progress). Runs (begun T o) [] p) (sym e) none

pub goes_on : (T : Tables) (o : Obligation) (steps : List NumberedStep) (i : ℕ) (n : NumberedStep) (k m : Progress) →
    i < length steps → n ≡ get_or steps i n → Runs (begun T o) (steps_of (take i steps)) k → Does k n.step m → Runs (begun T o) (steps_of (take (i + 1) steps)) m
goes_on T o steps i n k m within is runs does =
    let taken : take (i + 1) steps ≡ take i steps ++ n ∷ [] = take_more steps i n within ∙ ap (λ (x : NumberedStep). take i steps ++ x ∷ []) (sym is) in
    let as_steps : steps_of (take (i + 1) steps) ≡ steps_of (take i steps) ++ n.step ∷ [] = ap steps_of taken ∙ map-append (λ (n : NumberedStep). n.step) (take i steps) (n ∷ []) in
    subst (λ (ss : List Step). Runs (begun T o) ss m) (sym as_steps) (one_more_step n.step runs does)

split_at : (xs : List NumberedStep) (i : ℕ) (x : NumberedStep) → i < length xs → x ≡ get_or xs i x → (rest : List NumberedStep) × (xs ≡ take i xs ++ x ∷ rest)
split_at [] i x within is = absurd (omega arith)
split_at (y ∷ ys) zero x within is = (ys, ap (λ (z : NumberedStep). z ∷ ys) (sym is))
split_at (y ∷ ys) (suc i) x within is =
    let found = split_at ys i x (omega arith) is in
    (found.0, ap (λ zs. y ∷ zs) found.1)

-- the steps that run are done, and what comes behind them is refused
refused_step : {k m : Progress} {steps : List Step} (step : Step) (rest : List Step) → Runs k steps m → ((after : Progress) → Does m step after → ⊥) → RefusesFrom k (steps ++ step ∷ rest) (length steps)
refused_step step rest none never = here never
refused_step step rest (more first runs) never = later first (refused_step step rest runs never)

refused_end : {k m : Progress} {steps : List Step} → Runs k steps m → (m.left ≡ [] → ⊥) → RefusesFrom k steps (length steps)
refused_end none is_open = «open» is_open
refused_end (more first runs) is_open = later first (refused_end runs is_open)

line_of_step : (ns : List NumberedStep) (n : NumberedStep) (rest : List NumberedStep) («end» : ℕ) → n.line ≡ line_behind (length (steps_of ns)) (ns ++ n ∷ rest) «end»
line_of_step [] n rest «end» = refl
line_of_step (x ∷ ns) n rest «end» = line_of_step ns n rest «end»

line_of_end : (ns : List NumberedStep) («end» : ℕ) → «end» ≡ line_behind (length (steps_of ns)) ns «end»
line_of_end [] «end» = refl
line_of_end (x ∷ ns) «end» = line_of_end ns «end»

refused_behind : (T : Tables) (o : Obligation) (ns : List NumberedStep) (n : NumberedStep) (rest : List NumberedStep) («end» : ℕ) (k : Progress) →
    Runs (begun T o) (steps_of ns) k → ((after : Progress) → Does k n.step after → ⊥) → IsRefusedAt T o (ns ++ n ∷ rest) «end» n.line
refused_behind T o ns n rest «end» k runs never = record {
  done = length (steps_of ns);
  refuses = subst (λ (ss : List Step). RefusesFrom (begun T o) ss (length (steps_of ns))) (sym (map-append (λ (n : NumberedStep). n.step) ns (n ∷ rest))) (refused_step n.step (steps_of rest) runs never);
  is_line = line_of_step ns n rest «end»;
}

pub refused_there : (T : Tables) (o : Obligation) (steps : List NumberedStep) («end» i : ℕ) (n : NumberedStep) (k : Progress) →
    i < length steps → n ≡ get_or steps i n → Runs (begun T o) (steps_of (take i steps)) k → ((after : Progress) → Does k n.step after → ⊥) → IsRefusedAt T o steps «end» n.line
refused_there T o steps «end» i n k within is runs never =
    let found = split_at steps i n within is in
    subst (λ (ns : List NumberedStep). IsRefusedAt T o ns «end» n.line) (sym found.1) (refused_behind T o (take i steps) n found.0 «end» k runs never)

all_run : (T : Tables) (o : Obligation) (steps : List NumberedStep) (i : ℕ) (k : Progress) → length steps ≤ i → Runs (begun T o) (steps_of (take i steps)) k → Runs (begun T o) (steps_of steps) k
all_run T o steps i k past runs = subst (λ (ns : List NumberedStep). Runs (begun T o) (steps_of ns) k) (take_all i steps past) runs

pub accepted : (T : Tables) (o : Obligation) (steps : List NumberedStep) (i : ℕ) (k : Progress) → length steps ≤ i → Runs (begun T o) (steps_of (take i steps)) k → k.left ≡ [] → Accepts T o (steps_of steps)
accepted T o steps i k past runs closed = record { last = k; runs = all_run T o steps i k past runs; closed = closed }

pub left_open : (T : Tables) (o : Obligation) (steps : List NumberedStep) («end» i : ℕ) (k : Progress) → length steps ≤ i → Runs (begun T o) (steps_of (take i steps)) k → (k.left ≡ [] → ⊥) → IsRefusedAt T o steps «end» «end»
left_open T o steps «end» i k past runs is_open = record { done = length (steps_of steps); refuses = refused_end (all_run T o steps i k past runs) is_open; is_line = line_of_end steps «end» }

-- ---- one obligation

pub proof_accepted : (T : Tables) (ps : List Proof) (o : Obligation) (p : Proof) (steps : List NumberedStep) (r : Option ℕ) →
    find (is_for o) ps ≡ Some p → steps ≡ p.steps → Checks T o steps p.«end» r → r ≡ None → Settles T ps o None
proof_accepted T ps o p steps r found is checks is_none =
    let at : Checks T o steps p.«end» None = subst (λ (x : Option ℕ). Checks T o steps p.«end» x) is_none checks in
    Settles.proved found (subst (λ (ns : List NumberedStep). Accepts T o (steps_of ns)) is at)

pub proof_refused : (T : Tables) (ps : List Proof) (o : Obligation) (p : Proof) (steps : List NumberedStep) (r : Option ℕ) (line : ℕ) →
    find (is_for o) ps ≡ Some p → steps ≡ p.steps → Checks T o steps p.«end» r → r ≡ Some line → Settles T ps o (Some (Refused line))
proof_refused T ps o p steps r line found is checks some =
    let at : Checks T o steps p.«end» (Some line) = subst (λ (x : Option ℕ). Checks T o steps p.«end» x) some checks in
    Settles.refused found (subst (λ (ns : List NumberedStep). IsRefusedAt T o ns p.«end» line) is at)

-- ---- all of them

pub one_more_proved : {T : Tables} {ps : List Proof} {os : List Obligation} {left : List LeftItem} {n : ℕ} {o : Obligation} → Judges T ps os left n → Settles T ps o None → Judges T ps (os ++ o ∷ []) left (suc n)
one_more_proved Judges.none s = Judges.proved s Judges.none
one_more_proved (Judges.proved first rest) s = Judges.proved first (one_more_proved rest s)
one_more_proved (Judges.left first rest) s = Judges.left first (one_more_proved rest s)

pub one_more_left : {T : Tables} {ps : List Proof} {os : List Obligation} {left : List LeftItem} {n : ℕ} {o : Obligation} {r : Reason} → Judges T ps os left n → Settles T ps o (Some r) → Judges T ps (os ++ o ∷ []) (left ++ left_item o r ∷ []) n
one_more_left Judges.none s = Judges.left s Judges.none
one_more_left (Judges.proved first rest) s = Judges.proved first (one_more_left rest s)
one_more_left (Judges.left first rest) s = Judges.left first (one_more_left rest s)

-- ---- numbers of steps

pub done_number : (k m : Progress) (step : Step) → Does k step m → m.step ≡ k.step + 1
done_number k m step does = ap (λ (p : Progress). p.step) does.applies.is
