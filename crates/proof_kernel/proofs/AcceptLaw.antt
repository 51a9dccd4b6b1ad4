-- The kernel accepts exactly the proofs, and refuses at one place.
use Rattle.std.proofs.Common.{◌≡◌, ◌↔◌, ℕ, suc, ◌+◌, ◌<◌, ◌==◌, ◌&&◌, Bool, true, false, cond, List, [], ◌∷◌, ◌++◌, Option, Some, ◌⊎◌, inl, inr, refl, sym, ap, subst, arith, add-one}
use Rattle.std.specs.List.{list_all}
use Rattle.std.proofs.lemmas.Bool.Decides.{nat_tests}
use Rattle.text_core.specs.declared.name.Name.{Name}
use Rattle.logic_term.specs.declared.kinds.Label2.{Label2}
use Rattle.logic_term.specs.declared.obligation.Obligation.{Obligation}
use Rattle.logic_term.specs.Term.{Term}
use Rattle.proof_kernel.specs.Sequent.{Sequent}
use Rattle.proof_kernel.specs.declared.setting.Tables.{Tables}
use Rattle.proof_kernel.specs.declared.step.Step.{Step}
use Rattle.proof_kernel.specs.Rules.{label, same_label, hypothesis}
use Rattle.proof_kernel.specs.Setting.{Setting, setting_of}
use Rattle.proof_kernel.specs.Steps.{labels_of, new_names, IsLabelOf}
use Rattle.proof_kernel.specs.Derivation.{Gives, Derives, no_step, one_step, IsProof}
use Rattle.proof_kernel.specs.Progress.{Progress}
use Rattle.proof_kernel.specs.Kernel.{is_above, cites_above}
use Rattle.proof_kernel.specs.Accepts.{Does, Runs, none, more, begun, Accepts, RefusesFrom, here, later, «open», Refuses}
use Rattle.proof_kernel.proofs.Adds.{given_adds}
use Rattle.proof_kernel.proofs.Each.{Each, Has, each_and}
use Rattle.proof_kernel.proofs.KernelLaw.{at}
use Rattle.proof_kernel.proofs.Once.{applies_once}
use Rattle.proof_kernel.proofs.Sound.{and_true}

-- ---- the labels of a sequent are of steps above, and a cited label is one of them

-- the label is of a step from 1 and below this number
abbrev IsBelow : ℕ → Label2 → Type 0
IsBelow s l = (0 < l.step) × (l.step < s)

-- any name
abbrev IsName : Name → Type 0
IsName x = Unit {0}

-- the labels of the sequent are below
abbrev Below : ℕ → Sequent → Type 0
Below s q = Has (IsBelow s) IsName q

all_names : (xs : List Name) → Each IsName xs
all_names [] = tt
all_names (x ∷ xs) = (tt, all_names xs)

hyps_rise : (s : ℕ) (hs : List (Label2 × Term)) → Each (λ (h : Label2 × Term). IsBelow s h.0) hs → Each (λ (h : Label2 × Term). IsBelow (suc s) h.0) hs
hyps_rise s [] b = tt
hyps_rise s (h ∷ hs) b = ((b.0.0, omega arith), hyps_rise s hs b.1)

sequents_rise : (s : ℕ) (qs : List Sequent) → Each (Below s) qs → Each (Below (suc s)) qs
sequents_rise s [] b = tt
sequents_rise s (q ∷ qs) b = ((hyps_rise s q.hyps b.0.0, b.0.1), sequents_rise s qs b.1)

below_above : (s : ℕ) (l : Label2) → IsBelow s l → is_above s l ≡ true
below_above s l b = grind (arith, nat_tests)

picked : {A : Type 0} (b : Bool) (x t : A) (o : Option A) → cond b (Some x) o ≡ Some t → (b ≡ true) ⊎ (o ≡ Some t)
picked true x t o e = inl refl
picked false x t o e = inr e

same_number : (s : ℕ) (l m : Label2) → same_label l m ≡ true → IsBelow s m → IsBelow s l
same_number s l m e b =
    let both = and_true (l.step == m.step) (l.part == m.part) e in
    let same : l.step ≡ m.step = grind (arith, nat_tests, both.0) in
    (omega (arith, same, b.0), omega (arith, same, b.1))

found_below : (s : ℕ) (l : Label2) (hs : List (Label2 × Term)) (t : Term) → hypothesis l hs ≡ Some t → Each (λ (h : Label2 × Term). IsBelow s h.0) hs → IsBelow s l
found_below s l [] t e b = absurd (cc)
found_below s l (h ∷ hs) t e b = elim (picked (same_label l h.0) h.1 t (hypothesis l hs) e) [
  | inl same ↦ same_number s l h.0 same b.0
  | inr rest ↦ found_below s l hs t rest b.1
]

both : (a b : Bool) → a ≡ true → b ≡ true → (a && b) ≡ true
both a b e f = rw (e, f)

there_above : (s : ℕ) (q : Sequent) (ls : List Label2) → Below s q → Each (IsLabelOf q) ls → list_all (is_above s) ls ≡ true
there_above s q [] b there = refl
there_above s q (l ∷ ls) b there =
    both (is_above s l) (list_all (is_above s) ls) (below_above s l (found_below s l q.hyps there.0.0 there.0.1 b.0)) (there_above s q ls b there.1)

-- ---- what is derived is done

does : (w : Setting) (s : ℕ) (q : Sequent) (ps qs : List Sequent) (step : Step) → Gives w s q step ps → cites_above s step ≡ true → Does (at w s (q ∷ qs)) step (at w (suc s) (ps ++ qs))
does w s q ps qs step g cites = record {
  applies = record { first = q; others = qs; premises = ps; was = refl; gives = g; is = ap (λ n. at w n (ps ++ qs)) (sym (add-one s)) };
  cites = cites;
}

derived_runs : (w : Setting) (s : ℕ) (qs : List Sequent) (steps : List Step) (rs : List Sequent) → 0 < s → Each (Below s) qs → Derives w s qs steps rs
    → (last : Progress) × Runs (at w s qs) steps last × (last.left ≡ rs)
derived_runs w s qs steps rs from b no_step = (at w s qs, none, refl)
derived_runs w s qs steps rs from b (one_step {q = q} {ps = ps} {qs = others} {step = step} {steps = rest} g d) =
    let own : (k : ℕ) → IsBelow (suc s) (label s k) = λ k. (from, omega arith) in
    let given = given_adds (IsBelow (suc s)) IsName s own w q step ps g (all_names (new_names step)) (hyps_rise s q.hyps b.0.0, b.0.1) in
    let below = each_and (Below (suc s)) ps others given.1 (sequents_rise s others b.1) in
    let runs = derived_runs w (suc s) (ps ++ others) rest rs (omega arith) below d in
    (runs.0, more (does w s q ps others step g (there_above s q (labels_of step) b.0 given.0)) runs.1, runs.2)

-- ---- and what is done is derived

run_derives : {k l : Progress} {steps : List Step} → Runs k steps l → Derives k.setting k.step k.left steps l.left
run_derives none = no_step
run_derives {k = k} {l = l} (more {m = m} {step = step} {steps = rest} d runs) =
    let a = d.applies in
    let after : Derives k.setting (k.step + 1) (a.premises ++ a.others) rest l.left = subst (λ (p : Progress). Derives p.setting p.step p.left rest l.left) a.is (run_derives runs) in
    let numbered : Derives k.setting (suc k.step) (a.premises ++ a.others) rest l.left = subst (λ n. Derives k.setting n (a.premises ++ a.others) rest l.left) (add-one k.step) after in
    subst (λ qs. Derives k.setting k.step qs (step ∷ rest) l.left) (sym a.was) (one_step a.gives numbered)

pub accepts_proofs : (T : Tables) (o : Obligation) (steps : List Step) → Accepts T o steps ↔ IsProof T o steps
accepts_proofs T o steps = (
  λ a. subst (λ rs. Derives (setting_of T o) 1 (begun T o).left steps rs) a.closed (run_derives a.runs),
  λ d. let runs = derived_runs (setting_of T o) 1 (begun T o).left steps [] (omega arith) ((tt, tt), tt) d in record { last = runs.0; runs = runs.1; closed = runs.2 },
)

-- ---- one refusal

refusals_from : {k : Progress} {steps : List Step} {m n : ℕ} → RefusesFrom k steps m → RefusesFrom k steps n → m ≡ n
refusals_from (here never) (here other) = refl
refusals_from (here never) (later {m = m} d rest) = absurd (never m d)
refusals_from (later {m = m} d rest) (here never) = absurd (never m d)
refusals_from {k = k} (later {m = m} {step = step} {steps = steps} d rest) (later {m = l} {n = n} other more_rest) =
    let same : l ≡ m = applies_once k l m step other.applies d.applies in
    ap suc (refusals_from rest (subst (λ p. RefusesFrom p steps n) same more_rest))
refusals_from («open» never) («open» other) = refl

runs_or_refuses : {k l : Progress} {steps : List Step} {n : ℕ} → Runs k steps l → l.left ≡ [] → RefusesFrom k steps n → ⊥
runs_or_refuses none closed («open» never) = never closed
runs_or_refuses (more {m = m} d runs) closed (here never) = never m d
runs_or_refuses {k = k} {l = l} (more {m = m} {step = step} {steps = steps} d runs) closed (later {m = p} {n = n} other rest) =
    let same : p ≡ m = applies_once k p m step other.applies d.applies in
    runs_or_refuses runs closed (subst (λ p. RefusesFrom p steps n) same rest)

pub refuses_once : (T : Tables) (o : Obligation) (steps : List Step) (m n : ℕ) → Refuses T o steps m → Refuses T o steps n → m ≡ n
refuses_once T o steps m n a b = refusals_from a b

pub accepts_or_refuses : (T : Tables) (o : Obligation) (steps : List Step) (n : ℕ) → Accepts T o steps → Refuses T o steps n → ⊥
accepts_or_refuses T o steps n a r = runs_or_refuses a.runs a.closed r
