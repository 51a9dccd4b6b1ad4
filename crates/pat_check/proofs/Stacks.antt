-- What is pushed one after another.
use Rattle.std.proofs.Common.{◌≡◌, refl, sym, ap, ◌∙◌, subst, ℕ, zero, suc, ◌+◌, ◌<◌, List, [], ◌∷◌, ◌++◌, length, get_or, take, arith}
use Rattle.pat_check.specs.Known.{Known}
use Rattle.pat_check.specs.States.{states_of}
use Rattle.pat_check.specs.Tasks.{decides}
use Rattle.pat_check.specs.declared.state.State.{State}
use Rattle.pat_check.specs.declared.task.Task.{Task}
use Rattle.pat_check.specs.declared.task.Task.TheVariants as task

assoc : {A : Type 0} (xs ys zs : List A) → (xs ++ ys) ++ zs ≡ xs ++ (ys ++ zs)
assoc [] ys zs = refl
assoc (x ∷ xs) ys zs = ap (λ us. x ∷ us) (assoc xs ys zs)

states_more : (n i : ℕ) (ks : List Known) (k : Known) → k ≡ get_or ks i k → i < length ks → states_of n (take (i + 1) ks) ≡ states_of n (take i ks) ++ record { from = n; known = k } ∷ []
states_more n i ks k e l = subst (λ m. states_of n (take m ks) ≡ states_of n (take i ks) ++ record { from = n; known = k } ∷ []) (let f : suc i ≡ i + 1 = omega arith in f) (more i ks e l)
  where
    more : (i : ℕ) (ks : List Known) → k ≡ get_or ks i k → i < length ks → states_of n (take (suc i) ks) ≡ states_of n (take i ks) ++ record { from = n; known = k } ∷ []
    more i [] e l = absurd (omega arith)
    more zero (x ∷ ks) e l = ap (λ y. record { from = n; known = y } ∷ []) (sym e)
    more (suc i) (x ∷ ks) e l = ap (λ us. record { from = n; known = x } ∷ us) (more i ks e (omega arith))

-- one more state is pushed
pub state_pushed : (n i : ℕ) (ks : List Known) (k : Known) (old now new : List State) → k ≡ get_or ks i k → i < length ks → now ≡ old ++ states_of n (take i ks)
    → new ≡ now ++ record { from = n; known = k } ∷ [] → new ≡ old ++ states_of n (take (i + 1) ks)
state_pushed n i ks k old now new e l h f = f ∙ ap (λ xs. xs ++ record { from = n; known = k } ∷ []) h ∙ assoc old (states_of n (take i ks)) (record { from = n; known = k } ∷ []) ∙ ap (λ xs. old ++ xs) (sym (states_more n i ks k e l))

decides_more : (n i : ℕ) (ks : List Known) (k : Known) → k ≡ get_or ks i k → i < length ks → decides n (take (i + 1) ks) ≡ decides n (take i ks) ++ task.Decide (record { from = n; known = k }) ∷ []
decides_more n i ks k e l = subst (λ m. decides n (take m ks) ≡ decides n (take i ks) ++ task.Decide (record { from = n; known = k }) ∷ []) (let f : suc i ≡ i + 1 = omega arith in f) (more i ks e l)
  where
    more : (i : ℕ) (ks : List Known) → k ≡ get_or ks i k → i < length ks → decides n (take (suc i) ks) ≡ decides n (take i ks) ++ task.Decide (record { from = n; known = k }) ∷ []
    more i [] e l = absurd (omega arith)
    more zero (x ∷ ks) e l = ap (λ y. task.Decide (record { from = n; known = y }) ∷ []) (sym e)
    more (suc i) (x ∷ ks) e l = ap (λ us. task.Decide (record { from = n; known = x }) ∷ us) (more i ks e (omega arith))

-- one more task is pushed
pub task_pushed : (n i : ℕ) (ks : List Known) (k : Known) (old now new : List Task) → k ≡ get_or ks i k → i < length ks → now ≡ old ++ decides n (take i ks)
    → new ≡ now ++ task.Decide (record { from = n; known = k }) ∷ [] → new ≡ old ++ decides n (take (i + 1) ks)
task_pushed n i ks k old now new e l h f = f ∙ ap (λ xs. xs ++ task.Decide (record { from = n; known = k }) ∷ []) h ∙ assoc old (decides n (take i ks))
    (task.Decide (record { from = n; known = k }) ∷ []) ∙ ap (λ xs. old ++ xs) (sym (decides_more n i ks k e l))
