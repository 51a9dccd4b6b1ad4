-- Lists of goals.
use Rattle.std.proofs.Common.{◌≡◌, ◌∙◌, sym, ap, ℕ, zero, suc, ◌+◌, ◌<◌, ◌≤◌, List, [], ◌∷◌, ◌++◌, length, min, get_or, drop, refl, add-zero, add-one, arith, ◌⊎◌, inl, inr}
use Rattle.std.proofs.lemmas.Bool.{cases_lt}
use Rattle.std.proofs.lemmas.List.{drop_more, drop_all, append-nil, append_assoc}
use Rattle.text_core.specs.declared.refusal.Kind.{Kind}
use Rattle.text_core.specs.declared.span.Span.{Span}
use Rattle.logic_term.specs.Term.{Term}
use Rattle.prophecy_logic.specs.declared.goal.Goal.{Goal}
use Rattle.text_core.specs.declared.name.Name.{Name}
use Rattle.logic_term.specs.declared.subst.Replacement.{Replacement}
use Rattle.logic_term.specs.declared.obligation.Obligation.{Obligation}
use Rattle.logic_term.specs.Ty.{Ty}
use Rattle.prophecy_logic.specs.declared.command.Command.{Command}
use Rattle.prophecy_logic.specs.State.{listed}
use Rattle.prophecy_logic.specs.Walk.{first_span, each_goal, entries, parameters}

shorter : (m n i : ℕ) → min m n ≤ i → (m ≤ i) ⊎ (n ≤ i)
shorter m n i h = elim (cases_lt i m) [ inl below ↦ inr (omega arith) | inr above ↦ inl above ]

next_suc : (spans : List Span) (i : ℕ) → drop 1 (drop i spans) ≡ drop (suc i) spans
next_suc [] zero = refl
next_suc [] (suc i) = refl
next_suc (s ∷ spans) zero = refl
next_suc (s ∷ spans) (suc i) = next_suc spans i

next_spans : (spans : List Span) (i : ℕ) → drop 1 (drop i spans) ≡ drop (i + 1) spans
next_spans spans i = next_suc spans i ∙ ap (λ n. drop n spans) (sym (add-one i))

pub one_more_of_each : (k : Kind) (ts : List Term) (spans : List Span) (i : ℕ) (goals new : List Goal) (t : Term) (s : Span) (g : Goal) → i < length ts →
    each_goal k ts spans ≡ goals ++ each_goal k (drop i ts) (drop i spans) → s ≡ first_span (drop i spans) → t ≡ get_or ts i t → g ≡ record { kind = k; span = s; formula = t } → new ≡ goals ++ g ∷ [] →
    each_goal k ts spans ≡ new ++ each_goal k (drop (i + 1) ts) (drop (i + 1) spans)
one_more_of_each k ts spans i goals new t s g within so_far s_is t_is g_is new_is =
    let after : List Goal = each_goal k (drop (i + 1) ts) (drop (i + 1) spans) in
    let taken : each_goal k (drop i ts) (drop i spans) ≡ record { kind = k; span = first_span (drop i spans); formula = get_or ts i t } ∷ each_goal k (drop (i + 1) ts) (drop 1 (drop i spans)) =
    ap (λ us. each_goal k us (drop i spans)) (drop_more ts i t within) in
    let first : g ≡ record { kind = k; span = first_span (drop i spans); formula = get_or ts i t } = g_is ∙ ap (λ (x : Span). record { kind = k; span = x; formula = t }) s_is ∙ ap (λ (u : Term). record { kind = k; span = first_span (drop i spans); formula = u }) t_is in
    so_far ∙ ap (λ gs. goals ++ gs) (taken ∙ ap (λ ss. record { kind = k; span = first_span (drop i spans); formula = get_or ts i t } ∷ each_goal k (drop (i + 1) ts) ss) (next_spans spans i) ∙ ap (λ (x : Goal). x ∷ after) (sym first))
    ∙ sym (append_assoc goals (g ∷ []) after) ∙ ap (λ gs. gs ++ after) (sym new_is)

-- one goal for each formula
pub no_more_goals : (k : Kind) (ts : List Term) (spans : List Span) (i : ℕ) (goals : List Goal) → length ts ≤ i → each_goal k ts spans ≡ goals ++ each_goal k (drop i ts) (drop i spans) → goals ≡ each_goal k ts spans
no_more_goals k ts spans i goals past so_far =
    sym (so_far ∙ ap (λ us. goals ++ each_goal k us (drop i spans)) (drop_all i ts past) ∙ append-nil goals)

no_terms : (xs : List Name) → entries xs [] ≡ []
no_terms [] = refl
no_terms (x ∷ xs) = refl

past_entries : (xs : List Name) (ts : List Term) (i : ℕ) → (length xs ≤ i) ⊎ (length ts ≤ i) → entries (drop i xs) (drop i ts) ≡ []
past_entries xs ts i (inl h) = ap (λ ys. entries ys (drop i ts)) (drop_all i xs h)
past_entries xs ts i (inr h) = ap (entries (drop i xs)) (drop_all i ts h) ∙ no_terms (drop i xs)

-- one entry for each name that has a term
pub no_more_entries : (xs : List Name) (ts : List Term) (i : ℕ) (whole es : List Replacement) → min (length xs) (length ts) ≤ i →
    whole ≡ es ++ entries (drop i xs) (drop i ts) → es ≡ whole
no_more_entries xs ts i whole es past so_far =
    sym (so_far ∙ ap (λ fs. es ++ fs) (past_entries xs ts i (shorter (length xs) (length ts) i past)) ∙ append-nil es)

no_types : (xs : List Name) → parameters xs [] ≡ []
no_types [] = refl
no_types (x ∷ xs) = refl

past_parameters : (xs : List Name) (ts : List Ty) (i : ℕ) → (length xs ≤ i) ⊎ (length ts ≤ i) → parameters (drop i xs) (drop i ts) ≡ []
past_parameters xs ts i (inl h) = ap (λ ys. parameters ys (drop i ts)) (drop_all i xs h)
past_parameters xs ts i (inr h) = ap (parameters (drop i xs)) (drop_all i ts h) ∙ no_types (drop i xs)

-- one parameter for each name that has a type
pub no_more_parameters : (xs : List Name) (ts : List Ty) (i : ℕ) (whole cs : List Command) → min (length xs) (length ts) ≤ i →
    whole ≡ cs ++ parameters (drop i xs) (drop i ts) → cs ≡ whole
no_more_parameters xs ts i whole cs past so_far =
    sym (so_far ∙ ap (λ ds. cs ++ ds) (past_parameters xs ts i (shorter (length xs) (length ts) i past)) ∙ append-nil cs)

-- one obligation more
one_more_obligation : (owner : List ℕ) (n m : ℕ) (gs : List Goal) (g : Goal) → m ≡ n + length gs → listed owner n (gs ++ g ∷ []) ≡ listed owner n gs ++ listed owner m (g ∷ [])
one_more_obligation owner n m [] g e = ap (λ i. listed owner i (g ∷ [])) (sym (add-zero n) ∙ sym e)
one_more_obligation owner n m (h ∷ gs) g e =
    let moved : m ≡ n + 1 + length gs = omega arith in
    ap (λ os. listed owner n (h ∷ []) ++ os) (one_more_obligation owner (n + 1) m gs g moved)

pub one_more_goal : (owner : List ℕ) (first : ℕ) (goals : List Goal) (number : ℕ) (g : Goal) (old new : List Obligation) (o : Obligation) →
    number ≡ first + length goals → old ≡ listed owner first goals → o ∷ [] ≡ listed owner number (g ∷ []) → new ≡ old ++ o ∷ [] → new ≡ listed owner first (goals ++ g ∷ [])
one_more_goal owner first goals number g old new o number_is so_far made pushed =
    pushed ∙ ap (λ os. os ++ o ∷ []) so_far ∙ ap (λ os. listed owner first goals ++ os) made
    ∙ sym (one_more_obligation owner first number goals g number_is)
