-- Looking through what is known before a formula, from the last entry back.
use Rattle.std.proofs.Common.{◌≡◌, ℕ, zero, suc, ◌+◌, ◌-◌, ◌<◌, ◌≤◌, ◌==◌, ◌&&◌, ◌||◌, Bool, true, false, List, [], ◌∷◌, ◌++◌, Option, Some, None, length, get_or, drop, drop-cons, add-one, append_assoc, append-nil, refl, sym, ◌∙◌, ap, ap₂, arith}
use Rattle.std.proofs.lemmas.List.{drop_all}
use Rattle.logic_term.specs.declared.subst.Renaming.{Renaming}
use Rattle.std.proofs.lemmas.Bool.Decides.{nat_tests}
use Rattle.text_core.specs.declared.name.Name.{Name}
use Rattle.logic_term.specs.declared.context.Entry.{Entry}
use Rattle.logic_term.specs.declared.context.Entry.TheVariants.{Variable, Known}
use Rattle.logic_term.specs.declared.kinds.Label2.{Label2}
use Rattle.logic_term.specs.Free.{free}
use Rattle.logic_term.specs.Term.{Term}
use Rattle.proof_kernel.specs.Opened.{count_known, known_under, opened_hypotheses, renames_from}
use Rattle.proof_kernel.specs.Rules.{hypothesis, free_in_hyps, same_label}
use Rattle.proof_kernel.proofs.LocalLaw.{or_else, hypothesis_more, free_more, or_false}

-- ---- labels

other_step : (a b m n : ℕ) → (a == b) ≡ false → ((a == b) && (m == n)) ≡ false
other_step a b m n e = rw (e) refl

other_part : (a b m n : ℕ) → (m == n) ≡ false → ((a == b) && (m == n)) ≡ false
other_part a b m n e = by (a == b)
  where
    by : (c : Bool) → (c && (m == n)) ≡ false
    by true = e
    by false = refl

is_other : (m n : ℕ) → (m ≡ n → ⊥) → (m == n) ≡ false
is_other m n d = grind (arith, nat_tests, d)

alone : (l m : Label2) (t : Term) → same_label l m ≡ false → hypothesis l ((m, t) ∷ []) ≡ None
alone l m t e = rw (e) refl

or_none_after : {A : Type 0} (o p : Option A) → p ≡ None → or_else o p ≡ o
or_none_after (Some x) p e = refl
or_none_after None p e = e

-- a hypothesis that it is not leaves those before it
pub looked_past : (l : Label2) (s : ℕ) (names : List Name) (a : Term) (es : List Entry) → (l.step ≡ s → l.part ≡ suc (count_known es) → ⊥)
    → hypothesis l (opened_hypotheses s names (Known a ∷ es)) ≡ hypothesis l (opened_hypotheses s names es)
looked_past l s names a es d =
    hypothesis_more l (opened_hypotheses s names es) ((record { step = s; part = suc (count_known es) }, known_under names es a) ∷ [])
    ∙ or_none_after (hypothesis l (opened_hypotheses s names es)) _ (alone l (record { step = s; part = suc (count_known es) }) (known_under names es a) differs)
  where
    differs : same_label l (record { step = s; part = suc (count_known es) }) ≡ false
    differs = grind (arith, nat_tests, d)

-- of another step there is none
pub none_of_step : (l : Label2) (s : ℕ) (names : List Name) (es : List Entry) → (l.step ≡ s → ⊥) → hypothesis l (opened_hypotheses s names es) ≡ None
none_of_step l s names [] d = refl
none_of_step l s names (Variable x t ∷ es) d = none_of_step l s names es d
none_of_step l s names (Known a ∷ es) d = looked_past l s names a es (λ e f. d e) ∙ none_of_step l s names es d

-- past the last part there is none
none_past : (l : Label2) (s : ℕ) (names : List Name) (es : List Entry) → count_known es < l.part → hypothesis l (opened_hypotheses s names es) ≡ None
none_past l s names [] h = refl
none_past l s names (Variable x t ∷ es) h = none_past l s names es h
none_past l s names (Known a ∷ es) h = looked_past l s names a es (λ e f. absurd (omega (arith, f, h))) ∙ none_past l s names es (omega arith)

self_same : (l : Label2) → same_label l l ≡ true
self_same l = grind (arith, nat_tests)

pub looked_at : (l : Label2) (s : ℕ) (names : List Name) (a : Term) (es : List Entry) → l.step ≡ s → l.part ≡ suc (count_known es)
    → hypothesis l (opened_hypotheses s names (Known a ∷ es)) ≡ Some (known_under names es a)
looked_at l s names a es e f =
    hypothesis_more l (opened_hypotheses s names es) ((record { step = s; part = suc (count_known es) }, known_under names es a) ∷ [])
    ∙ ap (λ o. or_else o (hypothesis l ((record { step = s; part = suc (count_known es) }, known_under names es a) ∷ []))) (none_past l s names es (omega (arith, f)))
    ∙ here
  where
    same : same_label l (record { step = s; part = suc (count_known es) }) ≡ true
    same = grind (arith, nat_tests, e, f)

    here : hypothesis l ((record { step = s; part = suc (count_known es) }, known_under names es a) ∷ []) ≡ Some (known_under names es a)
    here = rw (same) refl

-- ---- free names

known_not_free : (x : Name) (s : ℕ) (names : List Name) (a : Term) (es : List Entry) → free x (known_under names es a) ≡ false
    → free_in_hyps x (opened_hypotheses s names (Known a ∷ es)) ≡ free_in_hyps x (opened_hypotheses s names es)
known_not_free x s names a es h = free_more x (opened_hypotheses s names es) _ ∙ or_false (free_in_hyps x (opened_hypotheses s names es)) _ (or_false_left (free x (known_under names es a)) h)
  where
    or_false_left : (b : Bool) → b ≡ false → (b || false) ≡ false
    or_false_left b e = rw (e) refl

-- ---- from an entry on

pub is_known : (here es : List Entry) (e : Entry) (a : Term) → here ≡ e ∷ es → e ≡ Known a → here ≡ Known a ∷ es
is_known here es e a is known = is ∙ ap (λ f. f ∷ es) known

pub past_known : (l : Label2) (s : ℕ) (names : List Name) (here es : List Entry) (e : Entry) (a : Term) (n : ℕ) (o : Option Term) → here ≡ e ∷ es → e ≡ Known a → n ≡ count_known here
    → (n ≡ l.part → ⊥) → o ≡ hypothesis l (opened_hypotheses s names here) → o ≡ hypothesis l (opened_hypotheses s names es)
past_known l s names here es e a n o is known place d h =
    let all : here ≡ Known a ∷ es = is_known here es e a is known in
    h ∙ ap (λ cs. hypothesis l (opened_hypotheses s names cs)) all ∙ looked_past l s names a es (λ f g. d (place ∙ ap count_known all ∙ sym g))

pub at_known : (l : Label2) (s : ℕ) (names : List Name) (here es : List Entry) (e : Entry) (a : Term) (n : ℕ) (o : Option Term) (t : Term) → here ≡ e ∷ es → e ≡ Known a → n ≡ count_known here
    → n ≡ l.part → l.step ≡ s → t ≡ known_under names es a → o ≡ hypothesis l (opened_hypotheses s names here) → Some t ≡ o
at_known l s names here es e a n o t is known place part step made h =
    let all : here ≡ Known a ∷ es = is_known here es e a is known in
    ap Some made ∙ sym (h ∙ ap (λ cs. hypothesis l (opened_hypotheses s names cs)) all ∙ looked_at l s names a es step (sym part ∙ place ∙ ap count_known all))

pub one_less : (here es : List Entry) (e : Entry) (a : Term) (n : ℕ) → here ≡ e ∷ es → e ≡ Known a → n ≡ count_known here → n ≡ suc (count_known es)
one_less here es e a n is known place = place ∙ ap count_known (is_known here es e a is known)

pub not_free_at_known : (x : Name) (s : ℕ) (names : List Name) (here es : List Entry) (e : Entry) (a t : Term) → here ≡ e ∷ es → e ≡ Known a → t ≡ known_under names es a → free x t ≡ false
    → free_in_hyps x (opened_hypotheses s names here) ≡ free_in_hyps x (opened_hypotheses s names es)
not_free_at_known x s names here es e a t is known made h =
    ap (λ cs. free_in_hyps x (opened_hypotheses s names cs)) (is_known here es e a is known) ∙ known_not_free x s names a es (ap (free x) (sym made) ∙ h)

-- ---- names for numbers

pub one_more_name : (i n j d : ℕ) (names : List Name) (x : Name) (all more whole : List Renaming) → j < length names → x ≡ get_or names j (record { 0 = d }) → i < n
    → whole ≡ all ++ renames_from i (n - i) (drop j names) → more ≡ all ++ record { from = record { 0 = i }; to = x } ∷ [] → whole ≡ more ++ renames_from (i + 1) (n - (i + 1)) (drop (j + 1) names)
one_more_name i n j d names x all more whole l is below h e =
    let left : n - i ≡ suc (n - (i + 1)) = omega arith in
    let here : drop j names ≡ get_or names j (record { 0 = d }) ∷ drop (j + 1) names = rw (add-one, drop-cons names j (record { 0 = d })) refl in
    h ∙ ap₂ (λ k ns. all ++ renames_from i k ns) left here
    ∙ ap₂ (λ y k. all ++ record { from = record { 0 = i }; to = y } ∷ renames_from k (n - (i + 1)) (drop (j + 1) names)) (sym is) (sym (add-one i))
    ∙ sym (append_assoc all (record { from = record { 0 = i }; to = x } ∷ []) (renames_from (i + 1) (n - (i + 1)) (drop (j + 1) names)))
    ∙ ap (λ rs. rs ++ renames_from (i + 1) (n - (i + 1)) (drop (j + 1) names)) (sym e)

none_from : (i n : ℕ) → renames_from i n [] ≡ []
none_from i zero = refl
none_from i (suc n) = refl

pub all_renamed : (i n j : ℕ) (names : List Name) (all whole : List Renaming) → length names ≤ j → whole ≡ all ++ renames_from i (n - i) (drop j names) → all ≡ whole
all_renamed i n j names all whole l h = sym (h ∙ ap (λ ns. all ++ renames_from i (n - i) ns) (drop_all j names l) ∙ ap (λ rs. all ++ rs) (none_from i (n - i)) ∙ append-nil all)
