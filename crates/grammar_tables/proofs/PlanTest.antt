-- A plan that passes the test is right.
use Rattle.std.specs.Prelude.{◌≡◌, ℕ, suc, zero, Bool, true, false, not, ◌&&◌, List, [], ◌∷◌, length, get_or, nat_lt, nat_eq, Some, ◌<◌}
use Rattle.std.proofs.Common.{refl, sym, ◌∙◌, subst, true≢false, arith, inl, inr}
use Rattle.grammar_tables.specs.declared.symbol.Symbol.{Symbol}
use Rattle.grammar_tables.specs.declared.symbol.Symbol.TheVariants.{Terminal, Nonterminal}
use Rattle.grammar_tables.specs.Grammar.{begins}
use Rattle.grammar_tables.specs.LL1.{short_text, IsNotTaken, Fits, AreLower, HasPlan, IsPlanned}
use Rattle.grammar_tables.specs.First.{kinds_of, first_of_alternatives, first_step, is_in, grammar_with, all_of, each_from, is_ll1}
use Rattle.grammar_tables.specs.PlanTest.{PlanLists, plan_of, same_kinds, are_within, is_not_taken, fits, are_lower, is_ended, is_planned}
use Rattle.grammar_tables.proofs.LL1Test.{and_left, and_right, or_cases, nat_eq_same, lt_less, all_each, each_at, in_begins, kinds_are}

pub same : (js ks : List ℕ) → same_kinds js ks ≡ true → js ≡ ks
same [] [] e = refl
same [] (k ∷ ks) e = absurd (true≢false (sym e))
same (j ∷ js) [] e = absurd (true≢false (sym e))
same (j ∷ js) (k ∷ ks) e = rw (nat_eq_same j k (and_left (nat_eq j k) (same_kinds js ks) e), same js ks (and_right (nat_eq j k) (same_kinds js ks) e)) refl

within : (js ks : List ℕ) (i : ℕ) → are_within js ks ≡ true → is_in (Some i) js ≡ true → is_in (Some i) ks ≡ true
within [] ks i e f = absurd (true≢false (sym f))
within (j ∷ js) ks i e f = elim (or_cases (nat_eq i j) (is_in (Some i) js) f) [
  | inl g ↦ (let h = nat_eq_same i j g in rw h (and_left (is_in (Some j) ks) (are_within js ks) e))
  | inr g ↦ within js ks i (and_right (is_in (Some j) ks) (are_within js ks) e) g
]

not_true : (b : Bool) → not b ≡ true → b ≡ false
not_true true e = absurd (true≢false (sym e))
not_true false e = refl

not_in : (js ks : List ℕ) (i : ℕ) → are_within js ks ≡ true → is_in (Some i) ks ≡ false → is_in (Some i) js ≡ false
not_in js ks i e f = by (is_in (Some i) js) (within js ks i e)
  where
    by : (b : Bool) → (b ≡ true → is_in (Some i) ks ≡ true) → b ≡ false
    by true h = absurd (true≢false (sym (h refl) ∙ f))
    by false h = refl

module _ (firsts : List (List ℕ)) (g : List (List (List Symbol))) (depths : List ℕ) (l : PlanLists) (fixed : first_step l.classes g firsts ≡ firsts)
    (tested : each_from (is_ll1 firsts depths g) 0 g ≡ true) (planned : each_from (is_planned firsts g l) 0 g ≡ true) where
  inside : (h : List (List (List Symbol))) (i m : ℕ) → i < length (get_or h m []) → m < length h
  inside [] i m l = absurd (omega arith)
  inside (x ∷ h) i zero l = omega arith
  inside (x ∷ h) i (suc m) l = (let z = inside h i m l in omega (arith, z))

  plan_test : (n i : ℕ) → i < length (get_or g n []) → is_planned firsts g l n (get_or g n []) ≡ true
  plan_test n i h = each_at (is_planned firsts g l) 0 g [] n n planned (inside g i n h) (omega arith)

  within_length : (n : ℕ) → HasPlan (grammar_with l.classes firsts g) (plan_of l) n → get_or l.alternatives n 0 < length (get_or g n [])
  unfolding grammar_with
  within_length n h = lt_less (get_or l.alternatives n 0) (length (get_or g n [])) h

  not_taken : (m n : ℕ) (ks : List ℕ) → is_not_taken l m ks n ≡ true → IsNotTaken (plan_of l) m ks n
  unfolding IsNotTaken
  not_taken m n [] e = λ k f. not_in (get_or l.takes m []) (get_or l.takes n []) k e f
  not_taken m n (k ∷ ks) e = not_true (is_in (Some k) (get_or l.takes m [])) e

  fits_true : (n : ℕ) (ps : List Symbol) → fits g l n ps ≡ true → Fits (grammar_with l.classes firsts g) (plan_of l) ps n
  unfolding Fits grammar_with
  fits_true n [] e = tt
  fits_true n (Terminal k ∷ ps) e = (
    and_left (is_in (Some (get_or (kinds_of l.classes k) 0 0)) (kinds_of l.classes k)) (fits g l n ps) e,
    fits_true n ps (and_right (is_in (Some (get_or (kinds_of l.classes k) 0 0)) (kinds_of l.classes k)) (fits g l n ps) e),
  )
  fits_true n (Nonterminal m ∷ ps) e = (
    and_left (nat_lt (get_or l.alternatives m 0) (length (get_or g m []))) (is_not_taken l m (short_text (plan_of l) ps) n && fits g l n ps) e,
    not_taken m n (short_text (plan_of l) ps)
        (and_left (is_not_taken l m (short_text (plan_of l) ps) n) (fits g l n ps) (and_right (nat_lt (get_or l.alternatives m 0) (length (get_or g m []))) (is_not_taken l m (short_text (plan_of l) ps) n && fits g l n ps) e)),
    fits_true n ps (and_right (is_not_taken l m (short_text (plan_of l) ps) n) (fits g l n ps) (and_right (nat_lt (get_or l.alternatives m 0) (length (get_or g m []))) (is_not_taken l m (short_text (plan_of l) ps) n && fits g l n ps) e)),
  )

  lower_true : (b : ℕ) (ps : List Symbol) → are_lower l b ps ≡ true → AreLower (plan_of l) ps b
  unfolding AreLower
  lower_true b [] e = tt
  lower_true b (Terminal k ∷ ps) e = lower_true b ps e
  lower_true b (Nonterminal m ∷ ps) e = (lt_less (get_or l.ranks m 0) b (and_left (nat_lt (get_or l.ranks m 0) b) (are_lower l b ps) e), lower_true b ps (and_right (nat_lt (get_or l.ranks m 0) b) (are_lower l b ps) e))

  fitted : (n r : ℕ) → (grammar_with l.classes firsts g).has n r ≡ true → Fits (grammar_with l.classes firsts g) (plan_of l) ((grammar_with l.classes firsts g).body n r) n
  unfolding grammar_with
  fitted n r h =
      let i : r < length (get_or g n []) = lt_less r (length (get_or g n [])) h in
      let e = and_right _ (all_of (fits g l n) (get_or g n [])) (and_right (are_lower l (get_or l.ranks n 0) (get_or (get_or g n []) (get_or l.alternatives n 0) [])) _
      (and_right (same_kinds (get_or l.shorts n []) (short_text (plan_of l) (get_or (get_or g n []) (get_or l.alternatives n 0) []))) _ (plan_test n r i))) in
      fits_true n (get_or (get_or g n []) r []) (all_each (fits g l n) (get_or g n []) [] r e i)

  shortly : (n : ℕ) → HasPlan (grammar_with l.classes firsts g) (plan_of l) n → get_or l.shorts n [] ≡ short_text (plan_of l) ((grammar_with l.classes firsts g).body n (get_or l.alternatives n 0))
  unfolding grammar_with
  shortly n h = same (get_or l.shorts n []) (short_text (plan_of l) (get_or (get_or g n []) (get_or l.alternatives n 0) []))
      (and_left (same_kinds (get_or l.shorts n []) (short_text (plan_of l) (get_or (get_or g n []) (get_or l.alternatives n 0) []))) _ (plan_test n (get_or l.alternatives n 0) (within_length n h)))

  falls : (n : ℕ) → HasPlan (grammar_with l.classes firsts g) (plan_of l) n → AreLower (plan_of l) ((grammar_with l.classes firsts g).body n (get_or l.alternatives n 0)) (get_or l.ranks n 0)
  unfolding grammar_with
  falls n h = lower_true (get_or l.ranks n 0) (get_or (get_or g n []) (get_or l.alternatives n 0) [])
      (and_left (are_lower l (get_or l.ranks n 0) (get_or (get_or g n []) (get_or l.alternatives n 0) [])) _
      (and_right (same_kinds (get_or l.shorts n []) (short_text (plan_of l) (get_or (get_or g n []) (get_or l.alternatives n 0) []))) _ (plan_test n (get_or l.alternatives n 0) (within_length n h))))

  empty_plan : (n : ℕ) → (grammar_with l.classes firsts g).body n (get_or l.alternatives n 0) ≡ [] → get_or (get_or g n []) (get_or l.alternatives n 0) [] ≡ []
  unfolding grammar_with
  empty_plan n e = e

  ended : (n k : ℕ) → HasPlan (grammar_with l.classes firsts g) (plan_of l) n → (grammar_with l.classes firsts g).body n (get_or l.alternatives n 0) ≡ [] → is_in (Some k) (get_or l.takes n []) ≡ false →
      begins (grammar_with l.classes firsts g) n (Some k) ≡ false
  ended n k h e f = by (begins (grammar_with l.classes firsts g) n (Some k)) refl
    where
      first : is_ended firsts l n (get_or g n []) (get_or (get_or g n []) (get_or l.alternatives n 0) []) ≡ true
      first = and_left (is_ended firsts l n (get_or g n []) (get_or (get_or g n []) (get_or l.alternatives n 0) [])) _
          (and_right (are_lower l (get_or l.ranks n 0) (get_or (get_or g n []) (get_or l.alternatives n 0) [])) _
          (and_right (same_kinds (get_or l.shorts n []) (short_text (plan_of l) (get_or (get_or g n []) (get_or l.alternatives n 0) []))) _ (plan_test n (get_or l.alternatives n 0) (within_length n h))))

      all_in : are_within (first_of_alternatives l.classes firsts (get_or g n [])) (get_or l.takes n []) ≡ true
      all_in = subst (λ (ps : List Symbol). is_ended firsts l n (get_or g n []) ps ≡ true) (empty_plan n e) first

      by : (b : Bool) → begins (grammar_with l.classes firsts g) n (Some k) ≡ b → begins (grammar_with l.classes firsts g) n (Some k) ≡ false
      by false i = i
      by true i = absurd (true≢false (sym (within (first_of_alternatives l.classes firsts (get_or g n [])) (get_or l.takes n []) k all_in
          (subst (λ (ks : List ℕ). is_in (Some k) ks ≡ true) (kinds_are l.classes firsts g depths fixed tested n) (in_begins l.classes firsts g depths fixed tested n (Some k) i))) ∙ f))

  pub plans : IsPlanned (grammar_with l.classes firsts g) (plan_of l)
  plans = record { shortly = shortly; falls = falls; ended = ended; fitted = fitted }
