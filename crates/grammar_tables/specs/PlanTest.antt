-- A plan by lists, and the test that it brings each nonterminal of a listed grammar to an end. It computes.
use Rattle.std.specs.Prelude.{ℕ, Bool, true, false, not, ◌&&◌, List, [], ◌∷◌, length, get_or, nat_lt, nat_eq, Some}
use Rattle.grammar_tables.specs.declared.symbol.Symbol.{Symbol}
use Rattle.grammar_tables.specs.declared.symbol.Symbol.TheVariants.{Terminal, Nonterminal}
use Rattle.grammar_tables.specs.LL1.{Plan, short_text}
use Rattle.grammar_tables.specs.First.{kinds_of, first_of_alternatives, is_in, all_of}

pub record PlanLists : Type 0 where
  pub classes : List (List ℕ)
  pub alternatives : List ℕ
  pub shorts : List (List ℕ)
  pub ranks : List ℕ
  pub takes : List (List ℕ)

-- the plan that the lists state, by the numbers of nonterminals
abbrev pub plan_of : PlanLists → Plan
plan_of l = record {
  sample = λ k. get_or (kinds_of l.classes k) 0 0;
  alternative = λ n. get_or l.alternatives n 0;
  short = λ n. get_or l.shorts n [];
  rank = λ n. get_or l.ranks n 0;
  takes = λ n k. is_in (Some k) (get_or l.takes n []);
}

abbrev pub same_kinds : List ℕ → List ℕ → Bool
same_kinds [] [] = true
same_kinds [] (k ∷ ks) = false
same_kinds (j ∷ js) [] = false
same_kinds (j ∷ js) (k ∷ ks) = nat_eq j k && same_kinds js ks

-- all of the first are among the second
abbrev pub are_within : List ℕ → List ℕ → Bool
are_within [] ks = true
are_within (j ∷ js) ks = is_in (Some j) ks && are_within js ks

-- `IsNotTaken` as a test; so are the next three of `Fits`, `AreLower` and `ended`
abbrev pub is_not_taken : PlanLists → ℕ → List ℕ → ℕ → Bool
is_not_taken l m [] n = are_within (get_or l.takes m []) (get_or l.takes n [])
is_not_taken l m (k ∷ ks) n = not (is_in (Some k) (get_or l.takes m []))

abbrev pub fits : List (List (List Symbol)) → PlanLists → ℕ → List Symbol → Bool
fits g l n [] = true
fits g l n (Terminal k ∷ ss) = is_in (Some (get_or (kinds_of l.classes k) 0 0)) (kinds_of l.classes k) && fits g l n ss
fits g l n (Nonterminal m ∷ ss) = nat_lt (get_or l.alternatives m 0) (length (get_or g m [])) && (is_not_taken l m (short_text (plan_of l) ss) n && fits g l n ss)

abbrev pub are_lower : PlanLists → ℕ → List Symbol → Bool
are_lower l b [] = true
are_lower l b (Terminal k ∷ ss) = are_lower l b ss
are_lower l b (Nonterminal m ∷ ss) = nat_lt (get_or l.ranks m 0) b && are_lower l b ss

abbrev pub is_ended : List (List ℕ) → PlanLists → ℕ → List (List Symbol) → List Symbol → Bool
is_ended firsts l n alts [] = are_within (first_of_alternatives l.classes firsts alts) (get_or l.takes n [])
is_ended firsts l n alts (s ∷ ss) = true

-- the nonterminal `n` with these alternatives passes each condition of `IsPlanned`
abbrev pub is_planned : List (List ℕ) → List (List (List Symbol)) → PlanLists → ℕ → List (List Symbol) → Bool
is_planned firsts g l n alts = same_kinds (get_or l.shorts n []) (short_text (plan_of l) (get_or alts (get_or l.alternatives n 0) []))
    && (are_lower l (get_or l.ranks n 0) (get_or alts (get_or l.alternatives n 0) [])
    && (is_ended firsts l n alts (get_or alts (get_or l.alternatives n 0) []) && all_of (fits g l n) alts))
