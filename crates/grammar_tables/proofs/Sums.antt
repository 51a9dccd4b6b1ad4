-- The example passes the tests, and derives a sum.
use Rattle.std.specs.Prelude.{◌≡◌, ℕ, List, [], ◌∷◌}
use Rattle.std.proofs.Common.{refl}
use Rattle.grammar_tables.specs.declared.symbol.Symbol.{Symbol}
use Rattle.grammar_tables.specs.declared.symbol.Symbol.TheVariants.{Terminal, Nonterminal}
use Rattle.grammar_tables.specs.Grammar.{IsGreedy}
use Rattle.grammar_tables.specs.Grammar.Derives.{done, shift, expand}
use Rattle.grammar_tables.specs.First.{grammar_with, depth_of}
use Rattle.grammar_tables.specs.PlanTest.{PlanLists, plan_of}
use Rattle.grammar_tables.specs.Statements.{DerivesASum, SumsAreLL1, SumsArePlanned}
use Rattle.grammar_tables.specs.Sums.{sum_lines, sums}
use Rattle.grammar_tables.proofs.LL1Test.{is_ll1_grammar}
use Rattle.grammar_tables.proofs.PlanTest.{plans}

abbrev listed : List (List (List Symbol))
listed = ((Nonterminal 1 ∷ Nonterminal 2 ∷ []) ∷ []) ∷ ((Terminal 0 ∷ []) ∷ (Terminal 2 ∷ Nonterminal 0 ∷ Terminal 3 ∷ []) ∷ []) ∷ ((Terminal 1 ∷ Nonterminal 1 ∷ Nonterminal 2 ∷ []) ∷ [] ∷ []) ∷ []

abbrev firsts : List (List ℕ)
firsts = (0 ∷ 2 ∷ []) ∷ (0 ∷ 2 ∷ []) ∷ (1 ∷ []) ∷ []

abbrev depths : List ℕ
depths = 2 ∷ 1 ∷ 1 ∷ []

abbrev plan : PlanLists
plan = record { classes = []; alternatives = 0 ∷ 0 ∷ 1 ∷ []; shorts = (0 ∷ []) ∷ (0 ∷ []) ∷ [] ∷ []; ranks = 2 ∷ 1 ∷ 0 ∷ []; takes = (1 ∷ []) ∷ [] ∷ (1 ∷ []) ∷ [] }

are_sums : sums ≡ grammar_with [] firsts listed
unfolding sums sum_lines
are_sums = refl

pub sums_are_ll1 : SumsAreLL1
sums_are_ll1 = (depth_of depths, rw are_sums (is_ll1_grammar [] firsts listed depths refl refl))

pub sums_are_planned : SumsArePlanned
unfolding sums sum_lines grammar_with
sums_are_planned = (plan_of plan, rw are_sums (plans firsts listed depths plan refl refl refl), refl)

pub derives_a_sum : DerivesASum
unfolding sums sum_lines grammar_with IsGreedy
derives_a_sum =
    expand 0 refl tt (expand 0 refl tt (shift refl (expand 0 refl tt (shift refl (expand 1 refl tt (shift refl
    (expand 0 refl tt (expand 0 refl tt (shift refl (expand 1 refl refl (shift refl (expand 1 refl refl done))))))))))))
