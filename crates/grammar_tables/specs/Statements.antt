-- The laws, by name.
use Rattle.std.specs.Prelude.{◌≡◌, ℕ, ◌+◌, true, List, [], ◌∷◌, ◌++◌, length}
use Rattle.grammar_tables.specs.declared.symbol.Symbol.{Symbol}
use Rattle.grammar_tables.specs.declared.symbol.Symbol.TheVariants.{Nonterminal}
use Rattle.grammar_tables.specs.Grammar.{Grammar, Derives}
use Rattle.grammar_tables.specs.Parses.{Outcome, accept, reject, Parses, IsRefusal, IsFront}
use Rattle.grammar_tables.specs.LL1.{IsLL1, Plan, IsPlanned, HasPlan}
use Rattle.grammar_tables.specs.First.{first_step, grammar_with, depth_of, each_from, all_of, is_ll1}
use Rattle.grammar_tables.specs.PlanTest.{PlanLists, plan_of, is_planned}
use Rattle.grammar_tables.specs.Tables.{TableLists, grammar_of}
use Rattle.grammar_tables.specs.TableTest.{states_alternatives, flat_cells, flat_members, are_kinds}
use Rattle.grammar_tables.specs.Trees.{Tree, IsTree, preorder, size}
use Rattle.grammar_tables.specs.Sums.{sums}

-- of a grammar that is LL(1), the front that the parser accepts is derived, by the derivation that it gives
abbrev pub AcceptsOnlyDerived : Type 0
AcceptsOnlyDerived = (G : Grammar) (depth : ℕ → ℕ) → IsLL1 G depth → (ss : List Symbol) (xs rs ended ys : List ℕ) → Parses G [] ss xs (accept rs ended ys) →
    (front : List ℕ) × (xs ≡ front ++ ys) × Derives G ss front rs

-- and what is derived is accepted
abbrev pub AcceptsAllDerived : Type 0
AcceptsAllDerived = (G : Grammar) (depth : ℕ → ℕ) → IsLL1 G depth → (ss : List Symbol) (xs rs : List ℕ) → Derives G ss xs rs → (ended : List ℕ) × Parses G [] ss xs (accept rs ended [])

-- a text comes to one outcome, whatever the grammar
abbrev pub HasOneOutcome : Type 0
HasOneOutcome = (G : Grammar) (ended : List ℕ) (ss : List Symbol) (xs : List ℕ) (one other : Outcome) → Parses G ended ss xs one → Parses G ended ss xs other → one ≡ other

-- of a grammar that is LL(1), a text has one leftmost derivation: the grammar is not ambiguous
abbrev pub HasOneDerivation : Type 0
HasOneDerivation = (G : Grammar) (depth : ℕ → ℕ) → IsLL1 G depth → (ss : List Symbol) (xs one other : List ℕ) → Derives G ss xs one → Derives G ss xs other → one ≡ other

-- where the parser stops, the token is the first one that cannot continue: it has the viable prefix property
abbrev pub RefusesTheFirstOffender : Type 0
RefusesTheFirstOffender = (G : Grammar) (depth : ℕ → ℕ) → IsLL1 G depth → (plan : Plan) → IsPlanned G plan → (n : ℕ) → HasPlan G plan n →
    (xs ended ys : List ℕ) (expected : List Symbol) → Parses G [] (Nonterminal n ∷ []) xs (reject ended expected ys) → IsRefusal G (Nonterminal n ∷ []) xs ys

-- and where it accepts a front, it is the longest that is derived as far as the tokens can continue
abbrev pub AcceptsTheLongestFront : Type 0
AcceptsTheLongestFront = (G : Grammar) (depth : ℕ → ℕ) → IsLL1 G depth → (n : ℕ) (xs rs ended ys : List ℕ) → Parses G [] (Nonterminal n ∷ []) xs (accept rs ended ys) → IsFront G (Nonterminal n ∷ []) xs rs ys

-- a grammar with a FIRST that no step changes, and that passes the test, is LL(1)
abbrev pub PassesAsLL1 : Type 0
PassesAsLL1 = (classes firsts : List (List ℕ)) (g : List (List (List Symbol))) (depths : List ℕ) → first_step classes g firsts ≡ firsts →
    each_from (is_ll1 firsts depths g) 0 g ≡ true → IsLL1 (grammar_with classes firsts g) (depth_of depths)

-- and a plan that passes its test brings each of its nonterminals to an end
abbrev pub PassesAsPlanned : Type 0
PassesAsPlanned = (firsts : List (List ℕ)) (g : List (List (List Symbol))) (depths : List ℕ) (l : PlanLists) → first_step l.classes g firsts ≡ firsts → each_from (is_ll1 firsts depths g) 0 g ≡ true →
    each_from (is_planned firsts g l) 0 g ≡ true → IsPlanned (grammar_with l.classes firsts g) (plan_of l)

-- and tables that pass their test state the grammar
abbrev pub PassesAsStated : Type 0
PassesAsStated = (classes firsts : List (List ℕ)) (g : List (List (List Symbol))) (depths : List ℕ) → first_step classes g firsts ≡ firsts → each_from (is_ll1 firsts depths g) 0 g ≡ true →
    (t : TableLists) → all_of are_kinds classes ≡ true → t.members ≡ flat_members classes → each_from (states_alternatives t firsts) 0 g ≡ true → t.predictions ≡ flat_cells classes firsts g →
    length t.offsets ≡ length g + 1 → grammar_of t ≡ grammar_with classes firsts g

-- a derivation is that of a tree with the tokens of the text
abbrev pub HasTree : Type 0
HasTree = (G : Grammar) (n : ℕ) (xs rs : List ℕ) → Derives G (Nonterminal n ∷ []) xs rs → (t : Tree) × IsTree G (Nonterminal n) t × (preorder t ≡ rs) × (size t ≡ length xs)

-- and of no other
abbrev pub HasOneTree : Type 0
HasOneTree = (G : Grammar) (s : Symbol) (one other : Tree) → IsTree G s one → IsTree G s other → preorder one ≡ preorder other → one ≡ other

-- so of a grammar that is LL(1), a text has one tree
abbrev pub TextHasOneTree : Type 0
TextHasOneTree = (G : Grammar) (depth : ℕ → ℕ) → IsLL1 G depth → (n : ℕ) (xs : List ℕ) (one other : Tree) → IsTree G (Nonterminal n) one → IsTree G (Nonterminal n) other →
    Derives G (Nonterminal n ∷ []) xs (preorder one) → Derives G (Nonterminal n ∷ []) xs (preorder other) → one ≡ other

-- the example derives `1 + (2)`
abbrev pub DerivesASum : Type 0
DerivesASum = Derives sums (Nonterminal 0 ∷ []) (0 ∷ 1 ∷ 2 ∷ 0 ∷ 3 ∷ []) (0 ∷ 0 ∷ 0 ∷ 1 ∷ 0 ∷ 0 ∷ 1 ∷ 1 ∷ [])

-- and it is LL(1), and each of its nonterminals can be brought to an end
abbrev pub SumsAreLL1 : Type 0
SumsAreLL1 = (depth : ℕ → ℕ) × IsLL1 sums depth

abbrev pub SumsArePlanned : Type 0
SumsArePlanned = (plan : Plan) × IsPlanned sums plan × HasPlan sums plan 0
