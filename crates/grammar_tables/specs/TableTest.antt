-- The test that tables state a listed grammar. It computes.
use Rattle.std.specs.Prelude.{ℕ, suc, zero, ◌+◌, Bool, true, false, ◌&&◌, List, [], ◌∷◌, ◌++◌, length, reverse, get_or, nat_lt, nat_eq, Option, Some, None}
use Rattle.grammar_tables.specs.declared.symbol.Symbol.{Symbol}
use Rattle.grammar_tables.specs.declared.symbol.Symbol.TheVariants.{Terminal, Nonterminal}
use Rattle.grammar_tables.specs.Tables.{TableLists, body_at}
use Rattle.grammar_tables.specs.First.{predicted, each_from, all_of, is_in}

abbrev pub same_symbol : Symbol → Symbol → Bool
same_symbol (Terminal j) (Terminal k) = nat_eq j k
same_symbol (Terminal j) (Nonterminal k) = false
same_symbol (Nonterminal j) (Terminal k) = false
same_symbol (Nonterminal j) (Nonterminal k) = nat_eq j k

abbrev pub same_symbols : List Symbol → List Symbol → Bool
same_symbols [] [] = true
same_symbols [] (t ∷ ts) = false
same_symbols (s ∷ ss) [] = false
same_symbols (s ∷ ss) (t ∷ ts) = same_symbol s t && same_symbols ss ts

-- the cells of the kinds from `j` on, and of the end of the text
abbrev pub cells_from : (Option ℕ → ℕ) → ℕ → ℕ → List ℕ
cells_from f j zero = f None ∷ []
cells_from f j (suc c) = f (Some j) ∷ cells_from f (suc j) c

-- the entry of a prediction; 255 is none
abbrev pub code_of : Option ℕ → ℕ
code_of None = 255
code_of (Some i) = i

-- the bodies of the nonterminal's alternatives stand in the tables, each with its last symbol first
abbrev pub states_bodies : TableLists → ℕ → List (List Symbol) → Bool
states_bodies t n alts = each_from (λ i ss. same_symbols (reverse (body_at t n i)) ss) 0 alts

-- and its FIRST has a column for each kind
abbrev pub states_kinds : TableLists → List (List ℕ) → ℕ → List (List Symbol) → Bool
states_kinds t firsts n alts = all_of (λ k. nat_lt k 126) (get_or firsts n []) && states_bodies t n alts

-- and it has as many alternatives as its offsets say
abbrev pub states_offsets : TableLists → List (List ℕ) → ℕ → List (List Symbol) → Bool
states_offsets t firsts n alts = nat_eq (get_or t.offsets n 0 + length alts) (get_or t.offsets (n + 1) 0) && states_kinds t firsts n alts

-- and there are few enough of them for the entries
abbrev pub states_alternatives : TableLists → List (List ℕ) → ℕ → List (List Symbol) → Bool
states_alternatives t firsts n alts = nat_lt (length alts) 255 && states_offsets t firsts n alts

-- the predictions of all nonterminals, row by row
abbrev pub flat_cells : List (List ℕ) → List (List ℕ) → List (List (List Symbol)) → List ℕ
flat_cells classes firsts [] = []
flat_cells classes firsts (alts ∷ g) = cells_from (λ k. code_of (predicted classes firsts k alts)) 0 127 ++ flat_cells classes firsts g

-- whether each of so many kinds from `j` on is in the class
abbrev pub members_from : List ℕ → ℕ → ℕ → List Bool
members_from ks j zero = []
members_from ks j (suc c) = is_in (Some j) ks ∷ members_from ks (suc j) c

-- the members of all classes, class by class
abbrev pub flat_members : List (List ℕ) → List Bool
flat_members [] = []
flat_members (ks ∷ classes) = members_from ks 0 128 ++ flat_members classes

-- the classes are of kinds that have a column
abbrev pub are_kinds : List ℕ → Bool
are_kinds ks = all_of (λ k. nat_lt k 126) ks
