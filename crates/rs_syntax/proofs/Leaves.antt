-- What each nonterminal of the grammar leaves among the parts of the line around it, where nothing is made of it. Made by `python3 tools/leaves.py` of tools/source.ebnf.
use Rattle.std.specs.Prelude.{ℕ, Bool, true, false, List, [], ◌∷◌}
use Rattle.pearlite.proofs.Serving.{Leaves, no_parts}

abbrev left : List (List ℕ) → List (List ℕ) → Bool → List ℕ → List ℕ → List ℕ → Bool → Leaves
left surely begins exact only single ending empty = record { surely = surely; begins = begins; exact = exact; only = only; single = single; ending = ending; empty = empty }

unfoldable pub leaves : List Leaves
leaves =
    left [] [] false (0 ∷ 10 ∷ 32 ∷ []) (32 ∷ []) (0 ∷ 32 ∷ []) true
    ∷ left [] ((0 ∷ 32 ∷ []) ∷ []) false (0 ∷ 10 ∷ 32 ∷ []) (32 ∷ []) (0 ∷ 32 ∷ []) false
    ∷ left [] [] false (32 ∷ []) (32 ∷ []) (32 ∷ []) true
    ∷ no_parts
    ∷ no_parts
    ∷ no_parts
    ∷ no_parts
    ∷ left ((25 ∷ 31 ∷ []) ∷ []) ((0 ∷ 25 ∷ 31 ∷ []) ∷ []) false (0 ∷ 5 ∷ 10 ∷ 11 ∷ 18 ∷ 25 ∷ 31 ∷ []) (31 ∷ []) (0 ∷ 11 ∷ 31 ∷ []) false
    ∷ left ((0 ∷ []) ∷ (25 ∷ 31 ∷ []) ∷ []) ((0 ∷ 18 ∷ []) ∷ []) false (0 ∷ 5 ∷ 10 ∷ 11 ∷ 18 ∷ 25 ∷ 31 ∷ []) [] (0 ∷ 11 ∷ 31 ∷ []) false
    ∷ left ((25 ∷ 31 ∷ []) ∷ []) ((0 ∷ 25 ∷ 31 ∷ []) ∷ []) false (0 ∷ 5 ∷ 10 ∷ 18 ∷ 25 ∷ 31 ∷ []) (31 ∷ []) (0 ∷ 31 ∷ []) false
    ∷ left ((0 ∷ []) ∷ (25 ∷ 31 ∷ []) ∷ []) ((0 ∷ 18 ∷ []) ∷ []) false (0 ∷ 5 ∷ 10 ∷ 18 ∷ 25 ∷ 31 ∷ []) [] (0 ∷ 31 ∷ []) false
    ∷ left ((25 ∷ 31 ∷ []) ∷ []) ((0 ∷ 25 ∷ 31 ∷ []) ∷ []) false (0 ∷ 10 ∷ 18 ∷ 25 ∷ 31 ∷ []) (31 ∷ []) (0 ∷ 31 ∷ []) false
    ∷ left [] ((0 ∷ 18 ∷ []) ∷ []) false (0 ∷ 10 ∷ 18 ∷ []) (0 ∷ 18 ∷ []) (0 ∷ 10 ∷ 18 ∷ []) false
    ∷ left ((25 ∷ 31 ∷ []) ∷ []) ((0 ∷ 25 ∷ 31 ∷ []) ∷ []) false (0 ∷ 11 ∷ 25 ∷ 31 ∷ []) (31 ∷ []) (11 ∷ 31 ∷ []) false
    ∷ left ((31 ∷ []) ∷ []) ((31 ∷ []) ∷ []) true (31 ∷ []) (31 ∷ []) (31 ∷ []) false
    ∷ left ((0 ∷ []) ∷ []) ((0 ∷ []) ∷ []) false (0 ∷ []) (0 ∷ []) (0 ∷ []) false
    ∷ left [] ((0 ∷ 18 ∷ []) ∷ []) false (0 ∷ 10 ∷ 18 ∷ []) (18 ∷ []) (10 ∷ 18 ∷ []) false
    ∷ left ((0 ∷ []) ∷ (0 ∷ []) ∷ []) ((0 ∷ []) ∷ (0 ∷ 18 ∷ []) ∷ []) false (0 ∷ 10 ∷ 18 ∷ []) [] (0 ∷ []) false
    ∷ left [] ((0 ∷ 18 ∷ []) ∷ []) false (0 ∷ 10 ∷ 18 ∷ []) (18 ∷ []) (10 ∷ 18 ∷ []) false
    ∷ no_parts
    ∷ no_parts
    ∷ left ((31 ∷ []) ∷ []) ((31 ∷ []) ∷ []) true (31 ∷ []) (31 ∷ []) (31 ∷ []) false
    ∷ no_parts
    ∷ no_parts
    ∷ no_parts
    ∷ left ((0 ∷ []) ∷ (0 ∷ []) ∷ []) ((0 ∷ []) ∷ []) false (0 ∷ 24 ∷ []) [] (0 ∷ []) false
    ∷ left ((0 ∷ []) ∷ (5 ∷ []) ∷ (0 ∷ []) ∷ []) ((0 ∷ []) ∷ (0 ∷ 5 ∷ []) ∷ []) false (0 ∷ 5 ∷ []) [] (0 ∷ []) false
    ∷ no_parts
    ∷ left ((19 ∷ []) ∷ []) ((19 ∷ []) ∷ []) true (19 ∷ []) (19 ∷ []) (19 ∷ []) false
    ∷ no_parts
    ∷ no_parts
    ∷ no_parts
    ∷ left [] [] false (0 ∷ 22 ∷ []) (22 ∷ []) (0 ∷ 22 ∷ []) true
    ∷ left ((22 ∷ []) ∷ []) ((22 ∷ []) ∷ []) true (22 ∷ []) (22 ∷ []) (22 ∷ []) false
    ∷ no_parts
    ∷ no_parts
    ∷ left ((21 ∷ []) ∷ []) ((21 ∷ []) ∷ []) false (0 ∷ 21 ∷ []) (21 ∷ []) (21 ∷ []) false
    ∷ left ((21 ∷ []) ∷ []) ((21 ∷ []) ∷ []) true (21 ∷ []) (21 ∷ []) (21 ∷ []) false
    ∷ no_parts
    ∷ no_parts
    ∷ left ((0 ∷ []) ∷ (0 ∷ []) ∷ []) ((0 ∷ []) ∷ []) false (0 ∷ 1 ∷ []) [] (0 ∷ []) false
    ∷ left ((24 ∷ []) ∷ []) ((0 ∷ 24 ∷ []) ∷ []) false (0 ∷ 24 ∷ []) (24 ∷ []) (24 ∷ []) false
    ∷ no_parts
    ∷ left ((24 ∷ []) ∷ []) ((24 ∷ []) ∷ []) true (24 ∷ []) (24 ∷ []) (24 ∷ []) false
    ∷ no_parts
    ∷ no_parts
    ∷ no_parts
    ∷ no_parts
    ∷ no_parts
    ∷ left ((0 ∷ []) ∷ (0 ∷ []) ∷ []) ((0 ∷ []) ∷ []) false (0 ∷ 26 ∷ []) [] (0 ∷ []) false
    ∷ left ((0 ∷ []) ∷ (0 ∷ []) ∷ []) ((0 ∷ []) ∷ []) false (0 ∷ 26 ∷ []) [] (0 ∷ []) false
    ∷ no_parts
    ∷ no_parts
    ∷ no_parts
    ∷ no_parts
    ∷ left ((0 ∷ []) ∷ (0 ∷ []) ∷ []) ((0 ∷ []) ∷ []) false (0 ∷ 26 ∷ []) [] (0 ∷ []) false
    ∷ no_parts
    ∷ no_parts
    ∷ no_parts
    ∷ left ((25 ∷ []) ∷ (0 ∷ []) ∷ []) ((0 ∷ 25 ∷ []) ∷ (0 ∷ []) ∷ []) false (0 ∷ 10 ∷ 18 ∷ 25 ∷ []) [] (0 ∷ []) false
    ∷ no_parts
    ∷ no_parts
    ∷ left ((0 ∷ []) ∷ (0 ∷ []) ∷ []) ((0 ∷ []) ∷ []) false (0 ∷ 28 ∷ 29 ∷ []) [] (0 ∷ []) false
    ∷ left [] [] false (28 ∷ 29 ∷ []) (28 ∷ 29 ∷ []) (28 ∷ 29 ∷ []) true
    ∷ left [] ((28 ∷ 29 ∷ []) ∷ []) true (28 ∷ 29 ∷ []) (28 ∷ 29 ∷ []) (28 ∷ 29 ∷ []) false
    ∷ no_parts
    ∷ no_parts
    ∷ left ((25 ∷ []) ∷ []) ((0 ∷ 25 ∷ []) ∷ (0 ∷ 11 ∷ 25 ∷ []) ∷ []) false (0 ∷ 5 ∷ 10 ∷ 11 ∷ 18 ∷ 25 ∷ []) [] (0 ∷ 11 ∷ []) false
    ∷ left ((0 ∷ []) ∷ (25 ∷ []) ∷ []) ((0 ∷ 18 ∷ []) ∷ []) false (0 ∷ 5 ∷ 10 ∷ 11 ∷ 18 ∷ 25 ∷ []) [] (0 ∷ 11 ∷ []) false
    ∷ left ((25 ∷ []) ∷ (0 ∷ []) ∷ []) ((0 ∷ 25 ∷ []) ∷ (0 ∷ 25 ∷ []) ∷ []) false (0 ∷ 5 ∷ 10 ∷ 18 ∷ 25 ∷ []) [] (0 ∷ []) false
    ∷ left ((0 ∷ []) ∷ (25 ∷ []) ∷ (0 ∷ []) ∷ []) ((0 ∷ 18 ∷ []) ∷ []) false (0 ∷ 5 ∷ 10 ∷ 18 ∷ 25 ∷ []) [] (0 ∷ []) false
    ∷ left ((25 ∷ []) ∷ (0 ∷ []) ∷ []) ((0 ∷ 25 ∷ []) ∷ (0 ∷ 25 ∷ []) ∷ []) false (0 ∷ 10 ∷ 18 ∷ 25 ∷ []) [] (0 ∷ []) false
    ∷ left ((1 ∷ []) ∷ []) ((1 ∷ []) ∷ []) true (1 ∷ []) (1 ∷ []) (1 ∷ []) false
    ∷ no_parts
    ∷ left ((0 ∷ []) ∷ (0 ∷ []) ∷ []) ((0 ∷ []) ∷ []) false (0 ∷ 1 ∷ []) [] (0 ∷ []) false
    ∷ left [] ((0 ∷ 1 ∷ []) ∷ []) true (0 ∷ 1 ∷ []) (0 ∷ 1 ∷ []) (0 ∷ 1 ∷ []) false
    ∷ left ((0 ∷ []) ∷ (0 ∷ []) ∷ []) ((0 ∷ []) ∷ []) false (0 ∷ 1 ∷ []) [] (0 ∷ []) false
    ∷ no_parts
    ∷ left ((1 ∷ []) ∷ []) ((1 ∷ []) ∷ []) true (1 ∷ []) (1 ∷ []) (1 ∷ []) false
    ∷ no_parts
    ∷ no_parts
    ∷ left ((1 ∷ []) ∷ []) ((1 ∷ []) ∷ []) true (1 ∷ []) (1 ∷ []) (1 ∷ []) false
    ∷ no_parts
    ∷ no_parts
    ∷ left ((2 ∷ []) ∷ []) ((2 ∷ []) ∷ []) true (2 ∷ []) (2 ∷ []) (2 ∷ []) false
    ∷ left ((2 ∷ []) ∷ []) ((2 ∷ []) ∷ []) true (2 ∷ []) (2 ∷ []) (2 ∷ []) false
    ∷ no_parts
    ∷ no_parts
    ∷ no_parts
    ∷ no_parts
    ∷ no_parts
    ∷ no_parts
    ∷ left ((0 ∷ []) ∷ (0 ∷ []) ∷ []) ((0 ∷ []) ∷ []) false (0 ∷ 2 ∷ []) [] (0 ∷ []) false
    ∷ left ((0 ∷ []) ∷ (0 ∷ []) ∷ []) ((0 ∷ []) ∷ []) false (0 ∷ 3 ∷ []) [] (0 ∷ []) false
    ∷ left [] [] false (0 ∷ 3 ∷ []) (0 ∷ 3 ∷ []) (0 ∷ 3 ∷ []) true
    ∷ no_parts
    ∷ left ((4 ∷ []) ∷ []) ((4 ∷ []) ∷ []) true (4 ∷ []) (4 ∷ []) (4 ∷ []) false
    ∷ no_parts
    ∷ left [] [] false (0 ∷ 1 ∷ []) [] (0 ∷ []) true
    ∷ left [] [] false (0 ∷ 1 ∷ []) [] (0 ∷ []) true
    ∷ no_parts
    ∷ no_parts
    ∷ left [] [] false (0 ∷ 10 ∷ 11 ∷ 12 ∷ 13 ∷ 18 ∷ []) (11 ∷ 12 ∷ 13 ∷ []) (0 ∷ 11 ∷ 12 ∷ 13 ∷ []) true
    ∷ left [] ((0 ∷ 11 ∷ 13 ∷ []) ∷ []) false (0 ∷ 10 ∷ 11 ∷ 12 ∷ 13 ∷ 18 ∷ []) (11 ∷ 13 ∷ []) (0 ∷ 11 ∷ 12 ∷ 13 ∷ []) false
    ∷ left [] [] false (0 ∷ 10 ∷ 11 ∷ 12 ∷ 13 ∷ 18 ∷ []) (0 ∷ []) (0 ∷ 11 ∷ 12 ∷ 13 ∷ []) true
    ∷ no_parts
    ∷ no_parts
    ∷ no_parts
    ∷ left ((0 ∷ []) ∷ (11 ∷ []) ∷ []) ((0 ∷ []) ∷ (11 ∷ []) ∷ []) true (0 ∷ 11 ∷ []) [] (11 ∷ []) false
    ∷ left ((0 ∷ []) ∷ []) ((0 ∷ []) ∷ []) true (0 ∷ []) (0 ∷ []) (0 ∷ []) false
    ∷ left ((11 ∷ []) ∷ []) ((11 ∷ []) ∷ []) true (11 ∷ []) (11 ∷ []) (11 ∷ []) false
    ∷ no_parts
    ∷ no_parts
    ∷ left [] [] false (0 ∷ 2 ∷ 10 ∷ 11 ∷ 18 ∷ []) [] (0 ∷ 11 ∷ []) true
    ∷ left ((11 ∷ []) ∷ []) ((0 ∷ 11 ∷ []) ∷ []) false (0 ∷ 2 ∷ 10 ∷ 11 ∷ 18 ∷ []) (11 ∷ []) (0 ∷ 11 ∷ []) false
    ∷ left ((11 ∷ []) ∷ []) ((11 ∷ []) ∷ []) true (11 ∷ []) (11 ∷ []) (11 ∷ []) false
    ∷ no_parts
    ∷ no_parts
    ∷ left ((11 ∷ 14 ∷ []) ∷ []) ((11 ∷ 14 ∷ []) ∷ []) true (11 ∷ 14 ∷ []) (11 ∷ 14 ∷ []) (11 ∷ 14 ∷ []) false
    ∷ no_parts
    ∷ no_parts
    ∷ no_parts
    ∷ no_parts
    ∷ no_parts
    ∷ no_parts
    ∷ no_parts
    ∷ no_parts
    ∷ no_parts
    ∷ no_parts
    ∷ no_parts
    ∷ no_parts
    ∷ no_parts
    ∷ no_parts
    ∷ no_parts
    ∷ no_parts
    ∷ no_parts
    ∷ no_parts
    ∷ no_parts
    ∷ no_parts
    ∷ no_parts
    ∷ no_parts
    ∷ left ((11 ∷ []) ∷ []) ((11 ∷ []) ∷ []) true (11 ∷ []) (11 ∷ []) (11 ∷ []) false
    ∷ left ((11 ∷ []) ∷ []) ((11 ∷ []) ∷ []) true (11 ∷ []) (11 ∷ []) (11 ∷ []) false
    ∷ left ((11 ∷ []) ∷ []) ((11 ∷ []) ∷ []) true (11 ∷ []) (11 ∷ []) (11 ∷ []) false
    ∷ no_parts
    ∷ no_parts
    ∷ no_parts
    ∷ no_parts
    ∷ no_parts
    ∷ left [] ((15 ∷ 16 ∷ []) ∷ []) true (15 ∷ 16 ∷ []) (15 ∷ 16 ∷ []) (15 ∷ 16 ∷ []) false
    ∷ no_parts
    ∷ no_parts
    ∷ no_parts
    ∷ no_parts
    ∷ left ((11 ∷ []) ∷ []) ((11 ∷ []) ∷ []) true (11 ∷ []) (11 ∷ []) (11 ∷ []) false
    ∷ left ((11 ∷ []) ∷ []) ((11 ∷ []) ∷ []) true (11 ∷ []) (11 ∷ []) (11 ∷ []) false
    ∷ left ((11 ∷ []) ∷ []) ((11 ∷ []) ∷ []) true (11 ∷ []) (11 ∷ []) (11 ∷ []) false
    ∷ no_parts
    ∷ left ((11 ∷ []) ∷ []) ((0 ∷ 11 ∷ []) ∷ []) false (0 ∷ 10 ∷ 11 ∷ 18 ∷ []) (11 ∷ []) (11 ∷ []) false
    ∷ no_parts
    ∷ left ((11 ∷ []) ∷ []) ((0 ∷ 11 ∷ []) ∷ []) false (0 ∷ 10 ∷ 11 ∷ 18 ∷ []) (11 ∷ []) (11 ∷ []) false
    ∷ no_parts
    ∷ no_parts
    ∷ left [] [] false (11 ∷ []) (11 ∷ []) (11 ∷ []) true
    ∷ left ((11 ∷ []) ∷ []) ((11 ∷ []) ∷ []) true (11 ∷ []) (11 ∷ []) (11 ∷ []) false
    ∷ no_parts
    ∷ no_parts
    ∷ no_parts
    ∷ no_parts
    ∷ no_parts
    ∷ no_parts
    ∷ no_parts
    ∷ no_parts
    ∷ no_parts
    ∷ no_parts
    ∷ left ((4 ∷ []) ∷ []) ((4 ∷ []) ∷ []) true (4 ∷ []) (4 ∷ []) (4 ∷ []) false
    ∷ no_parts
    ∷ left ((0 ∷ []) ∷ (0 ∷ []) ∷ []) ((0 ∷ []) ∷ []) false (0 ∷ 17 ∷ []) [] (0 ∷ []) false
    ∷ no_parts
    ∷ no_parts
    ∷ no_parts
    ∷ no_parts
    ∷ left ((11 ∷ []) ∷ []) ((0 ∷ 11 ∷ []) ∷ []) false (0 ∷ 1 ∷ 11 ∷ []) (11 ∷ []) (11 ∷ []) false
    ∷ left ((11 ∷ []) ∷ []) ((0 ∷ 11 ∷ []) ∷ []) false (0 ∷ 1 ∷ 11 ∷ []) (11 ∷ []) (11 ∷ []) false
    ∷ left ((5 ∷ []) ∷ []) ((5 ∷ []) ∷ []) true (5 ∷ []) (5 ∷ []) (5 ∷ []) false
    ∷ no_parts
    ∷ no_parts
    ∷ no_parts
    ∷ no_parts
    ∷ no_parts
    ∷ no_parts
    ∷ no_parts
    ∷ no_parts
    ∷ no_parts
    ∷ no_parts
    ∷ no_parts
    ∷ no_parts
    ∷ no_parts
    ∷ no_parts
    ∷ no_parts
    ∷ no_parts
    ∷ no_parts
    ∷ no_parts
    ∷ left ((5 ∷ []) ∷ []) ((5 ∷ []) ∷ []) true (5 ∷ []) (5 ∷ []) (5 ∷ []) false
    ∷ left ((5 ∷ []) ∷ []) ((5 ∷ []) ∷ []) true (5 ∷ []) (5 ∷ []) (5 ∷ []) false
    ∷ left ((5 ∷ []) ∷ []) ((5 ∷ []) ∷ []) true (5 ∷ []) (5 ∷ []) (5 ∷ []) false
    ∷ no_parts
    ∷ no_parts
    ∷ no_parts
    ∷ no_parts
    ∷ no_parts
    ∷ no_parts
    ∷ no_parts
    ∷ left ((0 ∷ []) ∷ (0 ∷ []) ∷ []) ((0 ∷ []) ∷ []) false (0 ∷ 5 ∷ []) [] (0 ∷ []) false
    ∷ left ((5 ∷ []) ∷ []) ((5 ∷ []) ∷ []) true (5 ∷ []) (5 ∷ []) (5 ∷ []) false
    ∷ left ((5 ∷ []) ∷ []) ((5 ∷ []) ∷ []) true (5 ∷ []) (5 ∷ []) (5 ∷ []) false
    ∷ left ((5 ∷ []) ∷ []) ((5 ∷ []) ∷ []) true (5 ∷ []) (5 ∷ []) (5 ∷ []) false
    ∷ no_parts
    ∷ no_parts
    ∷ no_parts
    ∷ no_parts
    ∷ no_parts
    ∷ no_parts
    ∷ left [] [] false (0 ∷ 5 ∷ 6 ∷ []) [] (0 ∷ []) true
    ∷ left ((4 ∷ []) ∷ []) ((4 ∷ []) ∷ []) true (4 ∷ []) (4 ∷ []) (4 ∷ []) false
    ∷ no_parts
    ∷ left ((4 ∷ []) ∷ []) ((4 ∷ []) ∷ []) true (4 ∷ []) (4 ∷ []) (4 ∷ []) false
    ∷ no_parts
    ∷ left ((0 ∷ []) ∷ (0 ∷ []) ∷ []) ((0 ∷ []) ∷ []) false (0 ∷ 6 ∷ []) [] (0 ∷ []) false
    ∷ no_parts
    ∷ left ((5 ∷ []) ∷ []) ((5 ∷ []) ∷ []) true (5 ∷ []) (5 ∷ []) (5 ∷ []) false
    ∷ no_parts
    ∷ no_parts
    ∷ no_parts
    ∷ no_parts
    ∷ no_parts
    ∷ no_parts
    ∷ no_parts
    ∷ no_parts
    ∷ no_parts
    ∷ no_parts
    ∷ left [] [] true [] [] [] true
    ∷ left [] [] true [] [] [] true
    ∷ left [] [] true [] [] [] true
    ∷ left ((0 ∷ []) ∷ (10 ∷ []) ∷ (0 ∷ []) ∷ []) ((0 ∷ []) ∷ (10 ∷ []) ∷ []) false (0 ∷ 10 ∷ []) [] (0 ∷ []) false
    ∷ left [] [] false (32 ∷ []) (32 ∷ []) (32 ∷ []) true
    ∷ left [] [] false (0 ∷ 10 ∷ []) (0 ∷ []) (0 ∷ []) true
    ∷ left ((0 ∷ []) ∷ (10 ∷ []) ∷ (0 ∷ []) ∷ []) ((0 ∷ []) ∷ (10 ∷ []) ∷ []) false (0 ∷ 10 ∷ []) [] (0 ∷ []) false
    ∷ left ((0 ∷ []) ∷ (10 ∷ []) ∷ (0 ∷ []) ∷ []) ((0 ∷ []) ∷ (10 ∷ []) ∷ []) false (0 ∷ 10 ∷ []) [] (0 ∷ []) false
    ∷ left ((0 ∷ []) ∷ (10 ∷ []) ∷ (0 ∷ []) ∷ []) ((0 ∷ []) ∷ (10 ∷ []) ∷ []) false (0 ∷ 10 ∷ []) [] (0 ∷ []) false
    ∷ left ((0 ∷ []) ∷ (10 ∷ []) ∷ (0 ∷ []) ∷ []) ((0 ∷ []) ∷ (10 ∷ []) ∷ []) false (0 ∷ 10 ∷ []) [] (0 ∷ []) false
    ∷ left ((0 ∷ []) ∷ (10 ∷ []) ∷ (0 ∷ []) ∷ []) ((0 ∷ []) ∷ (10 ∷ []) ∷ []) false (0 ∷ 10 ∷ []) [] (0 ∷ []) false
    ∷ left ((0 ∷ []) ∷ (10 ∷ []) ∷ (0 ∷ []) ∷ []) ((0 ∷ []) ∷ (10 ∷ []) ∷ []) false (0 ∷ 10 ∷ []) [] (0 ∷ []) false
    ∷ left ((25 ∷ 31 ∷ []) ∷ []) ((25 ∷ 31 ∷ []) ∷ []) false (0 ∷ 5 ∷ 25 ∷ 31 ∷ []) (31 ∷ []) (0 ∷ 31 ∷ []) false
    ∷ left ((0 ∷ []) ∷ (0 ∷ []) ∷ []) ((0 ∷ []) ∷ (0 ∷ 18 ∷ []) ∷ []) false (0 ∷ 10 ∷ 18 ∷ []) [] (0 ∷ []) false
    ∷ left ((25 ∷ 31 ∷ []) ∷ []) ((25 ∷ 31 ∷ []) ∷ []) false (0 ∷ 25 ∷ 31 ∷ []) (31 ∷ []) (0 ∷ 31 ∷ []) false
    ∷ left ((25 ∷ 31 ∷ []) ∷ []) ((25 ∷ 31 ∷ []) ∷ []) false (11 ∷ 25 ∷ 31 ∷ []) (31 ∷ []) (11 ∷ 31 ∷ []) false
    ∷ left [] [] false (0 ∷ []) [] (0 ∷ []) true
    ∷ left ((0 ∷ []) ∷ (0 ∷ []) ∷ (0 ∷ []) ∷ []) ((0 ∷ []) ∷ (0 ∷ []) ∷ []) false (0 ∷ []) [] (0 ∷ []) false
    ∷ left [] ((0 ∷ 18 ∷ []) ∷ []) false (0 ∷ 10 ∷ 18 ∷ []) (0 ∷ 18 ∷ []) (0 ∷ 10 ∷ 18 ∷ []) false
    ∷ left ((0 ∷ []) ∷ (5 ∷ []) ∷ (0 ∷ []) ∷ []) ((0 ∷ []) ∷ (5 ∷ []) ∷ []) false (0 ∷ 5 ∷ []) [] (0 ∷ []) false
    ∷ left ((0 ∷ []) ∷ (0 ∷ []) ∷ []) ((0 ∷ []) ∷ []) false (0 ∷ []) [] (0 ∷ []) false
    ∷ left [] [] false (0 ∷ []) (0 ∷ []) (0 ∷ []) true
    ∷ left [] [] false (0 ∷ []) (0 ∷ []) (0 ∷ []) true
    ∷ left [] [] false (0 ∷ 10 ∷ []) (0 ∷ []) (0 ∷ []) true
    ∷ left ((0 ∷ []) ∷ (10 ∷ []) ∷ (0 ∷ []) ∷ []) ((0 ∷ []) ∷ (10 ∷ []) ∷ []) false (0 ∷ 10 ∷ []) [] (0 ∷ []) false
    ∷ left ((0 ∷ []) ∷ (10 ∷ []) ∷ (0 ∷ []) ∷ []) ((0 ∷ []) ∷ (10 ∷ []) ∷ []) false (0 ∷ 10 ∷ []) [] (0 ∷ []) false
    ∷ left ((0 ∷ []) ∷ (10 ∷ []) ∷ (0 ∷ []) ∷ []) ((0 ∷ []) ∷ (10 ∷ []) ∷ []) false (0 ∷ 10 ∷ []) [] (0 ∷ []) false
    ∷ left [] [] false (23 ∷ []) (23 ∷ []) (23 ∷ []) true
    ∷ left [] [] false (0 ∷ 1 ∷ []) [] (1 ∷ []) true
    ∷ left [] [] false (20 ∷ []) (20 ∷ []) (20 ∷ []) true
    ∷ left [] [] false (0 ∷ 24 ∷ []) (24 ∷ []) (0 ∷ 24 ∷ []) true
    ∷ left [] [] false (0 ∷ 24 ∷ []) (0 ∷ []) (0 ∷ 24 ∷ []) true
    ∷ left ((5 ∷ []) ∷ []) ((0 ∷ 5 ∷ []) ∷ []) false (0 ∷ 5 ∷ []) (5 ∷ []) (0 ∷ 5 ∷ []) false
    ∷ left ((0 ∷ []) ∷ (5 ∷ []) ∷ (0 ∷ []) ∷ []) ((0 ∷ []) ∷ (5 ∷ []) ∷ []) false (0 ∷ 5 ∷ []) [] (0 ∷ []) false
    ∷ left [] [] false (0 ∷ 19 ∷ []) (19 ∷ []) (0 ∷ 19 ∷ []) true
    ∷ left [] [] false (0 ∷ 19 ∷ []) (0 ∷ []) (0 ∷ 19 ∷ []) true
    ∷ left [] [] false (0 ∷ []) [] (0 ∷ []) true
    ∷ left [] [] false (0 ∷ 21 ∷ []) [] (21 ∷ []) true
    ∷ left [] [] false (0 ∷ 22 ∷ []) (0 ∷ []) (0 ∷ 22 ∷ []) true
    ∷ left [] [] false (0 ∷ 21 ∷ []) [] (21 ∷ []) true
    ∷ left [] [] false (0 ∷ 1 ∷ []) [] (1 ∷ []) true
    ∷ left [] [] false (0 ∷ 1 ∷ []) (1 ∷ []) (0 ∷ 1 ∷ []) true
    ∷ left [] [] false (0 ∷ 1 ∷ []) (0 ∷ []) (0 ∷ 1 ∷ []) true
    ∷ left [] [] false (0 ∷ []) (0 ∷ []) (0 ∷ []) true
    ∷ left [] [] false (0 ∷ []) (0 ∷ []) (0 ∷ []) true
    ∷ left ((0 ∷ []) ∷ []) ((0 ∷ []) ∷ []) false (0 ∷ 26 ∷ []) (0 ∷ []) (0 ∷ []) false
    ∷ left [] [] false (20 ∷ []) (20 ∷ []) (20 ∷ []) true
    ∷ left [] [] false (0 ∷ 26 ∷ []) (26 ∷ []) (0 ∷ 26 ∷ []) true
    ∷ left [] [] false (0 ∷ 26 ∷ []) (0 ∷ []) (0 ∷ 26 ∷ []) true
    ∷ left [] [] false (0 ∷ 26 ∷ []) (26 ∷ []) (0 ∷ 26 ∷ []) true
    ∷ left [] [] false (0 ∷ 26 ∷ []) (0 ∷ []) (0 ∷ 26 ∷ []) true
    ∷ left ((0 ∷ []) ∷ (0 ∷ []) ∷ []) ((0 ∷ []) ∷ []) false (0 ∷ 27 ∷ []) [] (0 ∷ []) false
    ∷ left [] [] false (0 ∷ 27 ∷ []) (27 ∷ []) (0 ∷ 27 ∷ []) true
    ∷ left [] [] false (0 ∷ 27 ∷ []) (0 ∷ []) (0 ∷ 27 ∷ []) true
    ∷ left [] [] false (20 ∷ []) (20 ∷ []) (20 ∷ []) true
    ∷ left [] [] false (0 ∷ 1 ∷ 26 ∷ []) [] (0 ∷ []) true
    ∷ left [] [] false (0 ∷ 26 ∷ []) (26 ∷ []) (0 ∷ 26 ∷ []) true
    ∷ left [] [] false (0 ∷ 26 ∷ []) (0 ∷ []) (0 ∷ 26 ∷ []) true
    ∷ left ((0 ∷ []) ∷ (0 ∷ []) ∷ []) ((0 ∷ []) ∷ []) false (0 ∷ 28 ∷ []) [] (0 ∷ []) false
    ∷ left [] [] false (28 ∷ []) (28 ∷ []) (28 ∷ []) true
    ∷ left [] [] false (23 ∷ []) (23 ∷ []) (23 ∷ []) true
    ∷ left ((1 ∷ 30 ∷ []) ∷ []) ((1 ∷ 30 ∷ []) ∷ []) true (1 ∷ 30 ∷ []) (1 ∷ 30 ∷ []) (1 ∷ 30 ∷ []) false
    ∷ left [] [] false (20 ∷ []) (20 ∷ []) (20 ∷ []) true
    ∷ left [] [] false (0 ∷ 1 ∷ []) [] (0 ∷ 1 ∷ []) true
    ∷ left ((0 ∷ []) ∷ (1 ∷ []) ∷ []) ((0 ∷ []) ∷ (1 ∷ []) ∷ []) true (0 ∷ 1 ∷ []) [] (1 ∷ []) false
    ∷ left ((0 ∷ []) ∷ (0 ∷ []) ∷ []) ((0 ∷ []) ∷ (0 ∷ 18 ∷ []) ∷ []) false (0 ∷ 10 ∷ 18 ∷ []) [] (0 ∷ []) false
    ∷ left [] [] false (0 ∷ 1 ∷ []) [] (0 ∷ []) true
    ∷ left [] [] false (0 ∷ 1 ∷ []) (0 ∷ 1 ∷ []) (0 ∷ 1 ∷ []) true
    ∷ left [] [] false (0 ∷ 1 ∷ []) (0 ∷ []) (0 ∷ 1 ∷ []) true
    ∷ left [] [] false (0 ∷ 1 ∷ []) (1 ∷ []) (0 ∷ 1 ∷ []) true
    ∷ left [] [] false (0 ∷ 1 ∷ []) (0 ∷ []) (0 ∷ 1 ∷ []) true
    ∷ left [] [] false (0 ∷ []) (0 ∷ []) (0 ∷ []) true
    ∷ left [] [] false (0 ∷ []) (0 ∷ []) (0 ∷ []) true
    ∷ left [] [] false (0 ∷ []) (0 ∷ []) (0 ∷ []) true
    ∷ left [] [] false (0 ∷ []) (0 ∷ []) (0 ∷ []) true
    ∷ left [] [] false (0 ∷ 1 ∷ []) (1 ∷ []) (0 ∷ 1 ∷ []) true
    ∷ left [] [] false (0 ∷ 1 ∷ []) (0 ∷ []) (0 ∷ 1 ∷ []) true
    ∷ left [] [] false (0 ∷ []) [] (0 ∷ []) true
    ∷ left [] [] false (0 ∷ 2 ∷ []) (2 ∷ []) (0 ∷ 2 ∷ []) true
    ∷ left [] [] false (0 ∷ 2 ∷ []) (0 ∷ []) (0 ∷ 2 ∷ []) true
    ∷ left [] [] false (0 ∷ 2 ∷ 3 ∷ []) [] (0 ∷ []) true
    ∷ left [] [] false (0 ∷ 2 ∷ []) (2 ∷ []) (0 ∷ 2 ∷ []) true
    ∷ left [] [] false (0 ∷ 2 ∷ []) (0 ∷ []) (0 ∷ 2 ∷ []) true
    ∷ left [] [] false (0 ∷ 3 ∷ []) (0 ∷ []) (0 ∷ 3 ∷ []) true
    ∷ left [] [] false (0 ∷ 2 ∷ []) [] (2 ∷ []) true
    ∷ left ((0 ∷ []) ∷ []) ((0 ∷ []) ∷ []) false (0 ∷ 1 ∷ []) (0 ∷ []) (0 ∷ []) false
    ∷ left [] [] false (0 ∷ []) [] (0 ∷ []) true
    ∷ left ((0 ∷ []) ∷ []) ((0 ∷ []) ∷ []) false (0 ∷ 1 ∷ []) (0 ∷ []) (0 ∷ []) false
    ∷ left [] [] false (0 ∷ []) (0 ∷ []) (0 ∷ []) true
    ∷ left [] [] false (0 ∷ []) (0 ∷ []) (0 ∷ []) true
    ∷ left [] [] false (0 ∷ 1 ∷ []) [] (1 ∷ []) true
    ∷ left [] [] false (0 ∷ 11 ∷ []) [] (11 ∷ []) true
    ∷ left ((0 ∷ []) ∷ (11 ∷ []) ∷ []) ((0 ∷ []) ∷ (11 ∷ []) ∷ []) true (0 ∷ 11 ∷ []) [] (11 ∷ []) false
    ∷ left ((11 ∷ []) ∷ []) ((11 ∷ []) ∷ []) true (11 ∷ []) (11 ∷ []) (11 ∷ []) false
    ∷ left ((0 ∷ []) ∷ (11 ∷ 14 ∷ []) ∷ []) ((0 ∷ []) ∷ (11 ∷ 14 ∷ []) ∷ []) true (0 ∷ 11 ∷ 14 ∷ []) [] (11 ∷ 14 ∷ []) false
    ∷ left ((0 ∷ []) ∷ (0 ∷ []) ∷ []) ((0 ∷ []) ∷ []) false (0 ∷ 2 ∷ 10 ∷ 11 ∷ 18 ∷ []) [] (0 ∷ []) false
    ∷ left ((0 ∷ []) ∷ (11 ∷ []) ∷ []) ((0 ∷ []) ∷ (11 ∷ []) ∷ []) true (0 ∷ 11 ∷ []) [] (11 ∷ []) false
    ∷ left ((11 ∷ []) ∷ []) ((0 ∷ 11 ∷ []) ∷ []) false (0 ∷ 2 ∷ 10 ∷ 11 ∷ 18 ∷ []) (11 ∷ []) (0 ∷ 11 ∷ []) false
    ∷ left [] [] false (0 ∷ []) (0 ∷ []) (0 ∷ []) true
    ∷ left [] [] false (0 ∷ 2 ∷ 10 ∷ 11 ∷ 18 ∷ []) (0 ∷ []) (0 ∷ 11 ∷ []) true
    ∷ left [] [] false (0 ∷ []) (0 ∷ []) (0 ∷ []) true
    ∷ left [] [] false (0 ∷ 2 ∷ 10 ∷ 11 ∷ 18 ∷ []) (0 ∷ []) (0 ∷ 11 ∷ []) true
    ∷ left ((0 ∷ []) ∷ (11 ∷ 14 ∷ []) ∷ []) ((0 ∷ []) ∷ (11 ∷ 14 ∷ []) ∷ []) true (0 ∷ 11 ∷ 14 ∷ []) [] (11 ∷ 14 ∷ []) false
    ∷ left ((0 ∷ []) ∷ (11 ∷ []) ∷ []) ((0 ∷ []) ∷ (11 ∷ []) ∷ []) true (0 ∷ 11 ∷ []) [] (11 ∷ []) false
    ∷ left [] [] false (0 ∷ 11 ∷ []) [] (11 ∷ []) true
    ∷ left ((0 ∷ []) ∷ (11 ∷ []) ∷ []) ((0 ∷ []) ∷ (11 ∷ []) ∷ []) true (0 ∷ 11 ∷ []) [] (11 ∷ []) false
    ∷ left [] [] false (0 ∷ 11 ∷ []) [] (11 ∷ []) true
    ∷ left [] [] false (0 ∷ 11 ∷ []) [] (11 ∷ []) true
    ∷ left ((0 ∷ []) ∷ (11 ∷ []) ∷ []) ((0 ∷ []) ∷ (11 ∷ []) ∷ []) true (0 ∷ 11 ∷ []) [] (11 ∷ []) false
    ∷ left [] [] false (0 ∷ 11 ∷ []) [] (11 ∷ []) true
    ∷ left [] [] false (0 ∷ 11 ∷ []) [] (11 ∷ []) true
    ∷ left ((0 ∷ []) ∷ (11 ∷ []) ∷ []) ((0 ∷ []) ∷ (11 ∷ []) ∷ []) true (0 ∷ 11 ∷ []) [] (11 ∷ []) false
    ∷ left [] [] false (0 ∷ 11 ∷ []) [] (11 ∷ []) true
    ∷ left [] [] false (0 ∷ 11 ∷ []) [] (11 ∷ []) true
    ∷ left [] [] false (0 ∷ 11 ∷ []) [] (11 ∷ []) true
    ∷ left [] [] false (0 ∷ 11 ∷ []) [] (11 ∷ []) true
    ∷ left [] [] false (0 ∷ 11 ∷ []) [] (11 ∷ []) true
    ∷ left [] [] false (0 ∷ 11 ∷ []) [] (11 ∷ []) true
    ∷ left [] [] false (0 ∷ 11 ∷ []) [] (11 ∷ []) true
    ∷ left [] [] false (0 ∷ 11 ∷ []) [] (11 ∷ []) true
    ∷ left [] [] false (0 ∷ 11 ∷ []) [] (11 ∷ []) true
    ∷ left [] [] false (0 ∷ 11 ∷ []) [] (11 ∷ []) true
    ∷ left [] [] false (0 ∷ 11 ∷ []) [] (11 ∷ []) true
    ∷ left [] [] false (0 ∷ 11 ∷ []) [] (11 ∷ []) true
    ∷ left [] [] false (0 ∷ 11 ∷ []) [] (11 ∷ []) true
    ∷ left [] [] false (0 ∷ 11 ∷ []) [] (11 ∷ []) true
    ∷ left [] [] false (0 ∷ 11 ∷ []) [] (11 ∷ []) true
    ∷ left [] [] false (0 ∷ 11 ∷ []) [] (11 ∷ []) true
    ∷ left [] [] false (0 ∷ 1 ∷ []) [] (1 ∷ []) true
    ∷ left [] [] false (0 ∷ 1 ∷ []) [] (1 ∷ []) true
    ∷ left [] [] false (0 ∷ 1 ∷ []) [] (1 ∷ []) true
    ∷ left [] [] false (0 ∷ []) (0 ∷ []) (0 ∷ []) true
    ∷ left [] [] false (0 ∷ []) (0 ∷ []) (0 ∷ []) true
    ∷ left [] [] false (15 ∷ 16 ∷ []) (15 ∷ 16 ∷ []) (15 ∷ 16 ∷ []) true
    ∷ left [] [] false (15 ∷ 16 ∷ []) (15 ∷ 16 ∷ []) (15 ∷ 16 ∷ []) true
    ∷ left [] [] false (15 ∷ 16 ∷ []) (15 ∷ 16 ∷ []) (15 ∷ 16 ∷ []) true
    ∷ left ((0 ∷ []) ∷ []) ((0 ∷ []) ∷ []) false (0 ∷ 1 ∷ 16 ∷ []) (0 ∷ []) (0 ∷ 16 ∷ []) false
    ∷ left [] [] false (16 ∷ []) (16 ∷ []) (16 ∷ []) true
    ∷ left [] [] false (0 ∷ 1 ∷ []) [] (0 ∷ []) true
    ∷ left [] [] false (0 ∷ 11 ∷ []) (11 ∷ []) (0 ∷ 11 ∷ []) true
    ∷ left [] [] false (0 ∷ 11 ∷ []) (0 ∷ []) (0 ∷ 11 ∷ []) true
    ∷ left [] [] false (0 ∷ 11 ∷ []) [] (11 ∷ []) true
    ∷ left ((0 ∷ []) ∷ (11 ∷ []) ∷ []) ((0 ∷ []) ∷ (11 ∷ []) ∷ []) true (0 ∷ 11 ∷ []) [] (11 ∷ []) false
    ∷ left [] [] false (0 ∷ 11 ∷ []) [] (11 ∷ []) true
    ∷ left [] [] false (0 ∷ 11 ∷ []) [] (11 ∷ []) true
    ∷ left [] [] false (0 ∷ 11 ∷ []) [] (11 ∷ []) true
    ∷ left [] [] false (0 ∷ 11 ∷ []) [] (11 ∷ []) true
    ∷ left [] [] false (0 ∷ 11 ∷ []) [] (11 ∷ []) true
    ∷ left [] [] false (0 ∷ 11 ∷ []) [] (11 ∷ []) true
    ∷ left [] [] false (0 ∷ 1 ∷ []) [] (1 ∷ []) true
    ∷ left [] [] false (15 ∷ 16 ∷ []) (15 ∷ 16 ∷ []) (15 ∷ 16 ∷ []) true
    ∷ left [] [] false (11 ∷ []) (11 ∷ []) (11 ∷ []) true
    ∷ left ((11 ∷ []) ∷ []) ((11 ∷ []) ∷ []) true (11 ∷ []) (11 ∷ []) (11 ∷ []) false
    ∷ left ((11 ∷ []) ∷ []) ((11 ∷ []) ∷ []) true (11 ∷ []) (11 ∷ []) (11 ∷ []) false
    ∷ left [] [] false (0 ∷ 11 ∷ []) (11 ∷ []) (0 ∷ 11 ∷ []) true
    ∷ left [] [] false (0 ∷ 11 ∷ []) (0 ∷ []) (0 ∷ 11 ∷ []) true
    ∷ left ((0 ∷ []) ∷ (0 ∷ []) ∷ []) ((0 ∷ []) ∷ []) false (0 ∷ []) [] (0 ∷ []) false
    ∷ left [] [] false (0 ∷ []) (0 ∷ []) (0 ∷ []) true
    ∷ left ((0 ∷ []) ∷ (5 ∷ []) ∷ (0 ∷ []) ∷ []) ((0 ∷ []) ∷ (5 ∷ []) ∷ []) false (0 ∷ 5 ∷ []) [] (0 ∷ []) false
    ∷ left [] [] false (0 ∷ 17 ∷ []) [] (0 ∷ []) true
    ∷ left [] [] false (0 ∷ 17 ∷ []) (17 ∷ []) (0 ∷ 17 ∷ []) true
    ∷ left [] [] false (0 ∷ 17 ∷ []) (0 ∷ []) (0 ∷ 17 ∷ []) true
    ∷ left [] [] false (0 ∷ 11 ∷ []) [] (11 ∷ []) true
    ∷ left ((0 ∷ []) ∷ (11 ∷ []) ∷ []) ((0 ∷ []) ∷ []) false (0 ∷ 1 ∷ 11 ∷ 24 ∷ []) [] (11 ∷ []) false
    ∷ left ((0 ∷ []) ∷ (11 ∷ []) ∷ []) ((0 ∷ []) ∷ (0 ∷ 11 ∷ []) ∷ []) false (0 ∷ 1 ∷ 11 ∷ []) [] (11 ∷ []) false
    ∷ left ((0 ∷ []) ∷ (11 ∷ []) ∷ []) ((0 ∷ []) ∷ (0 ∷ 11 ∷ []) ∷ []) false (0 ∷ 1 ∷ 11 ∷ []) [] (11 ∷ []) false
    ∷ left [] [] false (0 ∷ 24 ∷ []) (24 ∷ []) (0 ∷ 24 ∷ []) true
    ∷ left [] [] false (0 ∷ 24 ∷ []) (0 ∷ []) (0 ∷ 24 ∷ []) true
    ∷ left ((0 ∷ []) ∷ (11 ∷ []) ∷ []) ((0 ∷ []) ∷ []) false (0 ∷ 1 ∷ 11 ∷ 24 ∷ []) [] (11 ∷ []) false
    ∷ left ((0 ∷ []) ∷ (11 ∷ []) ∷ []) ((0 ∷ []) ∷ (0 ∷ 11 ∷ []) ∷ []) false (0 ∷ 1 ∷ 11 ∷ []) [] (11 ∷ []) false
    ∷ left ((0 ∷ []) ∷ (11 ∷ []) ∷ []) ((0 ∷ []) ∷ (0 ∷ 11 ∷ []) ∷ []) false (0 ∷ 1 ∷ 11 ∷ []) [] (11 ∷ []) false
    ∷ left [] [] false (0 ∷ 24 ∷ []) (24 ∷ []) (0 ∷ 24 ∷ []) true
    ∷ left [] [] false (0 ∷ 24 ∷ []) (0 ∷ []) (0 ∷ 24 ∷ []) true
    ∷ left [] [] false (0 ∷ 5 ∷ []) [] (5 ∷ []) true
    ∷ left ((0 ∷ []) ∷ (5 ∷ []) ∷ []) ((0 ∷ []) ∷ (5 ∷ []) ∷ []) true (0 ∷ 5 ∷ []) [] (5 ∷ []) false
    ∷ left [] [] false (0 ∷ 5 ∷ []) [] (5 ∷ []) true
    ∷ left ((0 ∷ []) ∷ (5 ∷ []) ∷ []) ((0 ∷ []) ∷ (5 ∷ []) ∷ []) true (0 ∷ 5 ∷ []) [] (5 ∷ []) false
    ∷ left [] [] false (0 ∷ 5 ∷ []) [] (5 ∷ []) true
    ∷ left ((0 ∷ []) ∷ (5 ∷ []) ∷ []) ((0 ∷ []) ∷ (5 ∷ []) ∷ []) true (0 ∷ 5 ∷ []) [] (5 ∷ []) false
    ∷ left [] [] false (0 ∷ 5 ∷ []) [] (5 ∷ []) true
    ∷ left [] [] false (0 ∷ 5 ∷ []) [] (5 ∷ []) true
    ∷ left [] [] false (0 ∷ 5 ∷ []) [] (5 ∷ []) true
    ∷ left [] [] false (0 ∷ 5 ∷ []) [] (5 ∷ []) true
    ∷ left [] [] false (0 ∷ 5 ∷ []) [] (5 ∷ []) true
    ∷ left [] [] false (0 ∷ 5 ∷ []) [] (5 ∷ []) true
    ∷ left [] [] false (0 ∷ 5 ∷ []) [] (5 ∷ []) true
    ∷ left [] [] false (0 ∷ 5 ∷ []) [] (5 ∷ []) true
    ∷ left [] [] false (0 ∷ 5 ∷ []) [] (5 ∷ []) true
    ∷ left [] [] false (0 ∷ 5 ∷ []) [] (5 ∷ []) true
    ∷ left [] [] false (0 ∷ 5 ∷ []) [] (5 ∷ []) true
    ∷ left [] [] false (0 ∷ 5 ∷ []) [] (5 ∷ []) true
    ∷ left [] [] false (0 ∷ 5 ∷ []) [] (5 ∷ []) true
    ∷ left [] [] false (0 ∷ 5 ∷ []) [] (5 ∷ []) true
    ∷ left [] [] false (0 ∷ 5 ∷ []) [] (5 ∷ []) true
    ∷ left [] [] false (9 ∷ []) (9 ∷ []) (9 ∷ []) true
    ∷ left [] [] false (9 ∷ []) (9 ∷ []) (9 ∷ []) true
    ∷ left [] [] false (9 ∷ []) (9 ∷ []) (9 ∷ []) true
    ∷ left ((0 ∷ []) ∷ []) ((0 ∷ []) ∷ []) false (0 ∷ 5 ∷ []) (0 ∷ []) (0 ∷ []) false
    ∷ left [] [] false (0 ∷ 5 ∷ []) [] (0 ∷ []) true
    ∷ left [] [] false (0 ∷ 5 ∷ []) (5 ∷ []) (0 ∷ 5 ∷ []) true
    ∷ left [] [] false (0 ∷ 5 ∷ []) (0 ∷ []) (0 ∷ 5 ∷ []) true
    ∷ left ((0 ∷ []) ∷ (5 ∷ []) ∷ []) ((0 ∷ []) ∷ (5 ∷ []) ∷ []) true (0 ∷ 5 ∷ []) [] (5 ∷ []) false
    ∷ left [] [] false (0 ∷ 8 ∷ []) (8 ∷ []) (0 ∷ 8 ∷ []) true
    ∷ left [] [] false (0 ∷ 8 ∷ []) (0 ∷ []) (0 ∷ 8 ∷ []) true
    ∷ left ((0 ∷ []) ∷ (5 ∷ []) ∷ []) ((0 ∷ []) ∷ (5 ∷ []) ∷ []) true (0 ∷ 5 ∷ []) [] (5 ∷ []) false
    ∷ left [] [] false (0 ∷ 8 ∷ []) (8 ∷ []) (0 ∷ 8 ∷ []) true
    ∷ left [] [] false (0 ∷ 8 ∷ []) (0 ∷ []) (0 ∷ 8 ∷ []) true
    ∷ left [] [] false (0 ∷ 5 ∷ []) [] (0 ∷ []) true
    ∷ left [] [] false (0 ∷ 6 ∷ []) (6 ∷ []) (0 ∷ 6 ∷ []) true
    ∷ left [] [] false (0 ∷ 6 ∷ []) (0 ∷ []) (0 ∷ 6 ∷ []) true
    ∷ left [] [] false (0 ∷ 5 ∷ []) (5 ∷ []) (0 ∷ 5 ∷ []) true
    ∷ left [] [] false (0 ∷ 5 ∷ []) (0 ∷ []) (0 ∷ 5 ∷ []) true
    ∷ left ((0 ∷ []) ∷ (0 ∷ []) ∷ (5 ∷ []) ∷ (0 ∷ []) ∷ []) ((0 ∷ []) ∷ (0 ∷ []) ∷ []) false (0 ∷ 5 ∷ []) [] (0 ∷ []) false
    ∷ left ((0 ∷ []) ∷ (5 ∷ []) ∷ (0 ∷ []) ∷ []) ((0 ∷ []) ∷ (5 ∷ []) ∷ []) false (0 ∷ 5 ∷ []) [] (0 ∷ []) false
    ∷ left ((0 ∷ []) ∷ (5 ∷ []) ∷ (0 ∷ []) ∷ []) ((0 ∷ []) ∷ (5 ∷ []) ∷ []) false (0 ∷ 5 ∷ []) [] (0 ∷ []) false
    ∷ left ((0 ∷ []) ∷ (5 ∷ []) ∷ []) ((0 ∷ []) ∷ (5 ∷ []) ∷ []) true (0 ∷ 5 ∷ []) [] (5 ∷ []) false
    ∷ left ((0 ∷ []) ∷ (0 ∷ []) ∷ []) ((0 ∷ []) ∷ []) false (0 ∷ 7 ∷ []) [] (0 ∷ []) false
    ∷ left [] [] false (0 ∷ 7 ∷ []) (7 ∷ []) (0 ∷ 7 ∷ []) true
    ∷ left [] [] false (0 ∷ 7 ∷ []) (0 ∷ []) (0 ∷ 7 ∷ []) true
    ∷ left ((0 ∷ []) ∷ (5 ∷ []) ∷ []) ((0 ∷ []) ∷ (5 ∷ []) ∷ []) true (0 ∷ 5 ∷ []) [] (5 ∷ []) false
    ∷ left ((0 ∷ []) ∷ (5 ∷ []) ∷ (0 ∷ []) ∷ (5 ∷ []) ∷ (0 ∷ []) ∷ []) ((0 ∷ []) ∷ (5 ∷ []) ∷ []) false (0 ∷ 5 ∷ []) [] (0 ∷ []) false
    ∷ []
