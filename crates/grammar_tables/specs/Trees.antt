-- The parse trees of a grammar, their derivations, and what semantic actions make of them (Aho, Lam, Sethi, Ullman, "Compilers", 4.2.4 and 5.4).
use Rattle.std.specs.Prelude.{◌≡◌, ℕ, ◌+◌, Bool, if◌then◌else◌, List, [], ◌∷◌, ◌++◌, length, Option, Some, None}
use Rattle.grammar_tables.specs.declared.symbol.Symbol.{Symbol}
use Rattle.grammar_tables.specs.declared.symbol.Symbol.TheVariants.{Terminal, Nonterminal}
use Rattle.grammar_tables.specs.Grammar.{Grammar}

mutual
  pub data Tree : Type 0 where
    -- a token, by the terminal that stands for it
    leaf : ℕ → Tree
    -- a nonterminal by one of its alternatives, with the trees of the symbols of its body
    node : ℕ → ℕ → Trees → Tree

  pub data Trees : Type 0 where
    none : Trees
    both : Tree → Trees → Trees

mutual
  -- the symbol is at the root of the tree, and the tree is one of the grammar
  pub data IsTree (G : Grammar) : Symbol → Tree → Type 0 where
    terminal : {k : ℕ} → IsTree G (Terminal k) (leaf k)
    nonterminal : {n r : ℕ} {ts : Trees} → AreTrees G (G.body n r) ts → IsTree G (Nonterminal n) (node n r ts)

  pub data AreTrees (G : Grammar) : List Symbol → Trees → Type 0 where
    all_none : AreTrees G [] none
    all_both : {s : Symbol} {t : Tree} {ss : List Symbol} {ts : Trees} → IsTree G s t → AreTrees G ss ts → AreTrees G (s ∷ ss) (both t ts)

-- the leftmost derivation of a tree: its alternatives in preorder
abbrev mutual
  pub preorder : Tree → List ℕ
  preorder (leaf k) = []
  preorder (node n r ts) = r ∷ preorder_all ts

  pub preorder_all : Trees → List ℕ
  preorder_all none = []
  preorder_all (both t ts) = preorder t ++ preorder_all ts

-- the number of a tree's tokens
abbrev mutual
  pub size : Tree → ℕ
  size (leaf k) = 1
  size (node n r ts) = sizes ts

  pub sizes : Trees → ℕ
  sizes none = 0
  sizes (both t ts) = size t + sizes ts

-- What parse trees are made into.
pub record SemanticActions (Value : Type 0) : Type 0 where
  -- the value of a token by its terminal and its position; some terminals have none
  pub leaf : ℕ → ℕ → Option Value
  -- the nonterminal by that alternative is made into nothing where its parts have so many values: they stand among those of the alternative around it. So loops, lists and chains without operators leave no trace
  pub keeps : ℕ → ℕ → ℕ → Bool
  -- the value of a nonterminal by an alternative: from the position of its first token, that of the first one behind it, and the values of its parts in order
  pub action : ℕ → ℕ → ℕ → ℕ → List Value → Value

abbrev pub option_list : {A : Type 0} → Option A → List A
option_list None = []
option_list (Some x) = x ∷ []

-- the values of a nonterminal by an alternative, from those of its parts
abbrev pub folded : {Value : Type 0} → SemanticActions Value → ℕ → ℕ → ℕ → ℕ → List Value → List Value
folded m n r from to vs = if m.keeps n r (length vs) then vs else m.action n r from to vs ∷ []

-- the values of a tree whose first token has that position
abbrev mutual
  pub values : {Value : Type 0} → SemanticActions Value → ℕ → Tree → List Value
  values m at (leaf k) = option_list (m.leaf k at)
  values m at (node n r ts) = folded m n r at (at + sizes ts) (all_values m at ts)

  pub all_values : {Value : Type 0} → SemanticActions Value → ℕ → Trees → List Value
  all_values m at none = []
  all_values m at (both t ts) = values m at t ++ all_values m (at + size t) ts

-- these are the values of the tree of the goal whose derivation this is, over so many tokens
unfoldable pub AreValues : {Value : Type 0} → Grammar → SemanticActions Value → ℕ → List ℕ → ℕ → List Value → Type 0
AreValues G m goal derivation count vs = (t : Tree) → IsTree G (Nonterminal goal) t → preorder t ≡ derivation → size t ≡ count → vs ≡ values m 0 t
