-- A derivation is that of a tree.
use Rattle.std.specs.Prelude.{◌≡◌, ℕ, ◌+◌, List, [], ◌∷◌, ◌++◌, length}
use Rattle.std.proofs.Common.{refl, sym, ◌∙◌, ap, append_assoc, append-nil, arith}
use Rattle.grammar_tables.specs.declared.symbol.Symbol.{Symbol}
use Rattle.grammar_tables.specs.declared.symbol.Symbol.TheVariants.{Nonterminal}
use Rattle.grammar_tables.specs.Grammar.{Grammar, Derives}
use Rattle.grammar_tables.specs.Grammar.Derives.{done, shift, expand}
use Rattle.grammar_tables.specs.Trees.{Tree, Trees, leaf, node, none, both, IsTree, AreTrees, preorder, preorder_all, size, sizes}
use Rattle.grammar_tables.specs.Trees.IsTree.{terminal, nonterminal}
use Rattle.grammar_tables.specs.Trees.AreTrees.{all_none, all_both}

pub record TreesOf (G : Grammar) (ss : List Symbol) (rs : List ℕ) (many : ℕ) : Type 0 where
  pub trees : Trees
  pub are : AreTrees G ss trees
  pub derived : preorder_all trees ≡ rs
  pub sized : sizes trees ≡ many

-- the trees of symbols and of more symbols
record Cut (G : Grammar) (ps ss : List Symbol) (rs : List ℕ) (many : ℕ) : Type 0 where
  first : Trees
  rest : Trees
  first_are : AreTrees G ps first
  rest_are : AreTrees G ss rest
  derived : preorder_all first ++ preorder_all rest ≡ rs
  sized : sizes first + sizes rest ≡ many

module _ (G : Grammar) where
  cut : (ps ss : List Symbol) (ts : Trees) → AreTrees G (ps ++ ss) ts → Cut G ps ss (preorder_all ts) (sizes ts)
  cut [] ss ts a = record { first = none; rest = ts; first_are = all_none; rest_are = a; derived = refl; sized = omega arith }
  cut (p ∷ ps) ss none a = elim a [ ]
  cut (p ∷ ps) ss (both t ts) (all_both b a) =
      let c = cut ps ss ts a in
      let e = c.sized in
      record {
        first = both t c.first;
        rest = c.rest;
        first_are = all_both b c.first_are;
        rest_are = c.rest_are;
        derived = append_assoc (preorder t) (preorder_all c.first) (preorder_all c.rest) ∙ ap (λ (rs : List ℕ). preorder t ++ rs) c.derived;
        sized = omega (arith, e);
      }

  pub trees_of : {ss : List Symbol} {xs rs : List ℕ} → Derives G ss xs rs → TreesOf G ss rs (length xs)
  trees_of done = record { trees = none; are = all_none; derived = refl; sized = refl }
  trees_of (shift {k} e q) =
      let c = trees_of q in
      let f = c.sized in
      record { trees = both (leaf k) c.trees; are = all_both terminal c.are; derived = c.derived; sized = omega (arith, f) }
  trees_of (expand {n} {ss} r e g q) =
      let c = trees_of q in
      let d = cut (G.body n r) ss c.trees c.are in
      record { trees = both (node n r d.first) d.rest; are = all_both (nonterminal d.first_are) d.rest_are; derived = ap (λ (qs : List ℕ). r ∷ qs) (d.derived ∙ c.derived); sized = d.sized ∙ c.sized }

  pub tree_of : (n : ℕ) (xs rs : List ℕ) → Derives G (Nonterminal n ∷ []) xs rs → (t : Tree) × IsTree G (Nonterminal n) t × (preorder t ≡ rs) × (size t ≡ length xs)
  tree_of n xs rs q = by (trees_of q).trees (trees_of q).are (trees_of q).derived (trees_of q).sized
    where
      by : (ts : Trees) → AreTrees G (Nonterminal n ∷ []) ts → preorder_all ts ≡ rs → sizes ts ≡ length xs → (t : Tree) × IsTree G (Nonterminal n) t × (preorder t ≡ rs) × (size t ≡ length xs)
      by none a e f = elim a [ ]
      by (both t (both u us)) (all_both b a) e f = elim a [ ]
      by (both t none) (all_both b all_none) e f = (t, b, sym (append-nil (preorder t)) ∙ e, omega (arith, f))
