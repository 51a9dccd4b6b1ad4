-- A text comes to one outcome, and a derivation is that of one tree.
use Rattle.std.specs.Prelude.{◌≡◌, ℕ, List, [], ◌∷◌, ◌++◌}
use Rattle.std.proofs.Common.{refl, sym, ◌∙◌, ap, subst, append_assoc}
use Rattle.grammar_tables.specs.declared.symbol.Symbol.{Symbol}
use Rattle.grammar_tables.specs.Grammar.{Grammar, Derives}
use Rattle.grammar_tables.specs.Parses.{Outcome, led_by, ended_with, Parses}
use Rattle.grammar_tables.specs.Parses.Parses.{done, shift, miss, refuse, expand}
use Rattle.grammar_tables.specs.LL1.{IsLL1}
use Rattle.grammar_tables.specs.Trees.{Tree, Trees, IsTree, AreTrees, preorder, preorder_all}
use Rattle.grammar_tables.specs.Trees.IsTree.{terminal, nonterminal}
use Rattle.grammar_tables.specs.Trees.AreTrees.{all_none, all_both}
use Rattle.grammar_tables.proofs.Soundness.{some_inj, accept_inj, complete}

module _ (G : Grammar) where
  pub one_outcome : {es : List ℕ} {ss : List Symbol} {xs : List ℕ} {o q : Outcome} → Parses G es ss xs o → Parses G es ss xs q → o ≡ q
  one_outcome done done = refl
  one_outcome (shift e p) (shift f q) = one_outcome p q
  one_outcome (shift {x} e p) (miss f) = absurd (f (x, refl, e))
  one_outcome (miss f) (shift {x} e q) = absurd (f (x, refl, e))
  one_outcome (miss e) (miss f) = refl
  one_outcome (refuse e) (refuse f) = refl
  one_outcome (refuse e) (expand r f q) = absurd cc
  one_outcome (expand r e p) (refuse f) = absurd cc
  one_outcome (expand {n} {ended} {ss} {xs} {o} r e p) (expand {o = u} s f q) = by (some_inj (sym f ∙ e)) (λ v z. one_outcome p z)
    where
      by : s ≡ r → ((v : Outcome) → Parses G (ended_with n (G.body n r) ended) (G.body n r ++ ss) xs v → o ≡ v) → led_by r o ≡ led_by s u
      by i h = rw (i, h u (subst (λ (k : ℕ). Parses G (ended_with n (G.body n k) ended) (G.body n k ++ ss) xs u) i q)) refl

pub one_derivation : (G : Grammar) (depth : ℕ → ℕ) → IsLL1 G depth → {ss : List Symbol} {xs rs qs : List ℕ} → Derives G ss xs rs → Derives G ss xs qs → rs ≡ qs
one_derivation G depth h d e = accept_inj (one_outcome G (complete G depth h d []).1 (complete G depth h e []).1)

head_of : ℕ → List ℕ → ℕ
head_of d [] = d
head_of d (x ∷ xs) = x

tail_of : List ℕ → List ℕ
tail_of [] = []
tail_of (x ∷ xs) = xs

heads_same : {x y : ℕ} {xs ys : List ℕ} → x ∷ xs ≡ y ∷ ys → x ≡ y
unfolding head_of
heads_same {x} e = ap (head_of x) e

tails_same : {x y : ℕ} {xs ys : List ℕ} → x ∷ xs ≡ y ∷ ys → xs ≡ ys
unfolding tail_of
tails_same e = ap tail_of e

module _ (G : Grammar) where
  mutual
    same_tree : {s : Symbol} {t u : Tree} → IsTree G s t → IsTree G s u → (rs qs : List ℕ) → preorder t ++ rs ≡ preorder u ++ qs → (t ≡ u) × (rs ≡ qs)
    same_tree terminal terminal rs qs e = (refl, e)
    same_tree (nonterminal {n} {r} {ts} p) (nonterminal {r = k} {ts = us} q) rs qs e =
        let i : k ≡ r = sym (heads_same e) in
        let h = same_trees p (subst (λ (j : ℕ). AreTrees G (G.body n j) us) i q) rs qs (tails_same e) in
        (rw (i, h.0) refl, h.1)

    same_trees : {ss : List Symbol} {ts us : Trees} → AreTrees G ss ts → AreTrees G ss us → (rs qs : List ℕ) → preorder_all ts ++ rs ≡ preorder_all us ++ qs → (ts ≡ us) × (rs ≡ qs)
    same_trees all_none all_none rs qs e = (refl, e)
    same_trees (all_both {t} {ts} p ps) (all_both {t = u} {ts = us} q qs₂) rs qs e =
        let h = same_tree p q (preorder_all ts ++ rs) (preorder_all us ++ qs) (sym (append_assoc (preorder t) (preorder_all ts) rs) ∙ e ∙ append_assoc (preorder u) (preorder_all us) qs) in
        let i = same_trees ps qs₂ rs qs h.1 in
        (rw (h.0, i.0) refl, i.1)

  pub one_tree : {s : Symbol} {t u : Tree} → IsTree G s t → IsTree G s u → preorder t ≡ preorder u → t ≡ u
  one_tree {t} {u} p q e = (same_tree p q [] [] (ap (λ (rs : List ℕ). rs ++ []) e)).0
