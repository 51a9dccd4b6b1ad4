-- The runs of the evaluator, and that the values of a tree are what they come to.
use Rattle.std.specs.Prelude.{◌≡◌, ℕ, ◌+◌, ◌<◌, ◌≤◌, List, [], ◌∷◌, ◌++◌, length, take, drop, reverse}
use Rattle.std.proofs.Common.{refl, sym, ◌∙◌, ap, subst, append_assoc, append-nil, arith, add_assoc}
use Rattle.std.proofs.lemmas.List.{reverse-append, map-append}
use Rattle.grammar_tables.specs.declared.symbol.Symbol.{Symbol}
use Rattle.grammar_tables.specs.declared.symbol.Symbol.TheVariants.{Terminal, Nonterminal}
use Rattle.grammar_tables.specs.declared.evaluating.Expansion.{Expansion}
use Rattle.grammar_tables.specs.declared.evaluating.Work.{Work}
use Rattle.grammar_tables.specs.declared.evaluating.Work.TheVariants.{Visit, Reduce}
use Rattle.grammar_tables.specs.Grammar.{Grammar}
use Rattle.grammar_tables.specs.Trees.{Tree, Trees, IsTree, AreTrees, preorder, preorder_all, size, sizes, SemanticActions, option_list, values, all_values, AreValues}
use Rattle.grammar_tables.specs.Trees.IsTree.{terminal, nonterminal}
use Rattle.grammar_tables.specs.Trees.AreTrees.{all_none, all_both}
use Rattle.grammar_tables.specs.Work.{visits, reduced}

-- `Runs G m count ws rs at vs out`: the work, with these alternatives left, from the token of that number and with these values, comes to the values `out`
pub data Runs {Value : Type 0} (G : Grammar) (m : SemanticActions Value) (count : ℕ) : List Work → List ℕ → ℕ → List Value → List Value → Type 0 where
  ends : {at : ℕ} {vs : List Value} → Runs G m count [] [] at vs vs
  shift : {k at : ℕ} {ws : List Work} {rs : List ℕ} {vs out : List Value} → at < count → Runs G m count ws rs (at + 1) (vs ++ option_list (m.leaf k at)) out →
      Runs G m count (Visit (Terminal k) ∷ ws) rs at vs out
  expand : {n r at : ℕ} {ws : List Work} {rs : List ℕ} {vs out : List Value} →
      Runs G m count (visits (G.body n r) ++ Reduce (record { nonterminal = n; alternative = r; first_token = at; first_value = length vs }) ∷ ws) rs at vs out →
      Runs G m count (Visit (Nonterminal n) ∷ ws) (r ∷ rs) at vs out
  reduce : {o : Expansion} {at : ℕ} {ws : List Work} {rs : List ℕ} {vs out : List Value} → o.first_value ≤ length vs →
      Runs G m count ws rs at (reduced m o at vs) out → Runs G m count (Reduce o ∷ ws) rs at vs out

take_front : {A : Type 0} (xs ys : List A) → take (length xs) (xs ++ ys) ≡ xs
take_front [] ys = refl
take_front (x ∷ xs) ys = ap (λ (zs : List _). x ∷ zs) (take_front xs ys)

drop_front : {A : Type 0} (xs ys : List A) → drop (length xs) (xs ++ ys) ≡ ys
drop_front [] ys = refl
drop_front (x ∷ xs) ys = drop_front xs ys

front_length : {A : Type 0} (xs ys : List A) → length xs ≤ length (xs ++ ys)
front_length [] ys = omega arith
front_length (x ∷ xs) ys = let h = front_length xs ys in omega (arith, h)

module _ {Value : Type 0} (G : Grammar) (m : SemanticActions Value) (count : ℕ) where
  mutual
    pub run : {s : Symbol} {t : Tree} → IsTree G s t → (ws : List Work) (rs : List ℕ) (at : ℕ) (vs out : List Value) → at + size t ≤ count →
        Runs G m count ws rs (at + size t) (vs ++ values m at t) out → Runs G m count (Visit s ∷ ws) (preorder t ++ rs) at vs out
    run (terminal {k}) ws rs at vs out l q = shift (omega (arith, l)) q
    run (nonterminal {n} {r} {ts} p) ws rs at vs out l q =
        expand (run_all p (Reduce (record { nonterminal = n; alternative = r; first_token = at; first_value = length vs }) ∷ ws) rs at vs out l
        (reduce (front_length vs (all_values m at ts)) (rw (take_front vs (all_values m at ts), drop_front vs (all_values m at ts)) q)))

    pub run_all : {ss : List Symbol} {ts : Trees} → AreTrees G ss ts → (ws : List Work) (rs : List ℕ) (at : ℕ) (vs out : List Value) → at + sizes ts ≤ count →
        Runs G m count ws rs (at + sizes ts) (vs ++ all_values m at ts) out → Runs G m count (visits ss ++ ws) (preorder_all ts ++ rs) at vs out
    run_all all_none ws rs at vs out l q = subst (λ (us : List Value). Runs G m count ws rs at us out) (append-nil vs) (subst (λ (i : ℕ). Runs G m count ws rs i (vs ++ []) out) (add_zero at) q)
      where
        add_zero : (i : ℕ) → i + 0 ≡ i
        add_zero i = omega arith
    run_all (all_both {s} {t} {ss} {ts} p ps) ws rs at vs out l q =
        subst (λ (qs : List ℕ). Runs G m count (Visit s ∷ (visits ss ++ ws)) qs at vs out) (sym (append_assoc (preorder t) (preorder_all ts) rs))
        (run p (visits ss ++ ws) (preorder_all ts ++ rs) at vs out (omega (arith, l))
        (run_all ps ws rs (at + size t) (vs ++ values m at t) out (omega (arith, l))
        (subst (λ (us : List Value). Runs G m count ws rs ((at + size t) + sizes ts) us out) (sym (append_assoc vs (values m at t) (all_values m (at + size t) ts)))
        (subst (λ (i : ℕ). Runs G m count ws rs i (vs ++ (values m at t ++ all_values m (at + size t) ts)) out) (sym (add_assoc at (size t) (sizes ts))) q))))

  pub run_tree : (n : ℕ) (t : Tree) → IsTree G (Nonterminal n) t → size t ≤ count → Runs G m count (Visit (Nonterminal n) ∷ []) (preorder t) 0 [] (values m 0 t)
  run_tree n t p l = subst (λ (qs : List ℕ). Runs G m count (Visit (Nonterminal n) ∷ []) qs 0 [] (values m 0 t)) (append-nil (preorder t))
      (run p [] [] 0 [] (values m 0 t) (omega (arith, l)) ends)

-- the derivation of the nonterminal goes on with the work on the stack, its last entry next
pub record GoesOn {Value : Type 0} (G : Grammar) (m : SemanticActions Value) (count goal : ℕ) (derivation : List ℕ) (work : List Work) (rs : List ℕ) (at : ℕ) (vs : List Value) : Type 0 where
  pub on : (out : List Value) → Runs G m count (Visit (Nonterminal goal) ∷ []) derivation 0 [] out → Runs G m count (reverse work) rs at vs out

visits_reverse : (ss : List Symbol) → reverse (visits ss) ≡ visits (reverse ss)
visits_reverse [] = refl
visits_reverse (s ∷ ss) = reverse-append (Visit s ∷ []) (visits ss) ∙ ap (λ (ws : List Work). ws ++ Visit s ∷ []) (visits_reverse ss) ∙
    sym (ap visits (reverse-append (s ∷ []) ss) ∙ map-append Visit (reverse ss) (s ∷ []))

module _ {Value : Type 0} (G : Grammar) (m : SemanticActions Value) (count : ℕ) where
  shifted : {k at : ℕ} {ws : List Work} {rs : List ℕ} {vs out : List Value} → Runs G m count (Visit (Terminal k) ∷ ws) rs at vs out →
      (at < count) × Runs G m count ws rs (at + 1) (vs ++ option_list (m.leaf k at)) out
  shifted (shift l q) = (l, q)

  expanded : {n r at : ℕ} {ws : List Work} {rs : List ℕ} {vs out : List Value} → Runs G m count (Visit (Nonterminal n) ∷ ws) (r ∷ rs) at vs out →
      Runs G m count (visits (G.body n r) ++ Reduce (record { nonterminal = n; alternative = r; first_token = at; first_value = length vs }) ∷ ws) rs at vs out
  expanded (expand q) = q

  no_alternative : {n at : ℕ} {ws : List Work} {rs : List ℕ} {vs out : List Value} → rs ≡ [] → Runs G m count (Visit (Nonterminal n) ∷ ws) rs at vs out → ⊥
  no_alternative e (expand q) = cc

  closed : {o : Expansion} {at : ℕ} {ws : List Work} {rs : List ℕ} {vs out : List Value} → Runs G m count (Reduce o ∷ ws) rs at vs out →
      (o.first_value ≤ length vs) × Runs G m count ws rs at (reduced m o at vs) out
  closed (reduce l q) = (l, q)

  ended : {at : ℕ} {rs : List ℕ} {vs out : List Value} → Runs G m count [] rs at vs out → vs ≡ out
  ended ends = refl

  module _ (goal : ℕ) (derivation : List ℕ) where
    pub start : GoesOn G m count goal derivation (Visit (Nonterminal goal) ∷ []) derivation 0 []
    start = record { on = λ out q. q }

    module _ (old new : List Work) (w : Work) (rs : List ℕ) (at : ℕ) (vs : List Value) (popped : old ≡ new ++ w ∷ []) (g : GoesOn G m count goal derivation old rs at vs) where
      on_top : (v : Work) → w ≡ v → (out : List Value) → Runs G m count (Visit (Nonterminal goal) ∷ []) derivation 0 [] out → Runs G m count (v ∷ reverse new) rs at vs out
      on_top v e out q = subst (λ (ws : List Work). Runs G m count ws rs at vs out) (ap reverse popped ∙ reverse-append new (w ∷ []) ∙ ap (λ (u : Work). u ∷ reverse new) e) (g.on out q)

      pub step_shift : (k : ℕ) → w ≡ Visit (Terminal k) → (after : List Value) → after ≡ vs ++ option_list (m.leaf k at) → GoesOn G m count goal derivation new rs (at + 1) after
      step_shift k e after f = record { on = λ out q. rw f ((shifted (on_top (Visit (Terminal k)) e out q)).1) }

      shape : (o : Work) (last_first parts : List Symbol) → reverse last_first ≡ parts → reverse ((new ++ o ∷ []) ++ visits last_first) ≡ visits parts ++ o ∷ reverse new
      shape o last_first parts h = reverse-append (new ++ o ∷ []) (visits last_first) ∙ ap (λ (ws : List Work). ws ++ reverse (new ++ o ∷ [])) (visits_reverse last_first ∙ ap visits h) ∙
          ap (λ (ws : List Work). visits parts ++ ws) (reverse-append new (o ∷ []))

      pub step_expand : (n r : ℕ) (rest : List ℕ) → w ≡ Visit (Nonterminal n) → rs ≡ r ∷ rest → (last_first : List Symbol) → reverse last_first ≡ G.body n r → (after : List Work) →
          after ≡ (new ++ Reduce (record { nonterminal = n; alternative = r; first_token = at; first_value = length vs }) ∷ []) ++ visits last_first → GoesOn G m count goal derivation after rest at vs
      step_expand n r rest e f last_first h after i = record {
        on = λ out q. subst (λ (ws : List Work). Runs G m count ws rest at vs out) (sym (ap reverse i ∙ shape (Reduce (record { nonterminal = n; alternative = r; first_token = at; first_value = length vs })) last_first (G.body n r) h))
            (expanded (subst (λ (qs : List ℕ). Runs G m count (Visit (Nonterminal n) ∷ reverse new) qs at vs out) f (on_top (Visit (Nonterminal n)) e out q)));
      }

      pub step_reduce : (o : Expansion) → w ≡ Reduce o → (after : List Value) → after ≡ reduced m o at vs →
          GoesOn G m count goal derivation new rs at after
      step_reduce o e after f = record { on = λ out q. rw f ((closed (on_top (Reduce o) e out q)).1) }

      at_end : ((out : List Value) → Runs G m count (w ∷ reverse new) rs at vs out → vs ≡ out) → AreValues G m goal derivation count vs
      unfolding AreValues
      at_end f t p e l = f (values m 0 t) (on_top w refl (values m 0 t)
          (subst (λ (qs : List ℕ). Runs G m count (Visit (Nonterminal goal) ∷ []) qs 0 [] (values m 0 t)) e (run_tree G m count goal t p (let h : size t ≤ count = omega (arith, l) in h))))

      pub no_token : (k : ℕ) → w ≡ Visit (Terminal k) → count ≤ at → AreValues G m goal derivation count vs
      no_token k e l = at_end (λ out q. absurd (let h = (shifted (subst (λ (u : Work). Runs G m count (u ∷ reverse new) rs at vs out) e q)).0 in omega (arith, l, h)))

      pub no_more_alternatives : (n : ℕ) → w ≡ Visit (Nonterminal n) → rs ≡ [] → AreValues G m goal derivation count vs
      no_more_alternatives n e f = at_end (λ out q. absurd (no_alternative f (subst (λ (u : Work). Runs G m count (u ∷ reverse new) rs at vs out) e q)))

      pub too_few : (o : Expansion) → w ≡ Reduce o → length vs < o.first_value → AreValues G m goal derivation count vs
      too_few o e l = at_end (λ out q. absurd (let h = (closed (subst (λ (u : Work). Runs G m count (u ∷ reverse new) rs at vs out) e q)).0 in omega (arith, l, h)))

    pub finished : (work : List Work) (rs : List ℕ) (at : ℕ) (vs : List Value) → work ≡ [] → GoesOn G m count goal derivation work rs at vs → AreValues G m goal derivation count vs
    unfolding AreValues
    finished work rs at vs i g t p e l = ended (subst (λ (ws : List Work). Runs G m count (reverse ws) rs at vs (values m 0 t)) i (g.on (values m 0 t)
        (subst (λ (qs : List ℕ). Runs G m count (Visit (Nonterminal goal) ∷ []) qs 0 [] (values m 0 t)) e (run_tree G m count goal t p (let h : size t ≤ count = omega (arith, l) in h)))))
