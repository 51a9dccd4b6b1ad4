-- Where the trees of derivations pass limits, and that the parser's stack says so.
use Rattle.std.specs.Prelude.{◌≡◌, ℕ, Bool, true, false, if◌then◌else◌, List, [], ◌∷◌, ◌++◌, length, map, Option, Some, None, ◌<◌, ◌≤◌, ◌+◌, ◌⊎◌}
use Rattle.std.proofs.Common.{refl, sym, ◌∙◌, ap, subst, append_assoc, arith, inl, inr}
use Rattle.grammar_tables.specs.declared.symbol.Symbol.{Symbol}
use Rattle.grammar_tables.specs.declared.symbol.Symbol.TheVariants.{Terminal, Nonterminal}
use Rattle.grammar_tables.specs.declared.symbol.Mark.{Mark}
use Rattle.grammar_tables.specs.declared.parsing.Expected.{Expected}
use Rattle.grammar_tables.specs.Grammar.{Grammar, next_kind, is_nonempty, Derives}
use Rattle.grammar_tables.specs.Grammar.Derives.{done, shift, expand}
use Rattle.grammar_tables.specs.LL1.{IsLL1}
use Rattle.grammar_tables.specs.Trees.{Tree, Trees, leaf, node, none, both, IsTree, AreTrees, preorder, preorder_all, size, sizes}
use Rattle.grammar_tables.specs.Trees.IsTree.{terminal, nonterminal}
use Rattle.grammar_tables.specs.Trees.AreTrees.{all_none, all_both}
use Rattle.grammar_tables.specs.Limits.{is_past, has_parts, levels_within, operators_before, is_of, first_of, limit_passed, limit_passed_in}
use Rattle.grammar_tables.specs.Stack.{is_symbol, part_of}
use Rattle.grammar_tables.specs.Answers.{symbols_of}
use Rattle.grammar_tables.proofs.Soundness.{some_inj, chooses}

pub first_of_none : (a : Option ℕ) → first_of a None ≡ a
first_of_none None = refl
first_of_none (Some i) = refl

first_of_assoc : (a b c : Option ℕ) → first_of (first_of a b) c ≡ first_of a (first_of b c)
first_of_assoc None b c = refl
first_of_assoc (Some i) b c = refl

first_of_cases : (a b : Option ℕ) (j : ℕ) → first_of a b ≡ Some j → (a ≡ Some j) ⊎ (b ≡ Some j)
first_of_cases None b j e = inr e
first_of_cases (Some i) b j e = inl e

-- the trees of some symbols, and then those of others
abbrev pub joined : Trees → Trees → Trees
joined none us = us
joined (both t ts) us = both t (joined ts us)

preorder_joined : (ts us : Trees) → preorder_all (joined ts us) ≡ preorder_all ts ++ preorder_all us
preorder_joined none us = refl
preorder_joined (both t ts) us = ap (λ (rs : List ℕ). preorder t ++ rs) (preorder_joined ts us) ∙ sym (append_assoc (preorder t) (preorder_all ts) (preorder_all us))

-- what is expected, as the parts of an alternative are
abbrev pub entry : Symbol → ℕ → ℕ → Expected
entry s levels operators = record { symbol = s; levels = levels; operators = operators }

module _ (marks : ℕ → Mark) where
  -- the first limit that is passed in the trees of what is expected
  abbrev pub passed_among : List Expected → ℕ → Trees → Option ℕ
  passed_among [] at ts = None
  passed_among (e ∷ es) at none = None
  passed_among (e ∷ es) at (both t ts) = first_of (limit_passed marks e.levels e.operators at t) (passed_among es (at + size t) ts)

  mutual
    passed_from : (levels operators at : ℕ) (t : Tree) (j : ℕ) → limit_passed marks levels operators at t ≡ Some j → at ≤ j
    passed_from levels operators at (leaf k) j e = absurd cc
    passed_from levels operators at (node n r ts) j e = by (is_past (marks n) (has_parts ts) levels operators) (passed_in_from n (levels_within (marks n) levels) operators at ts j) e
      where
        by : (b : Bool) → (limit_passed_in marks n (levels_within (marks n) levels) operators at ts ≡ Some j → at ≤ j) →
            (if b then Some at else limit_passed_in marks n (levels_within (marks n) levels) operators at ts) ≡ Some j → at ≤ j
        by true h f = omega (arith, some_inj f)
        by false h f = h f

    passed_in_from : (n levels operators at : ℕ) (ts : Trees) (j : ℕ) → limit_passed_in marks n levels operators at ts ≡ Some j → at ≤ j
    passed_in_from n levels operators at none j e = absurd cc
    passed_in_from n levels operators at (both t ts) j e =
        elim (first_of_cases (limit_passed marks levels (operators_before (marks n) (is_of n t) operators) at t) (limit_passed_in marks n levels operators (at + size t) ts) j e) [
          | inl f ↦ passed_from levels (operators_before (marks n) (is_of n t) operators) at t j f
          | inr f ↦ (let h = passed_in_from n levels operators (at + size t) ts j f in omega (arith, h))
        ]

  -- no limit is passed before the trees begin
  pub among_from : (es : List Expected) (at : ℕ) (ts : Trees) (j : ℕ) → passed_among es at ts ≡ Some j → at ≤ j
  among_from [] at ts j e = absurd cc
  among_from (x ∷ es) at none j e = absurd cc
  among_from (x ∷ es) at (both t ts) j e = elim (first_of_cases (limit_passed marks x.levels x.operators at t) (passed_among es (at + size t) ts) j e) [
    | inl f ↦ passed_from x.levels x.operators at t j f
    | inr f ↦ (let h = among_from es (at + size t) ts j f in omega (arith, h))
  ]

module _ (G : Grammar) where
  are_joined : {ss us : List Symbol} {ts vs : Trees} → AreTrees G ss ts → AreTrees G us vs → AreTrees G (ss ++ us) (joined ts vs)
  are_joined all_none b = b
  are_joined (all_both t a) b = all_both t (are_joined a b)

  same_parts : {ss : List Symbol} {ts : Trees} → AreTrees G ss ts → has_parts ts ≡ is_nonempty ss
  same_parts all_none = refl
  same_parts (all_both t a) = refl

  same_root : {s : Symbol} {t : Tree} (n : ℕ) → IsTree G s t → is_symbol n s ≡ is_of n t
  same_root n terminal = refl
  same_root n (nonterminal a) = refl

  pub symbols_parts : (m : Mark) (n levels operators : ℕ) (ss : List Symbol) (es : List Expected) → symbols_of (map (part_of m n levels operators) ss ++ es) ≡ ss ++ symbols_of es
  symbols_parts m n levels operators [] es = refl
  symbols_parts m n levels operators (s ∷ ss) es = ap (λ (us : List Symbol). s ∷ us) (symbols_parts m n levels operators ss es)

  -- an alternative that passes no limit itself, in the place of its nonterminal
  passed_joined : (marks : ℕ → Mark) (n levels operators : ℕ) {ss : List Symbol} {us : Trees} → AreTrees G ss us → (es : List Expected) (at : ℕ) (ts : Trees) →
      passed_among marks (map (part_of (marks n) n levels operators) ss ++ es) at (joined us ts) ≡
      first_of (limit_passed_in marks n (levels_within (marks n) levels) operators at us) (passed_among marks es (at + sizes us) ts)
  passed_joined marks n levels operators all_none es at ts = (let f : at ≡ at + 0 = omega arith in ap (λ (k : ℕ). passed_among marks es k ts) f)
  passed_joined marks n levels operators (all_both {s} {t} {ss} {ts = us} a b) es at ts =
      let here = limit_passed marks (levels_within (marks n) levels) (operators_before (marks n) (is_of n t) operators) at t in
      let f : (at + size t) + sizes us ≡ at + (size t + sizes us) = omega arith in
      let g = passed_joined marks n levels operators b es (at + size t) ts in
      rw (same_root n a, g, f) (sym (first_of_assoc here (limit_passed_in marks n (levels_within (marks n) levels) operators (at + size t) us) (passed_among marks es (at + (size t + sizes us)) ts)))

  -- a derivation of this text from what is expected, its trees, and that they pass this limit
  pub record GoesOn (marks : ℕ → Mark) (zs : List ℕ) (es : List Expected) (at : ℕ) (passed : Option ℕ) : Type 0 where
    pub trees : Trees
    pub are : AreTrees G (symbols_of es) trees
    pub derived : Derives G (symbols_of es) zs (preorder_all trees)
    pub limit : passed ≡ passed_among marks es at trees

  pub shifted : (marks : ℕ → Mark) (k x levels operators : ℕ) (zs : List ℕ) (es : List Expected) (at to : ℕ) (passed : Option ℕ) → to ≡ at + 1 →
      GoesOn marks (x ∷ zs) (entry (Terminal k) levels operators ∷ es) at passed → GoesOn marks zs es to passed
  shifted marks k x levels operators zs es at to passed e g = by g.trees g.are g.derived g.limit
    where
      behind : {ts : List ℕ} → Derives G (Terminal k ∷ symbols_of es) (x ∷ zs) ts → Derives G (symbols_of es) zs ts
      behind (shift f q) = q

      by : (ts : Trees) → AreTrees G (Terminal k ∷ symbols_of es) ts → Derives G (Terminal k ∷ symbols_of es) (x ∷ zs) (preorder_all ts) →
          passed ≡ passed_among marks (entry (Terminal k) levels operators ∷ es) at ts → GoesOn marks zs es to passed
      by none a q f = elim a [ ]
      by (both t ts) (all_both terminal a) q f = record { trees = ts; are = a; derived = behind q; limit = rw e f }

  module _ (depth : ℕ → ℕ) (s : IsLL1 G depth) where
    pub alternative_is : {n r q : ℕ} {ss : List Symbol} {zs ts : List ℕ} → G.predict n (next_kind zs) ≡ Some r → Derives G (Nonterminal n ∷ ss) zs (q ∷ ts) → (q ≡ r) × Derives G (G.body n r ++ ss) zs ts
    alternative_is {n} {r} {zs} f (expand {ss} {rs} q e g d) =
        let same : q ≡ r = some_inj (sym (chooses G depth s ss e g d) ∙ f) in
        (same, subst (λ (v : ℕ). Derives G (G.body n v ++ ss) zs rs) same d)

    pub expanded : (marks : ℕ → Mark) (n r levels operators : ℕ) (zs : List ℕ) (es : List Expected) (at : ℕ) (passed : Option ℕ) → G.predict n (next_kind zs) ≡ Some r →
        is_past (marks n) (is_nonempty (G.body n r)) levels operators ≡ false → GoesOn marks zs (entry (Nonterminal n) levels operators ∷ es) at passed →
        GoesOn marks zs (map (part_of (marks n) n levels operators) (G.body n r) ++ es) at passed
    expanded marks n r levels operators zs es at passed f h g = by g.trees g.are g.derived g.limit
      where
        place : (us ts : Trees) → AreTrees G (G.body n r) us → AreTrees G (symbols_of es) ts → Derives G (G.body n r ++ symbols_of es) zs (preorder_all us ++ preorder_all ts) →
            passed ≡ passed_among marks (entry (Nonterminal n) levels operators ∷ es) at (both (node n r us) ts) → GoesOn marks zs (map (part_of (marks n) n levels operators) (G.body n r) ++ es) at passed
        place us ts a b q e =
            let i : is_past (marks n) (has_parts us) levels operators ≡ false = rw (same_parts a) h in
            record {
              trees = joined us ts;
              are = rw (symbols_parts (marks n) n levels operators (G.body n r) es) (are_joined a b);
              derived = rw (symbols_parts (marks n) n levels operators (G.body n r) es, preorder_joined us ts) q;
              limit = rw i at e ∙ sym (passed_joined marks n levels operators a es at ts);
            }

        by : (ts : Trees) → AreTrees G (Nonterminal n ∷ symbols_of es) ts → Derives G (Nonterminal n ∷ symbols_of es) zs (preorder_all ts) →
            passed ≡ passed_among marks (entry (Nonterminal n) levels operators ∷ es) at ts → GoesOn marks zs (map (part_of (marks n) n levels operators) (G.body n r) ++ es) at passed
        by none a q e = elim a [ ]
        by (both t ts) (all_both (nonterminal {r = v} {ts = us} a) b) q e =
            let c = alternative_is f q in
            place us ts (subst (λ (w : ℕ). AreTrees G (G.body n w) us) c.0 a) b c.1 (subst (λ (w : ℕ). passed ≡ passed_among marks (entry (Nonterminal n) levels operators ∷ es) at (both (node n w us) ts)) c.0 e)

    -- an alternative that passes a limit itself
    pub past_here : (marks : ℕ → Mark) (n r levels operators : ℕ) (zs : List ℕ) (es : List Expected) (at : ℕ) (passed : Option ℕ) → G.predict n (next_kind zs) ≡ Some r →
        is_past (marks n) (is_nonempty (G.body n r)) levels operators ≡ true → GoesOn marks zs (entry (Nonterminal n) levels operators ∷ es) at passed → passed ≡ Some at
    past_here marks n r levels operators zs es at passed f h g = by g.trees g.are g.derived g.limit
      where
        by : (ts : Trees) → AreTrees G (Nonterminal n ∷ symbols_of es) ts → Derives G (Nonterminal n ∷ symbols_of es) zs (preorder_all ts) →
            passed ≡ passed_among marks (entry (Nonterminal n) levels operators ∷ es) at ts → passed ≡ Some at
        by none a q e = elim a [ ]
        by (both t ts) (all_both (nonterminal {r = v} {ts = us} a) b) q e =
            let c = alternative_is f q in
            let i : is_past (marks n) (has_parts us) levels operators ≡ true = rw (same_parts (subst (λ (w : ℕ). AreTrees G (G.body n w) us) c.0 a)) h in
            rw i at e

    -- two derivations from what is expected that begin with the same tokens pass the same limit there, or none
    pub agree : {ss : List Symbol} {xs rs : List ℕ} → Derives G ss xs rs → (marks : ℕ → Mark) (es : List Expected) → symbols_of es ≡ ss → (zs : List ℕ) (at j : ℕ) →
        GoesOn marks xs es at None → GoesOn marks (xs ++ zs) es at (Some j) → j < at + length xs → ⊥
    agree done marks es e zs at j g h l = (let i = among_from marks es at h.trees j (sym h.limit) in omega (arith, i, l))
    agree (shift f q) marks [] e zs at j g h l = absurd cc
    agree (shift {k} {x} {ss} {xs} f q) marks (t ∷ es) e zs at j g h l =
        let head : t.symbol ≡ Terminal k = cc in
        let tail : symbols_of es ≡ ss = cc in
        let g₂ = subst (λ (u : Symbol). GoesOn marks (x ∷ xs) (entry u t.levels t.operators ∷ es) at None) head g in
        let h₂ = subst (λ (u : Symbol). GoesOn marks (x ∷ (xs ++ zs)) (entry u t.levels t.operators ∷ es) at (Some j)) head h in
        agree q marks es tail zs (at + 1) j (shifted marks k x t.levels t.operators xs es at (at + 1) None refl g₂) (shifted marks k x t.levels t.operators (xs ++ zs) es at (at + 1) (Some j) refl h₂) (omega (arith, l))
    agree (expand r f v q) marks [] e zs at j g h l = absurd cc
    agree (expand {n} {ss} {xs = []} r f v q) marks (t ∷ es) e zs at j g h l = (let i = among_from marks (t ∷ es) at h.trees j (sym h.limit) in omega (arith, i, l))
    agree (expand {n} {ss} {xs = x ∷ xs} r f v q) marks (t ∷ es) e zs at j g h l =
        by (is_past (marks n) (is_nonempty (G.body n r)) t.levels t.operators) refl (λ us i k p. agree q marks us i zs at j k p l)
      where
        head : t.symbol ≡ Nonterminal n
        head = cc

        tail : symbols_of es ≡ ss
        tail = cc

        g₂ : GoesOn marks (x ∷ xs) (entry (Nonterminal n) t.levels t.operators ∷ es) at None
        g₂ = subst (λ (u : Symbol). GoesOn marks (x ∷ xs) (entry u t.levels t.operators ∷ es) at None) head g

        h₂ : GoesOn marks (x ∷ (xs ++ zs)) (entry (Nonterminal n) t.levels t.operators ∷ es) at (Some j)
        h₂ = subst (λ (u : Symbol). GoesOn marks (x ∷ (xs ++ zs)) (entry u t.levels t.operators ∷ es) at (Some j)) head h

        chosen : G.predict n (Some x) ≡ Some r
        chosen = chooses G depth s ss f v q

        by : (b : Bool) → is_past (marks n) (is_nonempty (G.body n r)) t.levels t.operators ≡ b → ((us : List Expected) → symbols_of us ≡ G.body n r ++ ss →
            GoesOn marks (x ∷ xs) us at None → GoesOn marks (x ∷ (xs ++ zs)) us at (Some j) → ⊥) → ⊥
        by true i k = (let z : None ≡ Some at = past_here marks n r t.levels t.operators (x ∷ xs) es at None chosen i g₂ in cc)
        by false i k = k (map (part_of (marks n) n t.levels t.operators) (G.body n r) ++ es)
            (symbols_parts (marks n) n t.levels t.operators (G.body n r) es ∙ ap (λ (us : List Symbol). G.body n r ++ us) tail)
            (expanded marks n r t.levels t.operators (x ∷ xs) es at None chosen i g₂) (expanded marks n r t.levels t.operators (x ∷ (xs ++ zs)) es at (Some j) chosen i h₂)
