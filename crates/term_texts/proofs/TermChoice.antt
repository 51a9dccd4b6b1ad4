-- Whether a text is a term is decided: by its tokens, and the outcome of the parse of their kinds.
use Rattle.std.proofs.Common.{◌≡◌, ℕ, zero, suc, ◌≤◌, ◌^◌, Bool, true, false, List, [], ◌∷◌, ◌++◌, length, Option, Some, None, inl, inr, refl, sym, ◌∙◌, ap, subst, arith, append-nil, nat_le}
use Rattle.std.proofs.lemmas.Bool.{false≢true}
use Rattle.std.proofs.lemmas.Bool.Decides.{nat_tests}
use Rattle.grammar_tables.specs.declared.symbol.Symbol.{Symbol}
use Rattle.grammar_tables.specs.declared.symbol.Symbol.TheVariants.{Terminal, Nonterminal}
use Rattle.grammar_tables.specs.Grammar.{Grammar, next_kind, Derives}
use Rattle.grammar_tables.specs.First.{depth_of}
use Rattle.grammar_tables.specs.LL1.{IsLL1}
use Rattle.grammar_tables.specs.Parses.{Outcome, accept, reject, led_by, ended_with, Parses}
use Rattle.grammar_tables.specs.Parses.Parses.{done, shift, miss, refuse, expand}
use Rattle.grammar_tables.specs.Limits.{PassesAt, limit_passed}
use Rattle.grammar_tables.specs.Answers.{goal_of}
use Rattle.grammar_tables.specs.Trees.{Tree, IsTree, preorder, size}
use Rattle.grammar_tables.proofs.ParserMoves.{weight, falls}
use Rattle.grammar_tables.proofs.Soundness.{some_inj, complete, sound}
use Rattle.grammar_tables.proofs.Uniqueness.{one_outcome, one_derivation, one_tree}
use Rattle.grammar_tables.proofs.ParseTrees.{tree_of}
use Rattle.source_grammar.specs.SourceGrammar.{source_grammar, source_marks, term_goal}
use Rattle.source_grammar.specs.Faults.{IsSourceDerivation}
use Rattle.source_grammar.proofs.Firsts.{depths}
use Rattle.source_grammar.proofs.Conditions.{source_is_ll1}
use Rattle.rs_tokens.specs.declared.token.Token.{Token}
use Rattle.rs_tokens.specs.Reading.{AreTokens}
use Rattle.rs_tokens.proofs.OneReading.{one_list}
use Rattle.term_texts.specs.TermTexts.{token_kinds, fills, IsTermText}
use Rattle.term_texts.proofs.TokenChoice.{Choice, by_test, tokens_there}

-- ---- each parse has an outcome

module _ (G : Grammar) (depth : ℕ → ℕ) (s : IsLL1 G depth) where
  abbrev Comes : List ℕ → List Symbol → List ℕ → Type 0
  Comes es ss xs = (o : Outcome) × Parses G es ss xs o

  -- with what is known of the text behind the first token
  abbrev Behind : List ℕ → Type 0
  Behind xs = (x : ℕ) (ys : List ℕ) → xs ≡ x ∷ ys → (ss : List Symbol) → Comes [] ss ys

  no_token : (k : ℕ) (es : List ℕ) (ss : List Symbol) → Comes es (Terminal k ∷ ss) []
  no_token k es ss = (reject es (Terminal k ∷ ss) [], miss (λ t. let none : None ≡ Some t.0 = t.1 in cc))

  by_match : (k x : ℕ) (xs es : List ℕ) (ss : List Symbol) (b : Bool) → G.matches k x ≡ b → Comes [] ss xs → Comes es (Terminal k ∷ ss) (x ∷ xs)
  by_match k x xs es ss true m c = (c.0, shift m c.1)
  by_match k x xs es ss false m c = (
    reject es (Terminal k ∷ ss) (x ∷ xs),
    miss (λ t.
        let same : Some x ≡ Some t.0 = t.1 in
        let number : x ≡ t.0 = some_inj same in
        false≢true (sym m ∙ (ap (G.matches k) number ∙ t.2))),
  )

  at_token : (k : ℕ) (xs es : List ℕ) (ss : List Symbol) → Behind xs → Comes es (Terminal k ∷ ss) xs
  at_token k [] es ss behind = no_token k es ss
  at_token k (x ∷ xs) es ss behind = by_match k x xs es ss (G.matches k x) refl (behind x xs refl ss)

  refused_at : (n : ℕ) (xs es : List ℕ) (ss : List Symbol) → G.predict n (next_kind xs) ≡ None → Comes es (Nonterminal n ∷ ss) xs
  refused_at n xs es ss e = (reject es (Nonterminal n ∷ ss) xs, refuse e)

  expanded_at : (n r : ℕ) (xs es : List ℕ) (ss : List Symbol) → G.predict n (next_kind xs) ≡ Some r → Comes (ended_with n (G.body n r) es) (G.body n r ++ ss) xs → Comes es (Nonterminal n ∷ ss) xs
  expanded_at n r xs es ss e c = (led_by r c.0, expand r e c.1)

  from_here : (w : ℕ) (xs es : List ℕ) (ss : List Symbol) → weight G depth ss (next_kind xs) ≤ w → Behind xs → Comes es ss xs
  from_here w xs es [] h behind = (accept [] es xs, done)
  from_here w xs es (Terminal k ∷ ss) h behind = at_token k xs es ss behind
  from_here zero xs es (Nonterminal n ∷ ss) h behind = by (G.predict n (next_kind xs)) refl
    where
      by : (o : Option ℕ) → G.predict n (next_kind xs) ≡ o → Comes es (Nonterminal n ∷ ss) xs
      by None e = refused_at n xs es ss e
      by (Some r) e = absurd (omega (arith, h, falls G depth s n r ss (next_kind xs) e))
  from_here (suc w) xs es (Nonterminal n ∷ ss) h behind = by (λ fs ts le. from_here w xs fs ts le behind) (G.predict n (next_kind xs)) refl
    where
      by : ((fs : List ℕ) (ts : List Symbol) → weight G depth ts (next_kind xs) ≤ w → Comes fs ts xs) → (o : Option ℕ) → G.predict n (next_kind xs) ≡ o → Comes es (Nonterminal n ∷ ss) xs
      by others None e = refused_at n xs es ss e
      by others (Some r) e = expanded_at n r xs es ss e (others (ended_with n (G.body n r) es) (G.body n r ++ ss) (omega (arith, h, falls G depth s n r ss (next_kind xs) e)))

  comes : (xs es : List ℕ) (ss : List Symbol) → Comes es ss xs
  comes [] es ss = from_here (weight G depth ss None) [] es ss (omega arith) (λ x ys e ts. absurd (cc))
  comes (x ∷ xs) es ss =
      from_here (weight G depth ss (Some x)) (x ∷ xs) es ss (omega arith) (λ y ys e ts. let same : xs ≡ ys = cc in subst (λ (zs : List ℕ). Comes [] ts zs) same (comes xs [] ts))

  -- the whole text is derived, or is not
  pub derived_there : (ss : List Symbol) (xs : List ℕ) → Choice ((rs : List ℕ) × Derives G ss xs rs)
  derived_there ss xs = by (comes xs [] ss)
    where
      accepted : (rs ended ys : List ℕ) → Parses G [] ss xs (accept rs ended ys) → Choice ((rs : List ℕ) × Derives G ss xs rs)
      accepted rs ended [] q = let d = sound G depth s q in inl (rs, subst (λ (zs : List ℕ). Derives G ss zs rs) (sym (d.1 ∙ append-nil d.0)) d.2)
      accepted rs ended (y ∷ ys) q = inr (λ d.
          let c = complete G depth s d.1 [] in
          let same : accept d.0 c.0 [] ≡ accept rs ended (y ∷ ys) = one_outcome G c.1 q in
          cc)

      refused : (ended : List ℕ) (ts : List Symbol) (ys : List ℕ) → Parses G [] ss xs (reject ended ts ys) → Choice ((rs : List ℕ) × Derives G ss xs rs)
      refused ended ts ys q = inr (λ d.
          let c = complete G depth s d.1 [] in
          let same : accept d.0 c.0 [] ≡ reject ended ts ys = one_outcome G c.1 q in
          cc)

      by : Comes [] ss xs → Choice ((rs : List ℕ) × Derives G ss xs rs)
      by (accept rs ended ys, q) = accepted rs ended ys q
      by (reject ended ts ys, q) = refused ended ts ys q

-- ---- within the limits

passes_there : (kinds rs : List ℕ) → Derives source_grammar (goal_of term_goal) kinds rs → Choice (PassesAt source_grammar source_marks term_goal 0 rs None)
unfolding PassesAt
passes_there kinds rs d = by (tree_of source_grammar term_goal kinds rs d)
  where
    by : (t : Tree) × IsTree source_grammar (Nonterminal term_goal) t × (preorder t ≡ rs) × (size t ≡ length kinds) → Choice (PassesAt source_grammar source_marks term_goal 0 rs None)
    by t = at (limit_passed source_marks 0 0 0 t.0) refl
      where
        at : (o : Option ℕ) → limit_passed source_marks 0 0 0 t.0 ≡ o → Choice (PassesAt source_grammar source_marks term_goal 0 rs None)
        at None e = inl (λ u is derives. ap (limit_passed source_marks 0 0 0) (one_tree source_grammar is t.1 (derives ∙ sym t.2)) ∙ e)
        at (Some p) e = inr (λ f. let both : Some p ≡ None = sym e ∙ f t.0 t.1 t.2 in cc)

derivation_there : (kinds : List ℕ) → Choice ((rs : List ℕ) × IsSourceDerivation term_goal 0 kinds rs)
derivation_there kinds = by (derived_there source_grammar (depth_of depths) source_is_ll1 (goal_of term_goal) kinds)
  where
    within : (rs : List ℕ) → Derives source_grammar (goal_of term_goal) kinds rs → Choice (PassesAt source_grammar source_marks term_goal 0 rs None) → Choice ((rs : List ℕ) × IsSourceDerivation term_goal 0 kinds rs)
    within rs d (inl p) = inl (rs, (d, p))
    within rs d (inr past) = inr (λ other.
        let same : other.0 ≡ rs = one_derivation source_grammar (depth_of depths) source_is_ll1 other.1.0 d in
        past (subst (λ (qs : List ℕ). PassesAt source_grammar source_marks term_goal 0 qs None) same other.1.1))

    by : Choice ((rs : List ℕ) × Derives source_grammar (goal_of term_goal) kinds rs) → Choice ((rs : List ℕ) × IsSourceDerivation term_goal 0 kinds rs)
    by (inl d) = within d.0 d.1 (passes_there kinds d.0 d.1)
    by (inr never) = inr (λ other. never (other.0, other.1.0))

-- ---- a term

pub same_tokens : (text : List ℕ) (one other : List Token) → AreTokens text one → AreTokens text other → one ≡ other
same_tokens text one other a b = (one_list text 0 one other None None a.tokens_of b.tokens_of).0

pub term_there : (text : List ℕ) → Choice (IsTermText text)
term_there text = by (by_test (nat_le (length text) (2 ^ 20))) (tokens_there text)
  where
    derived : length text ≤ 2 ^ 20 → (t : (tokens : List Token) × AreTokens text tokens) → Choice (fills text t.0 ≡ true) → Choice ((rs : List ℕ) × IsSourceDerivation term_goal 0 (token_kinds text t.0) rs) → Choice (IsTermText text)
    derived short t (inl f) (inl d) = inl (record { short = short; tokens = t.0; are_tokens = t.1; filled = f; derivation = d.0; derived = d.1 })
    derived short t (inr gap) d = inr (λ is.
        let same : is.tokens ≡ t.0 = same_tokens text is.tokens t.0 is.are_tokens t.1 in
        gap (subst (λ (ts : List Token). fills text ts ≡ true) same is.filled))
    derived short t (inl f) (inr never) = inr (λ is.
        let same : is.tokens ≡ t.0 = same_tokens text is.tokens t.0 is.are_tokens t.1 in
        never (is.derivation, subst (λ (ts : List Token). IsSourceDerivation term_goal 0 (token_kinds text ts) is.derivation) same is.derived))

    by : Choice (nat_le (length text) (2 ^ 20) ≡ true) → Choice ((tokens : List Token) × AreTokens text tokens) → Choice (IsTermText text)
    by (inl e) (inl t) = derived (grind (arith, nat_tests, e)) t (by_test (fills text t.0)) (derivation_there (token_kinds text t.0))
    by (inl e) (inr never) = inr (λ is. never (is.tokens, is.are_tokens))
    by (inr long) t = inr (λ is. let short : length text ≤ 2 ^ 20 = is.short in long (grind (arith, nat_tests, short)))
