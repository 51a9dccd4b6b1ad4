-- What the derivations of texts and the parser's stack have to do with each other, at each of its moves.
use Rattle.std.specs.Prelude.{◌≡◌, ℕ, suc, zero, true, false, List, [], ◌∷◌, ◌++◌, length, map, Option, Some, None, ◌<◌, ◌≤◌, ◌⊎◌}
use Rattle.std.proofs.Common.{refl, sym, ◌∙◌, ap, subst, append_assoc, append-nil, length-append, true≢false, arith, inl, inr}
use Rattle.grammar_tables.specs.declared.symbol.Symbol.{Symbol}
use Rattle.grammar_tables.specs.declared.symbol.Symbol.TheVariants.{Terminal, Nonterminal}
use Rattle.grammar_tables.specs.declared.symbol.Mark.{Mark}
use Rattle.grammar_tables.specs.declared.parsing.Expected.{Expected}
use Rattle.grammar_tables.specs.Grammar.{Grammar, next_kind, is_nonempty, begins, IsGreedy, Derives}
use Rattle.grammar_tables.specs.Grammar.Derives.{done, shift, expand}
use Rattle.grammar_tables.specs.Parses.{takes_next}
use Rattle.grammar_tables.specs.LL1.{IsLL1, CanBegin, HasHead, matches_next, Plan, HasPlan, IsPlanned, short_text}
use Rattle.grammar_tables.specs.Trees.{Tree, none, both, IsTree, preorder, preorder_all, size}
use Rattle.grammar_tables.specs.Trees.AreTrees.{all_none, all_both}
use Rattle.grammar_tables.specs.Limits.{is_past, limit_passed, PassesAt, KeepsLimits}
use Rattle.grammar_tables.specs.Stack.{part_of}
use Rattle.grammar_tables.specs.Answers.{goal_of, symbols_of}
use Rattle.grammar_tables.proofs.Soundness.{chooses}
use Rattle.grammar_tables.proofs.ViablePrefix.{IsClear, AreSafe, safe_behind, safe_alternative, completed}
use Rattle.grammar_tables.proofs.ParseTrees.{tree_of}
use Rattle.grammar_tables.proofs.Limits.{GoesOn, entry, first_of_none, shifted, expanded, past_here, symbols_parts, among_from, agree}

module _ (G : Grammar) (depth : ℕ → ℕ) (s : IsLL1 G depth) where
  -- something is expected that begins with the next token
  unfoldable pub HasBegun : List Symbol → Option ℕ → Type 0
  HasBegun [] k = ⊥
  HasBegun (t ∷ ss) k = CanBegin G (t ∷ ss) k

  begun_parts : (ps ss : List Symbol) (k : Option ℕ) → is_nonempty ps ≡ true → CanBegin G ps k → HasBegun (ps ++ ss) k
  unfolding HasBegun CanBegin
  begun_parts [] ss k e c = absurd (true≢false (sym e))
  begun_parts (Terminal j ∷ ps) ss k e c = c
  begun_parts (Nonterminal m ∷ ps) ss k e c = c

  -- nothing is derived from a nonterminal without tokens but by the empty alternative, and that is predicted wherever no other one is
  by_empty : {n : ℕ} {ss : List Symbol} {qs : List ℕ} (k : Option ℕ) → Derives G (Nonterminal n ∷ ss) [] qs → G.predict n k ≡ None → ⊥
  unfolding IsGreedy CanBegin
  by_empty {n} {ss} k (expand r e g d) f = by (G.body n r) refl
    where
      at_end : G.predict n None ≡ Some r
      at_end = chooses G depth s ss e g d

      none_here : G.predict n k ≡ Some r → ⊥
      none_here j = cc

      by : (ps : List Symbol) → G.body n r ≡ ps → ⊥
      by [] i = none_here (s.found n r k e (rw (i, f) refl) (rw i tt))
      by (p ∷ ps) i = (let b : begins G n None ≡ true = rw (at_end, i) refl in true≢false (sym b ∙ s.at_end n))

  -- an empty alternative that the next token predicts is predicted at the end, too
  empty_at_end : (n r : ℕ) (k : Option ℕ) → G.predict n k ≡ Some r → G.body n r ≡ [] → G.predict n None ≡ Some r
  unfolding IsGreedy CanBegin
  empty_at_end n r k f i = s.found n r None (s.own n r k f) (rw i (s.at_end n)) (rw i tt)

  -- what begins an alternative is a token
  pub some_token : (n r : ℕ) (xs : List ℕ) → G.predict n (next_kind xs) ≡ Some r → is_nonempty (G.body n r) ≡ true → (x : ℕ) × (ys : List ℕ) × (xs ≡ x ∷ ys)
  some_token n r [] f e = absurd (by e)
    where
      by : is_nonempty (G.body n r) ≡ true → ⊥
      by i = (let b : begins G n None ≡ true = rw f i in true≢false (sym b ∙ s.at_end n))
  some_token n r (x ∷ xs) f e = (x, xs, refl)

  module _ (p : Plan) (h : IsPlanned G p) where
    HeadBelow : ℕ → List Symbol → Type 0
    HeadBelow b [] = Unit {0}
    HeadBelow b (Terminal k ∷ ss) = Unit {0}
    HeadBelow b (Nonterminal m ∷ ss) = depth m < b

    head_below : (n : ℕ) (ps ss : List Symbol) (b : ℕ) → is_nonempty ps ≡ true → HasHead G depth n ps → depth n < suc b → HeadBelow b (ps ++ ss)
    unfolding HasHead HeadBelow
    head_below n [] ss b e f l = absurd (true≢false (sym e))
    head_below n (Terminal k ∷ ps) ss b e f l = tt
    head_below n (Nonterminal m ∷ ps) ss b e f l = (let i = f.1 in omega (arith, i, l))

    -- what begins with the token is derived from what is expected, and goes on with it
    begins_text : (b : ℕ) (ss : List Symbol) (x : ℕ) → HeadBelow b ss → HasBegun ss (Some x) → AreSafe G depth s p h ss → (zs rs : List ℕ) × Derives G ss (x ∷ zs) rs
    unfolding HeadBelow HasBegun CanBegin
    begins_text b [] x l c f = absurd c
    begins_text b (Terminal k ∷ ss) x l c f = (let z = completed G depth s p h ss (safe_behind G depth s p h k ss f) in (short_text p ss, z.0, shift c z.1))
    begins_text zero (Nonterminal n ∷ ss) x l c f = absurd (omega arith)
    begins_text (suc b) (Nonterminal n ∷ ss) x l c f = by (G.predict n (Some x)) refl c (λ ts i j k. begins_text b ts x i j k)
      where
        by : (o : Option ℕ) → G.predict n (Some x) ≡ o → begins G n (Some x) ≡ true → ((ts : List Symbol) → HeadBelow b ts → HasBegun ts (Some x) → AreSafe G depth s p h ts →
            (zs rs : List ℕ) × Derives G ts (x ∷ zs) rs) → (zs rs : List ℕ) × Derives G (Nonterminal n ∷ ss) (x ∷ zs) rs
        by None i j k = absurd (let e : begins G n (Some x) ≡ false = rw i refl in true≢false (sym j ∙ e))
        by (Some r) i j k =
            let e : is_nonempty (G.body n r) ≡ true = rw i at j in
            let own = s.own n r (Some x) i in
            let z = k (G.body n r ++ ss) (head_below n (G.body n r) ss b e (s.heads n r own) l) (begun_parts (G.body n r) ss (Some x) e (s.starts n r (Some x) i))
            (safe_alternative G depth s p h n r ss (x ∷ []) f i) in
            (z.0, r ∷ z.1, expand r own (s.greedy n r (Some x) i) z.2)

    pub goes_on : (ss : List Symbol) (x : ℕ) → HasBegun ss (Some x) → AreSafe G depth s p h ss → (zs rs : List ℕ) × Derives G ss (x ∷ zs) rs
    unfolding HeadBelow
    goes_on ss x c f = begins_text (bound ss) ss x (below ss) c f
      where
        bound : List Symbol → ℕ
        bound [] = 0
        bound (Terminal k ∷ ts) = 0
        bound (Nonterminal m ∷ ts) = suc (depth m)

        below : (ts : List Symbol) → HeadBelow (bound ts) ts
        below [] = tt
        below (Terminal k ∷ ts) = tt
        below (Nonterminal m ∷ ts) = omega arith

module _ (G : Grammar) (marks : ℕ → Mark) (goal levels : ℕ) where
  -- With the tokens `ps` read, and by the derivation `rs`, a text that goes on with `zs` is derived from the goal exactly as `zs` is from what is expected.
  pub record Stands (ps zs rs : List ℕ) (es : List Expected) : Type 0 where
    pub up : (qs : List ℕ) → Derives G (symbols_of es) zs qs → Derives G (goal_of goal) (ps ++ zs) (rs ++ qs)
    pub down : (t : Tree) → IsTree G (Nonterminal goal) t → Derives G (goal_of goal) (ps ++ zs) (preorder t) → GoesOn G marks zs es (length ps) (limit_passed marks levels 0 0 t)

  stands_start : (zs : List ℕ) → Stands [] zs [] (entry (Nonterminal goal) levels 0 ∷ [])
  stands_start zs = record {
    up = λ qs d. d;
    down = λ t i d. record { trees = both t none; are = all_both i all_none; derived = rw append-nil d; limit = sym (first_of_none (limit_passed marks levels 0 0 t)) };
  }

  stands_shift : (k x deep before : ℕ) (ps zs rs : List ℕ) (es : List Expected) → G.matches k x ≡ true → Stands ps (x ∷ zs) rs (entry (Terminal k) deep before ∷ es) → Stands (ps ++ x ∷ []) zs rs es
  stands_shift k x deep before ps zs rs es m S = record {
    up = λ qs d. rw (append_assoc ps (x ∷ []) zs) (S.up qs (shift m d));
    down = λ t i d. shifted G marks k x deep before zs es (length ps) (length (ps ++ x ∷ [])) (limit_passed marks levels 0 0 t) (length-append ps (x ∷ [])) (S.down t i (rw (append_assoc ps (x ∷ []) zs) at d));
  }

  module _ (depth : ℕ → ℕ) (s : IsLL1 G depth) where
    stands_expand : (n r deep before : ℕ) (ps zs rs : List ℕ) (es : List Expected) → G.predict n (next_kind zs) ≡ Some r → is_past (marks n) (is_nonempty (G.body n r)) deep before ≡ false →
        Stands ps zs rs (entry (Nonterminal n) deep before ∷ es) → Stands ps zs (rs ++ r ∷ []) (map (part_of (marks n) n deep before) (G.body n r) ++ es)
    stands_expand n r deep before ps zs rs es f g S = record {
      up = λ qs d. rw (append_assoc rs (r ∷ []) qs) (S.up (r ∷ qs) (expand r (s.own n r (next_kind zs) f) (s.greedy n r (next_kind zs) f)
          (subst (λ (ss : List Symbol). Derives G ss zs qs) (symbols_parts G (marks n) n deep before (G.body n r) es) d)));
      down = λ t i d. expanded G depth s marks n r deep before zs es (length ps) (limit_passed marks levels 0 0 t) f g (S.down t i d);
    }

    -- where the parser has read `ps`, and `ys` is left
    pub record Follows (ps ys rs : List ℕ) (es : List Expected) : Type 0 where
      pub same : (zs : List ℕ) → next_kind zs ≡ next_kind ys → Stands ps zs rs es
      -- either the text may end here, or something began with the next token
      pub ends : Stands ps [] rs es ⊎ HasBegun G depth s (symbols_of es) (next_kind ys)
      pub kept : KeepsLimits G marks goal levels ps
      pub safe : (p : Plan) (h : IsPlanned G p) → HasPlan G p goal → AreSafe G depth s p h (symbols_of es)

    pub follows_start : (ys : List ℕ) → Follows [] ys [] (entry (Nonterminal goal) levels 0 ∷ [])
    unfolding AreSafe IsClear
    follows_start ys = record {
      same = λ zs e. stands_start zs;
      ends = inl (stands_start []);
      kept = λ zs qs d t i e j f. omega arith;
      safe = λ p h i. (i, tt, tt);
    }

    pub follows_shift : (k x deep before : ℕ) (ps ys rs : List ℕ) (es : List Expected) → G.matches k x ≡ true → Follows ps (x ∷ ys) rs (entry (Terminal k) deep before ∷ es) → Follows (ps ++ x ∷ []) ys rs es
    follows_shift k x deep before ps ys rs es m F = record {
      same = λ zs e. stands_shift k x deep before ps zs rs es m (F.same (x ∷ zs) refl);
      ends = inl (stands_shift k x deep before ps [] rs es m (F.same (x ∷ []) refl));
      kept = λ zs qs d t i e j f.
          (let S = stands_shift k x deep before ps zs rs es m (F.same (x ∷ zs) refl) in
          let g = S.down t i (subst (λ (us : List ℕ). Derives G (goal_of goal) ((ps ++ x ∷ []) ++ zs) us) (sym e) d) in
          among_from marks es (length (ps ++ x ∷ [])) g.trees j (sym g.limit ∙ f));
      safe = λ p h i. safe_behind G depth s p h k (symbols_of es) (F.safe p h i);
    }

    pub follows_expand : (n r deep before : ℕ) (ps ys rs : List ℕ) (es : List Expected) → G.predict n (next_kind ys) ≡ Some r → is_past (marks n) (is_nonempty (G.body n r)) deep before ≡ false →
        Follows ps ys rs (entry (Nonterminal n) deep before ∷ es) → Follows ps ys (rs ++ r ∷ []) (map (part_of (marks n) n deep before) (G.body n r) ++ es)
    unfolding HasBegun CanBegin
    follows_expand n r deep before ps ys rs es f g F = record {
      same = λ zs e. stands_expand n r deep before ps zs rs es (ap (G.predict n) e ∙ f) g (F.same zs e);
      ends = by (G.body n r) refl F.ends;
      kept = F.kept;
      safe = λ p h i. rw (symbols_parts G (marks n) n deep before (G.body n r) es) (safe_alternative G depth s p h n r (symbols_of es) ys (F.safe p h i) f);
    }
      where
        by : (qs : List Symbol) → G.body n r ≡ qs → Stands ps [] rs (entry (Nonterminal n) deep before ∷ es) ⊎ HasBegun G depth s (Nonterminal n ∷ symbols_of es) (next_kind ys) →
            Stands ps [] (rs ++ r ∷ []) (map (part_of (marks n) n deep before) (G.body n r) ++ es) ⊎ HasBegun G depth s (symbols_of (map (part_of (marks n) n deep before) (G.body n r) ++ es)) (next_kind ys)
        by [] i (inl S) = inl (stands_expand n r deep before ps [] rs es (empty_at_end G depth s n r (next_kind ys) f i) g S)
        by [] i (inr c) = absurd (let e : begins G n (next_kind ys) ≡ false = rw (f, i) refl in true≢false (sym c ∙ e))
        by (q ∷ qs) i o = inr (rw (symbols_parts G (marks n) n deep before (G.body n r) es)
            (begun_parts G depth s (G.body n r) (symbols_of es) (next_kind ys) (rw i refl) (s.starts n r (next_kind ys) f)))

    module _ (ps ys rs : List ℕ) where
      -- where nothing is expected any more, what was read is derived
      pub front_derived : Follows ps ys rs [] → Derives G (goal_of goal) ps rs
      unfolding HasBegun
      front_derived F = elim F.ends [ inl S ↦ rw (append-nil ps, append-nil rs) at (S.up [] done) | inr c ↦ absurd c ]

      -- and passes no limit
      pub front_within : Follows ps ys rs [] → PassesAt G marks goal levels rs None
      unfolding PassesAt HasBegun
      front_within F t i e = elim F.ends [
        | inl S ↦ (let g = S.down t i (rw (append-nil ps, e) (front_derived F)) in g.limit)
        | inr c ↦ absurd c
      ]

      down_of : (zs qs : List ℕ) (es : List Expected) → Stands ps zs rs es → Derives G (goal_of goal) (ps ++ zs) qs → (us : List ℕ) × Derives G (symbols_of es) zs us
      down_of zs qs es S d =
          let t = tree_of G goal (ps ++ zs) qs d in
          let g = S.down t.0 t.1 (subst (λ (us : List ℕ). Derives G (goal_of goal) (ps ++ zs) us) (sym t.2) d) in
          (preorder_all g.trees, g.derived)

      module _ (es : List Expected) (deep before : ℕ) (qs : List ℕ) (whole : Derives G (goal_of goal) ps qs) where
        ended_of : (t : Symbol) → Stands ps [] rs (entry t deep before ∷ es) → (us : List ℕ) × Derives G (t ∷ symbols_of es) [] us
        ended_of t S = down_of [] qs (entry t deep before ∷ es) S (rw (append-nil ps) whole)

        no_tokens : (k : ℕ) (us : List ℕ) → Derives G (Terminal k ∷ symbols_of es) [] us → ⊥
        no_tokens k us d = elim d [ ]

        -- where a token cannot continue, what was read is not derived: the token of a terminal is missing
        pub not_at_terminal : (k : ℕ) → (takes_next G k ys → ⊥) → Follows ps ys rs (entry (Terminal k) deep before ∷ es) → ⊥
        unfolding HasBegun CanBegin
        not_at_terminal k f F = elim F.ends [ inl S ↦ (let d = ended_of (Terminal k) S in no_tokens k d.0 d.1) | inr c ↦ f (by ys c) ]
          where
            by : (us : List ℕ) → matches_next G k (next_kind us) ≡ true → takes_next G k us
            by [] c = absurd (true≢false (sym c))
            by (u ∷ us) c = (u, refl, c)

        -- or no alternative of a nonterminal is predicted
        pub not_at_nonterminal : (n : ℕ) → G.predict n (next_kind ys) ≡ None → Follows ps ys rs (entry (Nonterminal n) deep before ∷ es) → ⊥
        unfolding HasBegun CanBegin
        not_at_nonterminal n f F = elim F.ends [
          | inl S ↦ (let d = ended_of (Nonterminal n) S in by_empty G depth s (next_kind ys) d.1 f)
          | inr c ↦ (let e : begins G n (next_kind ys) ≡ false = rw f refl in true≢false (sym c ∙ e))
        ]

    module _ (n r x deep before : ℕ) (ps ys rs : List ℕ) (es : List Expected) (predicted : G.predict n (Some x) ≡ Some r) (past : is_past (marks n) (is_nonempty (G.body n r)) deep before ≡ true)
        (F : Follows ps (x ∷ ys) rs (entry (Nonterminal n) deep before ∷ es)) where
      -- where an alternative passes a limit, the text can go on with the token
      pub past_viable : is_nonempty (G.body n r) ≡ true → (p : Plan) → IsPlanned G p → HasPlan G p goal → (zs qs : List ℕ) × Derives G (goal_of goal) ((ps ++ x ∷ []) ++ zs) qs
      unfolding HasBegun CanBegin
      past_viable e p h i =
          let c : begins G n (Some x) ≡ true = rw predicted e in
          let z = goes_on G depth s p h (Nonterminal n ∷ symbols_of es) x c (F.safe p h i) in
          (z.0, rs ++ z.1, rw (append_assoc ps (x ∷ []) z.0) ((F.same (x ∷ z.0) refl).up z.1 z.2))

      -- and it passes the limit there, however it goes on
      pub past_passed : (zs qs : List ℕ) → Derives G (goal_of goal) ((ps ++ x ∷ []) ++ zs) qs → PassesAt G marks goal levels qs (Some (length ps))
      unfolding PassesAt
      past_passed zs qs d t i e =
          past_here G depth s marks n r deep before (x ∷ zs) es (length ps) (limit_passed marks levels 0 0 t) predicted past
          ((F.same (x ∷ zs) refl).down t i (subst (λ (us : List ℕ). Derives G (goal_of goal) us (preorder t)) (append_assoc ps (x ∷ []) zs)
          (subst (λ (us : List ℕ). Derives G (goal_of goal) ((ps ++ x ∷ []) ++ zs) us) (sym e) d)))

    -- a front that passes no limit keeps them, whatever it goes on with
    pub front_keeps : (ps rs : List ℕ) → Derives G (goal_of goal) ps rs → PassesAt G marks goal levels rs None → KeepsLimits G marks goal levels ps
    unfolding PassesAt
    front_keeps ps rs d f zs qs q u j e at g = by (tree_of G goal ps rs d)
      where
        whole : {ts : List ℕ} {ws : List ℕ} (t : Tree) → IsTree G (Nonterminal goal) t → preorder t ≡ ts → Derives G (goal_of goal) ws ts → (passed : Option ℕ) → limit_passed marks levels 0 0 t ≡ passed →
            GoesOn G marks ws (entry (Nonterminal goal) levels 0 ∷ []) 0 passed
        whole t i k c passed l = record {
          trees = both t none;
          are = all_both i all_none;
          derived = rw (append-nil (preorder t), k) c;
          limit = sym l ∙ sym (first_of_none (limit_passed marks levels 0 0 t));
        }

        inside : (at < length ps → ⊥) → length ps ≤ at
        inside l = omega (arith, l)

        by : (t : Tree) × IsTree G (Nonterminal goal) t × (preorder t ≡ rs) × (size t ≡ length ps) → length ps ≤ at
        by t = inside (λ l. agree G depth s d marks (entry (Nonterminal goal) levels 0 ∷ []) refl zs 0 at (whole t.0 t.1 t.2 d None (f t.0 t.1 t.2)) (whole u j e q (Some at) g) (omega (arith, l)))
