-- A path state gives the goals that are seen from before the commands for which it stands.
use Rattle.std.proofs.Common.{◌≡◌, ℕ, suc, ◌≤◌, ◌<◌, ◌==◌, Bool, true, false, cond, List, [], ◌∷◌, ◌++◌, take, length, get_or, refl, sym, ◌∙◌, ap, arith, ◌+◌, subst as along}
use Rattle.std.proofs.lemmas.List.{take_more, append_assoc, append-nil}
use Rattle.text_core.specs.declared.name.Name.{Name}
use Rattle.logic_term.specs.declared.subst.Replacement.{Replacement}
use Rattle.logic_term.specs.Free.{free}
use Rattle.logic_term.specs.Normal.{reduced}
use Rattle.logic_term.specs.Placed.{Placing, itself, put, name_at, placed}
use Rattle.logic_term.specs.Subst.{above, look, placing}
use Rattle.logic_term.specs.Term.{Term, var, forall, implies}
use Rattle.logic_term.proofs.Coincide.{free_above}
use Rattle.logic_term.proofs.Depths.{Denotes, denotes_at, free_placed, placed_twice, put_counts, same_reducts}
use Rattle.logic_term.proofs.FreeLaw.{same_test}
use Rattle.prophecy_logic.specs.declared.command.Command.{Command}
use Rattle.prophecy_logic.specs.declared.command.Command.TheVariants.{Set, Fresh, Assume}
use Rattle.prophecy_logic.specs.declared.goal.Goal.{Goal}
use Rattle.prophecy_logic.specs.Command.{before, before_all}
use Rattle.prophecy_logic.specs.State.{State, first_new, start, made, after, goal_at, IsBelow, Denote, MatchesFrom, Matches, Leads, IsGoalAt}

-- ---- what the state's terms are

denote_term : (t : Term) (k : ℕ) (σ : List Replacement) (ν τ : Placing) → above t ≤ first_new → Denote k σ ν τ → Denotes true (λ x. free x t) k (placing σ) ν τ
denote_term t k σ ν τ b h x e d = let l : x.0 < above t = free_above x t e in h x (omega arith)

-- a term at the state, placed, is the term placed
made_is : (t : Term) (s : State) (ν τ : Placing) (n : ℕ) → above t ≤ first_new → Denote s.next s.terms ν τ → placed true n ν (made s t) ≡ placed true n τ t
made_is t s ν τ n b h = placed_twice true t s.next (placing s.terms) ν τ n (denote_term t s.next s.terms ν τ b h)

made_below : (t : Term) (s : State) (ν τ : Placing) (y : Name) → above t ≤ first_new → Denote s.next s.terms ν τ → free y (made s t) ≡ true → y.0 < s.next
made_below t s ν τ y b h e =
    let c = free_placed true t s.next (placing s.terms) y e in
    let l : c.0.0 < above t = free_above c.0 t c.2 in
    (h c.0 (omega arith)).0 y c.3

set_at : (k : ℕ) (u v : Term) (ν : Placing) (p q : ℕ → Term) (b : Bool)
    → ((y : Name) → free y u ≡ true → y.0 < k) × ((n : ℕ) → placed true n ν u ≡ p n)
    → ((y : Name) → free y v ≡ true → y.0 < k) × ((n : ℕ) → placed true n ν v ≡ q n)
    → ((y : Name) → free y (cond b u v) ≡ true → y.0 < k) × ((n : ℕ) → placed true n ν (cond b u v) ≡ cond b (p n) (q n))
set_at k u v ν p q true g h = g
set_at k u v ν p q false g h = h

denote_set : (s : State) (ν τ : Placing) (x : Name) (t : Term) → above t ≤ first_new → Denote s.next s.terms ν τ
    → Denote s.next (record { name = x; by = made s t } ∷ s.terms) ν (put x (λ k. placed true k τ t) τ)
denote_set s ν τ x t b h y l =
    set_at s.next (made s t) (look s.terms y) ν (λ k. placed true k τ t) (τ y) (y.0 == x.0)
    ((λ z e. made_below t s ν τ z b h e), (λ n. made_is t s ν τ n b h)) (h y l)

denote_fresh : (s : State) (ν τ : Placing) (x : Name) (d : ℕ) → Denote s.next s.terms ν τ
    → Denote (suc s.next) (record { name = x; by = var (record { 0 = s.next }) } ∷ s.terms) (put (record { 0 = s.next }) (name_at d) ν) (put x (name_at d) τ)
denote_fresh s ν τ x d h y l = denotes_at true s.next (look s.terms y) ν (name_at d) (τ y) (y.0 == x.0) true (λ e. h y l) refl

-- ---- one command more

pub before_append : (cs ds : List Command) (φ : Term) → before_all (cs ++ ds) φ ≡ before_all cs (before_all ds φ)
before_append [] ds φ = refl
before_append (c ∷ cs) ds φ = ap (before c) (before_append cs ds φ)

seen : (n : ℕ) (cs : List Command) (s : State) (h : MatchesFrom n cs s) (c : Command) (φ : Term) → placed true n itself (before_all (cs ++ c ∷ []) φ) ≡ h.around (placed true h.depth h.of_goal (before c φ))
seen n cs s h c φ = ap (placed true n itself) (before_append cs (c ∷ []) φ) ∙ h.commands_are (before c φ)

matches_after : (n : ℕ) (cs : List Command) (s : State) (c : Command) → IsBelow c → MatchesFrom n cs s → MatchesFrom n (cs ++ c ∷ []) (after s c)
matches_after n cs s (Set x t) b h = record {
  of_state = h.of_state;
  of_goal = put x (λ k. placed true k h.of_goal t) h.of_goal;
  depth = h.depth;
  around = h.around;
  state_is = h.state_is;
  commands_are = λ φ. seen n cs s h (Set x t) φ ∙ ap h.around (put_counts x t φ h.of_goal h.depth);
  denote = denote_set s h.of_state h.of_goal x t b h.denote;
}
matches_after n cs s (Fresh x q) b h = record {
  of_state = put (record { 0 = s.next }) (name_at h.depth) h.of_state;
  of_goal = put x (name_at h.depth) h.of_goal;
  depth = suc h.depth;
  around = λ φ. h.around (forall (record { 0 = h.depth }) q φ);
  state_is = λ φ. h.state_is (forall (record { 0 = s.next }) q φ);
  commands_are = λ φ. seen n cs s h (Fresh x q) φ;
  denote = denote_fresh s h.of_state h.of_goal x h.depth h.denote;
}
matches_after n cs s (Assume a) b h = record {
  of_state = h.of_state;
  of_goal = h.of_goal;
  depth = h.depth;
  around = λ φ. h.around (implies (placed true h.depth h.of_goal a) φ);
  state_is = λ φ. h.state_is (implies (made s a) φ)
      ∙ ap (λ u. h.around (implies u (placed true h.depth h.of_state φ))) (made_is a s h.of_state h.of_goal h.depth b h.denote);
  commands_are = λ φ. seen n cs s h (Assume a) φ;
  denote = h.denote;
}

-- ---- many

pub leads_nowhere : (s : State) (cs : List Command) → cs ≡ [] → Leads s cs s
leads_nowhere s cs e = record { leads = λ ds m. rw (e, append-nil ds) m }

pub leads_on : (s s' s'' : State) (cs : List Command) (i : ℕ) (c : Command) → i < length cs → c ≡ get_or cs i c → Leads s (take i cs) s' → (s'' ≡ after s' c) × IsBelow c → Leads s (take (i + 1) cs) s''
leads_on s s' s'' cs i c within read so_far (is, below) = record {
  leads = λ ds m n.
      let here = matches_after n (ds ++ take i cs) s' c below (so_far.leads ds m n) in
      along (λ es. MatchesFrom n es s'') (path ds) (along (λ z. MatchesFrom n ((ds ++ take i cs) ++ c ∷ []) z) (sym is) here);
}
  where
    taken : take (i + 1) cs ≡ take i cs ++ c ∷ []
    taken = take_more cs i c within ∙ ap (λ x. take i cs ++ x ∷ []) (sym read)

    path : (ds : List Command) → (ds ++ take i cs) ++ c ∷ [] ≡ ds ++ take (i + 1) cs
    path ds = append_assoc ds (take i cs) (c ∷ []) ∙ ap (λ es. ds ++ es) (sym taken)

-- ---- goals

-- the goal at a state that stands for the commands
pub goal_is : (s : State) (g h : Goal) (t : Term) → above g.formula ≤ first_new → t ≡ reduced (goal_at s g.formula) → h ≡ record { kind = g.kind; span = g.span; formula = t } → IsGoalAt s g h
goal_is s g h t b e f = record { is = λ cs m. f ∙ ap (λ (u : Term). record { kind = g.kind; span = g.span; formula = u }) (e ∙ same_reducts (goal_at s g.formula) (before_all cs g.formula) (both_ways cs m)) }
  where
    both_ways : (cs : List Command) → Matches cs s → (n : ℕ) → placed true n itself (goal_at s g.formula) ≡ placed true n itself (before_all cs g.formula)
    both_ways cs m n =
        let at = m n in
        at.state_is (made s g.formula) ∙ ap at.around (made_is g.formula s at.of_state at.of_goal at.depth b at.denote) ∙ sym (at.commands_are g.formula)

pub begins : Matches [] start
begins n = record {
  of_state = itself;
  of_goal = itself;
  depth = n;
  around = λ φ. φ;
  state_is = λ φ. refl;
  commands_are = λ φ. refl;
  denote = λ x l. ((λ y e. let same : y.0 ≡ x.0 = same_test y.0 x.0 e in omega arith), (λ k. refl));
}
