-- The goals of a body's walk are those of its prefixes.
use Rattle.std.proofs.Common.{◌≡◌, ◌∙◌, refl, sym, ap, ap₂, subst, ℕ, zero, suc, ◌+◌, true, false, List, [], ◌∷◌, ◌++◌, map, inl, inr, Some, None, slice_get, arith}
use Rattle.std.specs.Prelude.{Contains}
use Rattle.std.proofs.lemmas.List.{map-append}
use Rattle.std.proofs.lemmas.List.Elements.{Contains-append_left, Contains-append_right, Contains-append_cases}
use Rattle.logic_term.specs.declared.kinds.Label.{Label}
use Rattle.mir_ir.specs.declared.place.Place.{Place}
use Rattle.mir_ir.specs.declared.terminator.Terminator.{Terminator}
use Rattle.mir_ir.specs.declared.terminator.TerminatorKind.TheVariants.{Goto, If, Switch, Call, Return, Panic}
use Rattle.mir_ir.specs.declared.body.Point.{Point}
use Rattle.mir_ir.specs.Layout.{among}
use Rattle.prophecy_logic.specs.declared.command.Command.{Command}
use Rattle.prophecy_logic.specs.declared.goal.Goal.{Goal}
use Rattle.prophecy_logic.specs.Graph.{Setting, start_of, behind, IsAtEnd, Within, by_statement, by_end, Ends, goto, branch, switch, call, return, panic, Sides, no_side, last_side, one_side, Arrives, plain, first, again, goals_of_walk}
use Rattle.prophecy_logic.specs.Laws.{PrefixesHaveGoals, GoalsAreSeenBefore}
use Rattle.prophecy_logic.specs.Loop.{head_commands}
use Rattle.prophecy_logic.specs.Prefix.{At, arrival, within, Prefix, entry, into_block, into_head, over_statement, along_goto, to_true_side, to_false_side, to_variant, over_call, IsMet, at_entry, after_turn, at_statement, at_call, at_return, at_panic, IsGoalOfPrefix, of_prefix}
use Rattle.prophecy_logic.specs.Row.{goals_of, commands_of}
use Rattle.prophecy_logic.specs.Walk.{goal_before, seen_before, goals_at_return, goals_at_panic, where_true, where_false, where_variant, goals_at_entry, goals_after_turn, goals_of_call, call_commands, Walk, stop, row, fork, owed, met}
use Rattle.prophecy_logic.proofs.Ahead.{before_append}
use Rattle.prophecy_logic.proofs.Steps.{some_same, to_end, ends_by, comes_by}
use Rattle.prophecy_logic.proofs.Steps as steps

-- ---- goals as they are seen from before commands

pub seen_more : (cs ds : List Command) (gs : List Goal) → seen_before (cs ++ ds) gs ≡ seen_before cs (seen_before ds gs)
seen_more cs ds [] = refl
seen_more cs ds (g ∷ gs) = ap₂ (λ (x : Goal) xs. x ∷ xs) (ap (λ φ. record { kind = g.kind; span = g.span; formula = φ }) (before_append cs ds g.formula)) (seen_more cs ds gs)

pub goals_are_seen_before : GoalsAreSeenBefore
goals_are_seen_before cs stop = refl
goals_are_seen_before cs (row gs ds v) =
    ap (λ xs. seen_before cs gs ++ xs) (goals_are_seen_before (cs ++ ds) v ∙ seen_more cs ds (met v)) ∙ sym (map-append (goal_before cs) gs (seen_before ds (met v)))
goals_are_seen_before cs (fork a b) = ap₂ (λ x y. x ++ y) (goals_are_seen_before cs a) (goals_are_seen_before cs b) ∙ sym (map-append (goal_before cs) (met a) (met b))

-- ---- elements

contains_next : {A : Type 0} (x y : A) (xs : List A) → Contains xs y → Contains (x ∷ xs) y
contains_next x y xs (k, within_it, is) = (suc k, omega (arith, within_it), is)

contains_mapped : {A B : Type 0} (f : A → B) (xs : List A) (x : A) → Contains xs x → Contains (map f xs) (f x)
contains_mapped f [] x (k, within_it, is) = absurd (omega (arith, within_it))
contains_mapped f (y ∷ ys) x (zero, within_it, is) = (zero, omega arith, ap f is)
contains_mapped f (y ∷ ys) x (suc k, within_it, is) = contains_next (f y) (f x) (map f ys) (contains_mapped f ys x (k, omega (arith, within_it), is))

of_mapped : {A B : Type 0} (f : A → B) (xs : List A) (y : B) → Contains (map f xs) y → (x : A) × Contains xs x × (f x ≡ y)
of_mapped f [] y (k, within_it, is) = absurd (omega (arith, within_it))
of_mapped f (x ∷ xs) y (zero, within_it, is) = (x, (zero, omega arith, refl), is)
of_mapped f (x ∷ xs) y (suc k, within_it, is) = let r = of_mapped f xs y (k, omega (arith, within_it), is) in (r.0, contains_next x r.0 xs r.1, r.2)

-- ---- each prefix's goals are the walk's

abbrev Stands : Setting → List Label → At → Walk → Type 0
Stands w heads (arrival l) v = Arrives w heads l v
Stands w heads (within p) v = Within w heads p v

-- what the walk has left where the prefix ends, all goals of which are goals of the walk
record Stood (w : Setting) (tree : Walk) (heads : List Label) (at : At) (cs : List Command) : Type 0 where
  left : Walk
  stands : Stands w heads at left
  all : (g : Goal) → Contains (owed cs left) g → Contains (goals_of_walk w tree) g

module _ (w : Setting) (tree : Walk) where
  over_row : (heads inner : List Label) (at next : At) (cs ds : List Command) (gs : List Goal) (u : Walk) (s : Stood w tree heads at cs) → Stands w inner next u → s.left ≡ row gs ds u → Stood w tree inner next (cs ++ ds)
  over_row heads inner at next cs ds gs u s stands is = record {
    left = u;
    stands = stands;
    all = λ g h. s.all g (subst (λ v. Contains (owed cs v) g) (sym is) (Contains-append_right (seen_before cs gs) (owed (cs ++ ds) u) g h));
  }

  to_first : (heads : List Label) (at next : At) (cs ds es : List Command) (a b : Walk) (s : Stood w tree heads at cs) → Stands w heads next a → s.left ≡ fork (row [] ds a) (row [] es b) → Stood w tree heads next (cs ++ ds)
  to_first heads at next cs ds es a b s stands is = record {
    left = a;
    stands = stands;
    all = λ g h. s.all g (subst (λ v. Contains (owed cs v) g) (sym is) (Contains-append_left (owed (cs ++ ds) a) (owed (cs ++ es) b) g h));
  }

  to_second : (heads : List Label) (at next : At) (cs ds es : List Command) (a b : Walk) (s : Stood w tree heads at cs) → Stands w heads next b → s.left ≡ fork (row [] ds a) (row [] es b) → Stood w tree heads next (cs ++ es)
  to_second heads at next cs ds es a b s stands is = record {
    left = b;
    stands = stands;
    all = λ g h. s.all g (subst (λ v. Contains (owed cs v) g) (sym is) (Contains-append_right (owed (cs ++ ds) a) (owed (cs ++ es) b) g h));
  }

  -- the side of variant n, in what a walk has left from a switch on, for the variants from j on
  side_there : {heads : List Label} {q : Place} {j : ℕ} {ls : List Label} {v : Walk} (cs : List Command) (k n : ℕ) (l : Label) → Sides w heads q j ls v → slice_get ls k ≡ Some l → n ≡ j + k
      → (u : Walk) × Arrives w heads l u × ((g : Goal) → Contains (owed (cs ++ where_variant w.body w.decls q n) u) g → Contains (owed cs v) g)
  side_there cs k n l no_side e is = absurd (let none : None ≡ Some l = e in cc)
  side_there {heads} {q} {j} cs zero n l (last_side {l = m} {u = u} a) e is =
      let same : n ≡ j = omega (arith, is) in
      (u, subst (λ x. Arrives w heads x u) (some_same e) a, λ g h. subst (λ i. Contains (owed (cs ++ where_variant w.body w.decls q i) u) g) same h)
  side_there cs (suc k) n l (last_side a) e is = absurd (let none : None ≡ Some l = e in cc)
  side_there {heads} {q} {j} cs zero n l (one_side {l = m} {u = u} {v = x} a s) e is =
      let same : n ≡ j = omega (arith, is) in (
        u,
        subst (λ y. Arrives w heads y u) (some_same e) a,
        λ g h. Contains-append_left (owed (cs ++ where_variant w.body w.decls q j) u) (owed cs x) g (subst (λ i. Contains (owed (cs ++ where_variant w.body w.decls q i) u) g) same h),
      )
  side_there {heads} {q} {j} cs (suc k) n l (one_side {u = u} {v = x} a s) e is =
      let r = side_there cs k n l s e (omega (arith, is)) in
      (r.0, r.1, λ g h. Contains-append_right (owed (cs ++ where_variant w.body w.decls q j) u) (owed cs x) g (r.2 g h))

  stood : Arrives w [] w.body.entry tree → (heads : List Label) (at : At) (cs : List Command) → Prefix w heads at cs → Stood w tree heads at cs
  stood a heads at cs entry = record { left = tree; stands = a; all = λ g h. h }
  stood a heads at cs (into_block {l = l} k x is none) =
      let s = stood a heads (arrival l) cs x in
      record { left = s.left; stands = comes_by s.stands k None (among l heads) is none refl; all = s.all }
  stood a heads at cs (into_head {heads = outer} {l = l} {cs = bs} k h x is is_head new) =
      let s = stood a outer (arrival l) bs x in
      let c = comes_by s.stands k (Some h) false is is_head new in
      over_row outer (l ∷ outer) (arrival l) (within (start_of l)) bs (head_commands w.body w.init l h) (goals_at_entry h) c.0 s c.1 c.2
  stood a heads at cs (over_statement {p = p} {cs = bs} st x here) =
      let s = stood a heads (within p) bs x in
      let o = steps.over_statement s.stands st here in
      over_row heads heads (within p) (within (behind p)) bs (commands_of w.body st.kind) (goals_of w.body st.span st.kind) o.rest s o.walks o.is
  stood a heads at cs (along_goto {p = p} end l x here is) =
      let s = stood a heads (within p) cs x in
      record { left = s.left; stands = ends_by (to_end s.stands end here) (Goto l) is; all = s.all }
  stood a heads at cs (to_true_side {p = p} {cs = bs} end o on_true on_false x here is) =
      let s = stood a heads (within p) bs x in
      let e = ends_by (to_end s.stands end here) (If o on_true on_false) is in
      to_first heads (within p) (arrival on_true) bs (where_true w.body o) (where_false w.body o) e.0 e.2 s e.1 e.4
  stood a heads at cs (to_false_side {p = p} {cs = bs} end o on_true on_false x here is) =
      let s = stood a heads (within p) bs x in
      let e = ends_by (to_end s.stands end here) (If o on_true on_false) is in
      to_second heads (within p) (arrival on_false) bs (where_true w.body o) (where_false w.body o) e.0 e.2 s e.3 e.4
  stood a heads at cs (to_variant {p = p} {cs = bs} end q ls k l x here is is_l) =
      let s = stood a heads (within p) bs x in
      let r = side_there bs k k l (ends_by (to_end s.stands end here) (Switch q ls) is) is_l (omega arith) in
      record { left = r.0; stands = r.1; all = λ g h. s.all g (r.2 g h) }
  stood a heads at cs (over_call {p = p} {cs = bs} end q callee types args l d t x here is is_d is_t) =
      let s = stood a heads (within p) bs x in
      let e = ends_by (to_end s.stands end here) (Call q callee types args l) is in
      let same_d = some_same (sym e.4 ∙ is_d) in
      let same_t = some_same (sym e.5 ∙ is_t) in
      subst (λ c. Stood w tree heads (arrival l) (bs ++ call_commands w.body c q.local t args)) same_d
      (subst (λ ty. Stood w tree heads (arrival l) (bs ++ call_commands w.body e.2 q.local ty args)) same_t
      (over_row heads heads (within p) (arrival l) bs (call_commands w.body e.2 q.local e.3 args) (goals_of_call w.body e.2 end.span args) e.0 s e.1 e.6))

  in_row : (cs ds : List Command) (gs : List Goal) (u v : Walk) (g : Goal) → v ≡ row gs ds u → Contains gs g → Contains (owed cs v) (goal_before cs g)
  in_row cs ds gs u v g is h =
      subst (λ x. Contains (owed cs x) (goal_before cs g)) (sym is)
      (Contains-append_left (seen_before cs gs) (owed (cs ++ ds) u) (goal_before cs g) (contains_mapped (goal_before cs) gs g h))

  -- a goal that is met at a point is one of what the walk has left there
  met_there : (heads : List Label) (at : At) (cs : List Command) (v : Walk) (g : Goal) → IsMet w heads at g → Stands w heads at v → Contains (owed cs v) (goal_before cs g)
  met_there heads at cs v g (at_entry {l = l} k h is is_head new i) s =
      let c = comes_by s k (Some h) false is is_head new in
      in_row cs (head_commands w.body w.init l h) (goals_at_entry h) c.0 v g c.2 i
  met_there heads at cs v g (after_turn k h is is_head there i) s = in_row cs [] (goals_after_turn h) stop v g (comes_by s k (Some h) true is is_head there) i
  met_there heads at cs v g (at_statement st here i) s =
      let o = steps.over_statement s st here in
      in_row cs (commands_of w.body st.kind) (goals_of w.body st.span st.kind) o.rest v g o.is i
  met_there heads at cs v g (at_call end q callee types args l d here is is_d i) s =
      let e = ends_by (to_end s end here) (Call q callee types args l) is in
      let same_d = some_same (sym is_d ∙ e.4) in
      in_row cs (call_commands w.body e.2 q.local e.3 args) (goals_of_call w.body e.2 end.span args) e.0 v g e.6 (subst (λ c. Contains (goals_of_call w.body c end.span args) g) same_d i)
  met_there heads at cs v g (at_return end here is i) s = in_row cs [] (goals_at_return w.body w.contract) stop v g (ends_by (to_end s end here) Return is) i
  met_there heads at cs v g (at_panic end cause here is i) s = in_row cs [] (goals_at_panic end.span) stop v g (ends_by (to_end s end here) (Panic cause) is) i

  none_is_lost : Arrives w [] w.body.entry tree → (g : Goal) → IsGoalOfPrefix w g → Contains (goals_of_walk w tree) g
  none_is_lost a g (of_prefix {heads = heads} {at = at} {cs = cs} {g = h} x m) =
      let s = stood a heads at cs x in
      s.all (goal_before cs h) (met_there heads at cs s.left h m s.stands)

-- ---- and back

module _ (w : Setting) where
  found : (heads : List Label) (at : At) (cs : List Command) (gs : List Goal) (t : Goal) → ((g : Goal) → Contains gs g → IsMet w heads at g) → Prefix w heads at cs → Contains (seen_before cs gs) t → IsGoalOfPrefix w t
  found heads at cs gs t k x h = let m = of_mapped (goal_before cs) gs t h in subst (IsGoalOfPrefix w) m.2 (of_prefix x (k m.0 m.1))

  mutual
    from_within : (heads : List Label) (p : Point) (v : Walk) (cs : List Command) (t : Goal) → Within w heads p v → Prefix w heads (within p) cs → Contains (owed cs v) t → IsGoalOfPrefix w t
    from_within heads p v cs t (by_statement {v = u} st here r) x h =
        elim (Contains-append_cases (seen_before cs (goals_of w.body st.span st.kind)) (owed (cs ++ commands_of w.body st.kind) u) t h) [
          | inl m ↦ found heads (within p) cs (goals_of w.body st.span st.kind) t (λ g i. at_statement st here i) x m
          | inr m ↦ from_within heads (behind p) u (cs ++ commands_of w.body st.kind) t r (over_statement st x here) m
        ]
    from_within heads p v cs t (by_end end here e) x h = from_end heads end v p cs t e here x h

    from_end : (heads : List Label) (end : Terminator) (v : Walk) (p : Point) (cs : List Command) (t : Goal) → Ends w heads end v → IsAtEnd w.body p end → Prefix w heads (within p) cs → Contains (owed cs v) t → IsGoalOfPrefix w t
    from_end heads end v p cs t (goto l is a) here x h = from_arrival heads l v cs t a (along_goto end l x here is) h
    from_end heads end v p cs t (branch {u = a} {v = b} o on_true on_false is to_a to_b) here x h =
        elim (Contains-append_cases (owed (cs ++ where_true w.body o) a) (owed (cs ++ where_false w.body o) b) t h) [
          | inl m ↦ from_arrival heads on_true a (cs ++ where_true w.body o) t to_a (to_true_side end o on_true on_false x here is) m
          | inr m ↦ from_arrival heads on_false b (cs ++ where_false w.body o) t to_b (to_false_side end o on_true on_false x here is) m
        ]
    from_end heads end v p cs t (switch q ls is s) here x h = from_sides heads end p cs t q ls 0 ls v s (λ k n l e i. subst (λ j. slice_get ls j ≡ Some l) (let same : k ≡ n = omega (arith, i) in same) e) is here x h
    from_end heads end v p cs t (call {v = u} q callee types args l d ty is is_d is_t a) here x h =
        elim (Contains-append_cases (seen_before cs (goals_of_call w.body d end.span args)) (owed (cs ++ call_commands w.body d q.local ty args) u) t h) [
          | inl m ↦ found heads (within p) cs (goals_of_call w.body d end.span args) t (λ g i. at_call end q callee types args l d here is is_d i) x m
          | inr m ↦ from_arrival heads l u (cs ++ call_commands w.body d q.local ty args) t a (over_call end q callee types args l d ty x here is is_d is_t) m
        ]
    from_end heads end v p cs t (return is) here x h =
        elim (Contains-append_cases (seen_before cs (goals_at_return w.body w.contract)) [] t h) [
          | inl m ↦ found heads (within p) cs (goals_at_return w.body w.contract) t (λ g i. at_return end here is i) x m
          | inr m ↦ absurd (omega (arith, m.1))
        ]
    from_end heads end v p cs t (panic cause is) here x h =
        elim (Contains-append_cases (seen_before cs (goals_at_panic end.span)) [] t h) [
          | inl m ↦ found heads (within p) cs (goals_at_panic end.span) t (λ g i. at_panic end cause here is i) x m
          | inr m ↦ absurd (omega (arith, m.1))
        ]

    -- the labels from variant j on are those of the switch from there on
    from_sides : (heads : List Label) (end : Terminator) (p : Point) (cs : List Command) (t : Goal) (q : Place) (all : List Label) (j : ℕ) (ls : List Label) (v : Walk) → Sides w heads q j ls v
        → ((k n : ℕ) (l : Label) → slice_get ls k ≡ Some l → n ≡ j + k → slice_get all n ≡ Some l) → end.kind ≡ Switch q all → IsAtEnd w.body p end → Prefix w heads (within p) cs → Contains (owed cs v) t → IsGoalOfPrefix w t
    from_sides heads end p cs t q all j ls v no_side among_all is here x h = absurd (omega (arith, h.1))
    from_sides heads end p cs t q all j ls v (last_side {l = l} {u = u} a) among_all is here x h =
        from_arrival heads l u (cs ++ where_variant w.body w.decls q j) t a (to_variant end q all j l x here is (among_all 0 j l refl (omega arith))) h
    from_sides heads end p cs t q all j ls v (one_side {l = l} {u = u} {v = y} a s) among_all is here x h =
        elim (Contains-append_cases (owed (cs ++ where_variant w.body w.decls q j) u) (owed cs y) t h) [
          | inl m ↦ from_arrival heads l u (cs ++ where_variant w.body w.decls q j) t a (to_variant end q all j l x here is (among_all 0 j l refl (omega arith))) m
          | inr m ↦ from_sides heads end p cs t q all (j + 1) _ y s (λ k n m e i. among_all (suc k) n m e (omega (arith, i))) is here x m
        ]

    from_arrival : (heads : List Label) (l : Label) (v : Walk) (cs : List Command) (t : Goal) → Arrives w heads l v → Prefix w heads (arrival l) cs → Contains (owed cs v) t → IsGoalOfPrefix w t
    from_arrival heads l v cs t (plain k is none r) x h = from_within heads (start_of l) v cs t r (into_block k x is none) h
    from_arrival heads l v cs t (first {v = u} k hd is is_head new r) x h =
        elim (Contains-append_cases (seen_before cs (goals_at_entry hd)) (owed (cs ++ head_commands w.body w.init l hd) u) t h) [
          | inl m ↦ found heads (arrival l) cs (goals_at_entry hd) t (λ g i. at_entry k hd is is_head new i) x m
          | inr m ↦ from_within (l ∷ heads) (start_of l) u (cs ++ head_commands w.body w.init l hd) t r (into_head k hd x is is_head new) m
        ]
    from_arrival heads l v cs t (again k hd is is_head there) x h =
        elim (Contains-append_cases (seen_before cs (goals_after_turn hd)) [] t h) [
          | inl m ↦ found heads (arrival l) cs (goals_after_turn hd) t (λ g i. after_turn k hd is is_head there i) x m
          | inr m ↦ absurd (omega (arith, m.1))
        ]

pub prefixes_have_goals : PrefixesHaveGoals
prefixes_have_goals w v a = record {
  none_is_lost = none_is_lost w v a;
  none_is_added = λ g h. from_arrival w [] w.body.entry v _ g a entry h;
}
