-- Goals of a walk, as they are met on the way.
use Rattle.std.proofs.Common.{◌≡◌, ◌∙◌, sym, ap, ap₂, subst, ℕ, ◌+◌, ◌*◌, ◌<◌, Some, None, Bool, true, false, cond, arith, List, [], ◌∷◌, ◌++◌, length, get_or, refl}
use Rattle.std.proofs.lemmas.List.{append_assoc, append-nil, map-append}
use Rattle.std.specs.Prelude.{slice_get}
use Rattle.std.proofs.lemmas.Option.{slice_get_read}
use Rattle.text_core.specs.declared.refusal.Cause.{Cause}
use Rattle.logic_term.specs.declared.kinds.Label.{Label}
use Rattle.logic_term.specs.declared.obligation.Obligation.{Obligation}
use Rattle.logic_term.specs.Normal.{reduced}
use Rattle.logic_term.specs.Ty.{Ty}
use Rattle.mir_ir.specs.declared.statement.Statement.{Statement}
use Rattle.mir_ir.specs.declared.place.Operand.{Operand}
use Rattle.mir_ir.specs.declared.place.Place.{Place}
use Rattle.mir_ir.specs.declared.terminator.Callee.{Callee}
use Rattle.mir_ir.specs.declared.terminator.Terminator.{Terminator}
use Rattle.mir_ir.specs.declared.terminator.TerminatorKind.TheVariants.{Goto, If, Switch, Call, Return, Panic}
use Rattle.mir_ir.specs.declared.body.Block.{Block}
use Rattle.mir_ir.specs.declared.body.Head.{Head}
use Rattle.mir_ir.specs.Body.{block_in}
use Rattle.mir_ir.specs.Layout.{among, targets}
use Rattle.prophecy_logic.specs.declared.command.Command.{Command}
use Rattle.prophecy_logic.specs.declared.goal.Goal.{Goal}
use Rattle.prophecy_logic.specs.Graph.{Setting, start_of, Within, by_statement, by_end, Ends, goto, branch, switch, call, return, panic, Sides, no_side, last_side, one_side, Arrives, plain, first, again, numbered, AreObligations}
use Rattle.prophecy_logic.specs.Loop.{head_commands}
use Rattle.prophecy_logic.specs.Row.{goals_of, commands_of}
use Rattle.prophecy_logic.specs.State.{State, start, Matches, Leads, closed_goal, closed_goals, Adds, listed}
use Rattle.prophecy_logic.specs.Walk.{seen_before, goals_at_return, goals_at_panic, where_true, where_false, where_variant, goals_at_entry, goals_after_turn, goals_of_call, call_commands, entry_commands, Walk, stop, row, fork, met}
use Rattle.prophecy_logic.specs.Walkable.{CanWalk, MayArrive, MayWalk}
use Rattle.prophecy_logic.proofs.Ahead.{before_append, begins}
use Rattle.prophecy_logic.proofs.ArriveLaws.{room, next_arrival, head_block, switch_names}
use Rattle.prophecy_logic.proofs.Prefixes.{goals_are_seen_before}
use Rattle.prophecy_logic.proofs.Steps.{some_same}
use Rattle.wp_gen.proofs.PathLaws.{last_among}
use Rattle.wp_gen.specs.Paths.{last_of, before_last}
use Rattle.wp_gen.specs.declared.reached.Reached.{Reached}
use Rattle.wp_gen.specs.declared.reached.Spot.{Spot}
use Rattle.wp_gen.specs.declared.reached.Next.{Next}
use Rattle.wp_gen.specs.declared.reached.Next.TheVariants.{On, Done}
use Rattle.wp_gen.specs.Reached.{IsOver, AreSideGoals, IsOverSides, IsBack, IsAtLastSide, GoesOn, AreStatements, Passes, IsOverCall, AreMet, blocks_from, ahead, StandsAtEnd, ComesToEnd, LeadsTo, GoesTo}

-- ---- goals of rows

closed_more : (cs ds : List Command) (gs : List Goal) → closed_goals cs (seen_before ds gs) ≡ closed_goals (cs ++ ds) gs
closed_more cs ds [] = refl
closed_more cs ds (g ∷ gs) = ap₂ (λ (x : Goal) xs. x ∷ xs)
    (ap (λ φ. record { kind = g.kind; span = g.span; formula = reduced φ }) (sym (before_append cs ds g.formula))) (closed_more cs ds gs)

-- the goals of a row, and behind them those after it
adds_then : (s s' : State) (ds : List Command) (goals own mid after all : List Goal) → Adds s goals own mid → Leads s ds s' → Adds s' mid after all → Adds s goals (own ++ seen_before ds after) all
adds_then s s' ds goals own mid after all a l b = record {
  adds = λ cs m.
      b.adds (cs ++ ds) (l.leads cs m)
      ∙ ap (λ xs. xs ++ closed_goals (cs ++ ds) after) (a.adds cs m)
      ∙ append_assoc goals (closed_goals cs own) (closed_goals (cs ++ ds) after)
      ∙ ap (λ xs. goals ++ xs) (ap (λ xs. closed_goals cs own ++ xs) (sym (closed_more cs ds after)) ∙ sym (map-append (closed_goal cs) own (seen_before ds after)));
}

adds_both : (s : State) (goals own mid others all : List Goal) → Adds s goals own mid → Adds s mid others all → Adds s goals (own ++ others) all
adds_both s goals own mid others all a b = record {
  adds = λ cs m.
      b.adds cs m ∙ ap (λ xs. xs ++ closed_goals cs others) (a.adds cs m)
      ∙ append_assoc goals (closed_goals cs own) (closed_goals cs others)
      ∙ ap (λ xs. goals ++ xs) (sym (map-append (closed_goal cs) own others));
}

over_then : (own : List Goal) (ds : List Command) (from to : Reached) (after all : List Goal) → IsOver own ds from to → Adds to.state to.goals.items after all → Adds from.state from.goals.items (own ++ seen_before ds after) all
over_then own ds from to after all o a = adds_then from.state to.state ds from.goals.items own to.goals.items after all o.goals o.state a

-- ---- statements

pub passes_none : (w : Setting) (l : Label) (from : Reached) → Passes w l 0 from from
passes_none w l from = record { walks = λ heads all h. h }

pub passes_one : (w : Setting) (l : Label) (sts : List Statement) (i : ℕ) (st : Statement) (from mid to : Reached) → AreStatements w.body l sts → i < length sts → st ≡ get_or sts i st → Passes w l i from mid
    → IsOver (goals_of w.body st.span st.kind) (commands_of w.body st.kind) mid to → Passes w l (i + 1) from to
passes_one w l sts i st from mid to of_block below read so_far o = record {
  walks = λ heads all h. so_far.walks heads all (record {
    left = row (goals_of w.body st.span st.kind) (commands_of w.body st.kind) h.left;
    is_left = by_statement st (record {
      block = of_block.block;
      is_block = of_block.is_block;
      is_statement = ap (λ xs. slice_get xs i) of_block.are ∙ slice_get_read sts (length sts) i st refl below read;
    }) h.is_left;
    adds = over_then (goals_of w.body st.span st.kind) (commands_of w.body st.kind) mid to (met h.left) all o h.adds;
  });
}

-- over all statements of a block, and on from its end
pub block_walks : (w : Setting) (heads : List Label) (l : Label) (k : Block) (sts : List Statement) (from end : Reached) (all : List Goal) → block_in w.body.blocks l ≡ Some k → sts ≡ k.statements → Passes w l (length sts) from end
    → GoesOn (Ends w heads k.end) end all → GoesOn (Within w heads (start_of l)) from all
block_walks w heads l k sts from end all is same passes h = passes.walks heads all (record {
  left = h.left;
  is_left = by_end k.end (record { block = k; is_block = is; is_last = ap length same; is_end = refl }) h.is_left;
  adds = h.adds;
})

-- ---- blocks' ends

pub goto_walks : (w : Setting) (heads : List Label) (end : Terminator) (l : Label) (from : Reached) (all : List Goal) → end.kind ≡ Goto l → GoesOn (Arrives w heads l) from all → GoesOn (Ends w heads end) from all
goto_walks w heads end l from all is h = record { left = h.left; is_left = goto l is h.is_left; adds = h.adds }

pub branch_walks : (w : Setting) (heads : List Label) (end : Terminator) (o : Operand) (l l' : Label) (from true_side back false_side : Reached) (goals all : List Goal) → end.kind ≡ If o l l'
    → back.state ≡ from.state → back.goals.items ≡ goals → IsOver [] (where_true w.body o) from true_side → GoesOn (Arrives w heads l) true_side goals
    → IsOver [] (where_false w.body o) back false_side → GoesOn (Arrives w heads l') false_side all → GoesOn (Ends w heads end) from all
branch_walks w heads end o l l' from true_side back false_side goals all is same goals_are to_true one to_false two = record {
  left = fork (row [] (where_true w.body o) one.left) (row [] (where_false w.body o) two.left);
  is_left = branch o l l' is one.is_left two.is_left;
  adds = adds_both from.state from.goals.items (seen_before (where_true w.body o) (met one.left)) goals (seen_before (where_false w.body o) (met two.left)) all
      (over_then [] (where_true w.body o) from true_side (met one.left) goals to_true one.adds) second;
}
  where
    second : Adds from.state goals (seen_before (where_false w.body o) (met two.left)) all
    second = subst (λ s. Adds s goals (seen_before (where_false w.body o) (met two.left)) all) same
        (subst (λ gs. Adds back.state gs (seen_before (where_false w.body o) (met two.left)) all) goals_are (over_then [] (where_false w.body o) back false_side (met two.left) all to_false two.adds))

-- ---- switches

pub adds_none : (s : State) (goals : List Goal) → Adds s goals [] goals
adds_none s goals = record { adds = λ cs m. sym (append-nil goals) }

-- one side more
pub side_goals_more : (w : Setting) (heads : List Label) (p : Place) (k n : ℕ) (ls : List Label) (gs : List Goal) (m : Label) (u : Walk) → AreSideGoals w heads p k ls gs → Arrives w heads m u → n ≡ k + length ls
    → AreSideGoals w heads p k (ls ++ m ∷ []) (gs ++ seen_before (where_variant w.body w.decls p n) (met u))
side_goals_more w heads p k n [] gs m u none a is =
    let same : n ≡ k = omega (arith, is) in
    (u, [], a, refl, ap (λ xs. xs ++ seen_before (where_variant w.body w.decls p n) (met u)) none ∙ ap (λ i. seen_before (where_variant w.body w.decls p i) (met u)) same ∙ sym (append-nil (seen_before (where_variant w.body w.decls p k) (met u))))
side_goals_more w heads p k n (l ∷ ls) gs m u (front, rest, arrives, others, are) a is = (
  front,
  rest ++ seen_before (where_variant w.body w.decls p n) (met u),
  arrives,
  side_goals_more w heads p (k + 1) n ls rest m u others a (omega (arith, is)),
  ap (λ xs. xs ++ seen_before (where_variant w.body w.decls p n) (met u)) are ∙ append_assoc (seen_before (where_variant w.body w.decls p k) (met front)) rest (seen_before (where_variant w.body w.decls p n) (met u)),
)

-- over the first sides and one more
pub over_one_side : (w : Setting) (heads hs : List Label) (p : Place) (n : ℕ) (ls : List Label) (state : State) (goals gs mid after : List Goal) (m : Label) (from side : Reached) → AreSideGoals w heads p 0 ls gs → n ≡ length ls
    → Adds state goals gs mid → from.state ≡ state → from.goals.items ≡ mid → IsOver [] (where_variant w.body w.decls p n) from side → hs ≡ heads → GoesOn (Arrives w hs m) side after
    → (all : List Goal) × AreSideGoals w heads p 0 (ls ++ m ∷ []) all × Adds state goals all after
over_one_side w heads hs p n ls state goals gs mid after m from side are is adds same_state same_goals over same_heads h =
    let a : Arrives w heads m h.left = subst (λ x. Arrives w x m h.left) same_heads h.is_left in
    let second : Adds from.state from.goals.items (seen_before (where_variant w.body w.decls p n) (met h.left)) after = over_then [] (where_variant w.body w.decls p n) from side (met h.left) after over h.adds in
    let there : Adds state mid (seen_before (where_variant w.body w.decls p n) (met h.left)) after =
    subst (λ s. Adds s mid (seen_before (where_variant w.body w.decls p n) (met h.left)) after) same_state (subst (λ xs. Adds from.state xs (seen_before (where_variant w.body w.decls p n) (met h.left)) after) same_goals second) in
    (gs ++ seen_before (where_variant w.body w.decls p n) (met h.left), side_goals_more w heads p 0 n ls gs m h.left are a (omega (arith, is)), adds_both state goals gs mid (seen_before (where_variant w.body w.decls p n) (met h.left)) after adds there)

-- the sides of a switch, from those before the last and the last
sides_built : (w : Setting) (heads : List Label) (p : Place) (k n : ℕ) (ls : List Label) (gs : List Goal) (m : Label) (u : Walk) → last_of ls ≡ Some m → AreSideGoals w heads p k (before_last ls) gs → n ≡ k + length (before_last ls) → Arrives w heads m u
    → (v : Walk) × Sides w heads p k ls v × (met v ≡ gs ++ seen_before (where_variant w.body w.decls p n) (met u))
sides_built w heads p k n [] gs m u e are is a = absurd (let none : None ≡ Some m = e in cc)
sides_built w heads p k n (l ∷ []) gs m u e none is a =
    let same : n ≡ k = omega (arith, is) in
    let label : m ≡ l = sym (some_same e) in (
      row [] (where_variant w.body w.decls p k) u,
      last_side (subst (λ x. Arrives w heads x u) label a),
      ap (λ i. seen_before (where_variant w.body w.decls p i) (met u)) (sym same) ∙ ap (λ xs. xs ++ seen_before (where_variant w.body w.decls p n) (met u)) (sym none),
    )
sides_built w heads p k n (l ∷ x ∷ xs) gs m u e (front, rest, arrives, others, are) is a =
    let r = sides_built w heads p (k + 1) n (x ∷ xs) rest m u e others (omega (arith, is)) a in (
      fork (row [] (where_variant w.body w.decls p k) front) r.0,
      one_side arrives r.1,
      ap (λ ys. seen_before (where_variant w.body w.decls p k) (met front) ++ ys) r.2
          ∙ sym (append_assoc (seen_before (where_variant w.body w.decls p k) (met front)) rest (seen_before (where_variant w.body w.decls p n) (met u)))
          ∙ ap (λ ys. ys ++ seen_before (where_variant w.body w.decls p n) (met u)) (sym are),
    )

pub switch_walks : (w : Setting) (heads : List Label) (end : Terminator) (p : Place) (ls : List Label) (m : Label) (from back side : Reached) (all : List Goal) → end.kind ≡ Switch p ls → last_of ls ≡ Some m → IsOverSides w heads p (before_last ls) from back
    → IsOver [] (where_variant w.body w.decls p (length (before_last ls))) back side → GoesOn (Arrives w heads m) side all → GoesOn (Ends w heads end) from all
switch_walks w heads end p ls m from back side all is is_last over to h =
    let n : ℕ = length (before_last ls) in
    let others : List Goal = seen_before (where_variant w.body w.decls p n) (met h.left) in
    let v = sides_built w heads p 0 n ls over.goals m h.left is_last over.are (omega arith) h.is_left in
    let second : Adds from.state back.goals.items others all = subst (λ s. Adds s back.goals.items others all) over.state (over_then [] (where_variant w.body w.decls p n) back side (met h.left) all to h.adds) in
    record {
      left = v.0;
      is_left = switch p ls is v.1;
      adds = subst (λ gs. Adds from.state from.goals.items gs all) (sym v.2) (adds_both from.state from.goals.items over.goals back.goals.items others all over.adds second);
    }

no_label : (ls : List Label) → last_of ls ≡ None → ls ≡ []
no_label [] e = refl
no_label (l ∷ []) e = absurd (let some : Some l ≡ None = e in cc)
no_label (l ∷ m ∷ ms) e = absurd (let none : m ∷ ms ≡ [] = no_label (m ∷ ms) e in cc)

-- a switch over no variants
pub empty_switch_walks : (w : Setting) (heads : List Label) (end : Terminator) (p : Place) (ls : List Label) (from back : Reached) → end.kind ≡ Switch p ls → last_of ls ≡ None → IsOverSides w heads p (before_last ls) from back
    → GoesOn (Ends w heads end) from back.goals.items
empty_switch_walks w heads end p ls from back is none over =
    let empty : ls ≡ [] = no_label ls none in
    let no_goals : over.goals ≡ [] = subst (λ xs. AreSideGoals w heads p 0 (before_last xs) over.goals) empty over.are in
    record {
      left = stop;
      is_left = switch p ls is (subst (λ xs. Sides w heads p 0 xs stop) (sym empty) no_side);
      adds = subst (λ gs. Adds from.state from.goals.items gs back.goals.items) no_goals over.adds;
    }

pub call_walks : (w : Setting) (heads : List Label) (end : Terminator) (p : Place) (callee : Callee) (types : List Ty) (args args' : List Operand) (l : Label) (from to : Reached) (all : List Goal) → end.kind ≡ Call p callee types args l →
    args' ≡ args → IsOverCall w end.span p callee args' from to → GoesOn (Arrives w heads l) to all → GoesOn (Ends w heads end) from all
call_walks w heads end p callee types args args' l from to all is same over h =
    let o : IsOverCall w end.span p callee args from to = subst (λ xs. IsOverCall w end.span p callee xs from to) same over in
    record {
      left = row (goals_of_call w.body o.contract end.span args) (call_commands w.body o.contract p.local o.answer args) h.left;
      is_left = call p callee types args l o.contract o.answer is o.is_contract o.is_answer h.is_left;
      adds = over_then (goals_of_call w.body o.contract end.span args) (call_commands w.body o.contract p.local o.answer args) from to (met h.left) all o.over h.adds;
    }

-- a row behind which nothing is left
last_row : (s : State) (goals gs all : List Goal) → Adds s goals gs all → Adds s goals (met (row gs [] stop)) all
last_row s goals gs all h = subst (λ xs. Adds s goals xs all) (sym (append-nil gs)) h

pub return_walks : (w : Setting) (heads : List Label) (end : Terminator) (from : Reached) (all : List Goal) → end.kind ≡ Return →
    Adds from.state from.goals.items (goals_at_return w.body w.contract) all → GoesOn (Ends w heads end) from all
return_walks w heads end from all is h = record {
  left = row (goals_at_return w.body w.contract) [] stop;
  is_left = return is;
  adds = last_row from.state from.goals.items (goals_at_return w.body w.contract) all h;
}

pub panic_walks : (w : Setting) (heads : List Label) (end : Terminator) (cause : Cause) (from : Reached) (all : List Goal) → end.kind ≡ Panic cause → Adds from.state from.goals.items (goals_at_panic end.span) all → GoesOn (Ends w heads end) from all
panic_walks w heads end cause from all is h = record {
  left = row (goals_at_panic end.span) [] stop;
  is_left = panic cause is;
  adds = last_row from.state from.goals.items (goals_at_panic end.span) all h;
}

-- ---- arrivals

pub first_arrives : (w : Setting) (heads inner : List Label) (l : Label) (k : Block) (h : Head) (from to : Reached) (all : List Goal) → block_in w.body.blocks l ≡ Some k → k.head ≡ Some h → among l heads ≡ false →
    inner ≡ l ∷ heads → IsOver (goals_at_entry h) (head_commands w.body w.init l h) from to → GoesOn (Within w inner (start_of l)) to all → GoesOn (Arrives w heads l) from all
first_arrives w heads inner l k h from to all is is_head not_passed inner_is o walks =
    let here : GoesOn (Within w (l ∷ heads) (start_of l)) to all = subst (λ hs. GoesOn (Within w hs (start_of l)) to all) inner_is walks in
    record {
      left = row (goals_at_entry h) (head_commands w.body w.init l h) here.left;
      is_left = first k h is is_head not_passed here.is_left;
      adds = over_then (goals_at_entry h) (head_commands w.body w.init l h) from to (met here.left) all o here.adds;
    }

pub again_arrives : (w : Setting) (heads : List Label) (l : Label) (k : Block) (h : Head) (from : Reached) (all : List Goal) → block_in w.body.blocks l ≡ Some k → k.head ≡ Some h → among l heads ≡ true →
    Adds from.state from.goals.items (goals_after_turn h) all → GoesOn (Arrives w heads l) from all
again_arrives w heads l k h from all is is_head passed a = record {
  left = row (goals_after_turn h) [] stop;
  is_left = again k h is is_head passed;
  adds = last_row from.state from.goals.items (goals_after_turn h) all a;
}

pub plain_arrives : (w : Setting) (heads : List Label) (l : Label) (k : Block) (from : Reached) (all : List Goal) → Some k ≡ block_in w.body.blocks l → k.head ≡ None
    → GoesOn (Within w heads (start_of l)) from all → GoesOn (Arrives w heads l) from all
plain_arrives w heads l k from all is no_head h = record { left = h.left; is_left = plain k (sym is) no_head h.is_left; adds = h.adds }

-- ---- from an arrival to the end of the block

-- at a block that is no head
pub plain_stands : (w : Setting) (heads : List Label) (l : Label) (k : Block) (from : Reached) (to : Spot) → block_in w.body.blocks l ≡ Some k → k.head ≡ None
    → StandsAtEnd w (Within w heads (start_of l)) from l k to → StandsAtEnd w (Arrives w heads l) from l k to
plain_stands w heads l k from to is no_head s = record {
  is_label = s.is_label;
  may = s.may;
  walks = λ all h. plain_arrives w heads l k from all (sym is) no_head (s.walks all h);
}

-- at a head that was not passed
pub head_stands : (w : Setting) (heads inner : List Label) (l : Label) (k : Block) (h : Head) (from mid : Reached) (to : Spot) → block_in w.body.blocks l ≡ Some k → k.head ≡ Some h → among l heads ≡ false → inner ≡ l ∷ heads
    → IsOver (goals_at_entry h) (head_commands w.body w.init l h) from mid → StandsAtEnd w (Within w inner (start_of l)) mid l k to → StandsAtEnd w (Arrives w heads l) from l k to
head_stands w heads inner l k h from mid to is is_head not_passed inner_is o s = record {
  is_label = s.is_label;
  may = s.may;
  walks = λ all g. first_arrives w heads inner l k h from mid all is is_head not_passed inner_is o (s.walks all g);
}

pub may_walk_head : (w : Setting) (heads inner : List Label) (l : Label) (k : Block) (h : Head) → MayArrive w heads l → block_in w.body.blocks l ≡ Some k → k.head ≡ Some h → among l heads ≡ false → inner ≡ l ∷ heads → MayWalk w inner l k
may_walk_head w heads inner l k h may is is_head not_passed inner_is = subst (λ hs. MayWalk w hs l k) (sym inner_is) (head_block w heads l k h may is is_head not_passed)

-- ---- from the end of a block to the next arrival

fewer : (b : Bool) (n m : ℕ) → cond b 0 (4 * n + 3) < 4 * m → cond b 0 n < m
fewer true n m h = omega (arith, h)
fewer false n m h = omega (arith, h)

pub next_may : (w : Setting) (heads hs : List Label) (l : Label) (k : Block) (m : Label) → CanWalk w → MayWalk w heads l k
    → among m (targets k.end.kind) ≡ true → hs ≡ heads → MayArrive w hs m × (ahead w.body.blocks hs m < blocks_from w.body.blocks l)
next_may w heads hs l k m can may named same = subst (λ xs. MayArrive w xs m × (ahead w.body.blocks xs m < blocks_from w.body.blocks l)) (sym same) both
  where
    both : MayArrive w heads m × (ahead w.body.blocks heads m < blocks_from w.body.blocks l)
    both = let n = next_arrival w heads l k m can may named in (n.0, fewer (among m heads) (room w.body.blocks m) (room w.body.blocks l) n.1)

pub next_leads : (w : Setting) (IsLeft : Walk → Type 0) (from : Reached) (heads : List Label) (l : Label) (k : Block) (m : Label) (to : Spot) → CanWalk w → MayWalk w heads l k → among m (targets k.end.kind) ≡ true
    → to.heads.items ≡ heads → to.label ≡ m → ((all : List Goal) → GoesOn (Arrives w heads m) to.reached all → GoesOn IsLeft from all) → LeadsTo w IsLeft from (blocks_from w.body.blocks l) to
next_leads w IsLeft from heads l k m to can may named heads_are is walks =
    let n = next_may w heads to.heads.items l k m can may named heads_are in
    record {
      may = subst (MayArrive w to.heads.items) (sym is) n.0;
      nearer = subst (λ x. ahead w.body.blocks to.heads.items x < blocks_from w.body.blocks l) (sym is) n.1;
      walks = λ all h. walks all (subst (λ x. GoesOn (Arrives w heads x) to.reached all) is (subst (λ hs. GoesOn (Arrives w hs to.label) to.reached all) heads_are h));
    }

-- from a switch, its sides but the last having been walked
pub switch_goes : (w : Setting) (from back : Spot) (k : Block) (p : Place) (ls : List Label) (next : Next) → CanWalk w → MayWalk w from.heads.items from.label k → k.end.kind ≡ Switch p ls → IsBack w p (before_last ls) from back → IsAtLastSide w p ls back next
    → GoesTo w (Ends w from.heads.items k.end) from.reached (blocks_from w.body.blocks from.label) next
switch_goes w from back k p ls (On to) can may is (same, label, over) (heads, is_last, side) =
    next_leads w (Ends w from.heads.items k.end) from.reached from.heads.items from.label k to.label to can may (switch_names k.end.kind p ls to.label is (last_among ls to.label is_last)) (heads ∙ same) refl
    (λ all h. switch_walks w from.heads.items k.end p ls to.label from.reached back.reached to.reached all is is_last over side h)
switch_goes w from back k p ls (Done all) can may is (same, label, over) (none, goals) =
    subst (λ gs. GoesOn (Ends w from.heads.items k.end) from.reached gs) (sym goals) (empty_switch_walks w from.heads.items k.end p ls from.reached back.reached is none over)

-- ---- from an arrival to the next

pub turn_goes : (w : Setting) (from : Spot) (k : Block) (end : Spot) (next : Next) → ComesToEnd w from k (On end) → GoesTo w (Ends w end.heads.items k.end) end.reached (blocks_from w.body.blocks end.label) next
    → GoesTo w (Arrives w from.heads.items from.label) from.reached (ahead w.body.blocks from.heads.items from.label) next
turn_goes w from k end (On to) (not_passed, stands) leads = record {
  may = leads.may;
  nearer = subst (λ b. ahead w.body.blocks to.heads.items to.label < cond b 0 (blocks_from w.body.blocks from.label)) (sym not_passed)
      (subst (λ x. ahead w.body.blocks to.heads.items to.label < blocks_from w.body.blocks x) stands.is_label leads.nearer);
  walks = λ all h. stands.walks all (leads.walks all h);
}
turn_goes w from k end (Done all) (not_passed, stands) goes = stands.walks all.items goes

-- ---- the entry

pub entered : (w : Setting) (begin : State) (from : Reached) (cs given : List Command) (all : List Goal) → begin ≡ start → from.goals.items ≡ [] → given ≡ cs → cs ≡ entry_commands w.body w.contract →
    Leads begin given from.state → GoesOn (Arrives w [] w.body.entry) from all → AreMet w all
entered w begin from cs given all begun none given_is cs_is led h = record {
  walk = h.left;
  arrives = h.is_left;
  are_met =
      h.adds.adds given (led.leads [] (subst (Matches []) (sym begun) begins))
      ∙ ap (λ gs. gs ++ closed_goals given (met h.left)) none
      ∙ ap (λ ds. closed_goals ds (met h.left)) (given_is ∙ cs_is)
      ∙ sym (closed_more [] (entry_commands w.body w.contract) (met h.left))
      ∙ ap (closed_goals []) (sym (goals_are_seen_before (entry_commands w.body w.contract) h.left));
}

-- goals in normal form, numbered
listed_closed : (owner : List ℕ) (n : ℕ) (gs : List Goal) → listed owner n (closed_goals [] gs) ≡ numbered owner n gs
listed_closed owner n [] = refl
listed_closed owner n (g ∷ gs) = ap (λ os. numbered owner n (g ∷ []) ++ os) (listed_closed owner (n + 1) gs)

pub met_obligations : (w : Setting) (m : ℕ) (all : List Goal) (os : List Obligation) → AreMet w all → os ≡ listed w.body.owner m all → AreObligations w m os
met_obligations w m all os h e = record {
  walk = h.walk;
  arrives = h.arrives;
  are_numbered = e ∙ ap (listed w.body.owner m) h.are_met ∙ listed_closed w.body.owner m _;
}
