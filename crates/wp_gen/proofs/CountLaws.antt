-- Laws of the number of goals.
use Rattle.std.proofs.Common.{◌≡◌, ◌∙◌, ◌⊎◌, inl, inr, refl, sym, ap, ap₂, subst, ℕ, zero, suc, ◌+◌, ◌<◌, ◌≤◌, true, false, List, [], ◌∷◌, ◌++◌, length, length-append, map, take, drop, get_or, Option, Some, None, slice_get, arith}
use Rattle.std.proofs.lemmas.List.{length-map, drop_all}
use Rattle.text_core.specs.declared.refusal.Cause.{Cause}
use Rattle.text_core.specs.declared.refusal.Kind.{Kind}
use Rattle.text_core.specs.declared.refusal.Kind.TheVariants.{InvEntry, InvKept, Ensures}
use Rattle.text_core.specs.declared.span.Span.{Span}
use Rattle.logic_term.specs.declared.kinds.Label.{Label}
use Rattle.logic_term.specs.declared.obligation.Contract.{Contract}
use Rattle.logic_term.specs.declared.obligation.Obligation.{Obligation}
use Rattle.logic_term.specs.Term.{Term}
use Rattle.logic_term.specs.Ty.{Ty}
use Rattle.mir_ir.specs.declared.place.Operand.{Operand}
use Rattle.mir_ir.specs.declared.place.Place.{Place}
use Rattle.mir_ir.specs.declared.statement.Statement.{Statement}
use Rattle.mir_ir.specs.declared.terminator.Callee.{Callee}
use Rattle.mir_ir.specs.Callees.{contract_at}
use Rattle.mir_ir.specs.declared.terminator.TerminatorKind.TheVariants.{Goto, If, Switch, Call, Return, Panic}
use Rattle.mir_ir.specs.declared.body.Block.{Block}
use Rattle.mir_ir.specs.declared.body.Body.{Body}
use Rattle.mir_ir.specs.declared.body.Head.{Head}
use Rattle.mir_ir.specs.declared.body.Point.{Point}
use Rattle.mir_ir.specs.Body.{block_in}
use Rattle.mir_ir.specs.Layout.{among, targets, Leads, on, back, IsLaidOut}
use Rattle.prophecy_logic.specs.declared.command.Command.{Command}
use Rattle.prophecy_logic.specs.declared.goal.Goal.{Goal}
use Rattle.prophecy_logic.specs.Graph.{Setting, Within, by_statement, by_end, Ends, Sides, no_side, last_side, one_side, Arrives, numbered, goals_of_walk, AreObligations}
use Rattle.prophecy_logic.specs.Walk.{seen_before, each_goal, goals_at_return, goals_of_call, at_answer, at_arguments, goal_before, Walk, stop, row, fork, owed, paths}
use Rattle.prophecy_logic.proofs.ArriveLaws.{either}
use Rattle.prophecy_logic.proofs.Exists.{walks_exist}
use Rattle.prophecy_logic.proofs.Steps.{some_same, ends_by, comes_by}
use Rattle.wp_gen.specs.Count.{IsRoomLeft, LeavesRoom, LeavesRoomBehind, CountsSides, LeavesRoomAlong, count, goals_within, goals_of_head, IsFrom, IsAlong, IsAtEnd, AreSplit, LeavesRoomBefore, AreSomeObligations, HaveObligations}
use Rattle.wp_gen.specs.Limits.{HasFewObligations, most_paths, most_obligations}
use Rattle.wp_gen.specs.Paths.{passed, MayStand, HasPaths, last_of, before_last, last_target}
use Rattle.wp_gen.proofs.PathLaws.{take_one, rest_of, all_taken, IsEnteredAt, enters_later, enters_entry, counts_agree, may_stop, walks_are_counted}

-- ---- lengths

length_each : (k : Kind) (ts : List Term) (spans : List Span) → length (each_goal k ts spans) ≡ length ts
length_each k [] spans = refl
length_each k (t ∷ ts) spans = ap suc (length_each k ts (drop 1 spans))

pub length_at_return : (b : Body) (c : Contract) → length (goals_at_return b c) ≡ length c.post
length_at_return b c = length_each Ensures (map (at_answer b c) c.post) (drop (length c.pre) c.spans) ∙ length-map c.post (at_answer b c)

length_of_call : (b : Body) (d : Contract) (at : Span) (args : List Operand) → length (goals_of_call b d at args) ≡ length d.pre
length_of_call b d at args = length-map (map (at_arguments b d args) d.pre) _ ∙ length-map d.pre _

length_numbered : (owner : List ℕ) (n : ℕ) (gs : List Goal) → length (numbered owner n gs) ≡ length gs
length_numbered owner n [] = refl
length_numbered owner n (g ∷ gs) = ap suc (length_numbered owner (n + 1) gs)

length_owed : (cs : List Command) (v : Walk) → length (owed cs v) ≡ count v
length_owed cs stop = refl
length_owed cs (row gs ds v) = length-append (seen_before cs gs) (owed (cs ++ ds) v) ∙ ap₂ (λ i j. i + j) (length-map gs (goal_before cs)) (length_owed (cs ++ ds) v)
length_owed cs (fork a b) = length-append (owed cs a) (owed cs b) ∙ ap₂ (λ i j. i + j) (length_owed cs a) (length_owed cs b)

-- ---- the room

-- first some, then others
pub both_left : (room a b : ℕ) (left : ℕ) (r : Option ℕ) → IsRoomLeft room a (Some left) → IsRoomLeft left b r → IsRoomLeft room (a + b) r
both_left room a b left (Some rest) one two = omega (arith, one, two)
both_left room a b left None one two = omega (arith, one, two)

pub none_left : (room a b : ℕ) → IsRoomLeft room a None → IsRoomLeft room (a + b) None
none_left room a b one = omega (arith, one)

pub same_room : (room a b : ℕ) (r : Option ℕ) → a ≡ b → IsRoomLeft room a r → IsRoomLeft room b r
same_room room a b r e is = subst (λ n. IsRoomLeft room n r) e is

-- ---- a block's walk

drop_at : {A : Type 0} (xs : List A) (i : ℕ) (x : A) → slice_get xs i ≡ Some x → drop i xs ≡ x ∷ drop (i + 1) xs
drop_at [] i x e = absurd cc
drop_at (y ∷ ys) zero x e = ap (λ z. z ∷ ys) (some_same e)
drop_at (y ∷ ys) (suc i) x e = let next : suc i + 1 ≡ suc (i + 1) = omega arith in drop_at ys i x e ∙ ap (λ n. x ∷ drop n (y ∷ ys)) (sym next)

-- the goals of a block are those of its statements, and those of its end
record ToEnd (w : Setting) (heads : List Label) (k : Block) (sts : List Statement) (v : Walk) : Type 0 where
  left : Walk
  ends : Ends w heads k.end left
  many : count v ≡ goals_within w.body sts + count left

through_statements : {w : Setting} {heads : List Label} {p : Point} {v : Walk} → Within w heads p v → (k : Block) → block_in w.body.blocks p.label ≡ Some k → ToEnd w heads k (drop p.statement k.statements) v
through_statements {w} {p = p} {v = v} (by_statement {v = u} st at r) k is =
    let e = through_statements r k is in
    let same : at.block ≡ k = some_same (sym at.is_block ∙ is) in
    let split = drop_at k.statements p.statement st (ap (λ (j : Block). slice_get j.statements p.statement) (sym same) ∙ at.is_statement) in
    record {
      left = e.left;
      ends = e.ends;
      many = omega (arith, e.many, ap (goals_within w.body) split);
    }
through_statements {w} {heads} {p} {v} (by_end end at e) k is =
    let same : at.block ≡ k = some_same (sym at.is_block ∙ is) in
    let none : drop p.statement k.statements ≡ [] = drop_all p.statement k.statements (omega (arith, at.is_last, ap (λ (j : Block). length j.statements) same)) in
    record {
      left = v;
      ends = subst (λ t. Ends w heads t v) (sym at.is_end ∙ ap (λ (j : Block). j.end) same) e;
      many = omega (arith, ap (goals_within w.body) none);
    }

-- ---- up to the last edge

split_more : (w : Setting) (l : Label) (last : Option Label) (many own : ℕ) (inner v : Walk) → AreSplit w l last many inner → count v ≡ own + count inner → AreSplit w l last (own + many) v
split_more w l None many own inner v h e = omega (arith, h, e)
split_more w l (Some m) many own inner v (u, along, h) e = (u, along, omega (arith, h, e))

-- from a block on: its statements, then its end
pub block_before : (w : Setting) (l : Label) (k : Block) (last : Option Label) (room left : ℕ) (r : Option ℕ) → block_in w.body.blocks l ≡ Some k → IsRoomLeft room (goals_within w.body k.statements) (Some left)
    → LeavesRoomBefore w l last (IsAtEnd w l k) left r → LeavesRoomBefore w l last (IsFrom w l) room r
block_before w l k last room left None is statements at_end = λ v from.
    let same : from.1 ≡ k = some_same (sym from.2.is_block ∙ is) in
    let t = through_statements from.3 k is in
    same_room room (goals_within w.body k.statements + count t.left) (count v) None (sym t.many)
    (both_left room (goals_within w.body k.statements) (count t.left) left None statements (at_end t.left (from.0, subst (λ (j : Block). MayStand w.body from.0 l j) same from.2, t.ends)))
block_before w l k last room left (Some rest) is statements at_end = λ v from.
    let same : from.1 ≡ k = some_same (sym from.2.is_block ∙ is) in
    let t = through_statements from.3 k is in
    let e = at_end t.left (from.0, subst (λ (j : Block). MayStand w.body from.0 l j) same from.2, t.ends) in (
      goals_within w.body k.statements + e.0,
      both_left room (goals_within w.body k.statements) e.0 left (Some rest) statements e.1,
      split_more w l last e.0 (goals_within w.body k.statements) t.left v e.2 t.many,
    )

-- already the statements are too many
pub statements_are_many : (w : Setting) (l : Label) (k : Block) (room : ℕ) → block_in w.body.blocks l ≡ Some k → IsRoomLeft room (goals_within w.body k.statements) None → LeavesRoomBehind (IsFrom w l) room None
statements_are_many w l k room is many v (heads, k', may, within) =
    let t = through_statements within k is in
    same_room room (goals_within w.body k.statements + count t.left) (count v) None (sym t.many) (none_left room (goals_within w.body k.statements) (count t.left) many)

-- ---- along some edges

-- goals along some edges, and along one more or others
sides_apart : (w : Setting) (heads ms rest : List Label) (n : ℕ) → CountsSides w heads (ms ++ rest) n → (i : ℕ) × (j : ℕ) × CountsSides w heads ms i × CountsSides w heads rest j × (i + j ≡ n)
sides_apart w heads [] rest n h = (0, n, refl, h, omega arith)
sides_apart w heads (m ∷ ms) rest n (u, j, a, others, sum) =
    let r = sides_apart w heads ms rest j others in
    (count u + r.0, r.1, (u, r.0, a, r.2, refl), r.3, omega (arith, r.4, sum))

pub along_none : (w : Setting) (l : Label) (room : ℕ) → LeavesRoomAlong w l [] room (Some room)
along_none w l room = λ heads k n may none. omega (arith, none)

pub along_more : (w : Setting) (l m : Label) (ms : List Label) (room left : ℕ) (r : Option ℕ) → LeavesRoomAlong w l ms room (Some left) → LeavesRoomBehind (IsAlong w l m) left r → LeavesRoomAlong w l (ms ++ m ∷ []) room r
along_more w l m ms room left r first one = λ heads k n may sides.
    let s = sides_apart w heads ms (m ∷ []) n sides in
    let (u, j, a, none, sum) = s.3 in
    let total : s.0 + count u ≡ n = omega (arith, s.4, sum, none) in
    same_room room (s.0 + count u) n r total (both_left room s.0 (count u) left r (first heads k s.0 may s.2) (one u (heads, k, may, a)))

pub along_many : (w : Setting) (l : Label) (ms rest : List Label) (room : ℕ) → LeavesRoomAlong w l ms room None → LeavesRoomAlong w l (ms ++ rest) room None
along_many w l ms rest room first = λ heads k n may sides.
    let s = sides_apart w heads ms rest n sides in
    same_room room (s.0 + s.1) n None s.4 (none_left room s.0 s.1 (first heads k s.0 may s.2))

pub along_next : (w : Setting) (l : Label) (ls : List Label) (i : ℕ) (x : Label) (room left : ℕ) (r : Option ℕ) → i < length ls → x ≡ get_or ls i x → LeavesRoomAlong w l (take i ls) room (Some left) → LeavesRoomBehind (IsAlong w l x) left r
    → LeavesRoomAlong w l (take (i + 1) ls) room r
along_next w l ls i x room left r below is before one = subst (λ ms. LeavesRoomAlong w l ms room r) (sym (take_one ls i x below is)) (along_more w l x (take i ls) room left r before one)

pub along_too_many : (w : Setting) (l : Label) (ls : List Label) (i : ℕ) (x : Label) (room left : ℕ) → i < length ls → x ≡ get_or ls i x → LeavesRoomAlong w l (take i ls) room (Some left) → LeavesRoomBehind (IsAlong w l x) left None
    → LeavesRoomAlong w l ls room None
along_too_many w l ls i x room left below is before one =
    let r = rest_of ls i x below is in
    subst (λ ms. LeavesRoomAlong w l ms room None) (sym r.1) (along_many w l (take i ls ++ x ∷ []) r.0 room (along_more w l x (take i ls) room left None before one))

pub along_all : (w : Setting) (l : Label) (ls : List Label) (i : ℕ) (room : ℕ) (r : Option ℕ) → length ls ≤ i → LeavesRoomAlong w l (take i ls) room r → LeavesRoomAlong w l ls room r
along_all w l ls i room r past h = subst (λ ms. LeavesRoomAlong w l ms room r) (all_taken ls i past) h

module _ (w : Setting) (l : Label) (k : Block) where
  pub goto_before : (next : Label) (room : ℕ) → k.end.kind ≡ Goto next → LeavesRoomBefore w l (last_target k.end.kind) (IsAtEnd w l k) room (Some room)
  goto_before next room e = λ v at_end. (
    0,
    omega arith,
    subst (λ kind. AreSplit w l (last_target kind) 0 v) (sym e) (v, (at_end.0, k, at_end.1, ends_by at_end.2 (Goto next) e), omega arith),
  )

  pub branch_before : (o : Operand) (on_true on_false : Label) (room : ℕ) (r : Option ℕ) → k.end.kind ≡ If o on_true on_false → LeavesRoomBehind (IsAlong w l on_true) room r → LeavesRoomBefore w l (last_target k.end.kind) (IsAtEnd w l k) room r
  branch_before o on_true on_false room (Some left) e one = λ v at_end.
      let h = ends_by at_end.2 (If o on_true on_false) e in (
        count h.0,
        one h.0 (at_end.0, k, at_end.1, h.1),
        subst (λ kind. AreSplit w l (last_target kind) (count h.0) v) (sym e) (h.2, (at_end.0, k, at_end.1, h.3), omega (arith, ap count h.4)),
      )
  branch_before o on_true on_false room None e one = λ v at_end.
      let h = ends_by at_end.2 (If o on_true on_false) e in
      same_room room (count h.0 + count h.2) (count v) None (omega (arith, ap count h.4)) (none_left room (count h.0) (count h.2) (one h.0 (at_end.0, k, at_end.1, h.1)))

  -- the sides of a switch, before the last and the last
  sides_split : (heads : List Label) (p : Place) (i : ℕ) (ls : List Label) (v : Walk) → Sides w heads p i ls v → MayStand w.body heads l k → (many : ℕ) × CountsSides w heads (before_last ls) many × AreSplit w l (last_of ls) many v
  sides_split heads p i ls v no_side may = (0, refl, refl)
  sides_split heads p i ls v (last_side {u = u} a) may = (0, refl, (u, (heads, k, may, a), refl))
  sides_split heads p i ls v (one_side {m = m} {ms = ms} {u = u} {v = x} a rest) may =
      let r = sides_split heads p (i + 1) (m ∷ ms) x rest may in
      (count u + r.0, (u, r.0, a, r.1, refl), split_more w l (last_of (m ∷ ms)) r.0 (count u) x v r.2 (let sum : 0 + count u + count x ≡ count u + count x = omega arith in sum))

  split_many : (last : Option Label) (many : ℕ) (v : Walk) → AreSplit w l last many v → (more : ℕ) × (many + more ≡ count v)
  split_many None many v h = (0, omega (arith, h))
  split_many (Some m) many v (u, along, h) = (count u, sym h)

  pub switch_before : (p : Place) (ls : List Label) (room : ℕ) (r : Option ℕ) → k.end.kind ≡ Switch p ls → LeavesRoomAlong w l (before_last ls) room r → LeavesRoomBefore w l (last_target k.end.kind) (IsAtEnd w l k) room r
  switch_before p ls room (Some left) e along = λ v at_end.
      let h = sides_split at_end.0 p 0 ls v (ends_by at_end.2 (Switch p ls) e) at_end.1 in
      (h.0, along at_end.0 k h.0 at_end.1 h.1, subst (λ kind. AreSplit w l (last_target kind) h.0 v) (sym e) h.2)
  switch_before p ls room None e along = λ v at_end.
      let h = sides_split at_end.0 p 0 ls v (ends_by at_end.2 (Switch p ls) e) at_end.1 in
      let more = split_many (last_of ls) h.0 v h.2 in
      same_room room (h.0 + more.0) (count v) None more.1 (none_left room h.0 more.0 (along at_end.0 k h.0 at_end.1 h.1))

  -- a call has as many goals as the callee's contract has `requires`
  record OverCall (heads : List Label) (next : Label) (d : Contract) (v : Walk) : Type 0 where
    behind : Walk
    arrives : Arrives w heads next behind
    many : length d.pre + count behind ≡ count v

  over_call : (p : Place) (callee : Callee) (types : List Ty) (args : List Operand) (next : Label) (d : Contract)
      → k.end.kind ≡ Call p callee types args next → contract_at w.contracts callee ≡ Some d → (heads : List Label) (v : Walk) → Ends w heads k.end v → OverCall heads next d v
  over_call p callee types args next d e is heads v ends =
      let h = ends_by ends (Call p callee types args next) e in
      let same : d ≡ h.2 = some_same (sym is ∙ h.4) in
      record {
        behind = h.0;
        arrives = h.1;
        many = omega (arith, ap (λ (c : Contract). length c.pre) same, length_of_call w.body h.2 k.end.span args, ap count h.6);
      }

  pub call_before : (p : Place) (callee : Callee) (types : List Ty) (args : List Operand) (next : Label) (d : Contract) (room : ℕ) (r : Option ℕ)
      → k.end.kind ≡ Call p callee types args next → contract_at w.contracts callee ≡ Some d → IsRoomLeft room (length d.pre) r → LeavesRoomBefore w l (last_target k.end.kind) (IsAtEnd w l k) room r
  call_before p callee types args next d room (Some left) e is goals = λ v at_end.
      let h = over_call p callee types args next d e is at_end.0 v at_end.2 in (
        length d.pre,
        goals,
        subst (λ kind. AreSplit w l (last_target kind) (length d.pre) v) (sym e) (h.behind, (at_end.0, k, at_end.1, h.arrives), sym h.many),
      )
  call_before p callee types args next d room None e is goals = λ v at_end.
      let h = over_call p callee types args next d e is at_end.0 v at_end.2 in
      same_room room (length d.pre + count h.behind) (count v) None h.many (none_left room (length d.pre) (count h.behind) goals)

  pub return_before : (room : ℕ) (r : Option ℕ) → k.end.kind ≡ Return → IsRoomLeft room (length (goals_at_return w.body w.contract)) r → LeavesRoomBefore w l (last_target k.end.kind) (IsAtEnd w l k) room r
  return_before room (Some left) e goals = λ v at_end.
      let many : count v ≡ length (goals_at_return w.body w.contract) = omega (arith, ap count (ends_by at_end.2 Return e)) in
      (length (goals_at_return w.body w.contract), goals, subst (λ kind. AreSplit w l (last_target kind) (length (goals_at_return w.body w.contract)) v) (sym e) many)
  return_before room None e goals = λ v at_end.
      same_room room (length (goals_at_return w.body w.contract)) (count v) None (omega (arith, ap count (ends_by at_end.2 Return e))) goals

  pub panic_before : (cause : Cause) (room : ℕ) (r : Option ℕ) → k.end.kind ≡ Panic cause → IsRoomLeft room 1 r → LeavesRoomBefore w l (last_target k.end.kind) (IsAtEnd w l k) room r
  panic_before cause room (Some left) e goals = λ v at_end.
      let many : count v ≡ 1 = ap count (ends_by at_end.2 (Panic cause) e) in
      (1, goals, subst (λ kind. AreSplit w l (last_target kind) 1 v) (sym e) many)
  panic_before cause room None e goals = λ v at_end.
      let many : count v ≡ 1 = ap count (ends_by at_end.2 (Panic cause) e) in
      same_room room 1 (count v) None (sym many) goals

-- no edge leads on
pub none_behind : (w : Setting) (l : Label) (last : Option Label) (room left : ℕ) → last ≡ None → LeavesRoomBefore w l last (IsFrom w l) room (Some left) → LeavesRoomBehind (IsFrom w l) room (Some left)
none_behind w l None room left e before = λ v is. let h = before v is in same_room room h.0 (count v) (Some left) (sym h.2) h.1
none_behind w l (Some m) room left e before = λ v is. absurd (let some : Some m ≡ None = e in cc)

-- what is along the last edge comes behind
pub along_behind : (w : Setting) (l m : Label) (last : Option Label) (room left : ℕ) (r : Option ℕ)
    → last ≡ Some m → LeavesRoomBefore w l last (IsFrom w l) room (Some left) → LeavesRoomBehind (IsAlong w l m) left r → LeavesRoomBehind (IsFrom w l) room r
along_behind w l m None room left r e before along = λ v is. absurd (let some : None ≡ Some m = e in cc)
along_behind w l m (Some t) room left r e before along = λ v is.
    let h = before v is in
    same_room room (h.0 + count h.2.0) (count v) r (sym h.2.2)
    (both_left room h.0 (count h.2.0) left r h.1 (along h.2.0 (subst (λ x. IsAlong w l x h.2.0) (some_same e) h.2.1)))

-- ---- arrivals

-- how many goals an arrival has: those of the head, and those of the block, if it is entered
again_has : {w : Setting} {heads : List Label} {m : Label} {v : Walk} → Arrives w heads m v → (to : Block) (h : Head) → block_in w.body.blocks m ≡ Some to → to.head ≡ Some h → among m heads ≡ true → goals_of_head to.head ≡ count v
again_has a to h is_to is_head there =
    omega (arith, ap count (comes_by a to (Some h) true is_to is_head there), length_each InvKept h.invariants h.spans, ap goals_of_head is_head)

record Entered (w : Setting) (m : Label) (head : Option Head) (v : Walk) : Type 0 where
  inner : Walk
  is_from : IsFrom w m inner
  many : goals_of_head head + count inner ≡ count v

enters_has : (w : Setting) (heads : List Label) (m : Label) (v : Walk) → Arrives w heads m v → (at : IsEnteredAt w.body heads m) → Entered w m at.block.head v
enters_has w heads m v a at = by_head at.block.head refl
  where
    stands : (head : Option Head) → at.block.head ≡ head → MayStand w.body (passed head m heads) m at.block
    stands head e = subst (λ o. MayStand w.body (passed o m heads) m at.block) e at.stands

    by_head : (head : Option Head) → at.block.head ≡ head → Entered w m head v
    by_head None e = record {
      inner = v;
      is_from = (heads, at.block, stands None e, comes_by a at.block None (among m heads) at.is_block e refl);
      many = omega arith;
    }
    by_head (Some h) e =
        let c = comes_by a at.block (Some h) false at.is_block e at.not_passed in
        record {
          inner = c.0;
          is_from = (m ∷ heads, at.block, stands (Some h) e, c.1);
          many = omega (arith, ap count c.2, length_each InvEntry h.invariants h.spans);
        }

abbrev AtArrival : Setting → Label → ℕ → Option ℕ → Type 0
AtArrival w m room r = (k : Block) → block_in w.body.blocks m ≡ Some k → IsRoomLeft room (goals_of_head k.head) r

-- back to a head that was passed
pub back_leaves : (w : Setting) (l m : Label) (k : Block) (room left : ℕ) → IsLaidOut w.body → block_in w.body.blocks l ≡ Some k
    → among m (targets k.end.kind) ≡ true → among m k.nest ≡ true → AtArrival w m room (Some left) → LeavesRoomBehind (IsAlong w l m) room (Some left)
back_leaves w l m k room left laid is named in_nest arrival v (heads, k', may, arrives) = by_edge (laid.edges l m k is named)
  where
    was_passed : among m heads ≡ true
    was_passed = may.nest m (subst (λ (j : Block). among m j.nest ≡ true) (sym (some_same (sym may.is_block ∙ is))) in_nest)

    by_edge : Leads w.body l k m → IsRoomLeft room (count v) (Some left)
    by_edge (on to is_to further enters) = absurd (omega (arith, may.not_later m was_passed))
    by_edge (back to h is_to is_head there) = same_room room (goals_of_head to.head) (count v) (Some left) (again_has arrives to h is_to is_head was_passed) (arrival to is_to)

-- already the head has too many
pub arrival_is_full : (w : Setting) (l m : Label) (k : Block) (room : ℕ) → IsLaidOut w.body → block_in w.body.blocks l ≡ Some k → among m (targets k.end.kind) ≡ true → AtArrival w m room None → LeavesRoomBehind (IsAlong w l m) room None
arrival_is_full w l m k room laid is named arrival v (heads, k', may, arrives) = by_either (either (among m k.nest))
  where
    same : k' ≡ k
    same = some_same (sym may.is_block ∙ is)

    by_edge : among m k.nest ≡ true → Leads w.body l k m → IsRoomLeft room (count v) None
    by_edge in_nest (on to is_to further enters) = absurd (omega (arith, may.not_later m (may.nest m (subst (λ (j : Block). among m j.nest ≡ true) (sym same) in_nest))))
    by_edge in_nest (back to h is_to is_head there) =
        same_room room (goals_of_head to.head) (count v) None (again_has arrives to h is_to is_head (may.nest m (subst (λ (j : Block). among m j.nest ≡ true) (sym same) in_nest))) (arrival to is_to)

    by_either : (among m k.nest ≡ true) ⊎ (among m k.nest ≡ false) → IsRoomLeft room (count v) None
    by_either (inl in_nest) = by_edge in_nest (laid.edges l m k is named)
    by_either (inr not_in) =
        let at = enters_later w.body l m k heads laid named not_in (subst (λ (j : Block). MayStand w.body heads l j) same may) in
        let e = enters_has w heads m v arrives at in
        same_room room (goals_of_head at.block.head + count e.inner) (count v) None e.many (none_left room (goals_of_head at.block.head) (count e.inner) (arrival at.block at.is_block))

-- on to a block that is later
pub on_leaves : (w : Setting) (l m : Label) (k : Block) (room left : ℕ) (r : Option ℕ) → IsLaidOut w.body → block_in w.body.blocks l ≡ Some k →
    among m (targets k.end.kind) ≡ true → among m k.nest ≡ false → AtArrival w m room (Some left) → LeavesRoomBehind (IsFrom w m) left r → LeavesRoomBehind (IsAlong w l m) room r
on_leaves w l m k room left r laid is named not_in arrival leaves v (heads, k', may, arrives) =
    let same : k' ≡ k = some_same (sym may.is_block ∙ is) in
    let at = enters_later w.body l m k heads laid named not_in (subst (λ (j : Block). MayStand w.body heads l j) same may) in
    let e = enters_has w heads m v arrives at in
    same_room room (goals_of_head at.block.head + count e.inner) (count v) r e.many (both_left room (goals_of_head at.block.head) (count e.inner) left r (arrival at.block at.is_block) (leaves e.inner e.is_from))

-- ---- the entry

-- a body has as many obligations as its walk has goals, from where the walk enters the first block on
entry_has : (w : Setting) (os : List Obligation) (laid : IsLaidOut w.body) (are : AreSomeObligations w os) → Entered w w.body.entry (enters_entry w.body laid).block.head are.1.walk × (count are.1.walk ≡ length os)
entry_has w os laid (m, are) = (
  enters_has w [] w.body.entry are.walk are.arrives (enters_entry w.body laid),
  sym (ap length are.are_numbered ∙ length_numbered w.body.owner m (goals_of_walk w are.walk) ∙ length_owed _ are.walk),
)

pub entry_leaves : (w : Setting) (room left : ℕ) (r : Option ℕ) → IsLaidOut w.body → AtArrival w w.body.entry room (Some left) → LeavesRoomBehind (IsFrom w w.body.entry) left r → LeavesRoom (AreSomeObligations w) room r
entry_leaves w room left r laid arrival leaves os are =
    let at = enters_entry w.body laid in
    let e = entry_has w os laid are in
    same_room room (goals_of_head at.block.head + count e.0.inner) (length os) r (e.0.many ∙ e.1)
    (both_left room (goals_of_head at.block.head) (count e.0.inner) left r (arrival at.block at.is_block) (leaves e.0.inner e.0.is_from))

pub entry_is_full : (w : Setting) (room : ℕ) → IsLaidOut w.body → AtArrival w w.body.entry room None → LeavesRoom (AreSomeObligations w) room None
entry_is_full w room laid arrival os are =
    let at = enters_entry w.body laid in
    let e = entry_has w os laid are in
    same_room room (goals_of_head at.block.head + count e.0.inner) (length os) None (e.0.many ∙ e.1) (none_left room (goals_of_head at.block.head) (count e.0.inner) (arrival at.block at.is_block))

-- ---- there are obligations

pub have_obligations : HaveObligations
have_obligations w m can =
    let a = walks_exist w can in
    (_, record { walk = a.0; arrives = a.1; are_numbered = refl })

-- ---- few paths, and few obligations

-- a walk has no more ends than were counted
pub few_ends : (w : Setting) (v : Walk) (n most : ℕ) → Arrives w [] w.body.entry v → HasPaths w.body [] w.body.entry n → n ≤ most → paths v ≤ most
few_ends w v n most a counted few = let agree = counts_agree w.body [] w.body.entry n (paths v) counted (may_stop (walks_are_counted w v a)) in omega (arith, agree, few)

pub few_obligations : (w : Setting) (first : ℕ) (os : List Obligation) (n left : ℕ) → HasPaths w.body [] w.body.entry n → n ≤ most_paths → LeavesRoom (AreSomeObligations w) most_obligations (Some left) → AreObligations w first os → HasFewObligations w first os
few_obligations w first os n left counted few leaves are = record {
  are = are;
  few_paths = few_ends w are.walk n most_paths are.arrives counted few;
  few = let room = leaves os (first, are) in omega (arith, room);
}
