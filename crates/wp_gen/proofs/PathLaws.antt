-- Laws of the paths of bodies, and the counting of them.
use Rattle.std.proofs.Common.{◌≡◌, ◌∙◌, inl, inr, refl, sym, ap, subst, ℕ, zero, suc, ◌+◌, ◌-◌, ◌≤◌, ◌<◌, ◌==◌, ◌||◌, Bool, true, false, true≢false, List, [], ◌∷◌, ◌++◌, length, take, slice_get, get_or, Option, Some, None, arith}
use Rattle.logic_term.specs.declared.kinds.Label.{Label}
use Rattle.mir_ir.specs.declared.place.Place.{Place}
use Rattle.mir_ir.specs.declared.terminator.Terminator.{Terminator}
use Rattle.mir_ir.specs.declared.terminator.TerminatorKind.{TerminatorKind}
use Rattle.mir_ir.specs.declared.terminator.TerminatorKind.TheVariants.{Goto, If, Switch, Call, Return, Panic}
use Rattle.mir_ir.specs.declared.body.Block.{Block}
use Rattle.mir_ir.specs.declared.body.Body.{Body}
use Rattle.mir_ir.specs.declared.body.Head.{Head}
use Rattle.mir_ir.specs.declared.body.Point.{Point}
use Rattle.mir_ir.specs.Body.{block_in}
use Rattle.mir_ir.specs.Layout.{among, targets, place_of, around_of, Leads, on, back, IsLaidOut}
use Rattle.prophecy_logic.specs.Graph.{Setting, Within, Ends, Arrives}
use Rattle.prophecy_logic.specs.Graph as walk
use Rattle.prophecy_logic.specs.Walk.{Walk, paths}
use Rattle.prophecy_logic.specs.Walkable.{AllAmong}
use Rattle.wp_gen.specs.Paths.{IsEntered, passed, Paths, stopped, again, return, panic, goto, call, branch, switch, SidePaths, no_side, last_side, one_side, last_of, before_last, AreTargets, CountsEach, CountsAgree, WalksAreCounted, MayStand, CountsAlong, last_target, IsLater, CountsFirst, EndPaths, CountsFrom, IsCount}
use Rattle.prophecy_logic.proofs.Steps.{some_same}
use Rattle.prophecy_logic.proofs.ArriveLaws.{either, or_true, among_append, among_front, among_here, among_behind, same_label, room, found_place, goto_names, if_names_no, switch_names, call_names}

-- a count that is exact may also have stopped
mutual
  pub may_stop : {b : Body} {heads : List Label} {l : Label} {n : ℕ} → Paths false b heads l n → Paths true b heads l n
  may_stop (stopped e) = absurd (true≢false (sym e))
  may_stop (again k h is is_head there) = again k h is is_head there
  may_stop (return k is entered e) = return k is entered e
  may_stop (panic k cause is entered e) = panic k cause is entered e
  may_stop (goto k m is entered e p) = goto k m is entered e (may_stop p)
  may_stop (call k q c types args m is entered e p) = call k q c types args m is entered e (may_stop p)
  may_stop (branch k o on_true on_false is entered e p q) = branch k o on_true on_false is entered e (may_stop p) (may_stop q)
  may_stop (switch k q ls is entered e p) = switch k q ls is entered e (sides_may_stop p)

  sides_may_stop : {b : Body} {heads ls : List Label} {n : ℕ} → SidePaths false b heads ls n → SidePaths true b heads ls n
  sides_may_stop no_side = no_side
  sides_may_stop (last_side p) = last_side (may_stop p)
  sides_may_stop (one_side p q) = one_side (may_stop p) (sides_may_stop q)

-- a block that is entered, by its end
pub enters : (early : Bool) (b : Body) (heads : List Label) (l : Label) (k : Block) (n : ℕ) → block_in b.blocks l ≡ Some k → IsEntered k.head l heads → EndPaths early b (passed k.head l heads) k.end.kind n → Paths early b heads l n
enters early b heads l k n is entered p = by_kind k.end.kind refl p
  where
    by_kind : (kind : TerminatorKind) → k.end.kind ≡ kind → EndPaths early b (passed k.head l heads) kind n → Paths early b heads l n
    by_kind (Goto m) e q = goto k m is entered e q
    by_kind (If o on_true on_false) e (i, j, q, r, s) = subst (Paths early b heads l) (sym s) (branch k o on_true on_false is entered e q r)
    by_kind (Switch pl ls) e q = switch k pl ls is entered e q
    by_kind (Call pl c types args m) e q = call k pl c types args m is entered e q
    by_kind Return e q = subst (Paths early b heads l) (sym q) (return k is entered e)
    by_kind (Panic cause) e q = subst (Paths early b heads l) (sym q) (panic k cause is entered e)

-- ---- counts agree

not_both : (k k' : Block) (h : Head) (l : Label) (heads : List Label) (bs : Option Block) → bs ≡ Some k → bs ≡ Some k' → k.head ≡ Some h → among l heads ≡ true → IsEntered k'.head l heads → ⊥
not_both k k' h l heads bs is is' is_head there entered =
    let head_is : k'.head ≡ Some h = ap (λ (j : Block). j.head) (some_same (sym is' ∙ is)) ∙ is_head in
    true≢false (sym there ∙ subst (λ o. IsEntered o l heads) head_is entered)

passed_once : {b : Body} {heads : List Label} {l : Label} {n : ℕ} → Paths false b heads l n → (k : Block) (h : Head) → block_in b.blocks l ≡ Some k → k.head ≡ Some h → among l heads ≡ true → n ≡ 1
passed_once (stopped e) k h is is_head there = absurd (true≢false (sym e))
passed_once (again k' h' is' is_head' there') k h is is_head there = refl
passed_once {heads = heads} {l = l} (return k' is' entered e) k h is is_head there = absurd (not_both k k' h l heads _ is is' is_head there entered)
passed_once {heads = heads} {l = l} (panic k' cause is' entered e) k h is is_head there = absurd (not_both k k' h l heads _ is is' is_head there entered)
passed_once {heads = heads} {l = l} (goto k' m is' entered e p) k h is is_head there = absurd (not_both k k' h l heads _ is is' is_head there entered)
passed_once {heads = heads} {l = l} (call k' q c types args m is' entered e p) k h is is_head there = absurd (not_both k k' h l heads _ is is' is_head there entered)
passed_once {heads = heads} {l = l} (switch k' q ls is' entered e p) k h is is_head there = absurd (not_both k k' h l heads _ is is' is_head there entered)
passed_once {heads = heads} {l = l} (branch k' o on_true on_false is' entered e p q) k h is is_head there = absurd (not_both k k' h l heads _ is is' is_head there entered)

-- what follows in a block that is entered
ends_of : (b : Body) (heads : List Label) (l : Label) (k k' : Block) (n : ℕ) → block_in b.blocks l ≡ Some k → block_in b.blocks l ≡ Some k'
    → EndPaths false b (passed k'.head l heads) k'.end.kind n → EndPaths false b (passed k.head l heads) k.end.kind n
ends_of b heads l k k' n is is' p = subst (λ (j : Block). EndPaths false b (passed j.head l heads) j.end.kind n) (some_same (sym is' ∙ is)) p

follows : {b : Body} {heads : List Label} {l : Label} {n : ℕ} → Paths false b heads l n → (k : Block) → block_in b.blocks l ≡ Some k → IsEntered k.head l heads → EndPaths false b (passed k.head l heads) k.end.kind n
follows (stopped e) k is entered = absurd (true≢false (sym e))
follows {heads = heads} {l = l} (again k' h is' is_head there) k is entered = absurd (not_both k' k h l heads _ is' is is_head there entered)
follows {b} {heads} {l} (return k' is' entered' e) k is entered =
    ends_of b heads l k k' 1 is is' (subst (λ kind. EndPaths false b (passed k'.head l heads) kind 1) (sym e) refl)
follows {b} {heads} {l} (panic k' cause is' entered' e) k is entered =
    ends_of b heads l k k' 1 is is' (subst (λ kind. EndPaths false b (passed k'.head l heads) kind 1) (sym e) refl)
follows {b} {heads} {l} {n} (goto k' m is' entered' e p) k is entered =
    ends_of b heads l k k' n is is' (subst (λ kind. EndPaths false b (passed k'.head l heads) kind n) (sym e) p)
follows {b} {heads} {l} {n} (call k' q c types args m is' entered' e p) k is entered =
    ends_of b heads l k k' n is is' (subst (λ kind. EndPaths false b (passed k'.head l heads) kind n) (sym e) p)
follows {b} {heads} {l} {n} (switch k' q ls is' entered' e p) k is entered =
    ends_of b heads l k k' n is is' (subst (λ kind. EndPaths false b (passed k'.head l heads) kind n) (sym e) p)
follows {b} {heads} {l} (branch {n = i} {n' = j} k' o on_true on_false is' entered' e p q) k is entered =
    ends_of b heads l k k' (i + j) is is' (subst (λ kind. EndPaths false b (passed k'.head l heads) kind (i + j)) (sym e) (i, j, p, q, refl))

sums : (i j m n n' : ℕ) → i ≤ n → j ≤ n' → m ≡ n + n' → i + j ≤ m
sums i j m n n' p q e = omega arith

-- how many paths the sides of a switch have, by the labels
abbrev SidesBy : Body → List Label → List Label → ℕ → Type 0
SidesBy b heads [] n = n ≡ 1
SidesBy b heads (l ∷ []) n = Paths false b heads l n
SidesBy b heads (l ∷ m ∷ ms) n = (i : ℕ) × (j : ℕ) × Paths false b heads l i × SidePaths false b heads (m ∷ ms) j × (n ≡ i + j)

sides_by : {b : Body} {heads ls : List Label} {n : ℕ} → SidePaths false b heads ls n → SidesBy b heads ls n
sides_by no_side = refl
sides_by (last_side p) = p
sides_by (one_side {n = i} {n' = j} p q) = (i, j, p, q, refl)

mutual
  at_most : {b : Body} {heads : List Label} {l : Label} {m n : ℕ} → Paths true b heads l n → Paths false b heads l m → n ≤ m
  at_most (stopped e) q = omega arith
  at_most (again k h is is_head there) q = omega (arith, passed_once q k h is is_head there)
  at_most {b} {heads} {l} {m} (return k is entered e) q = omega (arith, subst (λ kind. EndPaths false b (passed k.head l heads) kind m) e (follows q k is entered))
  at_most {b} {heads} {l} {m} (panic k cause is entered e) q = omega (arith, subst (λ kind. EndPaths false b (passed k.head l heads) kind m) e (follows q k is entered))
  at_most {b} {heads} {l} {m} (goto k t is entered e p) q = at_most p (subst (λ kind. EndPaths false b (passed k.head l heads) kind m) e (follows q k is entered))
  at_most {b} {heads} {l} {m} (call k pl c types args t is entered e p) q = at_most p (subst (λ kind. EndPaths false b (passed k.head l heads) kind m) e (follows q k is entered))
  at_most {b} {heads} {l} {m} (branch {n = i} {n' = j} k o on_true on_false is entered e p p') q =
      let f = subst (λ kind. EndPaths false b (passed k.head l heads) kind m) e (follows q k is entered) in
      sums i j m f.0 f.1 (at_most p f.2) (at_most p' f.3) f.4
  at_most {b} {heads} {l} {m} (switch k pl ls is entered e p) q = sides_at_most p (subst (λ kind. EndPaths false b (passed k.head l heads) kind m) e (follows q k is entered))

  sides_at_most : {b : Body} {heads ls : List Label} {m n : ℕ} → SidePaths true b heads ls n → SidePaths false b heads ls m → n ≤ m
  sides_at_most no_side q = omega (arith, sides_by q)
  sides_at_most (last_side p) q = at_most p (sides_by q)
  sides_at_most {m = m} (one_side {n = i} {n' = j} p p') q = let f = sides_by q in sums i j m f.0 f.1 (at_most p f.2) (sides_at_most p' f.3) f.4

pub counts_agree : CountsAgree
counts_agree b heads l m n exact more = at_most more exact

-- ---- the walk's paths

mutual
  within_counted : {w : Setting} {heads : List Label} {p : Point} {v : Walk} → Within w heads p v → (k : Block) → block_in w.body.blocks p.label ≡ Some k → EndPaths false w.body heads k.end.kind (paths v)
  within_counted (walk.by_statement st at r) k is = within_counted r k is
  within_counted {w} {heads} {v = v} (walk.by_end end at e) k is =
      subst (λ (t : Terminator). EndPaths false w.body heads t.kind (paths v)) (sym at.is_end ∙ ap (λ (j : Block). j.end) (some_same (sym at.is_block ∙ is))) (end_counted e)

  end_counted : {w : Setting} {heads : List Label} {end : Terminator} {v : Walk} → Ends w heads end v → EndPaths false w.body heads end.kind (paths v)
  end_counted {w} {heads} {v = v} (walk.goto l e a) = subst (λ kind. EndPaths false w.body heads kind (paths v)) (sym e) (arrival_counted a)
  end_counted {w} {heads} {v = v} (walk.branch {u = a} {v = b} o on_true on_false e to_a to_b) =
      subst (λ kind. EndPaths false w.body heads kind (paths v)) (sym e) (paths a, paths b, arrival_counted to_a, arrival_counted to_b, refl)
  end_counted {w} {heads} {v = v} (walk.switch p ls e sides) = subst (λ kind. EndPaths false w.body heads kind (paths v)) (sym e) (sides_counted sides)
  end_counted {w} {heads} {v = v} (walk.call p callee types args l d t e is_d is_t a) = subst (λ kind. EndPaths false w.body heads kind (paths v)) (sym e) (arrival_counted a)
  end_counted {w} {heads} {v = v} (walk.return e) = subst (λ kind. EndPaths false w.body heads kind (paths v)) (sym e) refl
  end_counted {w} {heads} {v = v} (walk.panic cause e) = subst (λ kind. EndPaths false w.body heads kind (paths v)) (sym e) refl

  sides_counted : {w : Setting} {heads : List Label} {p : Place} {k : ℕ} {ls : List Label} {v : Walk} → walk.Sides w heads p k ls v → SidePaths false w.body heads ls (paths v)
  sides_counted walk.no_side = no_side
  sides_counted (walk.last_side a) = last_side (arrival_counted a)
  sides_counted (walk.one_side a rest) = one_side (arrival_counted a) (sides_counted rest)

  arrival_counted : {w : Setting} {heads : List Label} {l : Label} {v : Walk} → Arrives w heads l v → Paths false w.body heads l (paths v)
  arrival_counted {w} {heads} {l} {v = v} (walk.plain k is no_head r) =
      enters false w.body heads l k (paths v) is (subst (λ o. IsEntered o l heads) (sym no_head) tt) (subst (λ o. EndPaths false w.body (passed o l heads) k.end.kind (paths v)) (sym no_head) (within_counted r k is))
  arrival_counted {w} {heads} {l} {v = v} (walk.first k h is is_head not_passed r) =
      enters false w.body heads l k (paths v) is (subst (λ o. IsEntered o l heads) (sym is_head) not_passed) (subst (λ o. EndPaths false w.body (passed o l heads) k.end.kind (paths v)) (sym is_head) (within_counted r k is))
  arrival_counted (walk.again k h is is_head there) = again k h is is_head there

pub walks_are_counted : WalksAreCounted
walks_are_counted w v a = arrival_counted a

-- ---- along an edge

pub count_map : {P Q : Bool → ℕ → Type 0} (room : ℕ) (o : Option ℕ) → ((early : Bool) (n : ℕ) → P early n → Q early n) → IsCount P room o → IsCount Q room o
count_map room (Some n) f h = (h.0, f false n h.1)
count_map room None f h = f true (room + 1) h

-- back to a head that was passed
pub back_counts : (b : Body) (l m : Label) (k : Block) → IsLaidOut b → block_in b.blocks l ≡ Some k → among m (targets k.end.kind) ≡ true → among m k.nest ≡ true → (early : Bool) (n : ℕ) → n ≡ 1 → CountsAlong b l m early n
back_counts b l m k laid is named in_nest early n one heads k' may = by_edge (laid.edges l m k is named)
  where
    same : k' ≡ k
    same = some_same (sym may.is_block ∙ is)

    was_passed : among m heads ≡ true
    was_passed = may.nest m (subst (λ (j : Block). among m j.nest ≡ true) (sym same) in_nest)

    by_edge : Leads b l k m → Paths early b heads m n
    by_edge (on to is_to further enters) = absurd (omega (arith, may.not_later m was_passed))
    by_edge (back to h is_to is_head there) = subst (Paths early b heads m) (sym one) (again to h is_to is_head was_passed)

-- the nest of a block that is entered is among the heads that were passed
nest_passed : (h : Option Head) (nest outer heads : List Label) (m : Label) → around_of h nest m outer → AllAmong outer heads → AllAmong nest (passed h m heads)
nest_passed None nest outer heads m is_around all = subst (λ ls. AllAmong ls heads) (sym is_around) all
nest_passed (Some h) nest outer heads m is_around all = subst (λ ls. AllAmong ls (m ∷ heads)) (sym is_around) both
  where
    or_right : (a c : Bool) → c ≡ true → (a || c) ≡ true
    or_right true c e = refl
    or_right false c e = e

    both : AllAmong (outer ++ m ∷ []) (m ∷ heads)
    both x e = elim (among_append x outer (m ∷ []) e) [
      | inl first ↦ or_right (m.0 == x.0) (among x heads) (all x first)
      | inr second ↦ elim (or_true (m.0 == x.0) false second) [
        | inl here ↦ ap (λ t. t || among x heads) here
        | inr none ↦ absurd (true≢false (sym none))
      ]
    ]

-- the walk enters a block that is no head that was passed, and stands in it
pub record IsEnteredAt (b : Body) (heads : List Label) (m : Label) : Type 0 where
  pub block : Block
  pub is_block : block_in b.blocks m ≡ Some block
  pub is_entered : IsEntered block.head m heads
  pub not_passed : among m heads ≡ false
  pub stands : MayStand b (passed block.head m heads) m block

-- on to a block that is later
pub enters_later : (b : Body) (l m : Label) (k : Block) (heads : List Label) → IsLaidOut b → among m (targets k.end.kind) ≡ true → among m k.nest ≡ false → MayStand b heads l k → IsEnteredAt b heads m
enters_later b l m k heads laid named not_in may = by_edge (laid.edges l m k may.is_block named)
  where
    not_passed : place_of b.blocks l < place_of b.blocks m → among m heads ≡ false
    not_passed further = elim (either (among m heads)) [
      | inl there ↦ absurd (omega (arith, may.not_later m there))
      | inr not_there ↦ not_there
    ]

    is_entered : (h : Option Head) → among m heads ≡ false → IsEntered h m heads
    is_entered None not_there = tt
    is_entered (Some h) not_there = not_there

    not_later : (h : Option Head) → place_of b.blocks l < place_of b.blocks m → (x : Label) → among x (passed h m heads) ≡ true → place_of b.blocks x ≤ place_of b.blocks m
    not_later None further x there = omega (arith, may.not_later x there)
    not_later (Some h) further x there = elim (or_true (m.0 == x.0) (among x heads) there) [
      | inl here ↦ subst (λ y. place_of b.blocks y ≤ place_of b.blocks m) (same_label m x here) (omega arith)
      | inr before ↦ omega (arith, may.not_later x before)
    ]

    by_edge : Leads b l k m → IsEnteredAt b heads m
    by_edge (on to is_to further enters_m) = record {
      block = to;
      is_block = is_to;
      is_entered = is_entered to.head (not_passed further);
      not_passed = not_passed further;
      stands = record {
        is_block = is_to;
        nest = nest_passed to.head to.nest enters_m.outer heads m enters_m.is_around
            (λ x e. may.nest x (subst (λ ls. among x ls ≡ true) (sym enters_m.within) (among_front x enters_m.outer enters_m.inner e)));
        not_later = not_later to.head further;
      };
    }
    by_edge (back to h is_to is_head there) = absurd (true≢false (sym there ∙ not_in))

-- at the entry
pub enters_entry : (b : Body) → IsLaidOut b → IsEnteredAt b [] b.entry
enters_entry b laid = record {
  block = laid.entry;
  is_block = laid.is_entry;
  is_entered = is_entered laid.entry.head;
  not_passed = refl;
  stands = record {
    is_block = laid.is_entry;
    nest = nest_passed laid.entry.head laid.entry.nest [] [] b.entry laid.at_entry (λ x e. e);
    not_later = not_later laid.entry.head;
  };
}
  where
    is_entered : (h : Option Head) → IsEntered h b.entry []
    is_entered None = tt
    is_entered (Some h) = refl

    not_later : (h : Option Head) (x : Label) → among x (passed h b.entry []) ≡ true → place_of b.blocks x ≤ place_of b.blocks b.entry
    not_later None x there = absurd (true≢false (sym there))
    not_later (Some h) x there = elim (or_true (b.entry.0 == x.0) false there) [
      | inl here ↦ subst (λ y. place_of b.blocks y ≤ place_of b.blocks b.entry) (same_label b.entry x here) (omega arith)
      | inr none ↦ absurd (true≢false (sym none))
    ]

pub on_counts : (b : Body) (l m : Label) (k : Block) → IsLaidOut b → block_in b.blocks l ≡ Some k → among m (targets k.end.kind) ≡ true → among m k.nest ≡ false → (early : Bool) (n : ℕ) → CountsFrom b m early n → CountsAlong b l m early n
on_counts b l m k laid is named not_in early n counts heads k' may =
    let same : k' ≡ k = some_same (sym may.is_block ∙ is) in
    let e = enters_later b l m k heads laid named not_in (subst (λ (j : Block). MayStand b heads l j) same may) in
    enters early b heads m e.block n e.is_block e.is_entered (counts (passed e.block.head m heads) e.block e.stands)

-- ---- lists of labels

pub last_among : (ls : List Label) (m : Label) → last_of ls ≡ Some m → among m ls ≡ true
last_among [] m e = absurd (let none : None ≡ Some m = e in cc)
last_among (l ∷ []) m e = subst (λ x. among x (l ∷ []) ≡ true) (some_same e) (among_here l [])
last_among (l ∷ x ∷ xs) m e = among_behind m l (x ∷ xs) (last_among (x ∷ xs) m e)

before_among : (ls : List Label) (m : Label) → among m (before_last ls) ≡ true → among m ls ≡ true
before_among [] m e = e
before_among (l ∷ []) m e = absurd (true≢false (sym e))
before_among (l ∷ x ∷ xs) m e = elim (or_true (l.0 == m.0) (among m (before_last (x ∷ xs))) e) [
  | inl here ↦ ap (λ t. t || among m (x ∷ xs)) here
  | inr there ↦ among_behind m l (x ∷ xs) (before_among (x ∷ xs) m there)
]

-- a switch names the labels before its last
pub before_are_targets : (kind : TerminatorKind) (p : Place) (ls : List Label) → kind ≡ Switch p ls → AreTargets (before_last ls) kind
before_are_targets kind p ls e l named = switch_names kind p ls l e (before_among ls l named)

pub last_is : (ls : List Label) → slice_get ls (length ls - 1) ≡ last_of ls
last_is [] = refl
last_is (l ∷ []) = refl
last_is (l ∷ m ∷ ms) =
    let e : length (l ∷ m ∷ ms) - 1 ≡ suc (length (m ∷ ms) - 1) = omega arith in
    ap (slice_get (l ∷ m ∷ ms)) e ∙ last_is (m ∷ ms)

pub before_is : (ls : List Label) → take (length ls - 1) ls ≡ before_last ls
before_is [] = refl
before_is (l ∷ []) = refl
before_is (l ∷ m ∷ ms) =
    let e : length (l ∷ m ∷ ms) - 1 ≡ suc (length (m ∷ ms) - 1) = omega arith in
    ap (λ i. take i (l ∷ m ∷ ms)) e ∙ ap (λ xs. l ∷ xs) (before_is (m ∷ ms))

-- a block's end names where its last edge leads
pub last_named : (kind : TerminatorKind) (m : Label) → last_target kind ≡ Some m → among m (targets kind) ≡ true
last_named (Goto t) m e = ap (λ x. among x (targets (Goto t))) (sym (some_same e)) ∙ goto_names (Goto t) t refl
last_named (If o on_true on_false) m e = ap (λ x. among x (targets (If o on_true on_false))) (sym (some_same e)) ∙ if_names_no (If o on_true on_false) o on_true on_false refl
last_named (Switch p ls) m e = last_among ls m e
last_named (Call p c types args t) m e = ap (λ x. among x (targets (Call p c types args t))) (sym (some_same e)) ∙ call_names (Call p c types args t) p c types args t refl
last_named Return m e = absurd (let some : None ≡ Some m = e in cc)
last_named (Panic cause) m e = absurd (let some : None ≡ Some m = e in cc)

-- ---- from a block on

-- by the block's end
pub ends_count : (b : Body) (l : Label) (k : Block) (kind : TerminatorKind) (early : Bool) (n : ℕ) → block_in b.blocks l ≡ Some k → k.end.kind ≡ kind
    → ((heads : List Label) → MayStand b heads l k → EndPaths early b heads kind n) → CountsFrom b l early n
ends_count b l k kind early n is is_kind p heads k' may =
    let same : k ≡ k' = some_same (sym is ∙ may.is_block) in
    subst (λ (j : Block). EndPaths early b heads j.end.kind n) same (subst (λ q. EndPaths early b heads q n) (sym is_kind) (p heads (subst (λ (j : Block). MayStand b heads l j) (sym same) may)))

exact_may : (b : Body) (l m : Label) (early : Bool) (n : ℕ) → CountsAlong b l m false n → CountsAlong b l m early n
exact_may b l m true n exact heads k may = may_stop (exact heads k may)
exact_may b l m false n exact heads k may = exact heads k may

-- ---- an item of a list of labels

-- the item of the number, as a loop over the list reads it
abbrev pub item : List Label → ℕ → Label
item ls i = get_or ls i (record { 0 = 0 })

pub item_is : (ls : List Label) (i : ℕ) → i < length ls → item ls i ≡ get_or ls i (item ls i)
item_is [] i below = absurd (omega (arith, below))
item_is (l ∷ ls) zero below = refl
item_is (l ∷ ls) (suc i) below = item_is ls i (omega (arith, below))

pub item_among : (ls : List Label) (i : ℕ) (x : Label) → i < length ls → x ≡ get_or ls i x → among x ls ≡ true
item_among [] i x below is = absurd (omega (arith, below))
item_among (l ∷ ls) zero x below is = subst (λ y. among y (l ∷ ls) ≡ true) (sym is) (among_here l ls)
item_among (l ∷ ls) (suc i) x below is = among_behind x l ls (item_among ls i x (omega (arith, below)) is)

pub take_one : (ls : List Label) (i : ℕ) (x : Label) → i < length ls → x ≡ get_or ls i x → take (i + 1) ls ≡ take i ls ++ x ∷ []
take_one [] i x below is = absurd (omega (arith, below))
take_one (l ∷ ls) zero x below is = ap (λ y. y ∷ []) (sym is)
take_one (l ∷ ls) (suc i) x below is =
    let e : suc i + 1 ≡ suc (i + 1) = omega arith in
    ap (λ n. take n (l ∷ ls)) e ∙ ap (λ ys. l ∷ ys) (take_one ls i x (omega (arith, below)) is)

pub taken_length : (ls : List Label) (i : ℕ) → i ≤ length ls → length (take i ls) ≡ i
taken_length [] zero h = refl
taken_length [] (suc i) h = absurd (omega (arith, h))
taken_length (l ∷ ls) zero h = refl
taken_length (l ∷ ls) (suc i) h = ap suc (taken_length ls i (omega (arith, h)))

pub rest_of : (ls : List Label) (i : ℕ) (x : Label) → i < length ls → x ≡ get_or ls i x → (rest : List Label) × (ls ≡ (take i ls ++ x ∷ []) ++ rest)
rest_of [] i x below is = absurd (omega (arith, below))
rest_of (l ∷ ls) zero x below is = (ls, ap (λ y. y ∷ ls) (sym is))
rest_of (l ∷ ls) (suc i) x below is = let r = rest_of ls i x (omega (arith, below)) is in (r.0, ap (λ ys. l ∷ ys) r.1)

pub all_taken : (ls : List Label) (i : ℕ) → length ls ≤ i → take i ls ≡ ls
all_taken [] zero h = refl
all_taken [] (suc i) h = refl
all_taken (l ∷ ls) zero h = absurd (omega (arith, h))
all_taken (l ∷ ls) (suc i) h = ap (λ ys. l ∷ ys) (all_taken ls i (omega (arith, h)))

-- ---- along some edges

pub each_none : (b : Body) (l : Label) (early : Bool) → CountsEach b l [] early 0
each_none b l early = refl

pub each_more : (b : Body) (l m : Label) (ms : List Label) (early : Bool) (n j : ℕ) → CountsEach b l ms early n → CountsAlong b l m early j → CountsEach b l (ms ++ m ∷ []) early (n + j)
each_more b l m [] early n j none counts = (j, 0, counts, refl, omega (arith, none))
each_more b l m (x ∷ xs) early n j (i, rest, first, others, sum) counts = (i, rest + j, first, each_more b l m xs early rest j others counts, omega (arith, sum))

each_stops : (b : Body) (l : Label) (ms : List Label) → CountsEach b l ms true 0
each_stops b l [] = refl
each_stops b l (m ∷ ms) = (0, 0, λ heads k may. stopped refl, each_stops b l ms, refl)

-- there are already more than there is room for
pub each_many : (b : Body) (l : Label) (ms rest : List Label) (n : ℕ) → CountsEach b l ms true n → CountsEach b l (ms ++ rest) true n
each_many b l [] rest n none = subst (CountsEach b l rest true) (sym none) (each_stops b l rest)
each_many b l (m ∷ ms) rest n (i, j, first, others, sum) = (i, j, first, each_many b l ms rest j others, sum)

pub each_may : (b : Body) (l : Label) (ms : List Label) (early : Bool) (n : ℕ) → CountsEach b l ms false n → CountsEach b l ms early n
each_may b l [] early n none = none
each_may b l (m ∷ ms) early n (i, j, first, others, sum) = (i, j, exact_may b l m early i first, each_may b l ms early j others, sum)

pub each_next : (b : Body) (l : Label) (ls : List Label) (i : ℕ) (x : Label) (n j : ℕ) → i < length ls → x ≡ get_or ls i x → CountsEach b l (take i ls) false n → CountsAlong b l x false j → CountsEach b l (take (i + 1) ls) false (n + j)
each_next b l ls i x n j below is before counts = subst (λ ms. CountsEach b l ms false (n + j)) (sym (take_one ls i x below is)) (each_more b l x (take i ls) false n j before counts)

pub each_too_many : (b : Body) (l : Label) (ls : List Label) (i : ℕ) (x : Label) (room n left : ℕ) → i < length ls → x ≡ get_or ls i x → n + left ≡ room → CountsEach b l (take i ls) false n → CountsAlong b l x true (left + 1)
    → CountsEach b l ls true (room + 1)
each_too_many b l ls i x room n left below is sum before counts =
    let r = rest_of ls i x below is in
    let total : n + (left + 1) ≡ room + 1 = omega (arith, sum) in
    subst (CountsEach b l ls true) total
    (subst (λ ms. CountsEach b l ms true (n + (left + 1))) (sym r.1) (each_many b l (take i ls ++ x ∷ []) r.0 (n + (left + 1)) (each_more b l x (take i ls) true n (left + 1) (each_may b l (take i ls) true n before) counts)))

-- all sides of a switch, from those before the last and the last
sides_of : (b : Body) (l : Label) (ls : List Label) (m : Label) (early : Bool) (first n : ℕ) → last_of ls ≡ Some m → CountsEach b l (before_last ls) early first → CountsAlong b l m early n
    → (heads : List Label) (k : Block) → MayStand b heads l k → SidePaths early b heads ls (first + n)
sides_of b l [] m early first n e before counts heads k may = absurd (let none : None ≡ Some m = e in cc)
sides_of b l (x ∷ []) m early first n e none counts heads k may =
    let sum : n ≡ first + n = omega (arith, none) in
    last_side (subst (Paths early b heads x) sum (subst (λ y. Paths early b heads y n) (sym (some_same e)) (counts heads k may)))
sides_of b l (x ∷ y ∷ ys) m early first n e (i, j, one, others, is) counts heads k may =
    let sum : i + (j + n) ≡ first + n = omega (arith, is) in
    subst (SidePaths early b heads (x ∷ y ∷ ys)) sum (one_side (one heads k may) (sides_of b l (y ∷ ys) m early j n e others counts heads k may))

no_sides : (ls : List Label) → last_of ls ≡ None → ls ≡ []
no_sides [] e = refl
no_sides (l ∷ []) e = absurd (let some : Some l ≡ None = e in cc)
no_sides (l ∷ m ∷ ms) e = absurd (let none : m ∷ ms ≡ [] = no_sides (m ∷ ms) e in cc)

-- a switch over no variants
empty_sides : (b : Body) (l : Label) (ls : List Label) (early : Bool) (first : ℕ) → last_of ls ≡ None → CountsEach b l (before_last ls) false first → (heads : List Label) → SidePaths early b heads ls (first + 1)
empty_sides b l ls early first none before heads =
    let empty : ls ≡ [] = no_sides ls none in
    let zero_first : first ≡ 0 = subst (λ xs. CountsEach b l (before_last xs) false first) empty before in
    let sum : 1 ≡ first + 1 = omega (arith, zero_first) in
    subst (λ xs. SidePaths early b heads xs (first + 1)) (sym empty) (subst (SidePaths early b heads []) sum no_side)

-- the sides before the last have so many, where the count stops
some_sides_stop : (b : Body) (l x : Label) (xs : List Label) (n : ℕ) → CountsEach b l (before_last (x ∷ xs)) true n → (heads : List Label) (k : Block) → MayStand b heads l k → SidePaths true b heads (x ∷ xs) n
some_sides_stop b l x [] n none heads k may = subst (SidePaths true b heads (x ∷ [])) (sym none) (last_side (stopped refl))
some_sides_stop b l x (y ∷ ys) n (i, j, one, others, sum) heads k may = subst (SidePaths true b heads (x ∷ y ∷ ys)) (sym sum) (one_side (one heads k may) (some_sides_stop b l y ys j others heads k may))

sides_stop : (b : Body) (l : Label) (ls : List Label) (n : ℕ) → 0 < n → CountsEach b l (before_last ls) true n → (heads : List Label) (k : Block) → MayStand b heads l k → SidePaths true b heads ls n
sides_stop b l [] n some none heads k may = absurd (omega (arith, none, some))
sides_stop b l (x ∷ xs) n some each heads k may = some_sides_stop b l x xs n each heads k may

-- the first side has as many, and along the last edge there are more
pub last_counts : (b : Body) (l : Label) (k : Block) (m : Label) (first : ℕ) → block_in b.blocks l ≡ Some k → CountsFirst b l k.end.kind false first → last_target k.end.kind ≡ Some m
    → (early : Bool) (n : ℕ) → CountsAlong b l m early n → CountsFrom b l early (first + n)
last_counts b l k m first is counted named early n counts = by_kind k.end.kind refl counted named
  where
    by_kind : (kind : TerminatorKind) → k.end.kind ≡ kind → CountsFirst b l kind false first → last_target kind ≡ Some m → CountsFrom b l early (first + n)
    by_kind (Goto t) e none is_last = ends_count b l k (Goto t) early (first + n) is e
        (λ heads may. subst (λ x. Paths early b heads x (first + n)) (sym (some_same is_last)) (subst (Paths early b heads m) (omega (arith, none)) (counts heads k may)))
    by_kind (Switch p ls) e each is_last = ends_count b l k (Switch p ls) early (first + n) is e (λ heads may. sides_of b l ls m early first n is_last (each_may b l (before_last ls) early first each) counts heads k may)
    by_kind (Call p c types args t) e none is_last = ends_count b l k (Call p c types args t) early (first + n) is e
        (λ heads may. subst (λ x. Paths early b heads x (first + n)) (sym (some_same is_last)) (subst (Paths early b heads m) (omega (arith, none)) (counts heads k may)))
    by_kind (If o on_true on_false) e one is_last = ends_count b l k (If o on_true on_false) early (first + n) is e
        (λ heads may. (first, n, exact_may b l on_true early first one heads k may, subst (λ x. Paths early b heads x n) (sym (some_same is_last)) (counts heads k may), refl))
    by_kind Return e none is_last = absurd (let some : None ≡ Some m = is_last in cc)
    by_kind (Panic cause) e none is_last = absurd (let some : None ≡ Some m = is_last in cc)

-- no edge leads on
pub return_counts : (b : Body) (l : Label) (k : Block) (first : ℕ) → block_in b.blocks l ≡ Some k → CountsFirst b l k.end.kind false first → last_target k.end.kind ≡ None → (early : Bool) → CountsFrom b l early (first + 1)
return_counts b l k first is counted none early = by_kind k.end.kind refl counted none
  where
    by_kind : (kind : TerminatorKind) → k.end.kind ≡ kind → CountsFirst b l kind false first → last_target kind ≡ None → CountsFrom b l early (first + 1)
    by_kind (Goto t) e zero_first f = absurd (let some : Some t ≡ None = f in cc)
    by_kind (Switch p ls) e each f = ends_count b l k (Switch p ls) early (first + 1) is e (λ heads may. empty_sides b l ls early first f each heads)
    by_kind (Call p c types args t) e zero_first f = absurd (let some : Some t ≡ None = f in cc)
    by_kind (If o on_true on_false) e one f = absurd (let some : Some on_false ≡ None = f in cc)
    by_kind Return e zero_first f = ends_count b l k Return early (first + 1) is e (λ heads may. omega (arith, zero_first))
    by_kind (Panic cause) e zero_first f = ends_count b l k (Panic cause) early (first + 1) is e (λ heads may. omega (arith, zero_first))

-- the path ends behind the block
pub ends_counts : (b : Body) (l : Label) (k : Block) (first : ℕ) → IsLaidOut b → block_in b.blocks l ≡ Some k → CountsFirst b l k.end.kind false first → IsLater k None → (early : Bool) → CountsFrom b l early (first + 1)
ends_counts b l k first laid is counted (inl none) early = return_counts b l k first is counted none early
ends_counts b l k first laid is counted (inr (m, named, there)) early =
    last_counts b l k m first is counted named early 1 (back_counts b l m k laid is (last_named k.end.kind m named) there early 1 refl)

-- the path goes on to a later block
pub later_counts : (b : Body) (l : Label) (k : Block) (m : Label) (first : ℕ) → IsLaidOut b → block_in b.blocks l ≡ Some k → CountsFirst b l k.end.kind false first → IsLater k (Some m)
    → (early : Bool) (n : ℕ) → CountsFrom b m early n → CountsFrom b l early (first + n)
later_counts b l k m first laid is counted (named, not_in) early n counts =
    last_counts b l k m first is counted named early n (on_counts b l m k laid is (last_named k.end.kind m named) not_in early n counts)

-- the first side has more than there is room for
pub first_is_many : (b : Body) (l : Label) (k : Block) (room : ℕ) → block_in b.blocks l ≡ Some k → CountsFirst b l k.end.kind true (room + 1) → CountsFrom b l true (room + 1)
first_is_many b l k room is counted = by_kind k.end.kind refl counted
  where
    by_kind : (kind : TerminatorKind) → k.end.kind ≡ kind → CountsFirst b l kind true (room + 1) → CountsFrom b l true (room + 1)
    by_kind (Goto t) e none = absurd (omega (arith, none))
    by_kind (Switch p ls) e each = ends_count b l k (Switch p ls) true (room + 1) is e (λ heads may. sides_stop b l ls (room + 1) (omega arith) each heads k may)
    by_kind (Call p c types args t) e none = absurd (omega (arith, none))
    by_kind (If o on_true on_false) e first = ends_count b l k (If o on_true on_false) true (room + 1) is e (λ heads may. (room + 1, 0, first heads k may, stopped refl, omega arith))
    by_kind Return e none = absurd (omega (arith, none))
    by_kind (Panic cause) e none = absurd (omega (arith, none))

-- ---- from the entry on

pub entry_counts : (b : Body) (early : Bool) (n : ℕ) → IsLaidOut b → CountsFrom b b.entry early n → Paths early b [] b.entry n
entry_counts b early n laid counts =
    let e = enters_entry b laid in
    enters early b [] b.entry e.block n e.is_block e.is_entered (counts (passed e.block.head b.entry []) e.block e.stands)

-- ---- why the count ends

pub next_block : (b : Body) (l m : Label) (k : Block) → IsLaidOut b → block_in b.blocks l ≡ Some k → among m (targets k.end.kind) ≡ true → among m k.nest ≡ false → ((to : Block) × (block_in b.blocks m ≡ Some to)) × (room b.blocks m < room b.blocks l)
next_block b l m k laid is named not_in = by_edge (laid.edges l m k is named)
  where
    by_edge : Leads b l k m → ((to : Block) × (block_in b.blocks m ≡ Some to)) × (room b.blocks m < room b.blocks l)
    by_edge (on to is_to further enters_m) = ((to, is_to), omega (arith, further, found_place b.blocks l k is, found_place b.blocks m to is_to))
    by_edge (back to h is_to is_head there) = absurd (true≢false (sym there ∙ not_in))
