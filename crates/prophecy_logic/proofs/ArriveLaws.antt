-- Where the walk goes on, and why it ends.
use Rattle.std.proofs.Common.{◌≡◌, ◌∙◌, ◌⊎◌, inl, inr, refl, sym, ap, subst, ℕ, zero, suc, ◌+◌, ◌-◌, ◌*◌, ◌<◌, ◌==◌, ◌||◌, Bool, true, false, cond, true≢false, List, [], ◌∷◌, ◌++◌, length, get_or, Option, Some, None, eq-eqb, arith}
use Rattle.std.proofs.lemmas.Bool.{eqb-true}
use Rattle.std.specs.Prelude.{slice_get}
use Rattle.logic_term.specs.declared.kinds.Label.{Label}
use Rattle.mir_ir.specs.declared.terminator.TerminatorKind.{TerminatorKind}
use Rattle.mir_ir.specs.declared.terminator.TerminatorKind.TheVariants.{Goto, If, Switch, Call}
use Rattle.logic_term.specs.Ty.{Ty}
use Rattle.mir_ir.specs.declared.terminator.Callee.{Callee}
use Rattle.mir_ir.specs.declared.place.Operand.{Operand}
use Rattle.mir_ir.specs.declared.place.Place.{Place}
use Rattle.mir_ir.specs.declared.body.Block.{Block}
use Rattle.mir_ir.specs.declared.body.Head.{Head}
use Rattle.mir_ir.specs.Body.{block_in}
use Rattle.mir_ir.specs.Layout.{among, targets, place_of, around_of, around, Leads, on, back}
use Rattle.prophecy_logic.specs.Graph.{Setting}
use Rattle.prophecy_logic.specs.Walkable.{CanWalk, AllAmong, AreHeads, MayArrive, MayWalk}

-- ---- lists

-- what is read at a place that is within the list, whatever the default
pub read_there : {A : Type 0} (xs : List A) (i : ℕ) (d r : A) → slice_get xs i ≡ Some d → slice_get xs i ≡ Some (get_or xs i r)
read_there [] i d r f = absurd cc
read_there (y ∷ xs) zero d r f = refl
read_there (y ∷ xs) (suc i) d r f = read_there xs i d r f

some_is : {A : Type 0} (x y : A) → Some x ≡ Some y → x ≡ y
some_is x y e = cc

pub or_true : (a b : Bool) → (a || b) ≡ true → (a ≡ true) ⊎ (b ≡ true)
or_true true b e = inl refl
or_true false b e = inr e

pub among_append : (x : Label) (ls ms : List Label) → among x (ls ++ ms) ≡ true → (among x ls ≡ true) ⊎ (among x ms ≡ true)
among_append x [] ms e = inr e
among_append x (l ∷ ls) ms e = elim (or_true (l.0 == x.0) (among x (ls ++ ms)) e) [
  | inl here ↦ inl (ap (λ b. b || among x ls) here)
  | inr there ↦ elim (among_append x ls ms there) [
    | inl first ↦ inl (ap (λ b. (l.0 == x.0) || b) first ∙ or_right (l.0 == x.0))
    | inr second ↦ inr second
  ]
]
  where
    or_right : (a : Bool) → (a || true) ≡ true
    or_right true = refl
    or_right false = refl

pub among_front : (x : Label) (ls ms : List Label) → among x ls ≡ true → among x (ls ++ ms) ≡ true
among_front x [] ms e = absurd (true≢false (sym e))
among_front x (l ∷ ls) ms e = elim (or_true (l.0 == x.0) (among x ls) e) [
  | inl here ↦ ap (λ b. b || among x (ls ++ ms)) here
  | inr there ↦ ap (λ b. (l.0 == x.0) || b) (among_front x ls ms there) ∙ or_right (l.0 == x.0)
]
  where
    or_right : (a : Bool) → (a || true) ≡ true
    or_right true = refl
    or_right false = refl

pub same_label : (l m : Label) → (l.0 == m.0) ≡ true → l ≡ m
same_label l m e = ap (λ n. let r : Label = record { 0 = n } in r) (eqb-true l.0 m.0 e)

pub either : (b : Bool) → (b ≡ true) ⊎ (b ≡ false)
either true = inl refl
either false = inr refl

-- ---- places

found_at : (t : Bool) (b : Label × Block) (bs : List (Label × Block)) (l : Label) (k : Block) → (block_in bs l ≡ Some k → place_of bs l < length bs) → cond t (Some b.1) (block_in bs l) ≡ Some k → cond t 0 (suc (place_of bs l)) < suc (length bs)
found_at true b bs l k later e = omega arith
found_at false b bs l k later e = let h = later e in omega arith

pub found_place : (bs : List (Label × Block)) (l : Label) (k : Block) → block_in bs l ≡ Some k → place_of bs l < length bs
found_place [] l k e = absurd cc
found_place (b ∷ bs) l k e = found_at (b.0.0 == l.0) b bs l k (λ f. found_place bs l k f) e

-- how many blocks stand from the label's on
abbrev pub room : List (Label × Block) → Label → ℕ
room bs l = length bs - place_of bs l

-- what is left to walk: nothing more at a head that was passed
abbrev pub arrival_measure : List (Label × Block) → List Label → Label → ℕ
arrival_measure bs heads l = cond (among l heads) 0 (4 * room bs l + 3)

-- ---- arrivals

-- in a block that is no head
pub plain_block : (w : Setting) (heads : List Label) (l : Label) (k : Block) → MayArrive w heads l → block_in w.body.blocks l ≡ Some k → k.head ≡ None → (among l heads ≡ false) × MayWalk w heads l k
plain_block w heads l k may is no_head = elim (either (among l heads)) [
  | inl passed ↦ let found = may.are_heads l passed in
      let same : found.0 ≡ k = some_is found.0 k (sym found.2 ∙ is) in
      absurd (let e : None ≡ Some found.1 = sym no_head ∙ ap (λ (j : Block). j.head) (sym same) ∙ found.3 in cc)
  | inr not_passed ↦ (
    not_passed,
    record {
      is_block = is;
      passed = nest_passed (may.passed not_passed);
      are_heads = may.are_heads;
    },
  )
]
  where
    block_is : may.block ≡ k
    block_is = some_is may.block k (sym may.is_block ∙ is)

    nest_passed : (outer : List Label) × around l may.block outer × AllAmong outer heads → AllAmong k.nest heads
    nest_passed (outer, is_around, all) =
        let at_k : around l k outer = subst (λ (j : Block). around l j outer) block_is is_around in
        let nest_is : k.nest ≡ outer = subst (λ (h : Option Head). around_of h k.nest l outer) no_head at_k in
        subst (λ ls. AllAmong ls heads) (sym nest_is) all

-- in a block that is a head, at the first arrival
pub head_block : (w : Setting) (heads : List Label) (l : Label) (k : Block) (h : Head) → MayArrive w heads l → block_in w.body.blocks l ≡ Some k → k.head ≡ Some h → among l heads ≡ false → MayWalk w (l ∷ heads) l k
head_block w heads l k h may is is_head not_passed = record {
  is_block = is;
  passed = nest_passed (may.passed not_passed);
  are_heads = heads_too;
}
  where
    block_is : may.block ≡ k
    block_is = some_is may.block k (sym may.is_block ∙ is)

    or_right : (a b : Bool) → b ≡ true → (a || b) ≡ true
    or_right true b e = refl
    or_right false b e = e

    in_both : (outer : List Label) → AllAmong outer heads → AllAmong (outer ++ l ∷ []) (l ∷ heads)
    in_both outer all x e = elim (among_append x outer (l ∷ []) e) [
      | inl first ↦ or_right (l.0 == x.0) (among x heads) (all x first)
      | inr second ↦ elim (or_true (l.0 == x.0) false second) [
        | inl here ↦ ap (λ b. b || among x heads) here
        | inr none ↦ absurd (true≢false (sym none))
      ]
    ]

    nest_passed : (outer : List Label) × around l may.block outer × AllAmong outer heads → AllAmong k.nest (l ∷ heads)
    nest_passed (outer, is_around, all) =
        let at_k : around l k outer = subst (λ (j : Block). around l j outer) block_is is_around in
        let nest_is : k.nest ≡ outer ++ l ∷ [] = subst (λ (o : Option Head). around_of o k.nest l outer) is_head at_k in
        subst (λ ls. AllAmong ls (l ∷ heads)) (sym nest_is) (in_both outer all)

    heads_too : AreHeads w (l ∷ heads)
    heads_too x e = elim (or_true (l.0 == x.0) (among x heads) e) [
      | inl here ↦ (k, h, ap (block_in w.body.blocks) (sym (same_label l x here)) ∙ is, is_head)
      | inr there ↦ may.are_heads x there
    ]

smaller : (bs : List (Label × Block)) (heads : List Label) (l m : Label) (b : Bool) → place_of bs l < length bs → (b ≡ false → place_of bs l < place_of bs m) → place_of bs m < length bs → cond b 0 (4 * room bs m + 3) < 4 * room bs l
smaller bs heads l m true within further there = omega arith
smaller bs heads l m false within further there = let h = further refl in omega arith

-- at the end of a block, to a label that it names
pub next_arrival : (w : Setting) (heads : List Label) (l : Label) (k : Block) (m : Label) → CanWalk w → MayWalk w heads l k → among m (targets k.end.kind) ≡ true → MayArrive w heads m × (arrival_measure w.body.blocks heads m < 4 * room w.body.blocks l)
next_arrival w heads l k m can may named = by_edge (can.laid_out.edges l m k may.is_block named)
  where
    within : place_of w.body.blocks l < length w.body.blocks
    within = found_place w.body.blocks l k may.is_block

    by_edge : Leads w.body l k m → MayArrive w heads m × (arrival_measure w.body.blocks heads m < 4 * room w.body.blocks l)
    by_edge (on to is further enters) = (
      record {
        block = to;
        is_block = is;
        passed = λ n. (enters.outer, enters.is_around, λ x e. may.passed x (subst (λ ls. among x ls ≡ true) (sym enters.within) (among_front x enters.outer enters.inner e)));
        are_heads = may.are_heads;
      },
      smaller w.body.blocks heads l m (among m heads) within (λ n. further) (found_place w.body.blocks m to is),
    )
    by_edge (back to h is is_head in_nest) = (
      record {
        block = to;
        is_block = is;
        passed = λ n. absurd (true≢false (sym (may.passed m in_nest) ∙ n));
        are_heads = may.are_heads;
      },
      smaller w.body.blocks heads l m (among m heads) within (λ n. absurd (true≢false (sym (may.passed m in_nest) ∙ n))) (found_place w.body.blocks m to is),
    )

-- ---- the labels that a block's end names

pub among_here : (l : Label) (ls : List Label) → among l (l ∷ ls) ≡ true
among_here l ls = ap (λ b. b || among l ls) (eq-eqb l.0 l.0 refl)

pub among_behind : (x l : Label) (ls : List Label) → among x ls ≡ true → among x (l ∷ ls) ≡ true
among_behind x l ls e = ap (λ b. (l.0 == x.0) || b) e ∙ or_right (l.0 == x.0)
  where
    or_right : (a : Bool) → (a || true) ≡ true
    or_right true = refl
    or_right false = refl

pub among_second : (l m : Label) → among m (l ∷ m ∷ []) ≡ true
among_second l m = ap (λ b. (l.0 == m.0) || b) (among_here m []) ∙ or_right (l.0 == m.0)
  where
    or_right : (a : Bool) → (a || true) ≡ true
    or_right true = refl
    or_right false = refl

pub goto_names : (kind : TerminatorKind) (l : Label) → kind ≡ Goto l → among l (targets kind) ≡ true
goto_names kind l e = ap (λ k. among l (targets k)) e ∙ among_here l []

pub if_names_yes : (kind : TerminatorKind) (o : Operand) (l m : Label) → kind ≡ If o l m → among l (targets kind) ≡ true
if_names_yes kind o l m e = ap (λ k. among l (targets k)) e ∙ among_here l (m ∷ [])

pub if_names_no : (kind : TerminatorKind) (o : Operand) (l m : Label) → kind ≡ If o l m → among m (targets kind) ≡ true
if_names_no kind o l m e = ap (λ k. among m (targets k)) e ∙ among_second l m

pub switch_names : (kind : TerminatorKind) (p : Place) (ls : List Label) (l : Label) → kind ≡ Switch p ls → among l ls ≡ true → among l (targets kind) ≡ true
switch_names kind p ls l e named = ap (λ k. among l (targets k)) e ∙ named

pub call_names : (kind : TerminatorKind) (p : Place) (c : Callee) (types : List Ty) (args : List Operand) (l : Label) → kind ≡ Call p c types args l → among l (targets kind) ≡ true
call_names kind p c types args l e = ap (λ k. among l (targets k)) e ∙ among_here l []
