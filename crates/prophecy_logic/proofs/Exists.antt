-- Each body that can be walked has a walk.
use Rattle.std.proofs.Common.{◌≡◌, inl, inr, refl, ap, ℕ, zero, suc, ◌+◌, ◌*◌, ◌<◌, ◌≤◌, true, false, cond, List, [], ◌∷◌, length, Option, Some, None, slice_get, arith}
use Rattle.logic_term.specs.declared.kinds.Label.{Label}
use Rattle.mir_ir.specs.declared.place.Place.{Place}
use Rattle.mir_ir.specs.declared.terminator.TerminatorKind.{TerminatorKind}
use Rattle.mir_ir.specs.declared.terminator.TerminatorKind.TheVariants.{Goto, If, Switch, Call, Return, Panic}
use Rattle.mir_ir.specs.declared.body.Block.{Block}
use Rattle.mir_ir.specs.declared.body.Head.{Head}
use Rattle.mir_ir.specs.declared.body.Point.{Point}
use Rattle.mir_ir.specs.Body.{block_in}
use Rattle.mir_ir.specs.Layout.{among, targets}
use Rattle.prophecy_logic.specs.Graph.{Setting, start_of, behind, Within, by_statement, by_end, Ends, goto, branch, switch, call, return, panic, Sides, no_side, last_side, one_side, Arrives, plain, first, again}
use Rattle.prophecy_logic.specs.Laws.{WalksExist}
use Rattle.prophecy_logic.specs.Walk.{Walk}
use Rattle.prophecy_logic.specs.Walkable.{CanWalk, MayArrive, MayWalk}
use Rattle.prophecy_logic.proofs.ArriveLaws.{either, room, arrival_measure, plain_block, head_block, next_arrival, goto_names, if_names_yes, if_names_no, switch_names, call_names, among_here, among_behind}

abbrev HasArrival : Setting → List Label → Label → Type 0
HasArrival w heads l = (v : Walk) × Arrives w heads l v

item_there : {A : Type 0} (xs : List A) (i : ℕ) → i < length xs → (x : A) × (slice_get xs i ≡ Some x)
item_there [] i below = absurd (omega (arith, below))
item_there (y ∷ ys) zero below = (y, refl)
item_there (y ∷ ys) (suc i) below = item_there ys i (omega (arith, below))

-- a point from which so many statements are left
with_statements : (w : Setting) (heads : List Label) (k : Block) (left : ℕ) (p : Point) → block_in w.body.blocks p.label ≡ Some k → p.statement + left ≡ length k.statements → (e : Walk) → Ends w heads k.end e → (v : Walk) × Within w heads p v
with_statements w heads k zero p is last e ends = (e, by_end k.end (record { block = k; is_block = is; is_last = omega (arith, last); is_end = refl }) ends)
with_statements w heads k (suc left) p is last e ends =
    let here = item_there k.statements p.statement (omega (arith, last)) in
    let r = with_statements w heads k left (behind p) is (omega (arith, last)) e ends in
    (_, by_statement here.0 (record { block = k; is_block = is; is_statement = here.1 }) r.1)

-- there is a walk from a switch on, if there is one from each of its labels on
sides_exist : (w : Setting) (heads : List Label) (p : Place) (k : ℕ) (ls : List Label) → ((m : Label) → among m ls ≡ true → HasArrival w heads m) → (v : Walk) × Sides w heads p k ls v
sides_exist w heads p k [] to = (_, no_side)
sides_exist w heads p k (l ∷ []) to = (_, last_side (to l (among_here l [])).1)
sides_exist w heads p k (l ∷ m ∷ ms) to =
    let rest = sides_exist w heads p (k + 1) (m ∷ ms) (λ n named. to n (among_behind n l (m ∷ ms) named)) in
    (_, one_side (to l (among_here l (m ∷ ms))).1 rest.1)

-- a block's end has a walk, if each arrival that is nearer has one
end_has_walk : (w : Setting) (heads : List Label) (l : Label) (k : Block) → CanWalk w → MayWalk w heads l k → ((m : Label) → MayArrive w heads m → arrival_measure w.body.blocks heads m < 4 * room w.body.blocks l → HasArrival w heads m) → (v : Walk) × Ends w heads k.end v
end_has_walk w heads l k can may nearer = by_kind k.end.kind refl
  where
    to : (m : Label) → among m (targets k.end.kind) ≡ true → HasArrival w heads m
    to m named = let n = next_arrival w heads l k m can may named in nearer m n.0 n.1

    by_kind : (kind : TerminatorKind) → k.end.kind ≡ kind → (v : Walk) × Ends w heads k.end v
    by_kind (Goto m) e = let a = to m (goto_names k.end.kind m e) in (a.0, goto m e a.1)
    by_kind (If o on_true on_false) e =
        let a = to on_true (if_names_yes k.end.kind o on_true on_false e) in
        let b = to on_false (if_names_no k.end.kind o on_true on_false e) in
        (_, branch o on_true on_false e a.1 b.1)
    by_kind (Switch p ls) e = let s = sides_exist w heads p 0 ls (λ m named. to m (switch_names k.end.kind p ls m e named)) in (s.0, switch p ls e s.1)
    by_kind (Call p callee types args m) e =
        let a = to m (call_names k.end.kind p callee types args m e) in
        let known = can.calls l k p callee types args m may.is_block e in
        (_, call p callee types args m known.contract.0 known.answer.0 e known.contract.1 known.answer.1 a.1)
    by_kind Return e = (_, return e)
    by_kind (Panic cause) e = (_, panic cause e)

-- an arrival has a walk, if each arrival that is nearer than so many has one
arrival_has_walk : (w : Setting) (heads : List Label) (l : Label) (far : ℕ) → CanWalk w → (may : MayArrive w heads l) → arrival_measure w.body.blocks heads l ≤ far
    → ((inner : List Label) (m : Label) → MayArrive w inner m → arrival_measure w.body.blocks inner m < far → HasArrival w inner m) → HasArrival w heads l
arrival_has_walk w heads l far can may within nearer = by_head may.block.head refl
  where
    near : among l heads ≡ false → 4 * room w.body.blocks l + 3 ≤ far
    near not_passed = let e = ap (λ b. cond b 0 (4 * room w.body.blocks l + 3)) not_passed in omega (arith, e, within)

    walk : (inner : List Label) → among l heads ≡ false → MayWalk w inner l may.block → (v : Walk) × Within w inner (start_of l) v
    walk inner not_passed here =
        let limit = near not_passed in
        let ends = end_has_walk w inner l may.block can here (λ m next less. nearer inner m next (omega (arith, less, limit))) in
        with_statements w inner may.block (length may.block.statements) (start_of l) may.is_block (omega arith) ends.0 ends.1

    by_head : (head : Option Head) → may.block.head ≡ head → HasArrival w heads l
    by_head None e =
        let p = plain_block w heads l may.block may may.is_block e in
        let g = walk heads p.0 p.1 in
        (g.0, plain may.block may.is_block e g.1)
    by_head (Some h) e = elim (either (among l heads)) [
      | inl passed ↦ (_, again may.block h may.is_block e passed)
      | inr not_passed ↦ let g = walk (l ∷ heads) not_passed (head_block w heads l may.block h may may.is_block e not_passed) in
          (_, first may.block h may.is_block e not_passed g.1)
    ]

arrival_exists : (far : ℕ) (w : Setting) (heads : List Label) (l : Label) → CanWalk w → MayArrive w heads l → arrival_measure w.body.blocks heads l < far → HasArrival w heads l
arrival_exists zero w heads l can may below = absurd (omega (arith, below))
arrival_exists (suc far) w heads l can may below = arrival_has_walk w heads l far can may (omega (arith, below)) (λ inner m next nearer. arrival_exists far w inner m can next nearer)

at_entry : (w : Setting) → CanWalk w → MayArrive w [] w.body.entry
at_entry w can = record {
  block = can.laid_out.entry;
  is_block = can.laid_out.is_entry;
  passed = λ n. ([], can.laid_out.at_entry, λ x e. e);
  are_heads = λ x e. absurd (let f : false ≡ true = e in cc);
}

pub walks_exist : WalksExist
walks_exist w can = arrival_exists (arrival_measure w.body.blocks [] w.body.entry + 1) w [] w.body.entry can (at_entry w can) (omega arith)
