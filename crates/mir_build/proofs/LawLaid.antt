-- Along each lowered text the locals in scope are initialised, and where it ends its own local is too.
use Rattle.std.proofs.Common.{◌≡◌, refl, ap, sym, ◌∙◌, subst, ℕ, ◌+◌, ◌≤◌, ◌==◌, Bool, true, false, cond, List, [], ◌∷◌, ◌++◌, map, Option, Some, None, arith, true≢false, append-nil}
use Rattle.std.proofs.lemmas.Bool.{eqb-true, eq-eqb}
use Rattle.logic_term.specs.declared.kinds.Label.{Label}
use Rattle.logic_term.specs.Ty.{Ty}
use Rattle.text_core.specs.declared.span.Span.{Span}
use Rattle.mir_ir.specs.declared.body.Head.{Head}
use Rattle.mir_ir.specs.declared.terminator.FnId.TheVariants as fn_id
use Rattle.mir_ir.specs.declared.terminator.Callee.TheVariants.{Function}
use Rattle.mir_ir.specs.declared.terminator.TerminatorKind.TheVariants.{Goto, If, Call}
use Rattle.mir_ir.specs.WellFormed.{Locals, with, without, Within}
use Rattle.mir_ir.proofs.Taking.{CanTakeAll, all_taken}
use Rattle.mir_build.specs.Text.{Line, Makes, Turns, Leaves, Owns, made}
use Rattle.mir_build.specs.Lowering.{numbers, Around, at, at_head, ends, moved, whole, put_unit, fork, edge_to, split, met}
use Rattle.mir_build.proofs.Numbers.{count, labels_begun}
use Rattle.mir_build.proofs.LawLists.{Has, here, there, makings-append, count_self, has_count, differs, fewer}
use Rattle.mir_build.proofs.LawNames.{HoldsAll, HeadFits}
use Rattle.mir_build.proofs.LawRuns.{with_self, with_more, with_within, kept, HasNone, Runs, stops, puts, makes, turns, leaves, owns, runs-append, agree_left, agree_right, labels_in, Laid, labels_in-append, labels_begun-append}

-- ---- what is not in a set

abbrev pub weight : Bool → ℕ
weight t = cond t 1 0

-- none of the locals is in the set, and none is there twice
pub record Apart (set : Locals) (ys : List ℕ) : Type 0 where
  pub once : (x : ℕ) → weight (set x) + count x ys ≤ 1

pub weight_with : (x t : ℕ) (set : Locals) → weight (with t set x) ≤ cond (x == t) 1 0 + weight (set x)
weight_with x t set = by_test (x == t) (set x)
  where
    by_test : (c d : Bool) → weight (cond c true d) ≤ cond c 1 0 + weight d
    by_test true d = omega arith
    by_test false d = omega arith

pub weight_before : (x t : ℕ) (set : Locals) → weight (set x) ≤ weight (with t set x)
weight_before x t set = by_test (x == t) (set x)
  where
    by_test : (c d : Bool) → weight d ≤ weight (cond c true d)
    by_test true true = omega arith
    by_test true false = omega arith
    by_test false d = omega arith

pub none : (set : Locals) (ys : List ℕ) → Apart set ys → HasNone set ys
none set ys h x g = by_test (set x) refl
  where
    by_test : (t : Bool) → set x ≡ t → set x ≡ false
    by_test true e = let k : weight true + count x ys ≤ 1 = subst (λ t. weight t + count x ys ≤ 1) e (h.once x) in absurd (omega arith)
    by_test false e = e

pub before : (t : ℕ) (set : Locals) (ys : List ℕ) → Apart (with t set) ys → Apart set ys
before t set ys h = record { once = λ x. omega (arith, weight_before x t set, h.once x) }

-- for the first part of a text, which writes t
pub first : (d t : ℕ) (set : Locals) (us rest : List Line) → Apart set (d ∷ t ∷ numbers (made (us ++ rest))) → Apart set (t ∷ numbers (made us))
first d t set us rest h = record { once = λ x. omega (arith, makings-append x us rest, h.once x) }

-- and for the rest behind it
pub second : (d t : ℕ) (set : Locals) (us rest : List Line) → Apart set (d ∷ t ∷ numbers (made (us ++ rest))) → Apart (with t set) (d ∷ numbers (made rest))
second d t set us rest h = record { once = λ x. omega (arith, makings-append x us rest, weight_with x t set, h.once x) }

pub left : (d : ℕ) (set : Locals) (us rest : List Line) → Apart set (d ∷ numbers (made (us ++ rest))) → Apart set (d ∷ numbers (made us))
left d set us rest h = record { once = λ x. omega (arith, makings-append x us rest, h.once x) }

pub right : (d : ℕ) (set : Locals) (us rest : List Line) → Apart set (d ∷ numbers (made (us ++ rest))) → Apart set (d ∷ numbers (made rest))
right d set us rest h = record { once = λ x. omega (arith, makings-append x us rest, h.once x) }

-- the local behind the first
pub fresh_second : (d t : ℕ) (set : Locals) (ys : List ℕ) → Apart set (d ∷ t ∷ ys) → set t ≡ false
fresh_second d t set ys h = none set (d ∷ t ∷ ys) h t (omega (arith, count_self t ys))

-- a value that was put into a local and is moved on
pub given_up : (t : ℕ) (set : Locals) → set t ≡ false → Within set (without t (with t set))
given_up t set n = kept t set (with t set) n (with_more t set)

-- ---- turns

pub at_most : (l : Label) (at : Label → Locals) (set now : Locals) → at l ≡ set → Within set now → Within (at l) now
at_most l at set now e w x h = w x (subst (λ (s : Locals). s x ≡ true) e h)

from_start : (l : Label) (at : Label → Locals) (set to : Locals) (xs : List Line) → at l ≡ set → Runs at set xs to → Runs at (at l) xs to
from_start l at set to xs e p = subst (λ s. Runs at s xs to) (sym e) p

joined : (as' bs : List (Label × Locals)) (xs ys : List Line) → labels_in as' ≡ labels_begun xs → labels_in bs ≡ labels_begun ys → labels_in (as' ++ bs) ≡ labels_begun (xs ++ ys)
joined as' bs xs ys p q = labels_in-append as' bs ∙ ap (λ ls. ls ++ labels_in bs) p ∙ ap (λ ls. labels_begun xs ++ ls) q ∙ sym (labels_begun-append xs ys)

pub same_set : (set : Locals) → Within set set
same_set set x h = h

-- two branches that come together
pub forked : {B : (Label → Locals) → Type 0} (c : Around) (s : Span) (t : ℕ) (yes' no' after : Label) (set now to : Locals) (ys zs : List Line) → now t ≡ true → Within set (without t now) → Laid B set ys to → Laid B set zs to
    → Laid B now (Turns (ends s (If (moved t) yes' no')) (at c yes') ∷ (ys ++ Turns (ends s (Goto after)) (at c no') ∷ (zs ++ Turns (ends s (Goto after)) (at c after) ∷ []))) to
forked c s t yes' no' after set now to ys zs h w p q = record {
  starts = (yes', set) ∷ (p.starts ++ (no', set) ∷ (q.starts ++ (after, to) ∷ []));
  are = ap (λ ls. yes'.0 ∷ ls) (joined p.starts ((no', set) ∷ (q.starts ++ (after, to) ∷ [])) ys _ p.are (ap (λ ls. no'.0 ∷ ls) (joined q.starts ((after, to) ∷ []) zs _ q.are refl)));
  runs = λ at' g b.
      let r = agree_right at' p.starts _ g.1 in
      let a = agree_right at' q.starts _ r.1 in
      turns h (at_most yes' at' set (without t now) g.0 w, at_most no' at' set (without t now) r.0 w) tt
      (from_start yes' at' set to _ g.0 (runs-append at' to to _
      (turns tt (at_most after at' to to a.0 (same_set to)) tt
      (from_start no' at' set to _ r.0 (runs-append at' to to _
      (turns tt (at_most after at' to to a.0 (same_set to)) tt (from_start after at' to to [] a.0 (stops (same_set to))))
      set zs (q.runs at' (agree_left at' q.starts _ r.1) b))))
      set ys (p.runs at' (agree_left at' p.starts _ g.1) b)));
}

-- two texts of which the edge of the first leads where `to` is initialised, and that of the second is still to come
pub divided : {B : (Label → Locals) → Type 0} (c : Around) (s : Span) (t : ℕ) (yes' no' : Label) (next : Option Label) (set now to : Locals) (ys zs : List Line) → now t ≡ true → Within set (without t now)
    → ((at' : Label → Locals) → at' no' ≡ set → B at' → Within (at' (edge_to next no')) to) → Laid B set ys to → Laid B set zs to → Laid B now (split c s t yes' no' next ys zs) to
divided c s t yes' no' next set now to ys zs h w v p q = record {
  starts = (yes', set) ∷ (p.starts ++ (no', set) ∷ q.starts);
  are = ap (λ ls. yes'.0 ∷ ls) (joined p.starts ((no', set) ∷ q.starts) ys _ p.are (ap (λ ls. no'.0 ∷ ls) q.are));
  runs = λ at' g b.
      let r = agree_right at' p.starts _ g.1 in
      turns h (at_most yes' at' set (without t now) g.0 w, at_most no' at' set (without t now) r.0 w) tt
      (from_start yes' at' set to _ g.0 (runs-append at' to to _ (turns tt (v at' r.0 b) tt (from_start no' at' set to _ r.0 (q.runs at' r.1 b))) set ys (p.runs at' (agree_left at' p.starts _ g.1) b)));
}

-- two branches that leave: no run comes to the edge between them
pub parted : {B : (Label → Locals) → Type 0} (c : Around) (s : Span) (t : ℕ) (yes' no' : Label) (set now to : Locals) (ys zs : List Line) → now t ≡ true → Within set (without t now) → Within set to → Laid B set ys to → Laid B set zs to
    → Laid B now (fork c s t yes' no' ys zs) to
parted c s t yes' no' set now to ys zs h w v p q = divided c s t yes' no' None set now to ys zs h w (λ at' e b. at_most no' at' set to e v) p q

-- at the label no more is asked to be initialised
abbrev pub Awaits : Option Label → Locals → (Label → Locals) → Type 0
Awaits None to at' = Unit {0}
Awaits (Some l) to at' = Within (at' l) to

abbrev pub Meeting : ((Label → Locals) → Type 0) → Option Label → Locals → (Label → Locals) → Type 0
Meeting B next to at' = B at' × Awaits next to at'

-- the edge of the first of two texts that meet at the label
pub edge_awaits : (next : Option Label) (no' : Label) (set to : Locals) → Within set to → (at' : Label → Locals) → at' no' ≡ set → Awaits next to at' → Within (at' (edge_to next no')) to
edge_awaits None no' set to v at' e b = at_most no' at' set to e v
edge_awaits (Some l) no' set to v at' e b = b

pub met_together : {B : (Label → Locals) → Type 0} (c : Around) (s : Span) (next : Option Label) (set to : Locals) (xs : List Line) → Laid (Meeting B next to) set xs to → Laid B set (xs ++ met c s next) to
met_together {B} c s None set to xs p = subst (λ ys. Laid B set ys to) (sym (append-nil xs)) (record { starts = p.starts; are = p.are; runs = λ at' g b. p.runs at' g (b, tt) })
met_together {B} c s (Some l) set to xs p = record {
  starts = p.starts ++ (l, to) ∷ [];
  are = joined p.starts ((l, to) ∷ []) xs _ p.are refl;
  runs = λ at' g b.
      let a = agree_right at' p.starts _ g in
      let v = at_most l at' to to a.0 (same_set to) in
      runs-append at' to to _ (turns tt v tt (from_start l at' to to [] a.0 (stops (same_set to)))) set xs (p.runs at' (agree_left at' p.starts _ g) (b, v));
}

-- a loop
pub looped : {B B' : (Label → Locals) → Type 0} (c k : Around) (s : Span) (d t u : ℕ) (T U : Ty) (head body after : Label) (hd : Head) (own : List ℕ) (set : Locals) (us vs : List Line)
    → HeadFits set (Some hd) → HasNone set own → set t ≡ false → ((at' : Label → Locals) → at' head ≡ set → at' after ≡ set → B' at') → Laid B' set us (with t set) → Laid B' set vs (with u set)
    → Laid B set (Turns (ends s (Goto head)) (at_head k head hd) ∷ Makes t T ∷ (us ++ Turns (ends s (If (moved t) body after)) (at k body) ∷ Makes u U ∷ (vs ++ Turns (ends s (Goto head)) (at c after) ∷ Owns head own ∷ put_unit s d ∷ []))) (with d set)
looped c k s d t u T U head body after hd own set us vs fits n no_t m p q = record {
  starts = (head, set) ∷ (p.starts ++ (body, set) ∷ (q.starts ++ (after, set) ∷ []));
  are = ap (λ ls. head.0 ∷ ls) (joined p.starts ((body, set) ∷ (q.starts ++ (after, set) ∷ [])) us _ p.are (ap (λ ls. body.0 ∷ ls) (joined q.starts ((after, set) ∷ []) vs _ q.are refl)));
  runs = λ at' g b.
      let r = agree_right at' p.starts _ g.1 in
      let a = agree_right at' q.starts _ r.1 in
      turns tt (at_most head at' set set g.0 (same_set set)) (subst (λ S. HeadFits S (Some hd)) (sym g.0) fits)
      (from_start head at' set (with d set) _ g.0 (makes (runs-append at' (with t set) (with d set) _
      (turns (with_self t set) (at_most body at' set (without t (with t set)) r.0 (given_up t set no_t), at_most after at' set (without t (with t set)) a.0 (given_up t set no_t)) tt
      (from_start body at' set (with d set) _ r.0 (makes (runs-append at' (with u set) (with d set) _
      (turns tt (at_most head at' set (with u set) g.0 (with_more u set)) tt
      (from_start after at' set (with d set) _ a.0 (owns (subst (λ S. HasNone S own) (sym g.0) n) (puts tt (stops (same_set (with d set)))))))
      set vs (q.runs at' (agree_left at' q.starts _ r.1) (m at' g.0 a.0))))))
      set us (p.runs at' (agree_left at' p.starts _ g.1) (m at' g.0 a.0)))));
}

-- a loop that is not left
pub circled : {B B' : (Label → Locals) → Type 0} (k : Around) (s : Span) (u : ℕ) (U : Ty) (head : Label) (hd : Head) (own : List ℕ) (set to : Locals) (vs : List Line) → HeadFits set (Some hd) → HasNone set own → ((at' : Label → Locals) → at' head ≡ set → B' at') → Laid B' set vs (with u set)
    → Laid B set (Turns (ends s (Goto head)) (at_head k head hd) ∷ Makes u U ∷ (vs ++ Leaves (ends s (Goto head)) ∷ Owns head own ∷ [])) to
circled k s u U head hd own set to vs fits n m p = record {
  starts = (head, set) ∷ (p.starts ++ []);
  are = ap (λ ls. head.0 ∷ ls) (joined p.starts [] vs _ p.are refl);
  runs = λ at' g b.
      turns tt (at_most head at' set set g.0 (same_set set)) (subst (λ S. HeadFits S (Some hd)) (sym g.0) fits)
      (from_start head at' set to _ g.0 (makes (runs-append at' (with u set) to _
      (leaves tt (at_most head at' set (with u set) g.0 (with_more u set)) (owns (subst (λ S. HasNone S own) (sym g.0) n) (stops (λ x h. refl))))
      set vs (p.runs at' (agree_left at' p.starts [] g.1) (m at' g.0)))));
}

-- a loop that a `break` leaves
pub spun : {B B' : (Label → Locals) → Type 0} (c k : Around) (s : Span) (d u : ℕ) (U : Ty) (head after : Label) (hd : Head) (own : List ℕ) (set : Locals) (vs : List Line) → HeadFits set (Some hd) → HasNone set own
    → ((at' : Label → Locals) → at' head ≡ set → at' after ≡ set → B' at') → Laid B' set vs (with u set)
    → Laid B set (Turns (ends s (Goto head)) (at_head k head hd) ∷ Makes u U ∷ (vs ++ Turns (ends s (Goto head)) (at c after) ∷ Owns head own ∷ put_unit s d ∷ [])) (with d set)
spun c k s d u U head after hd own set vs fits n m p = record {
  starts = (head, set) ∷ (p.starts ++ (after, set) ∷ []);
  are = ap (λ ls. head.0 ∷ ls) (joined p.starts ((after, set) ∷ []) vs _ p.are refl);
  runs = λ at' g b.
      let a = agree_right at' p.starts _ g.1 in
      turns tt (at_most head at' set set g.0 (same_set set)) (subst (λ S. HeadFits S (Some hd)) (sym g.0) fits)
      (from_start head at' set (with d set) _ g.0 (makes (runs-append at' (with u set) (with d set) _
      (turns tt (at_most head at' set (with u set) g.0 (with_more u set)) tt
      (from_start after at' set (with d set) _ a.0 (owns (subst (λ S. HasNone S own) (sym g.0) n) (puts tt (stops (same_set (with d set)))))))
      set vs (p.runs at' (agree_left at' p.starts _ g.1) (m at' g.0 a.0)))));
}

-- ---- calls

abbrev pub with_all : List ℕ → Locals → Locals
with_all [] set = set
with_all (t ∷ ts) set = with_all ts (with t set)

pub with_all_more : (ts : List ℕ) (set : Locals) → Within set (with_all ts set)
with_all_more [] set x h = h
with_all_more (t ∷ ts) set x h = with_all_more ts (with t set) x (with_more t set x h)

pub with_all_has : (ts : List ℕ) (set : Locals) (x : ℕ) → Has x ts → with_all ts set x ≡ true
with_all_has [] set x h = elim h [ ]
with_all_has (t ∷ ts) set x here = with_all_more ts (with x set) x (with_self x set)
with_all_has (t ∷ ts) set x (there h) = with_all_has ts (with t set) x h

-- another local than the one that is moved
pub still : (t x : ℕ) (set : Locals) → (t == x) ≡ false → set x ≡ true → without t set x ≡ true
still t x set n h = by_test (x == t) refl
  where
    by_test : (b : Bool) → (x == t) ≡ b → cond b false (set x) ≡ true
    by_test true e = absurd (true≢false (sym (eq-eqb t x (sym (eqb-true x t e))) ∙ n))
    by_test false e = h

pub can_take_moves : (ts : List ℕ) (set : Locals) → HoldsAll set ts → ((x : ℕ) → count x ts ≤ 1) → CanTakeAll set (map moved ts)
can_take_moves [] set h o = tt
can_take_moves (t ∷ ts) set h o = (
  h t here,
  can_take_moves ts (without t set) (λ x g. still t x set (differs x t ts (o x) (has_count x ts g)) (h x (there g))) (λ x. fewer x t ts (o x)),
)

-- what is moved is not in the smaller set
pub moves_taken : (ts : List ℕ) (set now : Locals) → HasNone set ts → Within set now → Within set (all_taken (map moved ts) now)
moves_taken [] set now n w = w
moves_taken (t ∷ ts) set now n w = moves_taken ts set (without t now) (λ x g. n x (omega (arith, g))) (kept t set now (n t (count_self t ts)) w)

pub called : {B : (Label → Locals) → Type 0} (c : Around) (s : Span) (f d : ℕ) (ts : List ℕ) (after : Label) (set now : Locals) → Apart set ts → HoldsAll now ts → Within set now
    → Laid B now (Turns (ends s (Call (whole d) (Function (fn_id.Body f)) [] (map moved ts) after)) (at c after) ∷ []) (with d set)
called c s f d ts after set now n h w = record {
  starts = (after, with d set) ∷ [];
  are = refl;
  runs = λ at' g b.
      turns (can_take_moves ts now h (λ x. omega (arith, n.once x)))
      (at_most after at' (with d set) (with d (all_taken (map moved ts) now)) g.0 (with_within d set (all_taken (map moved ts) now) (moves_taken ts set now (none set ts n) w)))
      tt (from_start after at' (with d set) (with d set) [] g.0 (stops (same_set (with d set))));
}
