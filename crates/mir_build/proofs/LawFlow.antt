-- Where the ends of blocks lead: forward in the text, out of loops or into one at its head, or back to the head of a loop around.
use Rattle.std.proofs.Common.{◌≡◌, refl, ap, sym, ◌∙◌, subst, Bool, true, ◌||◌, ◌==◌, List, [], ◌∷◌, ◌++◌, length, ◌-◌, Option, Some, None, slice_get, append_assoc, append-nil}
use Rattle.std.proofs.lemmas.Bool.{eq-eqb}
use Rattle.logic_term.specs.declared.kinds.Label.{Label}
use Rattle.mir_ir.specs.declared.body.Head.{Head}
use Rattle.mir_ir.specs.declared.statement.Statement.{Statement}
use Rattle.mir_ir.specs.declared.terminator.Terminator.{Terminator}
use Rattle.mir_ir.specs.Layout.{among, targets, around_of}
use Rattle.logic_term.specs.Ty.{Ty}
use Rattle.std.specs.Prelude.{ℕ}
use Rattle.type_check.specs.TypedExpr.{TypedExpr}
use Rattle.text_core.specs.declared.span.Span.{Span}
use Rattle.mir_build.specs.declared.around.Loop.{Loop}
use Rattle.mir_build.specs.Text.{Title, Line, Puts, Makes, Turns, Leaves, Owns, begun}
use Rattle.mir_build.specs.Lowering.{Around, Formula, goes, heads, looping, at, at_head, head_of, test, fork, edge_to, split, met, turning, spinning, circling, returning, IntoBody}
use Rattle.mir_build.proofs.LawLists.{Has, here, there, has_left, has_right, begun-append}
use Rattle.mir_build.proofs.Jumps.{innermost_last, heads_more}
use Rattle.mir_build.proofs.Shapes.{Keeps, of_body}

-- from a block in the loops `from`, the blocks of `later` standing behind it, in a body of the blocks `whole`
pub data To (whole : List Title) (from : List Label) (later : List Title) (m : Label) : Type 0 where
  onward : (b : Title) → b.label ≡ m → Has b later → (outer inner : List Label) → around_of b.head b.nest m outer → from ≡ outer ++ inner → To whole from later m
  back : (b : Title) (h : Head) → b.label ≡ m → Has b whole → b.head ≡ Some h → among m from ≡ true → To whole from later m

abbrev pub ToEach : List Title → List Label → List Title → List Label → Type 0
ToEach whole from later [] = Unit {0}
ToEach whole from later (l ∷ ls) = To whole from later l × ToEach whole from later ls

-- the text leads from the loops of its first line to those of its last; `outs` stand behind it. Behind an end that leaves
-- no block is open, so it is in any loops
pub data Flows (whole outs : List Title) : List Label → List Label → List Line → Type 0 where
  at_end : {from : List Label} → Flows whole outs from from []
  puts : {s : Statement} {from to : List Label} {xs : List Line} → Flows whole outs from to xs → Flows whole outs from to (Puts s ∷ xs)
  makes : {x : ℕ} {t : Ty} {from to : List Label} {xs : List Line} → Flows whole outs from to xs → Flows whole outs from to (Makes x t ∷ xs)
  turns : {t : Terminator} {b : Title} {from to : List Label} {xs : List Line} → ToEach whole from (b ∷ (begun xs ++ outs)) (targets t.kind) → Flows whole outs b.nest to xs → Flows whole outs from to (Turns t b ∷ xs)
  leaves : {t : Terminator} {from behind to : List Label} {xs : List Line} → ToEach whole from (begun xs ++ outs) (targets t.kind) → Flows whole outs behind to xs → Flows whole outs from to (Leaves t ∷ xs)
  owns : {l : Label} {ys : List ℕ} {from to : List Label} {xs : List Line} → Flows whole outs from to xs → Flows whole outs from to (Owns l ys ∷ xs)

regroup : (xs ys : List Line) (outs : List Title) → begun xs ++ (begun ys ++ outs) ≡ begun (xs ++ ys) ++ outs
regroup xs ys outs = sym (append_assoc (begun xs) (begun ys) outs) ∙ ap (λ bs. bs ++ outs) (sym (begun-append xs ys))

pub flows-append : (whole outs : List Title) (ys : List Line) (mid to from : List Label) (xs : List Line) → Flows whole (begun ys ++ outs) from mid xs → Flows whole outs mid to ys → Flows whole outs from to (xs ++ ys)
flows-append whole outs ys mid to from xs at_end q = q
flows-append whole outs ys mid to from xs (puts p) q = puts (flows-append whole outs ys mid to from _ p q)
flows-append whole outs ys mid to from xs (makes p) q = makes (flows-append whole outs ys mid to from _ p q)
flows-append whole outs ys mid to from xs (turns {t = t} {b = b} {xs = zs} e p) q =
    turns (subst (λ bs. ToEach whole from (b ∷ bs) (targets t.kind)) (regroup zs ys outs) e) (flows-append whole outs ys mid to b.nest _ p q)
flows-append whole outs ys mid to from xs (leaves {t = t} {behind = ls} {xs = zs} e p) q =
    leaves (subst (λ bs. ToEach whole from bs (targets t.kind)) (regroup zs ys outs) e) (flows-append whole outs ys mid to ls _ p q)
flows-append whole outs ys mid to from xs (owns p) q = owns (flows-append whole outs ys mid to from _ p q)

-- the blocks that the text begins are among these
abbrev pub In : List Title → List Line → Type 0
In whole xs = (t : Title) → Has t (begun xs) → Has t whole

-- the innermost of these loops is left for what stands behind, and its head begins its next turn
abbrev pub Inside : List Title → List Title → List Loop → Type 0
Inside whole outs ls = (l : Loop) → slice_get ls (length ls - 1) ≡ Some l → (later : List Title) → ((t : Title) → Has t outs → Has t later) → To whole (heads ls) later l.after × To whole (heads ls) later l.head

pub in_no_loop : (whole outs : List Title) → Inside whole outs []
in_no_loop whole outs l e later h = absurd (cc)

step_in : (whole outs : List Title) (ns to : List Label) (xs ys : List Line) → In whole (xs ++ ys) → (In whole xs → Flows whole (begun ys ++ outs) ns ns xs) → (In whole ys → Flows whole outs ns to ys) → Flows whole outs ns to (xs ++ ys)
step_in whole outs ns to xs ys g p q =
    let left : In whole xs = λ t h. g t (subst (λ bs. Has t bs) (sym (begun-append xs ys)) (has_left (begun xs) (begun ys) h)) in
    let right : In whole ys = λ t h. g t (subst (λ bs. Has t bs) (sym (begun-append xs ys)) (has_right (begun xs) (begun ys) h)) in
    flows-append whole outs ys ns to ns xs (p left) (q right)

-- the same in these loops
step : (whole outs : List Title) (ls : List Loop) (to : List Label) (xs ys : List Line) → In whole (xs ++ ys) → Inside whole outs ls → ((later : List Title) → In whole xs → Inside whole later ls → Flows whole later (heads ls) (heads ls) xs)
    → (In whole ys → Flows whole outs (heads ls) to ys) → Flows whole outs (heads ls) to (xs ++ ys)
step whole outs ls to xs ys g i p q = step_in whole outs (heads ls) to xs ys g (λ k. p (begun ys ++ outs) k (λ l e later h. i l e later (λ t has. h t (has_right (begun ys) outs has)))) q

-- a block that is begun behind xs
behind : {b : Title} (xs ys : List Line) (outs : List Title) → Has b (begun ys) → Has b (begun (xs ++ ys) ++ outs)
behind {b} xs ys outs h = has_left _ outs (subst (λ bs. Has b bs) (sym (begun-append xs ys)) (has_right (begun xs) _ h))

-- a block in the same loops that stands behind
same : {whole later : List Title} (c : Around) (l : Label) → Has (at c l) later → To whole (heads c.loops) later l
same c l h = onward (at c l) refl h (heads c.loops) [] refl (sym (append-nil (heads c.loops)))

among_last : (ls : List Label) (l : Label) → among l (ls ++ l ∷ []) ≡ true
among_last [] l = ap (λ t. t || among l []) (eq-eqb l.0 l.0 refl)
among_last (m ∷ ls) l = by_test (m.0 == l.0) (among_last ls l)
  where
    by_test : (t : Bool) → among l (ls ++ l ∷ []) ≡ true → (t || among l (ls ++ l ∷ [])) ≡ true
    by_test true e = refl
    by_test _ e = e

abbrev FlowsOn : Around → List Line → Type 0
FlowsOn c xs = (whole outs : List Title) → In whole xs → Inside whole outs c.loops → Flows whole outs (heads c.loops) (heads c.loops) xs

flows_join : (c : Around) (xs ys : List Line) → FlowsOn c xs → FlowsOn c ys → FlowsOn c (xs ++ ys)
flows_join c xs ys p q whole outs g i = step whole outs c.loops (heads c.loops) xs ys g i (p whole) (λ k. q whole outs k i)

flows_test : (c : Around) (s : Span) (t : ℕ) (yes' no' after : Label) (xs ys : List Line) → FlowsOn c xs → FlowsOn c ys → FlowsOn c (test c s t yes' no' after xs ys)
flows_test c s t yes' no' after xs ys p q whole outs g i =
    turns (same c yes' here, (same c no' (there (behind xs _ outs here)), tt))
    (step whole outs c.loops _ xs _ (λ t h. g t (there h)) i (p whole)
    (λ g. turns (same c after (there (behind ys _ outs here)), tt)
    (step whole outs c.loops _ ys _ (λ t h. g t (there h)) i (q whole)
    (λ g. turns (same c after here, tt) at_end))))

flows_fork : (c : Around) (s : Span) (t : ℕ) (yes' no' : Label) (xs ys : List Line) → FlowsOn c xs → FlowsOn c ys → FlowsOn c (fork c s t yes' no' xs ys)
flows_fork c s t yes' no' xs ys p q whole outs g i =
    turns (same c yes' here, (same c no' (there (behind xs _ outs here)), tt))
    (step whole outs c.loops _ xs _ (λ t h. g t (there h)) i (p whole)
    (λ g. turns (same c no' here, tt) (q whole outs (λ t h. g t (there h)) i)))

-- ---- texts that meet

-- the block of the label stands behind
abbrev Stands : Around → Option Label → List Title → Type 0
Stands c None outs = Unit {0}
Stands c (Some l) outs = Has (at c l) outs

abbrev FlowsTo : Around → Option Label → List Line → Type 0
FlowsTo c to xs = (whole outs : List Title) → In whole xs → Inside whole outs c.loops → Stands c to outs → Flows whole outs (heads c.loops) (heads c.loops) xs

stands_more : (c : Around) (to : Option Label) (bs outs : List Title) → Stands c to outs → Stands c to (bs ++ outs)
stands_more c None bs outs h = tt
stands_more c (Some l) bs outs h = has_right bs outs h

inside_more : (whole : List Title) (ls : List Loop) (bs outs : List Title) → Inside whole outs ls → Inside whole (bs ++ outs) ls
inside_more whole ls bs outs i l e later h = i l e later (λ t has. h t (has_right bs outs has))

-- the edge at the end of the first of two texts
first_edge : (whole : List Title) (c : Around) (to : Option Label) (no' : Label) (bs outs : List Title) → Stands c to outs → To whole (heads c.loops) (at c no' ∷ (bs ++ outs)) (edge_to to no')
first_edge whole c None no' bs outs h = same c no' here
first_edge whole c (Some l) no' bs outs h = same c l (there (has_right bs outs h))

flows_told : (c : Around) (s : Span) (u : ℕ) (U : Ty) (v : Statement) (yes' no' : Label) (to : Option Label) (xs ys : List Line) → FlowsTo c to xs → FlowsTo c to ys → FlowsTo c to (Makes u U ∷ Puts v ∷ split c s u yes' no' to xs ys)
flows_told c s u U v yes' no' to xs ys p q whole outs g i h =
    let rest : List Line = goes c s (edge_to to no') no' ∷ ys in
    makes (puts (turns (same c yes' here, (same c no' (there (behind xs _ outs here)), tt))
    (step_in whole outs (heads c.loops) _ xs rest (λ t k. g t (there k)) (λ k. p whole (begun rest ++ outs) k (inside_more whole c.loops (begun rest) outs i) (stands_more c to (begun rest) outs h))
    (λ k. turns (first_edge whole c to no' (begun ys) outs h, tt) (q whole outs (λ t has. k t (there has)) i h)))))

flows_met : (c : Around) (s : Span) (to : Option Label) (xs : List Line) → FlowsTo c to xs → FlowsOn c (xs ++ met c s to)
flows_met c s None xs p whole outs g i = step_in whole outs (heads c.loops) _ xs [] g (λ k. p whole outs k i tt) (λ k. at_end)
flows_met c s (Some l) xs p whole outs g i =
    step_in whole outs (heads c.loops) _ xs (goes c s l l ∷ []) g (λ k. p whole (at c l ∷ outs) k (inside_more whole c.loops (at c l ∷ []) outs i) here) (λ k. turns (same c l here, tt) at_end)

-- ---- loops

module _ (whole : List Title) (c : Around) (head after : Label) where
  abbrev entered : Loop
  entered = record { head = head; after = after; depth = length c.scope }

  abbrev within : List Label
  within = heads (looping c head after).loops

  -- back to the head
  again : (fs : List Formula) → Has (at_head (looping c head after) head (head_of c fs)) whole → (later : List Title) → To whole within later head
  again fs h later = back (at_head (looping c head after) head (head_of c fs)) (head_of c fs) refl h refl (subst (λ ls. among head ls ≡ true) (sym (heads_more c.loops entered)) (among_last (heads c.loops) head))

  -- into the loop
  enters : {later : List Title} (fs : List Formula) → To whole (heads c.loops) (at_head (looping c head after) head (head_of c fs) ∷ later) head
  enters fs = onward (at_head (looping c head after) head (head_of c fs)) refl here (heads c.loops) [] (heads_more c.loops entered) (sym (append-nil (heads c.loops)))

  -- out of the loop
  out : {later : List Title} → Has (at c after) later → To whole within later after
  out h = onward (at c after) refl h (heads c.loops) (head ∷ []) refl (heads_more c.loops entered)

  -- it is the innermost one: where it is left for stands behind, or it is not left
  in_this : (outs : List Title) → ((later : List Title) → ((t : Title) → Has t outs → Has t later) → To whole within later after) → ((later : List Title) → To whole within later head) → Inside whole outs (looping c head after).loops
  in_this outs p q l e later h =
      subst (λ (m : Loop). To whole within later m.after × To whole within later m.head) (sym (innermost_last c.loops entered l e)) (p later h, q later)

  -- the block behind it stands there
  in_loop : (outs : List Title) → ((later : List Title) → To whole within later head) → Has (at c after) outs → Inside whole outs (looping c head after).loops
  in_loop outs q k = in_this outs (λ later h. out (h (at c after) k)) q

flows_turning : (c : Around) (s : Span) (head body after : Label) (fs : List Formula) (t : ℕ) (T : Ty) (xs : List Line) (u : ℕ) (U : Ty) (ys zs : List Line)
    → FlowsOn (looping c head after) xs → FlowsOn (looping c head after) ys → FlowsOn c zs → FlowsOn c (turning c s head body after fs t T xs u U ys zs)
flows_turning c s head body after fs t T xs u U ys zs p q r whole outs g i =
    let k : Around = looping c head after in
    let back = again whole c head after fs (g _ here) in
    turns (enters whole c head after fs, tt)
    (makes (step_in whole outs (heads k.loops) _ xs _ (λ t h. g t (there h)) (λ g. p whole _ g (in_loop whole c head after _ back (there (behind ys _ outs here))))
    (λ g. turns (same k body here, (out whole c head after (there (behind ys _ outs here)), tt))
    (makes (step_in whole outs (heads k.loops) _ ys _ (λ t h. g t (there h)) (λ g. q whole _ g (in_loop whole c head after _ back here))
    (λ g. turns (back _, tt) (owns (r whole outs (λ t h. g t (there h)) i))))))))

flows_spinning : (c : Around) (s : Span) (head after : Label) (fs : List Formula) (u : ℕ) (U : Ty) (ys zs : List Line) → FlowsOn (looping c head after) ys → FlowsOn c zs → FlowsOn c (spinning c s head after fs u U ys zs)
flows_spinning c s head after fs u U ys zs p r whole outs g i =
    let back = again whole c head after fs (g _ here) in
    turns (enters whole c head after fs, tt)
    (makes (step_in whole outs (heads (looping c head after).loops) _ ys _ (λ t h. g t (there h)) (λ g. p whole _ g (in_loop whole c head after _ back here))
    (λ g. turns (back _, tt) (owns (r whole outs (λ t h. g t (there h)) i)))))

flows_returning : (c : Around) (s : Span) (xs : List Line) → FlowsOn c xs → FlowsOn c (returning s xs)
flows_returning c s xs p whole outs g i = step whole outs c.loops (heads c.loops) xs _ g i (p whole) (λ g. leaves tt at_end)

flows_circling : (c : Around) (s : Span) (head : Label) (fs : List Formula) (u : ℕ) (U : Ty) (ys : List Line) → FlowsOn (looping c head head) ys → FlowsOn c (circling c s head fs u U ys)
flows_circling c s head fs u U ys p whole outs g i =
    let back = again whole c head head fs (g _ here) in
    turns (enters whole c head head fs, tt)
    (makes (step_in whole outs (heads (looping c head head).loops) (heads c.loops) ys _ (λ t h. g t (there h)) (λ g. p whole _ g (in_this whole c head head _ (λ later h. back later) back)) (λ g. leaves (back _, tt) (owns at_end))))

flow_keeps : Keeps FlowsOn FlowsTo
flow_keeps = record {
  nothing = λ c whole outs g i. at_end;
  put = λ c st xs p whole outs g i. puts (p whole outs g i);
  make = λ c x t xs p whole outs g i. makes (p whole outs g i);
  join = flows_join;
  called = λ c s f d ts after whole outs g i. turns (same c after here, tt) at_end;
  tested = flows_test;
  forked = flows_fork;
  panicked = λ c s k whole outs g i. leaves tt at_end;
  returned = flows_returning;
  circled = flows_circling;
  turned = flows_turning;
  spun = flows_spinning;
  broken = λ c s l q whole outs g i. leaves ((i l q outs (λ t h. h)).0, tt) at_end;
  gone_on = λ c s l q whole outs g i. leaves ((i l q outs (λ t h. h)).1, tt) at_end;
  ended = λ c to xs p whole outs g i h. p whole outs g i;
  told = flows_told;
  meeting = flows_met;
  bound = λ c t xs p. p;
}

pub flows : (c : Around) (e : TypedExpr) (xs : List Line) → IntoBody c e xs → (whole outs : List Title) → In whole xs → Inside whole outs c.loops → Flows whole outs (heads c.loops) (heads c.loops) xs
flows c e xs p = of_body FlowsOn FlowsTo flow_keeps c e xs p
