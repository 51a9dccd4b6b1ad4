-- The numbered text of an expression fills a range of labels, each of which begins one block, and a range of locals, which it makes in order.
use Rattle.std.proofs.Common.{◌≡◌, refl, ap, sym, ◌∙◌, subst, ℕ, ◌+◌, ◌&&◌, Bool, true, false, zero, suc, List, [], ◌∷◌, ◌++◌, drop, Option, Some, None, arith, true≢false}
use Rattle.std.specs.List.{range_with_len}
use Rattle.text_core.specs.declared.span.Span.{Span}
use Rattle.logic_term.specs.declared.kinds.Label.{Label}
use Rattle.logic_term.specs.Ty.{Ty, bool}
use Rattle.mir_ir.specs.declared.body.Head.{Head}
use Rattle.mir_ir.specs.declared.place.Place.{Place}
use Rattle.mir_ir.specs.declared.statement.Rvalue.{Rvalue}
use Rattle.mir_ir.specs.declared.statement.Statement.{Statement}
use Rattle.mir_ir.specs.declared.terminator.Terminator.{Terminator}
use Rattle.source_kinds.specs.declared.kinds.LazyOp.{LazyOp}
use Rattle.source_kinds.specs.declared.kinds.LazyOp.TheVariants.{And, Or}
use Rattle.pat_check.specs.Decision.{Decision, leaf, switch, if_truth, if_literal}
use Rattle.pat_check.specs.Flat.{flat_tree}
use Rattle.type_check.specs.TypedExpr.{TypedExpr, TypedStmts, TypedExprs, integer, truth, variable, negative, denied, cast, binary, lazy, assign, update, call, make, part, block, branch, choice, matched, repeat, panics, returned, endless}
use Rattle.type_check.specs.TypedExpr.{until_break, break_off, go_on, done, last, leaving, bind, run, none, more, TypedArms, no_arms, with_arm}
use Rattle.type_check.specs.Leaves.{leaves, all_arms_leave}
use Rattle.type_check.specs.TypedExprView.{ty_of, patterns_of}
use Rattle.mir_build.specs.Text.{Line, Puts, Makes, Turns, Leaves, Owns, made}
use Rattle.mir_build.specs.Lowering.{Around, binds, looping, at, at_head, dies, dies_in, lazily, met, numbers, is_place}
use Rattle.mir_build.specs.Numbered.{place_of, behind_label, met_labels, tests_take, match_takes, tested_by, tests_text, tests_of, arm_labels, arm_locals, arm_into, temporary_count, text_before, place_before, choice_labels, choice_text, loop_at}
use Rattle.mir_build.specs.Numbered.{jump, into, rest, args, body_text, labels, labels_of, labels_in, locals, locals_of, locals_in, label}
use Rattle.mir_build.proofs.Jumps.{deaths, first_dies_last}
use Rattle.mir_build.proofs.Numbers.{within, within_zero, within_one, within_two, within_three, within_split, begins, begins-append, turns, turns-append, makings, makings-append}
use Rattle.mir_build.proofs.Order.{InOrder, then_in_order, numbers_in_order}

-- the labels from l on, n of them, and the locals from t on, m of them
pub record Fills (l n t m : ℕ) (xs : List Line) : Type 0 where
  pub once : (x : ℕ) → begins x xs ≡ within l n x
  pub turned : turns xs ≡ n
  pub making : makings xs ≡ m
  pub order : InOrder t xs

-- ---- the shapes

nothing : (l t : ℕ) → Fills l 0 t 0 []
nothing l t = record { once = λ x. within_zero l x; turned = refl; making = refl; order = tt }

put : {l n t m : ℕ} (s : Statement) (xs : List Line) → Fills l n t m xs → Fills l n t m (Puts s ∷ xs)
put s xs p = record { once = p.once; turned = p.turned; making = p.making; order = p.order }

one : (l t : ℕ) (s : Statement) → Fills l 0 t 0 (Puts s ∷ [])
one l t s = put s [] (nothing l t)

-- a local that nothing but these lines writes
make_local : {l n t m : ℕ} (ty : Ty) (xs : List Line) → Fills l n (t + 1) m xs → Fills l n t (1 + m) (Makes t ty ∷ xs)
make_local ty xs p = record { once = p.once; turned = p.turned; making = omega (arith, p.making); order = (refl, p.order) }

join : {l n t m n' m' : ℕ} (k u : ℕ) (xs ys : List Line) → k ≡ l + n → u ≡ t + m → Fills l n t m xs → Fills k n' u m' ys → Fills l (n + n') t (m + m') (xs ++ ys)
join {l} {n} {t} {m} {n'} k u xs ys e f p q = record {
  once = λ x. omega (arith, begins-append x xs ys, within_split l n n' k x e, p.once x, q.once x);
  turned = omega (arith, turns-append xs ys, p.turned, q.turned);
  making = omega (arith, makings-append xs ys, p.making, q.making);
  order = then_in_order t u xs ys (omega (arith, f, p.making)) p.order q.order;
}

-- a local that a text writes, and what stands behind it
made_then : {l n t m n' m' : ℕ} (k u : ℕ) (ty : Ty) (xs ys : List Line) → k ≡ l + n → u ≡ t + 1 + m → Fills l n (t + 1) m xs → Fills k n' u m' ys → Fills l (n + n') t (1 + (m + m')) (Makes t ty ∷ (xs ++ ys))
made_then k u ty xs ys e f p q = make_local ty (xs ++ ys) (join k u xs ys e f p q)

-- the same counts
as_counts : {l t n m n' m' : ℕ} (xs : List Line) → n ≡ n' → m ≡ m' → Fills l n t m xs → Fills l n' t m' xs
as_counts {l} {t} {n} {m} {n'} {m'} xs e f p = subst (λ k. Fills l n' t k xs) f (subst (λ k. Fills l k t m xs) e p)

turn : (l t : ℕ) (c : Around) (e : Terminator) → Fills l 1 t 0 (Turns e (at c (label l)) ∷ [])
turn l t c e = record { once = λ x. omega (arith, within_one l x); turned = refl; making = refl; order = tt }

left : (l t : ℕ) (e : Terminator) → Fills l 0 t 0 (Leaves e ∷ [])
left l t e = record { once = λ x. within_zero l x; turned = refl; making = refl; order = tt }

-- two texts behind two turns
parted : {l n t m n' m' : ℕ} (k u : ℕ) (c : Around) (e f : Terminator) (xs ys : List Line) → k ≡ l + 2 + n → u ≡ t + m → Fills (l + 2) n t m xs → Fills k n' u m' ys
    → Fills l (2 + (n + n')) t (m + m') (Turns e (at c (label l)) ∷ (xs ++ Turns f (at c (label (l + 1))) ∷ ys))
parted {l} {n} {t} {m} {n'} k u c e f xs ys q r p p' =
    let behind = Turns f (at c (label (l + 1))) ∷ ys in
    record {
      once = λ x. omega (arith, begins-append x xs behind, within_two l x, within_split l 2 (n + n') (l + 2) x refl, within_split (l + 2) n n' k x q, p.once x, p'.once x);
      turned = omega (arith, turns-append xs behind, p.turned, p'.turned);
      making = omega (arith, makings-append xs behind, p.making, p'.making);
      order = then_in_order t u xs behind (omega (arith, r, p.making)) p.order p'.order;
    }

-- two texts between three turns
forked : {l n t m n' m' : ℕ} (k u : ℕ) (c : Around) (e f g : Terminator) (xs ys : List Line) → k ≡ l + 3 + n → u ≡ t + m → Fills (l + 3) n t m xs → Fills k n' u m' ys
    → Fills l (3 + (n + n')) t (m + m') (Turns e (at c (label l)) ∷ (xs ++ Turns f (at c (label (l + 1))) ∷ (ys ++ Turns g (at c (label (l + 2))) ∷ [])))
forked {l} {n} {t} {m} {n'} k u c e f g xs ys q r p p' =
    let behind = ys ++ Turns g (at c (label (l + 2))) ∷ [] in
    record {
      once = λ x. omega (
        arith,
        begins-append x xs (Turns f (at c (label (l + 1))) ∷ behind),
        begins-append x ys (Turns g (at c (label (l + 2))) ∷ []),
        within_three l x,
        within_split l 3 (n + n') (l + 3) x refl,
        within_split (l + 3) n n' k x q,
        p.once x,
        p'.once x,
      );
      turned = omega (arith, turns-append xs (Turns f (at c (label (l + 1))) ∷ behind), turns-append ys (Turns g (at c (label (l + 2))) ∷ []), p.turned, p'.turned);
      making = omega (arith, makings-append xs (Turns f (at c (label (l + 1))) ∷ behind), makings-append ys (Turns g (at c (label (l + 2))) ∷ []), p.making, p'.making);
      order = then_in_order t u xs (Turns f (at c (label (l + 1))) ∷ behind) (omega (arith, r, p.making)) p.order
          (then_in_order u (u + makings ys) ys (Turns g (at c (label (l + 2))) ∷ []) refl p'.order tt);
    }

-- the sides of `if`
sides_filled : {l n t m n' m' : ℕ} (both : Bool) (k u : ℕ) (c : Around) (s : Span) (x : ℕ) (xs ys : List Line) → k ≡ l + choice_labels both + n → u ≡ t + m → Fills (l + choice_labels both) n t m xs → Fills k n' u m' ys
    → Fills l (choice_labels both + (n + n')) t (m + m') (choice_text both c s x l xs ys)
sides_filled true k u c s x xs ys q r p p' = parted k u c _ _ xs ys q r p p'
sides_filled false k u c s x xs ys q r p p' = forked k u c _ _ _ xs ys q r p p'

lazily_filled : {l t n m : ℕ} (op : LazyOp) (c : Around) (s : Span) (x d : ℕ) (xs : List Line) → Fills (l + 3) n t m xs → Fills l (3 + n) t m (lazily op c s x d (label l) (label (l + 1)) (label (l + 2)) xs)
lazily_filled {l} {t} {n} {m} And c s x d xs p = as_counts _ (omega arith) (omega arith) (forked (l + 3 + n) (t + m) c _ _ _ xs _ refl refl p (one (l + 3 + n) (t + m) _))
lazily_filled {l} {t} {n} {m} Or c s x d xs p = as_counts _ (omega arith) (omega arith) (forked (l + 3) t c _ _ _ _ xs (omega arith) (omega arith) (one (l + 3) t _) p)

-- the condition and the body of a loop
looped : {l n t m n' m' : ℕ} (k u : ℕ) (c c' : Around) (h : Head) (e f g : Terminator) (T U : Ty) (own : List ℕ) (s : Statement) (xs ys : List Line) → k ≡ l + 3 + n → u ≡ t + 1 + m → Fills (l + 3) n (t + 1) m xs → Fills k n' (u + 1) m' ys
    → Fills l (3 + (n + n')) t (1 + (m + (1 + m')))
    (Turns e (at_head c (label l) h) ∷ Makes t T ∷ (xs ++ Turns f (at c (label (l + 1))) ∷ Makes u U ∷ (ys ++ Turns g (at c' (label (l + 2))) ∷ Owns (label l) own ∷ Puts s ∷ [])))
looped {l} {n} {t} {m} {n'} k u c c' h e f g T U own s xs ys q r p p' =
    let end = Turns g (at c' (label (l + 2))) ∷ Owns (label l) own ∷ Puts s ∷ [] in
    let behind = Turns f (at c (label (l + 1))) ∷ Makes u U ∷ (ys ++ end) in
    record {
      once = λ x. omega (arith, begins-append x xs behind, begins-append x ys end, within_three l x, within_split l 3 (n + n') (l + 3) x refl, within_split (l + 3) n n' k x q, p.once x, p'.once x);
      turned = omega (arith, turns-append xs behind, turns-append ys end, p.turned, p'.turned);
      making = omega (arith, makings-append xs behind, makings-append ys end, p.making, p'.making);
      order = (refl, then_in_order (t + 1) u xs behind (omega (arith, r, p.making)) p.order (refl, then_in_order (u + 1) (u + 1 + makings ys) ys end refl p'.order tt));
    }

-- the body of a loop that is not left
circled : {l n t m : ℕ} (c : Around) (h : Head) (e f : Terminator) (U : Ty) (own : List ℕ) (ys : List Line) → Fills (l + 1) n (t + 1) m ys
    → Fills l (1 + n) t (1 + m) (Turns e (at_head c (label l) h) ∷ Makes t U ∷ (ys ++ Leaves f ∷ Owns (label l) own ∷ []))
circled {l} {n} {t} {m} c h e f U own ys p =
    let end = Leaves f ∷ Owns (label l) own ∷ [] in
    record {
      once = λ x. omega (arith, begins-append x ys end, within_one l x, within_split l 1 n (l + 1) x refl, p.once x);
      turned = omega (arith, turns-append ys end, p.turned);
      making = omega (arith, makings-append ys end, p.making);
      order = (refl, then_in_order (t + 1) (t + 1 + makings ys) ys end refl p.order tt);
    }

-- the body of a loop that a `break` leaves
spun : {l n t m : ℕ} (c c' : Around) (h : Head) (e f : Terminator) (U : Ty) (own : List ℕ) (s : Statement) (ys : List Line) → Fills (l + 2) n (t + 1) m ys
    → Fills l (2 + n) t (1 + m) (Turns e (at_head c (label l) h) ∷ Makes t U ∷ (ys ++ Turns f (at c' (label (l + 1))) ∷ Owns (label l) own ∷ Puts s ∷ []))
spun {l} {n} {t} {m} c c' h e f U own s ys p =
    let end = Turns f (at c' (label (l + 1))) ∷ Owns (label l) own ∷ Puts s ∷ [] in
    record {
      once = λ x. omega (arith, begins-append x ys end, within_two l x, within_split l 2 n (l + 2) x refl, p.once x);
      turned = omega (arith, turns-append ys end, p.turned);
      making = omega (arith, makings-append ys end, p.making);
      order = (refl, then_in_order (t + 1) (t + 1 + makings ys) ys end refl p.order tt);
    }

dying : (l t : ℕ) (outer : Bool) (s : Span) (x : ℕ) → Fills l 0 t 0 (dies_in outer s x)
dying l t true s x = nothing l t
dying l t false s x = one l t _

all_dying : (l t : ℕ) (s : Span) (ps : List Place) → Fills l 0 t 0 (deaths s ps)
all_dying l t s [] = nothing l t
all_dying l t s (p ∷ ps) = subst (λ xs. Fills l 0 t 0 xs) (sym (first_dies_last s p ps)) (as_counts _ refl refl (join l t (deaths s ps) (dies s p.local ∷ []) (omega arith) (omega arith) (all_dying l t s ps) (one l t _)))

-- out of a loop, or back to its head
jumped : (l t : ℕ) (s : Span) (depth : ℕ) (to : Label) (scope : List Place) → Fills l 0 t 0 (jump s depth to scope)
jumped l t s depth to scope = as_counts _ refl refl (join l t (deaths s (drop depth scope)) _ (omega arith) (omega arith) (all_dying l t s (drop depth scope)) (left l t _))

-- before a place
target_filled : (e : TypedExpr) (c : Around) (l t : ℕ) → Fills l (labels e) (t + 1) (locals e) (into e c l (t + 1) t) → (is_place e ≡ true → Fills l (labels e) t (locals e) (place_before e c l t))
    → Fills l (labels e) t (temporary_count (is_place e) + locals e) (text_before e c l t)
target_filled (variable ty s v) c l t p q = as_counts _ refl (omega arith) (q refl)
target_filled (part ty s e n) c l t p q = as_counts _ refl (omega arith) (q refl)
target_filled e c l t p q = make_local (ty_of e) _ p

-- ---- tests

abbrev ArmsFilled : (ℕ → ℕ) → (ℕ → ℕ) → (ℕ → ℕ → ℕ → List Line) → Type 0
ArmsFilled ls ts arm = (n l t : ℕ) → Fills l (ls n) t (ts n) (arm n l t)

told : {l n t m n' m' : ℕ} (k u : ℕ) (c : Around) (s : Span) (r : Rvalue) (to : Option Label) (xs ys : List Line) → k ≡ l + 2 + n → u ≡ t + 1 + m → Fills (l + 2) n (t + 1) m xs → Fills k n' u m' ys
    → Fills l (2 + (n + n')) t (1 + (m + m')) (tested_by c s t r l to xs ys)
told k u c s r to xs ys q e p p' = make_local bool _ (put _ _ (parted k u c _ _ xs ys q e p p'))

pub tests_filled : (c : Around) (s : Span) (T : Ty) (p : Place) (to : Option Label) (ls ts : ℕ → ℕ) (arm : ℕ → ℕ → ℕ → List Line) → ArmsFilled ls ts arm → (D : Decision) (l t : ℕ)
    → Fills l (tests_take 2 ls D) t (tests_take 1 ts D) (tests_text c s T p to ls ts arm D l t)
tests_filled c s T p to ls ts arm h (leaf n bs) l t = h n l t
tests_filled c s T p to ls ts arm h (switch q Ds) l t = nothing l t
tests_filled c s T p to ls ts arm h (if_truth q D E) l t = as_counts _ (omega arith) (omega arith) (told _ _ c s _ to _ _ refl refl (tests_filled c s T p to ls ts arm h D (l + 2) (t + 1)) (tests_filled c s T p to ls ts arm h E _ _))
tests_filled c s T p to ls ts arm h (if_literal q z D E) l t = as_counts _ (omega arith) (omega arith) (told _ _ c s _ to _ _ refl refl (tests_filled c s T p to ls ts arm h D (l + 2) (t + 1)) (tests_filled c s T p to ls ts arm h E _ _))

match_filled : (c : Around) (s : Span) (T : Ty) (p : Place) (to : Option Label) (ls ts : ℕ → ℕ) (arm : ℕ → ℕ → ℕ → List Line) → ArmsFilled ls ts arm → (o : Option Decision) (l t : ℕ)
    → Fills l (match_takes 2 ls o) t (match_takes 1 ts o) (tests_of c s T p to ls ts arm o l t)
match_filled c s T p to ls ts arm h None l t = nothing l t
match_filled c s T p to ls ts arm h (Some D) l t = tests_filled c s T p to ls ts arm h D l t

-- the block behind takes its label before them
met_filled : {n t m : ℕ} (all : Bool) (c : Around) (s : Span) (l : ℕ) (xs : List Line) → Fills (l + met_labels all) n t m xs → Fills l (met_labels all + n) t m (xs ++ met c s (behind_label all l))
met_filled {n} {t} {m} true c s l xs p = as_counts _ (omega arith) (omega arith) (join _ _ xs [] refl refl (subst (λ k. Fills k n t m xs) (omega arith) p) (nothing _ _))
met_filled {n} {t} {m} false c s l xs p =
    let end = met c s (Some (label l)) in
    record {
      once = λ x. omega (arith, begins-append x xs end, within_one l x, within_split l 1 n (l + 1) x refl, p.once x);
      turned = omega (arith, turns-append xs end, p.turned);
      making = omega (arith, makings-append xs end, p.making);
      order = then_in_order t (t + makings xs) xs end refl p.order tt;
    }

-- ---- the numbered text

mutual
  pub fills : (e : TypedExpr) (c : Around) (l t d : ℕ) → Fills l (labels e) t (locals e) (into e c l t d)
  fills (integer ty s z k) c l t d = one l t _
  fills (truth ty s b) c l t d = one l t _
  fills (variable ty s v) c l t d = one l t _
  fills (negative ty s e) c l t d = as_counts _ (omega arith) (omega arith) (made_then _ _ _ _ _ refl refl (fills e c l (t + 1) t) (one _ _ _))
  fills (denied ty s e) c l t d = as_counts _ (omega arith) (omega arith) (made_then _ _ _ _ _ refl refl (fills e c l (t + 1) t) (one _ _ _))
  fills (cast ty s e) c l t d = as_counts _ (omega arith) (omega arith) (made_then _ _ _ _ _ refl refl (fills e c l (t + 1) t) (one _ _ _))
  fills (binary ty s op a b) c l t d = as_counts _ (omega arith) (omega arith) (made_then _ _ _ _ _ refl refl (fills a c l (t + 1) t) (made_then _ _ _ _ _ refl refl (fills b c _ _ _) (one _ _ _)))
  fills (lazy ty s op a b) c l t d = as_counts _ (omega arith) (omega arith) (made_then _ _ _ _ _ refl refl (fills a c l (t + 1) t) (lazily_filled op c s t d _ (fills b c _ _ d)))
  fills (assign ty s a e) c l t d =
      as_counts _ (omega arith) (omega arith) (made_then _ _ _ _ _ refl refl (fills e c l (t + 1) t) (join _ _ _ _ refl refl (target_filled a c _ _ (fills a c _ _ _) (before_filled a c _ _)) (put _ _ (one _ _ _))))
  fills (update ty s op a e) c l t d =
      as_counts _ (omega arith) (omega arith) (made_then _ _ _ _ _ refl refl (fills e c l (t + 1) t)
      (join _ (t + 1 + locals e + temporary_count (is_place a) + locals a) _ _ refl (omega arith) (target_filled a c _ _ (fills a c _ _ _) (before_filled a c _ _)) (make_local _ _ (put _ _ (put _ _ (one _ _ _))))))
  fills (call ty s f es) c l t d = as_counts _ (omega arith) (omega arith) (join _ _ _ _ refl refl (args_filled es c l t) (turn _ _ c _))
  fills (make ty s k es) c l t d = as_counts _ (omega arith) (omega arith) (join _ _ _ _ refl refl (args_filled es c l t) (one _ _ _))
  fills (part ty s e n) c l t d = as_counts _ (omega arith) (omega arith) (join _ _ _ _ refl refl (target_filled e c l t (fills e c l (t + 1) t) (before_filled e c l t)) (one _ _ _))
  fills (block ty s ss) c l t d = rest_filled ss false s c l t d
  fills (branch ty s e a) c l t d = as_counts _ (omega arith) (omega arith) (made_then _ _ _ _ _ refl refl (fills e c l (t + 1) t) (forked _ _ c _ _ _ _ _ refl refl (fills a c _ _ d) (one _ _ _)))
  fills (choice ty s e a b) c l t d = as_counts _ (omega arith) (omega arith) (made_then _ _ _ _ _ refl refl (fills e c l (t + 1) t) (sides_filled (leaves a && leaves b) _ _ c s t _ _ refl refl (fills a c _ _ d) (fills b c _ _ d)))
  fills (matched ty s e as') c l t d =
      as_counts _ (omega arith) (omega arith)
      (join (l + labels e) (t + temporary_count (is_place e) + locals e) _ _ refl (omega arith) (target_filled e c l t (fills e c l (t + 1) t) (before_filled e c l t))
      (met_filled (all_arms_leave as') c s (l + labels e) _
      (match_filled c s (ty_of e) (place_of c.scope t e) (behind_label (all_arms_leave as') (l + labels e)) (arm_labels as') (arm_locals as') (arm_into as' c s (ty_of e) (place_of c.scope t e) d) (arms_filled as' c s (ty_of e) (place_of c.scope t e) d)
      (flat_tree (ty_of e) (patterns_of as')) _ _)))
  fills (repeat ty s is e b) c l t d =
      as_counts _ (omega arith) (omega arith)
      (looped _ _ (looping c (label l) (label (l + 2))) c _ _ _ _ _ _ _ _ _ _ refl refl (fills e (looping c (label l) (label (l + 2))) (l + 3) (t + 1) t) (fills b (looping c (label l) (label (l + 2))) (l + 3 + labels e) (t + 1 + locals e + 1) (t + 1 + locals e)))
  fills (panics ty s k) c l t d = left l t _
  fills (returned ty s e) c l t d = as_counts _ (omega arith) (omega arith) (join _ _ _ _ refl refl (fills e c l t 0) (left _ _ _))
  fills (endless ty s is b) c l t d = circled (looping c (label l) (label l)) _ _ _ _ _ _ (fills b (looping c (label l) (label l)) (l + 1) (t + 1) t)
  fills (until_break ty s is b) c l t d = spun (looping c (label l) (label (l + 1))) c _ _ _ _ _ _ _ (fills b (looping c (label l) (label (l + 1))) (l + 2) (t + 1) t)
  fills (break_off ty s) c l t d = jumped l t s (loop_at c.loops).depth (loop_at c.loops).after c.scope
  fills (go_on ty s) c l t d = jumped l t s (loop_at c.loops).depth (loop_at c.loops).head c.scope

  before_filled : (e : TypedExpr) (c : Around) (l t : ℕ) → is_place e ≡ true → Fills l (labels e) t (locals e) (place_before e c l t)
  before_filled (variable ty s v) c l t h = nothing l t
  before_filled (part ty s e n) c l t h = target_filled e c l t (fills e c l (t + 1) t) (before_filled e c l t)
  before_filled _ c l t h = absurd (true≢false (sym h))

  pub rest_filled : (ss : TypedStmts) (outer : Bool) (s : Span) (c : Around) (l t d : ℕ) → Fills l (labels_of ss) t (locals_of ss) (rest ss outer s c l t d)
  rest_filled done outer s c l t d = one l t _
  rest_filled (last e) outer s c l t d = fills e c l t d
  rest_filled (leaving e) outer s c l t d = make_local (ty_of e) _ (fills e c l (t + 1) t)
  rest_filled (bind e ss) outer s c l t d =
      as_counts _ (omega arith) (omega arith) (made_then _ _ _ _ _ refl refl (fills e c l (t + 1) t) (join _ _ _ _ refl refl (rest_filled ss outer s (binds c t) _ _ d) (dying _ _ outer s t)))
  rest_filled (run e ss) outer s c l t d = as_counts _ (omega arith) (omega arith) (made_then _ _ _ _ _ refl refl (fills e c l (t + 1) t) (rest_filled ss outer s c _ _ d))

  pub arms_filled : (as' : TypedArms) (c : Around) (s : Span) (T : Ty) (p : Place) (d : ℕ) → ArmsFilled (arm_labels as') (arm_locals as') (arm_into as' c s T p d)
  arms_filled no_arms c s T p d n l t = nothing l t
  arms_filled (with_arm q [] e as') c s T p d zero l t = as_counts _ refl (omega arith) (fills e c l t d)
  arms_filled (with_arm q (y ∷ ys) e as') c s T p d zero l t =
      as_counts _ (omega arith) (omega arith) (make_local T _ (put _ _ (join _ _ _ _ refl refl (fills e (binds c t) l (t + 1) d) (dying _ _ false s t))))
  arms_filled (with_arm q ys e as') c s T p d (suc n) l t = arms_filled as' c s T p d n l t

  pub args_filled : (es : TypedExprs) (c : Around) (l t : ℕ) → Fills l (labels_in es) t (locals_in es) (args es c l t)
  args_filled none c l t = nothing l t
  args_filled (more e es) c l t = as_counts _ (omega arith) (omega arith) (made_then _ _ _ _ _ refl refl (fills e c l (t + 1) t) (args_filled es c _ _))

-- before a place
pub target_fills : (e : TypedExpr) (c : Around) (l t : ℕ) → Fills l (labels e) t (temporary_count (is_place e) + locals e) (text_before e c l t)
target_fills e c l t = target_filled e c l t (fills e c l (t + 1) t) (before_filled e c l t)

-- the text of a body
pub body_fills : (e : TypedExpr) (c : Around) (l t : ℕ) → Fills l (labels e) t (locals e) (body_text e c l t)
body_fills (block ty s ss) c l t = rest_filled ss true s c l t 0
body_fills e c l t = fills e c l t 0

-- the numbers of the locals
pub numbers_of : (e : TypedExpr) (c : Around) (l t d : ℕ) → numbers (made (into e c l t d)) ≡ range_with_len t (locals e)
numbers_of e c l t d = numbers_in_order t (into e c l t d) (fills e c l t d).order ∙ ap (range_with_len t) (fills e c l t d).making
