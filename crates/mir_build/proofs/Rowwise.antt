-- By the rows: how many labels a text's rows name, and how many blocks it begins.
use Rattle.std.proofs.Common.{◌≡◌, refl, ap, ℕ, ◌+◌, Bool, List, [], ◌∷◌, ◌++◌, drop, length, length-append, Option, Some, None, arith}
use Rattle.text_core.specs.declared.span.Span.{Span}
use Rattle.logic_term.specs.declared.kinds.Label.{Label}
use Rattle.mir_ir.specs.declared.place.Place.{Place}
use Rattle.source_kinds.specs.declared.kinds.LazyOp.{LazyOp}
use Rattle.source_kinds.specs.declared.kinds.LazyOp.TheVariants.{And, Or}
use Rattle.logic_term.specs.Ty.{Ty}
use Rattle.pat_check.specs.Decision.{Decision}
use Rattle.type_check.specs.Leaves.{all_arms_leave}
use Rattle.type_check.specs.TypedExpr.{TypedExpr, TypedStmts, TypedExprs, TypedArms}
use Rattle.mir_ir.specs.declared.terminator.TerminatorKind.TheVariants.{Goto}
use Rattle.mir_build.specs.Text.{Line, Leaves}
use Rattle.std.specs.Prelude.{is_none}
use Rattle.mir_build.specs.Lowering.{Around, binds, ends, lazily, met, Into, of_integer, of_truth, of_variable, of_negative, of_denied, of_cast, of_binary, of_lazy, of_assign, of_update, of_call, of_make, of_part, of_block}
use Rattle.mir_build.specs.Lowering.{of_branch, of_choice, of_leaving_choice, of_repeat, of_panics, of_returned, of_endless, of_until_break, of_break_off, of_go_on, Rest, of_done, of_last, of_leaving, of_bind, of_run, Args, of_none, of_more}
use Rattle.mir_build.specs.Lowering.{PlaceOf, of_name, of_part_place, of_temporary, of_matched, Tests, at_arm, on_truth, on_literal, ArmInto, of_unbound, of_bound, of_later, labels_at, IntoBody, of_outermost, of_other, named, named_place}
use Rattle.mir_build.specs.Lowering.{named_tests, named_arm, named_rest, named_args}
use Rattle.mir_build.specs.Numbered.{choice_labels, met_labels, tests_take, match_takes, labels, labels_of, labels_in, arm_labels}
use Rattle.mir_build.proofs.Following.{From, from_right, from_both}
use Rattle.mir_build.proofs.Jumps.{deaths, no_deaths_turn}
use Rattle.mir_build.proofs.Numbers.{turns, turns-append, no_turns}

-- ---- counts

turns_lazy : (op : LazyOp) (c : Around) (s : Span) (t d : ℕ) (yes' no' after : Label) (xs : List Line) → turns (lazily op c s t d yes' no' after xs) ≡ 3 + turns xs
turns_lazy And c s t d yes' no' after xs = simp turns-append (omega arith)
turns_lazy Or c s t d yes' no' after xs = simp turns-append (omega arith)

-- these labels are so many, and the text begins as many blocks
abbrev Counts : ℕ → List ℕ → List Line → Type 0
Counts n ls xs = (length ls ≡ n) × (turns xs ≡ n)

-- of the block behind a match
counts_met : (c : Around) (s : Span) (to : Option Label) → Counts (met_labels (is_none to)) (labels_at to) (met c s to)
counts_met c s None = (refl, refl)
counts_met c s (Some l) = (refl, refl)

mutual
  counts : (c : Around) (e : TypedExpr) (d : ℕ) (xs : List Line) (p : Into c e d xs) → Counts (labels e) (named p) xs
  counts c e d xs of_integer = (refl, refl)
  counts c e d xs of_truth = (refl, refl)
  counts c e d xs (of_variable x q k) = (refl, refl)
  counts c e d xs (of_negative p) =
      let x = counts c _ _ _ p in
      (x.0, simp turns-append (omega (arith, x.1)))
  counts c e d xs (of_denied p) =
      let x = counts c _ _ _ p in
      (x.0, simp turns-append (omega (arith, x.1)))
  counts c e d xs (of_cast p) =
      let x = counts c _ _ _ p in
      (x.0, simp turns-append (omega (arith, x.1)))
  counts c e d xs (of_binary p q) =
      let x = counts c _ _ _ p in
      let y = counts c _ _ _ q in
      (omega (arith, length-append (named p) (named q), x.0, y.0), simp turns-append (omega (arith, x.1, y.1)))
  counts c e d xs (of_lazy {s = s} {op = op} {t = t} yes' no' after {ys = vs} p q) =
      let x = counts c _ _ _ p in
      let y = counts c _ _ _ q in
      (omega (arith, length-append (named p) (yes'.0 ∷ no'.0 ∷ after.0 ∷ named q), x.0, y.0), simp turns-append (omega (arith, turns_lazy op c s t d yes' no' after vs, x.1, y.1)))
  counts c e d xs (of_assign p q) =
      let x = counts c _ _ _ p in
      let y = place_counts c _ _ _ q in
      (omega (arith, length-append (named p) (named_place q), x.0, y.0), simp turns-append (omega (arith, x.1, y.1)))
  counts c e d xs (of_update u p q) =
      let x = counts c _ _ _ p in
      let y = place_counts c _ _ _ q in
      (omega (arith, length-append (named p) (named_place q), x.0, y.0), simp turns-append (omega (arith, x.1, y.1)))
  counts c e d xs (of_call after p) =
      let x = args_counts c _ _ _ p in
      (omega (arith, length-append (named_args p) (after.0 ∷ []), x.0), simp turns-append (omega (arith, x.1)))
  counts c e d xs (of_make p) =
      let x = args_counts c _ _ _ p in
      (x.0, simp turns-append (omega (arith, x.1)))
  counts c e d xs (of_part p k) =
      let x = place_counts c _ _ _ p in
      (x.0, simp turns-append (omega (arith, x.1)))
  counts c e d xs (of_block p) = rest_counts c _ _ _ _ _ p
  counts c e d xs (of_branch yes' no' after p q) =
      let x = counts c _ _ _ p in
      let y = counts c _ _ _ q in
      (omega (arith, length-append (named p) (yes'.0 ∷ no'.0 ∷ after.0 ∷ named q), x.0, y.0), simp turns-append (omega (arith, x.1, y.1)))
  counts c e d xs (of_choice yes' no' after n p q r) =
      let three = ap choice_labels n in
      let x = counts c _ _ _ p in
      let y = counts c _ _ _ q in
      let z = counts c _ _ _ r in
      (omega (arith, three, length-append (named p) (yes'.0 ∷ no'.0 ∷ after.0 ∷ (named q ++ named r)), length-append (named q) (named r), x.0, y.0, z.0), simp turns-append (omega (arith, three, x.1, y.1, z.1)))
  counts c e d xs (of_leaving_choice yes' no' n p q r) =
      let two = ap choice_labels n in
      let x = counts c _ _ _ p in
      let y = counts c _ _ _ q in
      let z = counts c _ _ _ r in
      (omega (arith, two, length-append (named p) (yes'.0 ∷ no'.0 ∷ (named q ++ named r)), length-append (named q) (named r), x.0, y.0, z.0), simp turns-append (omega (arith, two, x.1, y.1, z.1)))
  counts c e d xs (of_matched {s = s} {as' = as'} D to {ys = vs} f q l p r) =
      let behind : met_labels (all_arms_leave as') ≡ met_labels (is_none to) = ap met_labels l in
      let by_tree = ap (match_takes 2 (arm_labels as')) q in
      let x = place_counts c _ _ _ p in
      let y = tests_counts c _ _ _ _ _ _ _ _ r in
      let z = counts_met c s to in
      (omega (arith, behind, by_tree, length-append (named_place p) (labels_at to ++ named_tests r), length-append (labels_at to) (named_tests r), x.0, y.0, z.0), simp turns-append (omega (arith, behind, by_tree, x.1, y.1, z.1)))
  counts c e d xs (of_repeat head body after fs g p q) =
      let x = counts _ _ _ _ p in
      let y = counts _ _ _ _ q in
      (omega (arith, length-append (named p) (named q), x.0, y.0), simp turns-append (omega (arith, x.1, y.1)))
  counts c e d xs of_panics = (refl, refl)
  counts c e d xs (of_returned p) =
      let x = counts c _ _ _ p in
      (x.0, simp turns-append (omega (arith, x.1)))
  counts c e d xs (of_endless head fs g p) =
      let x = counts _ _ _ _ p in
      (omega (arith, x.0), simp turns-append (omega (arith, x.1)))
  counts c e d xs (of_until_break head after fs g p) =
      let x = counts _ _ _ _ p in
      (omega (arith, x.0), simp turns-append (omega (arith, x.1)))
  counts c e d xs (of_break_off {s = s} l q) = (refl, omega (arith, turns-append (deaths s (drop l.depth c.scope)) (Leaves (ends s (Goto l.after)) ∷ []), no_deaths_turn s (drop l.depth c.scope)))
  counts c e d xs (of_go_on {s = s} l q) = (refl, omega (arith, turns-append (deaths s (drop l.depth c.scope)) (Leaves (ends s (Goto l.head)) ∷ []), no_deaths_turn s (drop l.depth c.scope)))

  place_counts : (c : Around) (e : TypedExpr) (x : Place) (xs : List Line) (p : PlaceOf c e x xs) → Counts (labels e) (named_place p) xs
  place_counts c e x xs (of_name y q) = (refl, refl)
  place_counts c e x xs (of_part_place p) = place_counts c _ _ _ p
  place_counts c e x xs (of_temporary n p) = counts c _ _ _ p

  tests_counts : (c : Around) (s : Span) (T : Ty) (x : Place) (as' : TypedArms) (to : Option Label) (D : Decision) (d : ℕ) (xs : List Line) (p : Tests c s T x as' to D d xs) → Counts (tests_take 2 (arm_labels as') D) (named_tests p) xs
  tests_counts c s T x as' to D d xs (at_arm p) = arm_counts c s T x as' _ d xs p
  tests_counts c s T x as' to D d xs (on_truth u yes' no' h p q) =
      let y = tests_counts c s T x as' to _ d _ p in
      let z = tests_counts c s T x as' to _ d _ q in
      (omega (arith, length-append (named_tests p) (named_tests q), y.0, z.0), simp turns-append (omega (arith, y.1, z.1)))
  tests_counts c s T x as' to D d xs (on_literal u yes' no' k h g p q) =
      let y = tests_counts c s T x as' to _ d _ p in
      let z = tests_counts c s T x as' to _ d _ q in
      (omega (arith, length-append (named_tests p) (named_tests q), y.0, z.0), simp turns-append (omega (arith, y.1, z.1)))

  arm_counts : (c : Around) (s : Span) (T : Ty) (x : Place) (as' : TypedArms) (n d : ℕ) (xs : List Line) (p : ArmInto c s T x as' n d xs) → Counts (arm_labels as' n) (named_arm p) xs
  arm_counts c s T x as' n d xs (of_unbound p) = counts c _ d xs p
  arm_counts c s T x as' n d xs (of_bound y h k p) =
      let z = counts (binds c y) _ d _ p in
      (z.0, simp turns-append (omega (arith, z.1)))
  arm_counts c s T x as' n d xs (of_later p) = arm_counts c s T x _ _ d xs p

  rest_counts : (c : Around) (outer : Bool) (s : Span) (ss : TypedStmts) (d : ℕ) (xs : List Line) (p : Rest c outer s ss d xs) → Counts (labels_of ss) (named_rest p) xs
  rest_counts c outer s ss d xs of_done = (refl, refl)
  rest_counts c outer s ss d xs (of_last p) = counts c _ _ _ p
  rest_counts c outer s ss d xs (of_leaving p) = counts c _ _ _ p
  rest_counts c outer s ss d xs (of_bind {t = t} p q) =
      let x = counts c _ _ _ p in
      let y = rest_counts _ _ _ _ _ _ q in
      (omega (arith, length-append (named p) (named_rest q), x.0, y.0), simp turns-append (omega (arith, no_turns outer s t, x.1, y.1)))
  rest_counts c outer s ss d xs (of_run p q) =
      let x = counts c _ _ _ p in
      let y = rest_counts _ _ _ _ _ _ q in
      (omega (arith, length-append (named p) (named_rest q), x.0, y.0), simp turns-append (omega (arith, x.1, y.1)))

  args_counts : (c : Around) (es : TypedExprs) (ts : List ℕ) (xs : List Line) (p : Args c es ts xs) → Counts (labels_in es) (named_args p) xs
  args_counts c es ts xs of_none = (refl, refl)
  args_counts c es ts xs (of_more p q) =
      let x = counts c _ _ _ p in
      let y = args_counts c _ _ _ q in
      (omega (arith, length-append (named p) (named_args q), x.0, y.0), simp turns-append (omega (arith, x.1, y.1)))

-- ---- labels

-- the labels behind those of an expression
pub labels_behind : {c : Around} {e : TypedExpr} {d : ℕ} {xs : List Line} (p : Into c e d xs) (l : ℕ) (ns : List ℕ) → From l (named p ++ ns) → From (l + labels e) ns
labels_behind {c} {e} {d} {xs} p l ns h = from_right l (l + labels e) (named p) ns (omega (arith, (counts c e d xs p).0)) h

pub labels_then : {c : Around} {e : TypedExpr} {d : ℕ} {xs : List Line} (p : Into c e d xs) (l : ℕ) (ns : List ℕ) → From l (named p) → From (l + labels e) ns → From l (named p ++ ns)
labels_then {c} {e} {d} {xs} p l ns h k = from_both l (l + labels e) (named p) ns (omega (arith, (counts c e d xs p).0)) h k

pub labels_behind_args : {c : Around} {es : TypedExprs} {ts : List ℕ} {xs : List Line} (p : Args c es ts xs) (l : ℕ) (ns : List ℕ) → From l (named_args p ++ ns) → From (l + labels_in es) ns
labels_behind_args {c} {es} {ts} {xs} p l ns h = from_right l (l + labels_in es) (named_args p) ns (omega (arith, (args_counts c es ts xs p).0)) h

pub labels_then_args : {c : Around} {es : TypedExprs} {ts : List ℕ} {xs : List Line} (p : Args c es ts xs) (l : ℕ) (ns : List ℕ) → From l (named_args p) → From (l + labels_in es) ns → From l (named_args p ++ ns)
labels_then_args {c} {es} {ts} {xs} p l ns h k = from_both l (l + labels_in es) (named_args p) ns (omega (arith, (args_counts c es ts xs p).0)) h k

-- those of the block behind a match
pub labels_behind_met : (to : Option Label) (all : Bool) (m : ℕ) (ns : List ℕ) → all ≡ is_none to → From m (labels_at to ++ ns) → From (m + met_labels all) ns
labels_behind_met to all m ns l h = from_right m (m + met_labels all) (labels_at to) ns (omega (arith, ap met_labels l, length_at to)) h
  where
    length_at : (to : Option Label) → length (labels_at to) ≡ met_labels (is_none to)
    length_at None = refl
    length_at (Some k) = refl

pub labels_behind_place : {c : Around} {e : TypedExpr} {x : Place} {xs : List Line} (p : PlaceOf c e x xs) (l : ℕ) (ns : List ℕ) → From l (named_place p ++ ns) → From (l + labels e) ns
labels_behind_place {c} {e} {x} {xs} p l ns h = from_right l (l + labels e) (named_place p) ns (omega (arith, (place_counts c e x xs p).0)) h

pub labels_then_place : {c : Around} {e : TypedExpr} {x : Place} {xs : List Line} (p : PlaceOf c e x xs) (l : ℕ) (ns : List ℕ) → From l (named_place p) → From (l + labels e) ns → From l (named_place p ++ ns)
labels_then_place {c} {e} {x} {xs} p l ns h k = from_both l (l + labels e) (named_place p) ns (omega (arith, (place_counts c e x xs p).0)) h k

pub labels_behind_tests : {c : Around} {s : Span} {T : Ty} {x : Place} {as' : TypedArms} {to : Option Label} {D : Decision} {d : ℕ} {xs : List Line} (p : Tests c s T x as' to D d xs) (l : ℕ) (ns : List ℕ)
    → From l (named_tests p ++ ns) → From (l + tests_take 2 (arm_labels as') D) ns
labels_behind_tests {c} {s} {T} {x} {as'} {to} {D} {d} {xs} p l ns h = from_right l (l + tests_take 2 (arm_labels as') D) (named_tests p) ns (omega (arith, (tests_counts c s T x as' to D d xs p).0)) h

pub labels_then_tests : {c : Around} {s : Span} {T : Ty} {x : Place} {as' : TypedArms} {to : Option Label} {D : Decision} {d : ℕ} {xs : List Line} (p : Tests c s T x as' to D d xs) (l : ℕ) (ns : List ℕ)
    → From l (named_tests p) → From (l + tests_take 2 (arm_labels as') D) ns → From l (named_tests p ++ ns)
labels_then_tests {c} {s} {T} {x} {as'} {to} {D} {d} {xs} p l ns h k = from_both l (l + tests_take 2 (arm_labels as') D) (named_tests p) ns (omega (arith, (tests_counts c s T x as' to D d xs p).0)) h k

-- ---- blocks

-- each text of a body begins as many blocks
pub turn_count_body : (c : Around) (e : TypedExpr) (xs : List Line) → IntoBody c e xs → turns xs ≡ labels e
turn_count_body c e xs (of_outermost p) = (rest_counts c _ _ _ _ xs p).1
turn_count_body c e xs (of_other q p) = (counts c e _ xs p).1
