-- By the rows: a text whose labels and locals are in order is the numbered one.
use Rattle.std.proofs.Common.{◌≡◌, refl, ap, sym, ◌∙◌, ℕ, ◌+◌, Bool, true, false, List, [], ◌∷◌, ◌++◌, ◌-◌, length, map, Option, Some, None, slice_get, arith, true≢false}
use Rattle.std.specs.Prelude.{is_none}
use Rattle.std.proofs.lemmas.Option.{get_or_from_slice_get}
use Rattle.text_core.specs.declared.span.Span.{Span}
use Rattle.logic_term.specs.declared.kinds.Label.{Label}
use Rattle.logic_term.specs.Ty.{Ty, bool}
use Rattle.source_kinds.specs.declared.kinds.BinaryOp.TheVariants.{Eq}
use Rattle.mir_ir.specs.declared.place.Lit.TheVariants as lit
use Rattle.mir_ir.specs.declared.place.Operand.TheVariants.{Copy, Const}
use Rattle.mir_ir.specs.declared.place.Place.{Place}
use Rattle.mir_ir.specs.declared.statement.Rvalue.TheVariants.{Use, Binary, Neg, Not, Widen, Make}
use Rattle.mir_ir.specs.declared.terminator.FnId.TheVariants as fn_id
use Rattle.mir_ir.specs.declared.terminator.Callee.TheVariants.{Function}
use Rattle.mir_ir.specs.declared.terminator.TerminatorKind.TheVariants.{Goto, If, Call, Return}
use Rattle.pat_check.specs.Decision.{Decision}
use Rattle.type_check.specs.Leaves.{all_arms_leave}
use Rattle.type_check.specs.TypedExpr.{TypedExpr, TypedStmts, TypedExprs, TypedArms, variable, part, block}
use Rattle.type_check.specs.TypedExprView.{ty_of}
use Rattle.mir_build.specs.declared.around.Loop.{Loop}
use Rattle.runnable.specs.CopyDecided.{is_copied}
use Rattle.mir_build.specs.Taking.{taken}
use Rattle.mir_build.specs.Text.{Line, Makes, Turns, Leaves, Owns, made}
use Rattle.mir_build.specs.Lowering.{Around, binds, looping, at, at_head, head_of, whole, part_place, puts, puts_at, put_unit, moved, ends, innermost, dies_in, die_from, numbers, lazily, test, fork, split, met, labels_at}
use Rattle.mir_build.specs.Lowering.{Into, of_integer, of_truth, of_variable, of_negative, of_denied, of_cast, of_binary, of_lazy, of_assign, of_update, of_call, of_make, of_part, of_block, of_branch, of_choice, of_leaving_choice, of_repeat}
use Rattle.mir_build.specs.Lowering.{of_panics, of_returned, of_endless, of_until_break, of_break_off, of_go_on}
use Rattle.mir_build.specs.Lowering.{Rest, of_done, of_last, of_leaving, of_bind, of_run, Args, of_none, of_more, PlaceOf, of_name, of_part_place, of_temporary, of_matched, Tests, at_arm, on_truth, on_literal, ArmInto, of_unbound, of_bound}
use Rattle.mir_build.specs.Lowering.{of_later, is_place, IntoBody, of_outermost, of_other, is_block, named, named_place, named_tests, named_arm, named_rest, named_args, named_body}
use Rattle.mir_build.specs.Numbered.{kind_of, behind_label, met_labels, numbered_tests, tests_take, tests_of, arm_labels, arm_locals, arm_into, no_loop, loop_at, place_of, temporary_count, place_text, place_before, text_before, if_text, into, rest}
use Rattle.mir_build.specs.Numbered.{args, body_text, labels, locals, temporaries, label, variable_place}
use Rattle.mir_build.proofs.Numbers.{makings}
use Rattle.mir_build.proofs.Fills.{fills, target_fills, tests_filled, arms_filled, numbers_of}
use Rattle.mir_build.proofs.Order.{InOrder}
use Rattle.mir_build.proofs.Accepted.{formulas_are}
use Rattle.mir_build.proofs.Rows.{own_local, own_locals}
use Rattle.mir_build.proofs.Following.{From, from_left, two, three, order_left, order_right, order_lazy}
use Rattle.mir_build.proofs.Taking.{one_takes}
use Rattle.mir_build.proofs.Rowwise.{labels_behind, labels_behind_args, labels_behind_place, labels_behind_met, labels_behind_tests}

-- the place of a variable in scope
found : (scope : List Place) (v : ℕ) (p : Place) → slice_get scope v ≡ Some p → p ≡ variable_place scope v
found scope v p q = sym (get_or_from_slice_get scope v p (whole 0) q)

-- the innermost loop
inner : (c : Around) (l : Loop) → innermost c ≡ Some l → l ≡ loop_at c.loops
inner c l q = sym (get_or_from_slice_get c.loops (length c.loops - 1) l no_loop q)

-- the locals behind those of an expression's text
behind : (e : TypedExpr) (c : Around) (l t d : ℕ) (xs ys : List Line) → xs ≡ into e c l t d → InOrder t (xs ++ ys) → InOrder (t + locals e) ys
behind e c l t d xs ys q h = order_right t (t + locals e) xs ys (omega (arith, ap makings q, (fills e c l t d).making)) h

behind_target : (e : TypedExpr) (c : Around) (l t : ℕ) (xs ys : List Line) → xs ≡ text_before e c l t → InOrder t (xs ++ ys) → InOrder (t + temporary_count (is_place e) + locals e) ys
behind_target e c l t xs ys q h = order_right t (t + temporary_count (is_place e) + locals e) xs ys (omega (arith, ap makings q, (target_fills e c l t).making)) h

-- the place of what names none, and the text before it
whole_temporary : (scope : List Place) (t : ℕ) (e : TypedExpr) → is_place e ≡ false → place_of scope t e ≡ whole t
whole_temporary scope t (variable ty s v) h = absurd (true≢false h)
whole_temporary scope t (part ty s e n) h = absurd (true≢false h)
whole_temporary scope t e h = refl

temporary_before : (e : TypedExpr) (c : Around) (l t : ℕ) → is_place e ≡ false → text_before e c l t ≡ Makes t (ty_of e) ∷ into e c l (t + 1) t
temporary_before e c l t h = ap (λ b. place_text b t (ty_of e) (place_before e c l t) (into e c l (t + 1) t)) h

-- the block behind a match
behind_is : (to : Option Label) (all : Bool) (m : ℕ) (ns : List ℕ) → all ≡ is_none to → From m (labels_at to ++ ns) → to ≡ behind_label all m
behind_is None all m ns q h = ap (λ b. behind_label b m) (sym q)
behind_is (Some l) all m ns q h = (λ i. Some (label (h.0 i))) ∙ ap (λ b. behind_label b m) (sym q)

-- the locals behind those of the tests
behind_tests : (c : Around) (s : Span) (T : Ty) (x : Place) (as' : TypedArms) (to : Option Label) (D : Decision) (d l t : ℕ) (xs ys : List Line) → xs ≡ numbered_tests c s T x as' to D d l t → InOrder t (xs ++ ys)
    → InOrder (t + tests_take 1 (arm_locals as') D) ys
behind_tests c s T x as' to D d l t xs ys q h =
    order_right t (t + tests_take 1 (arm_locals as') D) xs ys (omega (arith, ap makings q, (tests_filled c s T x to (arm_labels as') (arm_locals as') (arm_into as' c s T x d) (arms_filled as' c s T x d) D l t).making)) h

mutual
  one_text : (c : Around) (e : TypedExpr) (d : ℕ) (xs : List Line) (p : Into c e d xs) (l t : ℕ) → From l (named p) → InOrder t xs → xs ≡ into e c l t d
  one_text c e d xs of_integer l t n o = refl
  one_text c e d xs of_truth l t n o = refl
  one_text c e d xs (of_variable {ty = ty} {s = s} {v = v} {o = w} x q k) l t n o =
      let y = one_takes c.types ty x w k ∙ ap (taken (is_copied c.types ty)) (found c.scope v x q) in
      λ i. puts s d (Use (y i)) ∷ []
  one_text c e d xs (of_negative {s = s} {e = a} {t = t'} {xs = us} p) l t n o =
      let x = one_text c a t' us p l (t + 1) n (order_left (t + 1) us _ o.1) ∙ ap (into a c l (t + 1)) o.0 in
      λ i. Makes (o.0 i) (ty_of a) ∷ (x i ++ puts s d (Neg (moved (o.0 i))) ∷ [])
  one_text c e d xs (of_denied {s = s} {e = a} {t = t'} {xs = us} p) l t n o =
      let x = one_text c a t' us p l (t + 1) n (order_left (t + 1) us _ o.1) ∙ ap (into a c l (t + 1)) o.0 in
      λ i. Makes (o.0 i) (ty_of a) ∷ (x i ++ puts s d (Not (moved (o.0 i))) ∷ [])
  one_text c e d xs (of_cast {k = k} {s = s} {e = a} {t = t'} {xs = us} p) l t n o =
      let x = one_text c a t' us p l (t + 1) n (order_left (t + 1) us _ o.1) ∙ ap (into a c l (t + 1)) o.0 in
      λ i. Makes (o.0 i) (ty_of a) ∷ (x i ++ puts s d (Widen (moved (o.0 i)) k) ∷ [])
  one_text c e d xs (of_binary {s = s} {op = op} {a = a} {b = b} {t = t'} {u = u'} {xs = us} {ys = vs} p q) l t n o =
      let x = one_text c a t' us p l (t + 1) (from_left l (named p) (named q) n) (order_left (t + 1) us _ o.1) ∙ ap (into a c l (t + 1)) o.0 in
      let r = behind a c l (t + 1) t us _ x o.1 in
      let u = t + 1 + locals a in
      let y = one_text c b u' vs q (l + labels a) (u + 1) (labels_behind p l (named q) n) (order_left (u + 1) vs _ r.1) ∙ ap (into b c (l + labels a) (u + 1)) r.0 in
      λ i. Makes (o.0 i) (ty_of a) ∷ (x i ++ Makes (r.0 i) (ty_of b) ∷ (y i ++ puts s d (Binary op (moved (o.0 i)) (moved (r.0 i))) ∷ []))
  one_text c e d xs (of_lazy {s = s} {op = op} {a = a} {b = b} {t = t'} yes' no' after {xs = us} {ys = vs} p q) l t n o =
      let m = l + labels a in
      let k = three m yes'.0 no'.0 after.0 (named q) (labels_behind p l (yes'.0 ∷ no'.0 ∷ after.0 ∷ named q) n) in
      let x = one_text c a t' us p l (t + 1) (from_left l (named p) _ n) (order_left (t + 1) us _ o.1) ∙ ap (into a c l (t + 1)) o.0 in
      let u = t + 1 + locals a in
      let y = one_text c b d vs q (m + 3) u k.3 (order_lazy op c s t' d u yes' no' after vs (behind a c l (t + 1) t us _ x o.1)) in
      λ i. Makes (o.0 i) (ty_of a) ∷ (x i ++ lazily op c s (o.0 i) d (label (k.0 i)) (label (k.1 i)) (label (k.2 i)) (y i))
  one_text c e d xs (of_assign {s = s} {a = b} {e = a} {t = t'} {p = z} {xs = us} {ys = vs} p q) l t n o =
      let x = one_text c a t' us p l (t + 1) (from_left l (named p) (named_place q) n) (order_left (t + 1) us _ o.1) ∙ ap (into a c l (t + 1)) o.0 in
      let r = behind a c l (t + 1) t us _ x o.1 in
      let u = t + 1 + locals a in
      let y = one_place c b z vs q (l + labels a) u (labels_behind p l (named_place q) n) (order_left u vs _ r) in
      λ i. Makes (o.0 i) (ty_of a) ∷ (x i ++ (y.1 i ++ puts_at s (y.0 i) (Use (moved (o.0 i))) ∷ put_unit s d ∷ []))
  one_text c e d xs (of_update {s = s} {op = op} {a = b} {e = a} {t = t'} {p = z} u' {xs = us} {ys = vs} p q) l t n o =
      let x = one_text c a t' us p l (t + 1) (from_left l (named p) (named_place q) n) (order_left (t + 1) us _ o.1) ∙ ap (into a c l (t + 1)) o.0 in
      let r = behind a c l (t + 1) t us _ x o.1 in
      let u = t + 1 + locals a in
      let y = one_place c b z vs q (l + labels a) u (labels_behind p l (named_place q) n) (order_left u vs _ r) in
      let k = behind_target b c (l + labels a) u vs _ y.1 r in
      λ i. Makes (o.0 i) (ty_of a) ∷ (x i ++ (y.1 i ++ Makes (k.0 i) (ty_of a) ∷ puts s (k.0 i) (Binary op (Copy (y.0 i)) (moved (o.0 i))) ∷ puts_at s (y.0 i) (Use (moved (k.0 i))) ∷ put_unit s d ∷ []))
  one_text c e d xs (of_call {s = s} {f = f} {es = es} {ts = ts} after {xs = us} p) l t n o =
      let w = one_args c es ts us p l t (from_left l (named_args p) _ n) (order_left t us _ o) in
      let k = labels_behind_args p l (after.0 ∷ []) n in
      λ i. w.1 i ++ Turns (ends s (Call (whole d) (Function (fn_id.Body f)) [] (map moved (w.0 i)) (label (k.0 i)))) (at c (label (k.0 i))) ∷ []
  one_text c e d xs (of_make {s = s} {k = k} {es = es} {ts = ts} {xs = us} p) l t n o =
      let w = one_args c es ts us p l t n (order_left t us _ o) in
      λ i. w.1 i ++ puts s d (Make k (map moved (w.0 i))) ∷ []
  one_text c e d xs (of_part {ty = ty} {s = s} {e = a} {n = m} {p = z} {o = w} {xs = us} p k) l t n o =
      let y = one_place c (part ty s a m) z us p l t n (order_left t us _ o) in
      let u = one_takes c.types ty z w k ∙ ap (taken (is_copied c.types ty)) y.0 in
      λ i. y.1 i ++ puts s d (Use (u i)) ∷ []
  one_text c e d xs (of_block p) l t n o = one_rest c false _ _ d xs p l t n o
  one_text c e d xs (of_branch {s = s} {e = a} {a = b} {t = t'} yes' no' after {xs = us} {ys = vs} p q) l t n o =
      let m = l + labels a in
      let k = three m yes'.0 no'.0 after.0 (named q) (labels_behind p l (yes'.0 ∷ no'.0 ∷ after.0 ∷ named q) n) in
      let x = one_text c a t' us p l (t + 1) (from_left l (named p) _ n) (order_left (t + 1) us _ o.1) ∙ ap (into a c l (t + 1)) o.0 in
      let u = t + 1 + locals a in
      let y = one_text c b d vs q (m + 3) u k.3 (order_left u vs _ (behind a c l (t + 1) t us _ x o.1)) in
      λ i. Makes (o.0 i) (ty_of a) ∷ (x i ++ Turns (ends s (If (moved (o.0 i)) (label (k.0 i)) (label (k.1 i)))) (at c (label (k.0 i))) ∷ (y i
      ++ Turns (ends s (Goto (label (k.2 i)))) (at c (label (k.1 i))) ∷ put_unit s d ∷ Turns (ends s (Goto (label (k.2 i)))) (at c (label (k.2 i))) ∷ []))
  one_text c e d xs (of_choice {s = s} {e = a} {a = b} {b = b'} {t = t'} yes' no' after {xs = us} {ys = vs} {zs = ws} k' p q r) l t n o =
      let m = l + labels a in
      let k = three m yes'.0 no'.0 after.0 (named q ++ named r) (labels_behind p l (yes'.0 ∷ no'.0 ∷ after.0 ∷ (named q ++ named r)) n) in
      let x = one_text c a t' us p l (t + 1) (from_left l (named p) _ n) (order_left (t + 1) us _ o.1) ∙ ap (into a c l (t + 1)) o.0 in
      let u = t + 1 + locals a in
      let g = behind a c l (t + 1) t us _ x o.1 in
      let y = one_text c b d vs q (m + 3) u (from_left (m + 3) (named q) (named r) k.3) (order_left u vs _ g) in
      let z = one_text c b' d ws r (m + 3 + labels b) (u + locals b) (labels_behind q (m + 3) (named r) k.3) (order_left (u + locals b) ws _ (behind b c (m + 3) u d vs _ y g)) in
      (λ i. Makes (o.0 i) (ty_of a) ∷ (x i ++ test c s (o.0 i) (label (k.0 i)) (label (k.1 i)) (label (k.2 i)) (y i) (z i))) ∙ ap (λ both. if_text both a b b' s d c l t) (sym k')
  one_text c e d xs (of_leaving_choice {s = s} {e = a} {a = b} {b = b'} {t = t'} yes' no' {xs = us} {ys = vs} {zs = ws} k' p q r) l t n o =
      let m = l + labels a in
      let k = two m yes'.0 no'.0 (named q ++ named r) (labels_behind p l (yes'.0 ∷ no'.0 ∷ (named q ++ named r)) n) in
      let x = one_text c a t' us p l (t + 1) (from_left l (named p) _ n) (order_left (t + 1) us _ o.1) ∙ ap (into a c l (t + 1)) o.0 in
      let u = t + 1 + locals a in
      let g = behind a c l (t + 1) t us _ x o.1 in
      let y = one_text c b d vs q (m + 2) u (from_left (m + 2) (named q) (named r) k.2) (order_left u vs _ g) in
      let z = one_text c b' d ws r (m + 2 + labels b) (u + locals b) (labels_behind q (m + 2) (named r) k.2) (behind b c (m + 2) u d vs _ y g) in
      (λ i. Makes (o.0 i) (ty_of a) ∷ (x i ++ fork c s (o.0 i) (label (k.0 i)) (label (k.1 i)) (y i) (z i))) ∙ ap (λ both. if_text both a b b' s d c l t) (sym k')
  one_text c e d xs (of_matched {s = s} {e = a} {as' = as'} {p = z} D to {xs = us} {ys = vs} f q w p r) l t n o =
      let m = l + labels a in
      let all = all_arms_leave as' in
      let k = labels_behind_place p l (labels_at to ++ named_tests r) n in
      let y = one_place c a z us p l t (from_left l (named_place p) _ n) (order_left t us _ o) in
      let u = t + temporary_count (is_place a) + locals a in
      let g = behind_is to all m (named_tests r) w k in
      let x = one_tests c s (ty_of a) z as' to D d vs r (m + met_labels all) u (labels_behind_met to all m (named_tests r) w k) (order_left u vs _ (behind_target a c l t us _ y.1 o)) in
      (λ i. y.1 i ++ (x i ++ met c s to))
      ∙ (λ i. text_before a c l t ++ (tests_of c s (ty_of a) (y.0 i) (g i) (arm_labels as') (arm_locals as') (arm_into as' c s (ty_of a) (y.0 i) d) (sym q i) (m + met_labels all) u ++ met c s (g i)))
  one_text c e d xs (of_repeat {s = s} {is = is} {e = a} {b = b} {t = t'} {u = u'} head body after fs {xs = us} {ys = vs} g p q) l t n o =
      let f = formulas_are is fs g in
      let k = three l head.0 body.0 after.0 (named p ++ named q) n in
      let inside = looping c (label l) (label (l + 2)) in
      let x = one_text (looping c head after) a t' us p (l + 3) (t + 1) (from_left (l + 3) (named p) (named q) k.3) (order_left (t + 1) us _ o.1) ∙ (λ i. into a (looping c (label (k.0 i)) (label (k.2 i))) (l + 3) (t + 1) (o.0 i)) in
      let r = behind a inside (l + 3) (t + 1) t us _ x o.1 in
      let u = t + 1 + locals a in
      let y = one_text (looping c head after) b u' vs q (l + 3 + labels a) (u + 1) (labels_behind p (l + 3) (named q) k.3) (order_left (u + 1) vs _ r.1) ∙ (λ i. into b (looping c (label (k.0 i)) (label (k.2 i))) (l + 3 + labels a) (u + 1) (r.0 i)) in
      let own = (λ i. o.0 i ∷ (numbers (made (x i)) ++ r.0 i ∷ numbers (made (y i)))) ∙ own_locals t (locals a) (locals b) _ _ (numbers_of a inside (l + 3) (t + 1) t) (numbers_of b inside (l + 3 + labels a) (u + 1) u) in
      λ i. Turns (ends s (Goto (label (k.0 i)))) (at_head (looping c (label (k.0 i)) (label (k.2 i))) (label (k.0 i)) (head_of c (f i))) ∷ Makes (o.0 i) (ty_of a) ∷ (x i
      ++ Turns (ends s (If (moved (o.0 i)) (label (k.1 i)) (label (k.2 i)))) (at (looping c (label (k.0 i)) (label (k.2 i))) (label (k.1 i))) ∷ Makes (r.0 i) (ty_of b)
      ∷ (y i ++ Turns (ends s (Goto (label (k.0 i)))) (at c (label (k.2 i))) ∷ Owns (label (k.0 i)) (own i) ∷ put_unit s d ∷ []))
  one_text c e d xs of_panics l t n o = refl
  one_text c e d xs (of_returned {s = s} {e = a} {xs = us} p) l t n o =
      let x = one_text c a 0 us p l t n (order_left t us _ o) in
      λ i. x i ++ Leaves (ends s Return) ∷ []
  one_text c e d xs (of_endless {s = s} {is = is} {b = b} {u = u'} head fs {ys = vs} g p) l t n o =
      let f = formulas_are is fs g in
      let y = one_text (looping c head head) b u' vs p (l + 1) (t + 1) n.1 (order_left (t + 1) vs _ o.1) ∙ (λ i. into b (looping c (label (n.0 i)) (label (n.0 i))) (l + 1) (t + 1) (o.0 i)) in
      let own = (λ i. o.0 i ∷ numbers (made (y i))) ∙ own_local t (locals b) _ (numbers_of b (looping c (label l) (label l)) (l + 1) (t + 1) t) in
      λ i. Turns (ends s (Goto (label (n.0 i)))) (at_head (looping c (label (n.0 i)) (label (n.0 i))) (label (n.0 i)) (head_of c (f i))) ∷ Makes (o.0 i) (ty_of b)
      ∷ (y i ++ Leaves (ends s (Goto (label (n.0 i)))) ∷ Owns (label (n.0 i)) (own i) ∷ [])
  one_text c e d xs (of_until_break {s = s} {is = is} {b = b} {u = u'} head after fs {ys = vs} g p) l t n o =
      let f = formulas_are is fs g in
      let k = two l head.0 after.0 (named p) n in
      let y = one_text (looping c head after) b u' vs p (l + 2) (t + 1) k.2 (order_left (t + 1) vs _ o.1) ∙ (λ i. into b (looping c (label (k.0 i)) (label (k.1 i))) (l + 2) (t + 1) (o.0 i)) in
      let own = (λ i. o.0 i ∷ numbers (made (y i))) ∙ own_local t (locals b) _ (numbers_of b (looping c (label l) (label (l + 1))) (l + 2) (t + 1) t) in
      λ i. Turns (ends s (Goto (label (k.0 i)))) (at_head (looping c (label (k.0 i)) (label (k.1 i))) (label (k.0 i)) (head_of c (f i))) ∷ Makes (o.0 i) (ty_of b)
      ∷ (y i ++ Turns (ends s (Goto (label (k.0 i)))) (at c (label (k.1 i))) ∷ Owns (label (k.0 i)) (own i) ∷ put_unit s d ∷ [])
  one_text c e d xs (of_break_off {s = s} m q) l t n o = λ i. die_from s (inner c m q i).depth c.scope ++ Leaves (ends s (Goto (inner c m q i).after)) ∷ []
  one_text c e d xs (of_go_on {s = s} m q) l t n o = λ i. die_from s (inner c m q i).depth c.scope ++ Leaves (ends s (Goto (inner c m q i).head)) ∷ []

  one_tests : (c : Around) (s : Span) (T : Ty) (x : Place) (as' : TypedArms) (to : Option Label) (D : Decision) (d : ℕ) (xs : List Line) (p : Tests c s T x as' to D d xs) (l t : ℕ) → From l (named_tests p) → InOrder t xs
      → xs ≡ numbered_tests c s T x as' to D d l t
  one_tests c s T x as' to D d xs (at_arm p) l t n o = one_arm c s T x as' _ d xs p l t n o
  one_tests c s T x as' to D d xs (on_truth {D = D'} {E = E'} u yes' no' {xs = us} {ys = vs} h p q) l t n o =
      let k = two l yes'.0 no'.0 (named_tests p ++ named_tests q) n in
      let y = one_tests c s T x as' to D' d us p (l + 2) (t + 1) (from_left (l + 2) (named_tests p) (named_tests q) k.2) (order_left (t + 1) us _ o.1) in
      let z = one_tests c s T x as' to E' d vs q (l + 2 + tests_take 2 (arm_labels as') D') (t + 1 + tests_take 1 (arm_locals as') D') (labels_behind_tests p (l + 2) (named_tests q) k.2) (behind_tests c s T x as' to D' d (l + 2) (t + 1) us _ y o.1) in
      λ i. Makes (o.0 i) bool ∷ puts s (o.0 i) (Use (Copy x)) ∷ split c s (o.0 i) (label (k.0 i)) (label (k.1 i)) to (y i) (z i)
  one_tests c s T x as' to D d xs (on_literal {z = v} {D = D'} {E = E'} u yes' no' j {xs = us} {ys = vs} h g p q) l t n o =
      let k = two l yes'.0 no'.0 (named_tests p ++ named_tests q) n in
      let y = one_tests c s T x as' to D' d us p (l + 2) (t + 1) (from_left (l + 2) (named_tests p) (named_tests q) k.2) (order_left (t + 1) us _ o.1) in
      let z = one_tests c s T x as' to E' d vs q (l + 2 + tests_take 2 (arm_labels as') D') (t + 1 + tests_take 1 (arm_locals as') D') (labels_behind_tests p (l + 2) (named_tests q) k.2) (behind_tests c s T x as' to D' d (l + 2) (t + 1) us _ y o.1) in
      let e = sym (ap kind_of h) in
      λ i. Makes (o.0 i) bool ∷ puts s (o.0 i) (Binary Eq (Copy x) (Const (lit.Int v (e i)))) ∷ split c s (o.0 i) (label (k.0 i)) (label (k.1 i)) to (y i) (z i)

  one_arm : (c : Around) (s : Span) (T : Ty) (x : Place) (as' : TypedArms) (n d : ℕ) (xs : List Line) (p : ArmInto c s T x as' n d xs) (l t : ℕ) → From l (named_arm p) → InOrder t xs → xs ≡ arm_into as' c s T x d n l t
  one_arm c s T x as' m d xs (of_unbound p) l t n o = one_text c _ d xs p l t n o
  one_arm c s T x as' m d xs (of_bound {e = a} {o = w} y {xs = us} e k p) l t n o =
      let z = one_text (binds c y) a d us p l (t + 1) n (order_left (t + 1) us _ o.1) ∙ (λ i. into a (binds c (o.0 i)) l (t + 1) d) in
      let v = one_takes c.types T x w k in
      λ i. Makes (o.0 i) T ∷ puts s (o.0 i) (Use (v i)) ∷ (z i ++ dies_in false s (o.0 i))
  one_arm c s T x as' m d xs (of_later p) l t n o = one_arm c s T x _ _ d xs p l t n o

  one_place : (c : Around) (e : TypedExpr) (x : Place) (xs : List Line) (p : PlaceOf c e x xs) (l t : ℕ) → From l (named_place p) → InOrder t xs
      → (x ≡ place_of c.scope t e) × (xs ≡ text_before e c l t)
  one_place c e x xs (of_name {v = v} y q) l t n o = (found c.scope v y q, refl)
  one_place c e x xs (of_part_place {e = a} {n = m} {p = z} {xs = us} p) l t n o =
      let y = one_place c a z us p l t n o in
      (ap (λ w. part_place w m) y.0, y.1)
  one_place c e x xs (of_temporary {t = t'} {xs = us} k p) l t n o =
      let y = one_text c e t' us p l (t + 1) n o.1 ∙ ap (into e c l (t + 1)) o.0 in
      (ap whole o.0 ∙ sym (whole_temporary c.scope t e k), (λ i. Makes (o.0 i) (ty_of e) ∷ y i) ∙ sym (temporary_before e c l t k))

  one_rest : (c : Around) (outer : Bool) (s : Span) (ss : TypedStmts) (d : ℕ) (xs : List Line) (p : Rest c outer s ss d xs) (l t : ℕ) → From l (named_rest p) → InOrder t xs → xs ≡ rest ss outer s c l t d
  one_rest c outer s ss d xs of_done l t n o = refl
  one_rest c outer s ss d xs (of_last p) l t n o = one_text c _ d xs p l t n o
  one_rest c outer s ss d xs (of_leaving {e = a} {t = t'} {xs = us} p) l t n o =
      let x = one_text c a t' us p l (t + 1) n o.1 ∙ ap (into a c l (t + 1)) o.0 in
      λ i. Makes (o.0 i) (ty_of a) ∷ x i
  one_rest c outer s ss d xs (of_bind {e = a} {ss = ss'} {t = t'} {xs = us} {ys = vs} p q) l t n o =
      let x = one_text c a t' us p l (t + 1) (from_left l (named p) (named_rest q) n) (order_left (t + 1) us _ o.1) ∙ ap (into a c l (t + 1)) o.0 in
      let u = t + 1 + locals a in
      let y = one_rest (binds c t') outer s ss' d vs q (l + labels a) u (labels_behind p l (named_rest q) n) (order_left u vs _ (behind a c l (t + 1) t us _ x o.1)) ∙ (λ i. rest ss' outer s (binds c (o.0 i)) (l + labels a) u d) in
      λ i. Makes (o.0 i) (ty_of a) ∷ (x i ++ (y i ++ dies_in outer s (o.0 i)))
  one_rest c outer s ss d xs (of_run {e = a} {ss = ss'} {t = t'} {xs = us} {ys = vs} p q) l t n o =
      let x = one_text c a t' us p l (t + 1) (from_left l (named p) (named_rest q) n) (order_left (t + 1) us _ o.1) ∙ ap (into a c l (t + 1)) o.0 in
      let u = t + 1 + locals a in
      let y = one_rest c outer s ss' d vs q (l + labels a) u (labels_behind p l (named_rest q) n) (behind a c l (t + 1) t us vs x o.1) in
      λ i. Makes (o.0 i) (ty_of a) ∷ (x i ++ y i)

  one_args : (c : Around) (es : TypedExprs) (ts : List ℕ) (xs : List Line) (p : Args c es ts xs) (l t : ℕ) → From l (named_args p) → InOrder t xs → (ts ≡ temporaries es t) × (xs ≡ args es c l t)
  one_args c es ts xs of_none l t n o = (refl, refl)
  one_args c es ts xs (of_more {e = a} {es = es'} {t = t'} {ts = ts'} {xs = us} {ys = vs} p q) l t n o =
      let x = one_text c a t' us p l (t + 1) (from_left l (named p) (named_args q) n) (order_left (t + 1) us _ o.1) ∙ ap (into a c l (t + 1)) o.0 in
      let w = one_args c es' ts' vs q (l + labels a) (t + 1 + locals a) (labels_behind p l (named_args q) n) (behind a c l (t + 1) t us vs x o.1) in
      (λ i. o.0 i ∷ w.0 i, λ i. Makes (o.0 i) (ty_of a) ∷ (x i ++ w.1 i))

-- of an expression that is no block
not_block : (e : TypedExpr) (c : Around) (l t : ℕ) → is_block e ≡ false → into e c l t 0 ≡ body_text e c l t
not_block (block ty s ss) c l t q = absurd (true≢false q)
not_block e c l t q = refl

pub one_body_text : (c : Around) (e : TypedExpr) (xs : List Line) (p : IntoBody c e xs) (l t : ℕ) → From l (named_body p) → InOrder t xs → xs ≡ body_text e c l t
one_body_text c e xs (of_outermost p) l t n o = one_rest c true _ _ 0 xs p l t n o
one_body_text c e xs (of_other q p) l t n o = one_text c e 0 xs p l t n o ∙ not_block e c l t q
