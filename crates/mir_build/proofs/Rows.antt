-- Where each variable is in scope and no invariant is refused, the numbered text is a text of the rows, which name their labels in order.
use Rattle.std.proofs.Common.{◌≡◌, ◌∙◌, refl, ap, sym, subst, true≢false, ℕ, zero, suc, ◌+◌, ◌-◌, ◌≤◌, ◌&&◌, Bool, true, false, List, [], ◌∷◌, ◌++◌, length, length-append, map, Option, Some, None, append-nil, arith}
use Rattle.std.specs.Prelude.{is_none}
use Rattle.std.specs.List.{slice_get, range_with_len}
use Rattle.std.proofs.lemmas.Option.{slice_get_within, slice_get-get_or}
use Rattle.text_core.specs.declared.span.Span.{Span}
use Rattle.logic_term.specs.declared.kinds.Label.{Label}
use Rattle.logic_term.specs.Ty.{Ty, int}
use Rattle.source_kinds.specs.declared.kinds.IntKind.{IntKind}
use Rattle.mir_ir.specs.declared.place.Place.{Place}
use Rattle.logic_term.specs.declared.pattern.BindingKind.TheVariants.{Value, Shared, Unique}
use Rattle.logic_term.specs.Pattern.{Pat, wild, bound, literal, truth as truth_pattern, shape}
use Rattle.source_kinds.specs.Range.{fits}
use Rattle.pat_check.specs.Decision.{Decision}
use Rattle.pat_check.specs.Flat.{is_flat, all_flat, FlatDecision, at_leaf, flat_tree}
use Rattle.pat_check.specs.Flat as flat
use Rattle.pat_check.proofs.FlatTrees.{flat_decision}
use Rattle.pat_types.specs.declared.names.BoundName.{BoundName}
use Rattle.pat_types.specs.Laws.{BindsAlone}
use Rattle.type_check.specs.declared.assertion.Assertion.{Assertion}
use Rattle.type_check.specs.TypedExpr.{TypedExpr, TypedStmts, TypedExprs, integer, truth, variable, negative, denied, cast, binary, lazy, assign, update, call, make, part, block, branch, choice, matched, repeat, panics, returned, endless}
use Rattle.type_check.specs.TypedExpr.{until_break, break_off, go_on, done, last, leaving, bind, run, none, more, TypedArms, no_arms, with_arm}
use Rattle.type_check.specs.Leaves.{leaves, all_arms_leave}
use Rattle.type_check.specs.TypedExprView.{ty_of, patterns_of}
use Rattle.type_check.specs.FirstBad.{bad_among, bad_in, bad_in_arms, bad_in_stmts, bad_in_exprs, match_refusal}
use Rattle.type_check.specs.Answers.{or_else}
use Rattle.type_check.specs.WellTyped.{Surroundings, within_loop, IsWellTyped, StatementsFit, ArgumentsFit, PartsFit, ArmsFit}
use Rattle.mir_build.specs.Lowering.{is_place, Around, accepted, whole, binds, looping, innermost, Into, of_integer, of_truth, of_variable, of_negative, of_denied, of_cast, of_binary, of_lazy, of_assign, of_update, of_call, of_make, of_part, of_block, of_branch}
use Rattle.mir_build.specs.Lowering.{of_choice, of_leaving_choice, of_repeat, of_panics, of_returned, of_endless, of_until_break, of_break_off, of_go_on, Rest, of_done, of_last, of_leaving, of_bind, of_run, Args, of_none, of_more, PlaceOf, of_name}
use Rattle.mir_build.specs.Lowering.{of_part_place, of_temporary, of_matched, Tests, at_arm, on_truth, on_literal, ArmInto, of_unbound, of_bound, of_later, met, labels_at, IntoBody, of_outermost, of_other, named, named_place, named_tests, named_arm}
use Rattle.mir_build.specs.Lowering.{named_rest, named_args, named_body}
use Rattle.mir_build.specs.Text.{Line, Makes}
use Rattle.mir_build.specs.Numbered.{kind_of, behind_label, met_labels, tests_take, tests_text, tests_of, arm_labels, arm_locals, arm_into, temporary_count, no_loop, loop_at, place_of, text_before, place_before, choice_labels, choice_text}
use Rattle.mir_build.specs.Numbered.{formula_of, into, rest, args, body_text, labels, labels_in, locals, temporaries, label, variable_place, between}
use Rattle.mir_build.proofs.Accepted.{first_none, second_none, both_hold, flat_match, all_accepted}
use Rattle.mir_build.proofs.Fills.{numbers_of}
use Rattle.mir_build.proofs.Following.{From, from_both, then_two, then_three}
use Rattle.mir_build.proofs.Taking.{takes}
use Rattle.mir_build.proofs.Rowwise.{labels_then, labels_then_args, labels_then_place, labels_then_tests}

-- there is a place for each variable
abbrev pub IsFor : List Ty → List Place → Type 0
IsFor Γ scope = length Γ ≡ length scope

in_scope : (Γ : List Ty) (scope : List Place) (v : ℕ) (t : Ty) → IsFor Γ scope → slice_get Γ v ≡ Some t → slice_get scope v ≡ Some (variable_place scope v)
in_scope Γ scope v t h e = slice_get-get_or scope v (whole 0) (omega (arith, slice_get_within Γ v t e, h))

one_more : (Γ : List Ty) (scope : List Place) (t : Ty) (x : Place) → IsFor Γ scope → IsFor (Γ ++ t ∷ []) (scope ++ x ∷ [])
one_more Γ scope t x h = omega (arith, length-append Γ (t ∷ []), length-append scope (x ∷ []), h)

range_split : (n a b : ℕ) → range_with_len n (a + b) ≡ range_with_len n a ++ range_with_len (n + a) b
range_split n zero b = let p : 0 + b ≡ b = omega arith in let q : n + 0 ≡ n = omega arith in rw (p, q) refl
range_split n (suc a) b =
    let p : suc a + b ≡ suc (a + b) = omega arith in
    let q : n + suc a ≡ n + 1 + a = omega arith in
    rw (p, q) (ap (λ xs. n ∷ xs) (range_split (n + 1) a b))

-- a loop is around where a jump needs one
abbrev pub HasLoop : Surroundings → Around → Type 0
HasLoop σ c = σ.in_loop ≡ true → 1 ≤ length c.loops

pub outside_loops : false ≡ true → ⊥
outside_loops e = true≢false (sym e)

entered : (c : Around) (head after : Label) → 1 ≤ length (looping c head after).loops
entered c head after = omega (arith, length-append c.loops (record { head = head; after = after; depth = length c.scope } ∷ []))

innermost_is : (c : Around) → 1 ≤ length c.loops → innermost c ≡ Some (loop_at c.loops)
innermost_is c h = slice_get-get_or c.loops (length c.loops - 1) no_loop (omega (arith, h))

-- the locals of a loop's own
pub own_locals : (t a b : ℕ) (xs ys : List ℕ) → xs ≡ range_with_len (t + 1) a → ys ≡ range_with_len (t + 1 + a + 1) b → t ∷ (xs ++ (t + 1 + a) ∷ ys) ≡ between t (t + 1 + a + 1 + b)
own_locals t a b xs ys p q =
    let n : t + 1 + a + 1 + b - t ≡ suc (a + suc b) = omega arith in
    rw (p, q, n) (ap (λ zs. t ∷ zs) (sym (range_split (t + 1) a (suc b))))

-- the same of a loop without a condition
pub own_local : (t a : ℕ) (xs : List ℕ) → xs ≡ range_with_len (t + 1) a → t ∷ xs ≡ between t (t + 1 + a)
own_local t a xs p = let n : t + 1 + a - t ≡ suc a = omega arith in rw (p, n) refl

-- a text of the rows whose labels are l, l + 1 and so on
abbrev pub Lowered : Around → TypedExpr → ℕ → ℕ → List Line → Type 0
Lowered c e d l xs = (p : Into c e d xs) × From l (named p)

abbrev pub RestLowered : Around → Bool → Span → TypedStmts → ℕ → ℕ → List Line → Type 0
RestLowered c outer s ss d l xs = (p : Rest c outer s ss d xs) × From l (named_rest p)

abbrev pub ArgsLowered : Around → TypedExprs → List ℕ → ℕ → List Line → Type 0
ArgsLowered c es ts l xs = (p : Args c es ts xs) × From l (named_args p)

abbrev pub PlaceLowered : Around → TypedExpr → Place → ℕ → List Line → Type 0
PlaceLowered c e x l xs = (p : PlaceOf c e x xs) × From l (named_place p)

-- a place, where what names one is lowered, and the value of what names none
target : (e : TypedExpr) (c : Around) (l t : ℕ) → (is_place e ≡ true → PlaceLowered c e (place_of c.scope t e) l (place_before e c l t)) → Lowered c e t l (into e c l (t + 1) t) → PlaceLowered c e (place_of c.scope t e) l (text_before e c l t)
target (variable ty s v) c l t q p = q refl
target (part ty s e n) c l t q p = q refl
target e c l t q p = (of_temporary refl p.0, p.1)

-- a cast, by its operand
widened : (ty : Ty) (k : IntKind) (s : Span) (e : TypedExpr) (c : Around) (l t d : ℕ) → ty ≡ int k → Lowered c e t l (into e c l (t + 1) t) → Lowered c (cast ty s e) d l (into (cast ty s e) c l t d)
widened ty k s e c l t d q p =
    let row : Lowered c (cast (int k) s e) d l (into (cast (int k) s e) c l t d) = (of_cast p.0, p.1) in
    subst (λ u. Lowered c (cast u s e) d l (into (cast u s e) c l t d)) (sym q) row

-- a loop, by its condition and its body
looped : (ty : Ty) (s : Span) (is : List Assertion) (e b : TypedExpr) (c : Around) (l t d : ℕ) → is ≡ map accepted (map formula_of is) → Lowered (looping c (label l) (label (l + 2))) e t (l + 3) (into e (looping c (label l) (label (l + 2))) (l + 3) (t + 1) t)
    → Lowered (looping c (label l) (label (l + 2))) b (t + 1 + locals e) (l + 3 + labels e) (into b (looping c (label l) (label (l + 2))) (l + 3 + labels e) (t + 1 + locals e + 1) (t + 1 + locals e))
    → Lowered c (repeat ty s is e b) d l (into (repeat ty s is e b) c l t d)
looped ty s is e b c l t d g p q =
    let row : Lowered c (repeat ty s is e b) d l _ = (of_repeat (label l) (label (l + 1)) (label (l + 2)) (map formula_of is) g p.0 q.0, then_three l (named p.0 ++ named q.0) (labels_then p.0 (l + 3) (named q.0) p.1 q.1)) in
    let own = own_locals t (locals e) (locals b) _ _ (numbers_of e (looping c (label l) (label (l + 2))) (l + 3) (t + 1) t) (numbers_of b (looping c (label l) (label (l + 2))) (l + 3 + labels e) (t + 1 + locals e + 1) (t + 1 + locals e)) in
    rw own at row

-- a loop that is not left, by its body
circled : (ty : Ty) (s : Span) (is : List Assertion) (b : TypedExpr) (c : Around) (l t d : ℕ) → is ≡ map accepted (map formula_of is) → Lowered (looping c (label l) (label l)) b t (l + 1) (into b (looping c (label l) (label l)) (l + 1) (t + 1) t)
    → Lowered c (endless ty s is b) d l (into (endless ty s is b) c l t d)
circled ty s is b c l t d g p =
    let row : Lowered c (endless ty s is b) d l _ = (of_endless (label l) (map formula_of is) g p.0, (refl, p.1)) in
    let own = own_local t (locals b) _ (numbers_of b (looping c (label l) (label l)) (l + 1) (t + 1) t) in
    rw own at row

-- a loop that a `break` leaves, by its body
spun : (ty : Ty) (s : Span) (is : List Assertion) (b : TypedExpr) (c : Around) (l t d : ℕ) → is ≡ map accepted (map formula_of is)
    → Lowered (looping c (label l) (label (l + 1))) b t (l + 2) (into b (looping c (label l) (label (l + 1))) (l + 2) (t + 1) t) → Lowered c (until_break ty s is b) d l (into (until_break ty s is b) c l t d)
spun ty s is b c l t d g p =
    let row : Lowered c (until_break ty s is b) d l _ = (of_until_break (label l) (label (l + 1)) (map formula_of is) g p.0, then_two l (named p.0) p.1) in
    let own = own_local t (locals b) _ (numbers_of b (looping c (label l) (label (l + 1))) (l + 2) (t + 1) t) in
    rw own at row

-- `if` with `else`, by its condition and its sides
chosen : (both : Bool) (ty : Ty) (s : Span) (e a b : TypedExpr) (c : Around) (l m t d : ℕ) (xs ys zs : List Line) → leaves a && leaves b ≡ both → m ≡ l + labels e → Lowered c e t l xs → Lowered c a d (m + choice_labels both) ys
    → Lowered c b d (m + choice_labels both + labels a) zs → Lowered c (choice ty s e a b) d l (Makes t (ty_of e) ∷ (xs ++ choice_text both c s t m ys zs))
chosen true ty s e a b c l m t d xs ys zs n k p q r =
    let ns = named q.0 ++ named r.0 in
    let behind : From m (m ∷ (m + 1) ∷ ns) = then_two m ns (labels_then q.0 (m + 2) (named r.0) q.1 r.1) in
    (of_leaving_choice (label m) (label (m + 1)) n p.0 q.0 r.0, labels_then p.0 l (m ∷ (m + 1) ∷ ns) p.1 (subst (λ i. From i (m ∷ (m + 1) ∷ ns)) k behind))
chosen false ty s e a b c l m t d xs ys zs n k p q r =
    let ns = named q.0 ++ named r.0 in
    let behind : From m (m ∷ (m + 1) ∷ (m + 2) ∷ ns) = then_three m ns (labels_then q.0 (m + 3) (named r.0) q.1 r.1) in
    (of_choice (label m) (label (m + 1)) (label (m + 2)) n p.0 q.0 r.0, labels_then p.0 l (m ∷ (m + 1) ∷ (m + 2) ∷ ns) p.1 (subst (λ i. From i (m ∷ (m + 1) ∷ (m + 2) ∷ ns)) k behind))

-- ---- `match`

abbrev pub TestsLowered : Around → Span → Ty → Place → TypedArms → Option Label → Decision → ℕ → ℕ → List Line → Type 0
TestsLowered c s T x as' to D d l xs = (p : Tests c s T x as' to D d xs) × From l (named_tests p)

abbrev pub ArmLowered : Around → Span → Ty → Place → TypedArms → ℕ → ℕ → ℕ → List Line → Type 0
ArmLowered c s T x as' n d l xs = (p : ArmInto c s T x as' n d xs) × From l (named_arm p)

-- the one name of a flat pattern has the type of the value, and there is no other
own_type : (u : Ty) (q : Pat) (y : BoundName) → BindsAlone u q (y ∷ []) → is_flat u q ≡ true → y.ty ≡ u
own_type u (wild t) y h f = absurd (cc)
own_type u (bound t x Value) y h f = let e : y ≡ h.0 = cc in ap (λ (z : BoundName). z.ty) e ∙ h.2
own_type u (bound t x Shared) y h f = absurd (cc)
own_type u (bound t x Unique) y h f = absurd (cc)
own_type u (literal t k z) y h f = absurd (cc)
own_type u (truth_pattern t b) y h f = absurd (cc)
own_type u (shape t k ps) y h f = absurd (cc)

no_second : (u : Ty) (q : Pat) (y z : BoundName) (ys : List BoundName) → BindsAlone u q (y ∷ z ∷ ys) → is_flat u q ≡ true → ⊥
no_second u (wild t) y z ys h f = cc
no_second u (bound t x k) y z ys h f = let e = h.1 in cc
no_second u (literal t k w) y z ys h f = cc
no_second u (truth_pattern t b) y z ys h f = cc
no_second u (shape t k ps) y z ys h f = cc

tests_lower : (c : Around) (s : Span) (T : Ty) (x : Place) (as' : TypedArms) (to : Option Label) (ps : List Pat) (D : Decision) (d : ℕ) → FlatDecision T ps D
    → ((n : ℕ) (q : Pat) → slice_get ps n ≡ Some q → (l t : ℕ) → ArmLowered c s T x as' n d l (arm_into as' c s T x d n l t)) → (l t : ℕ)
    → TestsLowered c s T x as' to D d l (tests_text c s T x to (arm_labels as') (arm_locals as') (arm_into as' c s T x d) D l t)
tests_lower c s T x as' to ps D d (at_leaf {n = n} q e) arms l t =
    let p = arms n q e l t in
    (at_arm p.0, p.1)
tests_lower c s T x as' to ps D d (flat.on_truth {D = D'} {E = E'} e p q) arms l t =
    let y = tests_lower c s T x as' to ps D' d p arms (l + 2) (t + 1) in
    let z = tests_lower c s T x as' to ps E' d q arms (l + 2 + tests_take 2 (arm_labels as') D') (t + 1 + tests_take 1 (arm_locals as') D') in
    (on_truth t (label l) (label (l + 1)) e y.0 z.0, then_two l (named_tests y.0 ++ named_tests z.0) (labels_then_tests y.0 (l + 2) (named_tests z.0) y.1 z.1))
tests_lower c s T x as' to ps D d (flat.on_literal {D = D'} {E = E'} k {z = v} e f p q) arms l t =
    let y = tests_lower c s T x as' to ps D' d p arms (l + 2) (t + 1) in
    let z = tests_lower c s T x as' to ps E' d q arms (l + 2 + tests_take 2 (arm_labels as') D') (t + 1 + tests_take 1 (arm_locals as') D') in
    let same : k ≡ kind_of T = sym (ap kind_of e) in (
      on_literal t (label l) (label (l + 1)) (kind_of T) (e ∙ ap int same) (subst (λ j. fits j v ≡ true) same f) y.0 z.0,
      then_two l (named_tests y.0 ++ named_tests z.0) (labels_then_tests y.0 (l + 2) (named_tests z.0) y.1 z.1),
    )

is_behind : (all : Bool) (m : ℕ) → all ≡ is_none (behind_label all m)
is_behind true m = refl
is_behind false m = refl

then_behind : (all : Bool) (m : ℕ) (ns : List ℕ) → From (m + met_labels all) ns → From m (labels_at (behind_label all m) ++ ns)
then_behind true m ns h = from_both m (m + 0) [] ns (omega arith) tt h
then_behind false m ns h = from_both m (m + 1) (m ∷ []) ns (omega arith) (refl, tt) h

-- a match, by its place and its tests
matched_by : (ty : Ty) (s : Span) (e : TypedExpr) (as' : TypedArms) (c : Around) (l t d : ℕ) (D : Decision) (zs : List Line) → all_flat (ty_of e) (patterns_of as') ≡ true → flat_tree (ty_of e) (patterns_of as') ≡ Some D
    → PlaceLowered c e (place_of c.scope t e) l (text_before e c l t)
    → zs ≡ tests_of c s (ty_of e) (place_of c.scope t e) (behind_label (all_arms_leave as') (l + labels e)) (arm_labels as') (arm_locals as')
    (arm_into as' c s (ty_of e) (place_of c.scope t e) d) (Some D) (l + labels e + met_labels (all_arms_leave as')) (t + temporary_count (is_place e) + locals e)
    → TestsLowered c s (ty_of e) (place_of c.scope t e) as' (behind_label (all_arms_leave as') (l + labels e)) D d (l + labels e + met_labels (all_arms_leave as')) zs → Lowered c (matched ty s e as') d l (into (matched ty s e as') c l t d)
matched_by ty s e as' c l t d D zs f q p r z =
    let m = l + labels e in
    let all = all_arms_leave as' in
    let to = behind_label all m in
    let row : Lowered c (matched ty s e as') d l _ = (of_matched D to f q (is_behind all m) p.0 z.0, labels_then_place p.0 l (labels_at to ++ named_tests z.0) p.1 (then_behind all m (named_tests z.0) z.1)) in
    subst (λ xs. Lowered c (matched ty s e as') d l xs)
    (λ i. text_before e c l t ++ ((r ∙ (λ j. tests_of c s (ty_of e) (place_of c.scope t e) to (arm_labels as') (arm_locals as') (arm_into as' c s (ty_of e) (place_of c.scope t e) d) (sym q j) (m + met_labels all) (t + temporary_count (is_place e) + locals e))) i ++ met c s to))
    row

mutual
  pub lowers : (σ : Surroundings) (Γ : List Ty) (e : TypedExpr) (c : Around) (l t d : ℕ) → IsFor Γ c.scope → HasLoop σ c → IsWellTyped σ Γ e → bad_in e ≡ None → Lowered c e d l (into e c l t d)
  lowers σ Γ (integer ty s z k) c l t d h o w g = (of_integer, tt)
  lowers σ Γ (truth ty s b) c l t d h o w g = (of_truth, tt)
  lowers σ Γ (variable ty s v) c l t d h o w g = (of_variable _ (in_scope Γ c.scope v ty h w) (takes c.types ty _), tt)
  lowers σ Γ (negative ty s e) c l t d h o w g =
      let p = lowers σ Γ e c l (t + 1) t h o w.4 g in
      (of_negative p.0, p.1)
  lowers σ Γ (denied ty s e) c l t d h o w g =
      let p = lowers σ Γ e c l (t + 1) t h o w.2 g in
      (of_denied p.0, p.1)
  lowers σ Γ (cast ty s e) c l t d h o w g = widened ty w.1 s e c l t d w.3 (lowers σ Γ e c l (t + 1) t h o w.5 g)
  lowers σ Γ (binary ty s op a b) c l t d h o w g =
      let u = t + 1 + locals a in
      let p = lowers σ Γ a c l (t + 1) t h o w.2 (first_none (bad_in a) (bad_in b) g) in
      let q = lowers σ Γ b c (l + labels a) (u + 1) u h o w.3 (second_none (bad_in a) (bad_in b) g) in
      (of_binary p.0 q.0, labels_then p.0 l (named q.0) p.1 q.1)
  lowers σ Γ (lazy ty s op a b) c l t d h o w g =
      let m = l + labels a in
      let p = lowers σ Γ a c l (t + 1) t h o w.3 (first_none (bad_in a) (bad_in b) g) in
      let q = lowers σ Γ b c (m + 3) (t + 1 + locals a) d h o w.4 (second_none (bad_in a) (bad_in b) g) in
      (of_lazy (label m) (label (m + 1)) (label (m + 2)) p.0 q.0, labels_then p.0 l (m ∷ (m + 1) ∷ (m + 2) ∷ named q.0) p.1 (then_three m (named q.0) q.1))
  lowers σ Γ (assign ty s a e) c l t d h o w g =
      let u = t + 1 + locals e in
      let p = lowers σ Γ e c l (t + 1) t h o w.3 (second_none (bad_in a) (bad_in e) g) in
      let f = first_none (bad_in a) (bad_in e) g in
      let q = target a c (l + labels e) u (places σ Γ a c (l + labels e) u h o w.2 f) (lowers σ Γ a c (l + labels e) (u + 1) u h o w.2 f) in
      (of_assign p.0 q.0, labels_then p.0 l (named_place q.0) p.1 q.1)
  lowers σ Γ (update ty s op a e) c l t d h o w g =
      let u = t + 1 + locals e in
      let p = lowers σ Γ e c l (t + 1) t h o w.4 (second_none (bad_in a) (bad_in e) g) in
      let f = first_none (bad_in a) (bad_in e) g in
      let q = target a c (l + labels e) u (places σ Γ a c (l + labels e) u h o w.3 f) (lowers σ Γ a c (l + labels e) (u + 1) u h o w.3 f) in
      (of_update _ p.0 q.0, labels_then p.0 l (named_place q.0) p.1 q.1)
  lowers σ Γ (call ty s f es) c l t d h o w g =
      let m = l + labels_in es in
      let p = arguments σ Γ es c l t _ h o w.3 g in
      (of_call (label m) p.0, labels_then_args p.0 l (m ∷ []) p.1 (refl, tt))
  lowers σ Γ (make ty s k es) c l t d h o w g =
      let p = made_of σ Γ es c l t h o w.1 g in
      (of_make p.0, p.1)
  lowers σ Γ (part ty s e n) c l t d h o w g =
      let q = target e c l t (places σ Γ e c l t h o w.1 g) (lowers σ Γ e c l (t + 1) t h o w.1 g) in
      (of_part (of_part_place q.0) (takes c.types ty _), q.1)
  lowers σ Γ (block ty s ss) c l t d h o w g =
      let p = rests σ Γ ty ss false s c l t d h o w g in
      (of_block p.0, p.1)
  lowers σ Γ (branch ty s e a) c l t d h o w g =
      let m = l + labels e in
      let p = lowers σ Γ e c l (t + 1) t h o w.3 (first_none (bad_in e) (bad_in a) g) in
      let q = lowers σ Γ a c (m + 3) (t + 1 + locals e) d h o w.4 (second_none (bad_in e) (bad_in a) g) in
      (of_branch (label m) (label (m + 1)) (label (m + 2)) p.0 q.0, labels_then p.0 l (m ∷ (m + 1) ∷ (m + 2) ∷ named q.0) p.1 (then_three m (named q.0) q.1))
  lowers σ Γ (choice ty s e a b) c l t d h o w g =
      let m = l + labels e in
      let u = t + 1 + locals e in
      let p = lowers σ Γ e c l (t + 1) t h o w.3 (first_none (bad_in e) (or_else (bad_in a) (bad_in b)) g) in
      let both = leaves a && leaves b in
      let n = m + choice_labels both in
      let q = lowers σ Γ a c n u d h o w.4 (first_none (bad_in a) (bad_in b) (second_none (bad_in e) (or_else (bad_in a) (bad_in b)) g)) in
      let r = lowers σ Γ b c (n + labels a) (u + locals a) d h o w.5 (second_none (bad_in a) (bad_in b) (second_none (bad_in e) (or_else (bad_in a) (bad_in b)) g)) in
      chosen both ty s e a b c l m t d _ _ _ refl refl p q r
  lowers σ Γ (matched ty s e as') c l t d h o w g =
      let rest = second_none (bad_in e) (or_else (bad_in_arms as') (match_refusal s (ty_of e) (patterns_of as'))) g in
      let first = first_none (bad_in e) (or_else (bad_in_arms as') (match_refusal s (ty_of e) (patterns_of as'))) g in
      let f = flat_match s (ty_of e) (patterns_of as') (second_none (bad_in_arms as') (match_refusal s (ty_of e) (patterns_of as')) rest) in
      let p = target e c l t (places σ Γ e c l t h o w.0 first) (lowers σ Γ e c l (t + 1) t h o w.0 first) in
      let arms = arms_lower σ Γ (ty_of e) ty as' c s (place_of c.scope t e) d h o w.1 (first_none (bad_in_arms as') (match_refusal s (ty_of e) (patterns_of as')) rest) f.flat in
      let tree = flat_decision (ty_of e) (patterns_of as') f.tree f.flat f.is_tree in
      let q = tests_lower c s (ty_of e) (place_of c.scope t e) as' (behind_label (all_arms_leave as') (l + labels e)) (patterns_of as') f.tree d tree arms (l + labels e + met_labels (all_arms_leave as')) (t + temporary_count (is_place e) + locals e) in
      matched_by ty s e as' c l t d f.tree _ f.flat f.is_tree p refl q
  lowers σ Γ (repeat ty s is e b) c l t d h o w g =
      let inside = looping c (label l) (label (l + 2)) in
      let u = t + 1 + locals e in
      let p = lowers (within_loop false σ) Γ e inside (l + 3) (t + 1) t h (λ e. absurd (outside_loops e)) w.4 (first_none (bad_in e) (bad_in b) (second_none (bad_among is) (or_else (bad_in e) (bad_in b)) g)) in
      let q = lowers (within_loop true σ) Γ b inside (l + 3 + labels e) (u + 1) u h (λ e. entered c (label l) (label (l + 2))) w.5 (second_none (bad_in e) (bad_in b) (second_none (bad_among is) (or_else (bad_in e) (bad_in b)) g)) in
      looped ty s is e b c l t d (all_accepted is (first_none (bad_among is) (or_else (bad_in e) (bad_in b)) g)) p q
  lowers σ Γ (panics ty s k) c l t d h o w g = (of_panics, tt)
  lowers σ Γ (returned ty s e) c l t d h o w g =
      let p = lowers σ Γ e c l t 0 h o w.2 g in
      (of_returned p.0, p.1)
  lowers σ Γ (endless ty s is b) c l t d h o w g =
      let p = lowers (within_loop true σ) Γ b (looping c (label l) (label l)) (l + 1) (t + 1) t h (λ e. entered c (label l) (label l)) w.4 (second_none (bad_among is) (bad_in b) g) in
      circled ty s is b c l t d (all_accepted is (first_none (bad_among is) (bad_in b) g)) p
  lowers σ Γ (until_break ty s is b) c l t d h o w g =
      let p = lowers (within_loop true σ) Γ b (looping c (label l) (label (l + 1))) (l + 2) (t + 1) t h (λ e. entered c (label l) (label (l + 1))) w.4 (second_none (bad_among is) (bad_in b) g) in
      spun ty s is b c l t d (all_accepted is (first_none (bad_among is) (bad_in b) g)) p
  lowers σ Γ (break_off ty s) c l t d h o w g = (of_break_off (loop_at c.loops) (innermost_is c (o w.1)), tt)
  lowers σ Γ (go_on ty s) c l t d h o w g = (of_go_on (loop_at c.loops) (innermost_is c (o w.1)), tt)

  -- what names a place
  places : (σ : Surroundings) (Γ : List Ty) (e : TypedExpr) (c : Around) (l t : ℕ) → IsFor Γ c.scope → HasLoop σ c → IsWellTyped σ Γ e → bad_in e ≡ None → is_place e ≡ true → PlaceLowered c e (place_of c.scope t e) l (place_before e c l t)
  places σ Γ (variable ty s v) c l t h o w g e = (of_name _ (in_scope Γ c.scope v ty h w), tt)
  places σ Γ (part ty s a n) c l t h o w g e =
      let q = target a c l t (places σ Γ a c l t h o w.1 g) (lowers σ Γ a c l (t + 1) t h o w.1 g) in
      (of_part_place q.0, q.1)
  places σ Γ _ c l t h o w g e = absurd (true≢false (sym e))

  pub rests : (σ : Surroundings) (Γ : List Ty) (ty : Ty) (ss : TypedStmts) (outer : Bool) (s : Span) (c : Around) (l t d : ℕ) → IsFor Γ c.scope → HasLoop σ c → StatementsFit σ Γ ty ss → bad_in_stmts ss ≡ None
      → RestLowered c outer s ss d l (rest ss outer s c l t d)
  rests σ Γ ty done outer s c l t d h o w g = (of_done, tt)
  rests σ Γ ty (last e) outer s c l t d h o w g =
      let p = lowers σ Γ e c l t d h o w.1 g in
      (of_last p.0, p.1)
  rests σ Γ ty (leaving e) outer s c l t d h o w g =
      let p = lowers σ Γ e c l (t + 1) t h o w.2 g in
      (of_leaving p.0, p.1)
  rests σ Γ ty (bind e ss) outer s c l t d h o w g =
      let p = lowers σ Γ e c l (t + 1) t h o w.0 (first_none (bad_in e) (bad_in_stmts ss) g) in
      let q = rests σ _ ty ss outer s (binds c t) (l + labels e) (t + 1 + locals e) d (one_more Γ c.scope (ty_of e) (whole t) h) o w.1 (second_none (bad_in e) (bad_in_stmts ss) g) in
      (of_bind p.0 q.0, labels_then p.0 l (named_rest q.0) p.1 q.1)
  rests σ Γ ty (run e ss) outer s c l t d h o w g =
      let p = lowers σ Γ e c l (t + 1) t h o w.0 (first_none (bad_in e) (bad_in_stmts ss) g) in
      let q = rests σ Γ ty ss outer s c (l + labels e) (t + 1 + locals e) d h o w.1 (second_none (bad_in e) (bad_in_stmts ss) g) in
      (of_run p.0 q.0, labels_then p.0 l (named_rest q.0) p.1 q.1)

  arms_lower : (σ : Surroundings) (Γ : List Ty) (u ty : Ty) (as' : TypedArms) (c : Around) (s : Span) (x : Place) (d : ℕ) → IsFor Γ c.scope → HasLoop σ c → ArmsFit σ Γ u ty as' → bad_in_arms as' ≡ None → all_flat u (patterns_of as') ≡ true
      → (n : ℕ) (q : Pat) → slice_get (patterns_of as') n ≡ Some q → (l t : ℕ) → ArmLowered c s u x as' n d l (arm_into as' c s u x d n l t)
  arms_lower σ Γ u ty no_arms c s x d h o w g f n q e l t = absurd (cc)
  arms_lower σ Γ u ty (with_arm r [] a as') c s x d h o w g f zero q e l t =
      let p = lowers σ Γ a c l t d h o (subst (λ Δ. IsWellTyped σ Δ a) (append-nil Γ) w.2) (first_none (bad_in a) (bad_in_arms as') g) in
      (of_unbound p.0, p.1)
  arms_lower σ Γ u ty (with_arm r (y ∷ []) a as') c s x d h o w g f zero q e l t =
      let p = lowers σ (Γ ++ y.ty ∷ []) a (binds c t) l (t + 1) d (one_more Γ c.scope y.ty (whole t) h) o w.2 (first_none (bad_in a) (bad_in_arms as') g) in
      (of_bound t (own_type u r y w.0.alone (both_hold (is_flat u r) (all_flat u (patterns_of as')) f).0) (takes c.types u x) p.0, p.1)
  arms_lower σ Γ u ty (with_arm r (y ∷ z ∷ ys) a as') c s x d h o w g f zero q e l t = absurd (no_second u r y z ys w.0.alone (both_hold (is_flat u r) (all_flat u (patterns_of as')) f).0)
  arms_lower σ Γ u ty (with_arm r ys a as') c s x d h o w g f (suc n) q e l t =
      let p = arms_lower σ Γ u ty as' c s x d h o w.3 (second_none (bad_in a) (bad_in_arms as') g) (both_hold (is_flat u r) (all_flat u (patterns_of as')) f).1 n q e l t in
      (of_later p.0, p.1)

  arguments : (σ : Surroundings) (Γ : List Ty) (es : TypedExprs) (c : Around) (l t : ℕ) (ts : List Ty) → IsFor Γ c.scope → HasLoop σ c → ArgumentsFit σ Γ es ts → bad_in_exprs es ≡ None → ArgsLowered c es (temporaries es t) l (args es c l t)
  arguments σ Γ none c l t ts h o w g = (of_none, tt)
  arguments σ Γ (more e es) c l t [] h o w g = absurd w
  arguments σ Γ (more e es) c l t (ty ∷ ts) h o w g =
      let p = lowers σ Γ e c l (t + 1) t h o w.1 (first_none (bad_in e) (bad_in_exprs es) g) in
      let q = arguments σ Γ es c (l + labels e) (t + 1 + locals e) ts h o w.2 (second_none (bad_in e) (bad_in_exprs es) g) in
      (of_more p.0 q.0, labels_then p.0 l (named_args q.0) p.1 q.1)

  made_of : (σ : Surroundings) (Γ : List Ty) (es : TypedExprs) (c : Around) (l t : ℕ) → IsFor Γ c.scope → HasLoop σ c → PartsFit σ Γ es → bad_in_exprs es ≡ None → ArgsLowered c es (temporaries es t) l (args es c l t)
  made_of σ Γ none c l t h o w g = (of_none, tt)
  made_of σ Γ (more e es) c l t h o w g =
      let p = lowers σ Γ e c l (t + 1) t h o w.0 (first_none (bad_in e) (bad_in_exprs es) g) in
      let q = made_of σ Γ es c (l + labels e) (t + 1 + locals e) h o w.1 (second_none (bad_in e) (bad_in_exprs es) g) in
      (of_more p.0 q.0, labels_then p.0 l (named_args q.0) p.1 q.1)

pub lowers_body : (σ : Surroundings) (Γ : List Ty) (e : TypedExpr) (c : Around) (l t : ℕ) → IsFor Γ c.scope → HasLoop σ c → IsWellTyped σ Γ e → bad_in e ≡ None → (p : IntoBody c e (body_text e c l t)) × From l (named_body p)
lowers_body σ Γ (block ty s ss) c l t h o w g =
    let p = rests σ Γ ty ss true s c l t 0 h o w g in
    (of_outermost p.0, p.1)
lowers_body σ Γ e c l t h o w g =
    let p = lowers σ Γ e c l t 0 h o w g in
    (of_other refl p.0, p.1)
