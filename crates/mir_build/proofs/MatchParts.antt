-- Matches of which nothing is refused: their trees, their arms by number, and how deep what is lowered of them is.
use Rattle.std.proofs.Common.{◌≡◌, refl, ap, sym, ◌∙◌, subst, get_or, ℕ, zero, suc, ◌+◌, ◌-◌, ◌*◌, ◌<◌, ◌≤◌, max, ℤ, Bool, true, false, cond, Option, Some, None, List, [], ◌∷◌, ◌++◌, drop, length, length-append, arith}
use Rattle.std.specs.Prelude.{is_some}
use Rattle.std.specs.Option.{option_map}
use Rattle.std.proofs.Math.Seq.{take-append_seam}
use Rattle.std.proofs.lemmas.List.{drop_all}
use Rattle.text_core.specs.declared.span.Span.{Span}
use Rattle.source_kinds.specs.declared.kinds.IntKind.{IntKind}
use Rattle.logic_term.specs.Matches.{bindings}
use Rattle.logic_term.specs.declared.pattern.Binding.{Binding}
use Rattle.logic_term.specs.Pattern.{Pat, wild, bound, literal, truth, shape}
use Rattle.logic_term.specs.Ty.{Ty, int, bool}
use Rattle.mir_ir.specs.declared.place.Place.{Place}
use Rattle.mir_ir.specs.declared.statement.Rvalue.TheVariants.{Use}
use Rattle.pat_check.specs.Decision.{Decision, leaf, switch, if_truth, if_literal}
use Rattle.pat_check.specs.Flat.{all_among, all_flat, both_sides, first_row, flat_tree, integer_rows, truth_rows, truth_tree}
use Rattle.pat_check.specs.Known.{among}
use Rattle.pat_check.specs.Tree.{IsTreeOf}
use Rattle.pat_check.specs.Typed.{fields_in, AllPats, Covers}
use Rattle.pat_check.proofs.FlatTrees.{flat_patterns_typed, flat_tree_covers, tree_is_flat}
use Rattle.pat_types.specs.declared.names.BoundName.{BoundName}
use Rattle.type_check.specs.FirstBad.{bad_in, bad_in_arms, match_refusal}
use Rattle.type_check.specs.Scalars.{is_scalar}
use Rattle.logic_term.specs.declared.kinds.Label.{Label}
use Rattle.type_check.specs.Leaves.{all_arms_leave}
use Rattle.type_check.specs.TypedExpr.{TypedExpr, TypedArms, matched, no_arms, with_arm}
use Rattle.type_check.specs.TypedExprView.{arms_of, arms_size, patterns_of, ty_of, typed_size}
use Rattle.type_check.specs.WellTyped.{unit}
use Rattle.type_check.specs.declared.typed.TypedArm.{TypedArm}
use Rattle.type_check.proofs.FlatMatches.{scalar_is_flat}
use Rattle.runnable.specs.CopyDecided.{is_copied}
use Rattle.mir_build.specs.Taking.{taken}
use Rattle.mir_build.specs.Text.{Line, Makes}
use Rattle.mir_build.specs.declared.builder.BodyText.{BodyText}
use Rattle.mir_build.specs.Built.{written}
use Rattle.mir_build.specs.Lowering.{Around, binds, dies_in, is_place, met, puts, whole}
use Rattle.mir_build.specs.Numbered.{arm_into, arm_labels, arm_locals, behind_label, met_labels, bound_locals, bound_text, into, labels, locals, place_of, temporary_count, tests_of, tests_text, text_before}
use Rattle.mir_build.specs.Reach.{reach, reach_in_arms}
use Rattle.mir_build.specs.Bindings.{all_die}
use Rattle.mir_build.proofs.Bindings.{one_more}
use Rattle.mir_build.proofs.Runs.{written-append}
use Rattle.mir_build.proofs.Accepted.{first_none, second_none, flat_match}

-- ---- the tree

there : (m : Option Decision) → is_some m ≡ true → (D : Decision) × (m ≡ Some D)
there None e = absurd (cc)
there (Some D) e = (D, refl)

pub typed : (t : Ty) (ps : List Pat) → all_flat t ps ≡ true → AllPats (fields_in []) ps t
typed t ps f = flat_patterns_typed (fields_in []) t ps f

pub covers : (t : Ty) (ps : List Pat) → is_scalar t ≡ true → all_flat t ps ≡ true → is_some (flat_tree t ps) ≡ true → Covers (fields_in []) ps t
covers t ps q f e = let D = there (flat_tree t ps) e in flat_tree_covers [] t ps D.0 f (scalar_is_flat t q) D.1

pub is_flat_tree : (t : Ty) (ps : List Pat) (D : Decision) → all_flat t ps ≡ true → IsTreeOf [] ps D → flat_tree t ps ≡ Some D
is_flat_tree t ps D f tree = tree_is_flat [] t ps D f tree

pub ruleset flat = (typed, covers, is_flat_tree)

pub is_of_scalar : (s : Span) (t : Ty) (ps : List Pat) → match_refusal s t ps ≡ None → is_scalar t ≡ true
is_of_scalar s t ps e = (flat_match s t ps e).scalar

pub is_flat : (s : Span) (t : Ty) (ps : List Pat) → match_refusal s t ps ≡ None → all_flat t ps ≡ true
is_flat s t ps e = (flat_match s t ps e).flat

pub has_tree : (s : Span) (t : Ty) (ps : List Pat) → match_refusal s t ps ≡ None → is_some (flat_tree t ps) ≡ true
has_tree s t ps e = ap is_some (flat_match s t ps e).is_tree

-- ---- the arms, by number

module _ {A : Type 0} (f : TypedArms → ℕ → A) where
  at_arm : (g : Pat → List BoundName → TypedExpr → A) → ((p : Pat) (ys : List BoundName) (e : TypedExpr) (as' : TypedArms) → f (with_arm p ys e as') zero ≡ g p ys e)
      → ((p : Pat) (ys : List BoundName) (e : TypedExpr) (as' : TypedArms) (n : ℕ) → f (with_arm p ys e as') (suc n) ≡ f as' n)
      → (as' : List TypedArm) (i : ℕ) (d : TypedArm) → i < length as' → f (arms_of as') i ≡ g (get_or as' i d).pattern (get_or as' i d).names.items (get_or as' i d).body
  at_arm g here on [] i d h = absurd (omega arith)
  at_arm g here on (a ∷ as') zero d h = here a.pattern a.names.items a.body (arms_of as')
  at_arm g here on (a ∷ as') (suc i) d h = on a.pattern a.names.items a.body (arms_of as') i ∙ at_arm g here on as' i d (omega arith)

  behind_arms : (x : A) → ((n : ℕ) → f no_arms n ≡ x) → ((p : Pat) (ys : List BoundName) (e : TypedExpr) (as' : TypedArms) (n : ℕ) → f (with_arm p ys e as') (suc n) ≡ f as' n)
      → (as' : List TypedArm) (i : ℕ) → length as' ≤ i → f (arms_of as') i ≡ x
  behind_arms x none on [] i h = none i
  behind_arms x none on (a ∷ as') zero h = absurd (omega arith)
  behind_arms x none on (a ∷ as') (suc i) h = on a.pattern a.names.items a.body (arms_of as') i ∙ behind_arms x none on as' i (omega arith)

-- how deep the body of arm n is
abbrev pub arm_size : TypedArms → ℕ → ℕ
arm_size no_arms n = 0
arm_size (with_arm p ys e as') zero = typed_size e
arm_size (with_arm p ys e as') (suc n) = arm_size as' n

module _ (as' : List TypedArm) (i : ℕ) (a : TypedArm) (q : a ≡ get_or as' i a) (h : i < length as') where
  pub labels_of_arm : arm_labels (arms_of as') i ≡ labels a.body
  labels_of_arm = at_arm arm_labels (λ p ys e. labels e) (λ p ys e as'. refl) (λ p ys e as' n. refl) as' i a h ∙ ap (λ (x : TypedArm). labels x.body) (sym q)

  pub size_of_arm : arm_size (arms_of as') i ≡ typed_size a.body
  size_of_arm = at_arm arm_size (λ p ys e. typed_size e) (λ p ys e as'. refl) (λ p ys e as' n. refl) as' i a h ∙ ap (λ (x : TypedArm). typed_size x.body) (sym q)

  locals_of_arm : arm_locals (arms_of as') i ≡ bound_locals a.names.items + locals a.body
  locals_of_arm = at_arm arm_locals (λ p ys e. bound_locals ys + locals e) (λ p ys e as'. refl) (λ p ys e as' n. refl) as' i a h ∙ ap (λ (x : TypedArm). bound_locals x.names.items + locals x.body) (sym q)

  text_of_arm : (c : Around) (s : Span) (T : Ty) (p : Place) (d l t : ℕ) → arm_into (arms_of as') c s T p d i l t ≡ bound_text a.names.items (λ c l t. into a.body c l t d) c s T p l t
  text_of_arm c s T p d l t =
      at_arm (λ as' n. arm_into as' c s T p d n l t) (λ q ys e. bound_text ys (λ c l t. into e c l t d) c s T p l t) (λ q ys e as'. refl) (λ q ys e as' n. refl) as' i a h
      ∙ ap (λ (x : TypedArm). bound_text x.names.items (λ c l t. into x.body c l t d) c s T p l t) (sym q)

no_name : {A : Type 0} (f : List BoundName → A) (ys : List BoundName) → length ys ≡ 0 → f ys ≡ f []
no_name f [] e = refl
no_name f (y ∷ ys) e = absurd (omega (arith, e))

pub unbound_locals : (as' : List TypedArm) (i : ℕ) (a : TypedArm) → a ≡ get_or as' i a → i < length as' → length a.names.items ≡ 0 → arm_locals (arms_of as') i ≡ locals a.body
unbound_locals as' i a q h n = omega (arith, locals_of_arm as' i a q h, no_name bound_locals a.names.items n)

pub unbound_text : (as' : List TypedArm) (i : ℕ) (a : TypedArm) → a ≡ get_or as' i a → i < length as' → length a.names.items ≡ 0
    → (c : Around) (s : Span) (T : Ty) (p : Place) (d l t : ℕ) → arm_into (arms_of as') c s T p d i l t ≡ into a.body c l t d
unbound_text as' i a q h n c s T p d l t = text_of_arm as' i a q h c s T p d l t ∙ no_name (λ ys. bound_text ys (λ c l t. into a.body c l t d) c s T p l t) a.names.items n

one_local : (ys : List BoundName) → length ys ≡ 1 → bound_locals ys ≡ 1
one_local [] e = absurd (omega (arith, e))
one_local (y ∷ ys) e = refl

one_text : (ys : List BoundName) (body : Around → ℕ → ℕ → List Line) (c : Around) (s : Span) (T : Ty) (p : Place) (l t : ℕ) → length ys ≡ 1
    → bound_text ys body c s T p l t ≡ Makes t T ∷ puts s t (Use (taken (is_copied c.types T) p)) ∷ (body (binds c t) l (t + 1) ++ dies_in false s t)
one_text [] body c s T p l t e = absurd (omega (arith, e))
one_text (y ∷ ys) body c s T p l t e = refl

pub bound_arm_locals : (as' : List TypedArm) (i : ℕ) (a : TypedArm) → a ≡ get_or as' i a → i < length as' → length a.names.items ≡ 1 → arm_locals (arms_of as') i ≡ 1 + locals a.body
bound_arm_locals as' i a q h n = locals_of_arm as' i a q h ∙ ap (λ k. k + locals a.body) (one_local a.names.items n)

pub bound_arm_text : (as' : List TypedArm) (i : ℕ) (a : TypedArm) → a ≡ get_or as' i a → i < length as' → length a.names.items ≡ 1
    → (c : Around) (s : Span) (T : Ty) (p : Place) (d l t : ℕ)
    → arm_into (arms_of as') c s T p d i l t ≡ Makes t T ∷ puts s t (Use (taken (is_copied c.types T) p)) ∷ (into a.body (binds c t) l (t + 1) d ++ dies_in false s t)
bound_arm_text as' i a q h n c s T p d l t = text_of_arm as' i a q h c s T p d l t ∙ one_text a.names.items (λ c l t. into a.body c l t d) c s T p l t n

pub no_labels_behind : (as' : List TypedArm) (i : ℕ) → length as' ≤ i → arm_labels (arms_of as') i ≡ 0
no_labels_behind as' i h = behind_arms arm_labels 0 (λ n. refl) (λ p ys e as' n. refl) as' i h

pub no_locals_behind : (as' : List TypedArm) (i : ℕ) → length as' ≤ i → arm_locals (arms_of as') i ≡ 0
no_locals_behind as' i h = behind_arms arm_locals 0 (λ n. refl) (λ p ys e as' n. refl) as' i h

pub no_text_behind : (as' : List TypedArm) (i : ℕ) → length as' ≤ i → (c : Around) (s : Span) (T : Ty) (p : Place) (d l t : ℕ) → arm_into (arms_of as') c s T p d i l t ≡ []
no_text_behind as' i h c s T p d l t = behind_arms (λ as' n. arm_into as' c s T p d n l t) [] (λ n. refl) (λ q ys e as' n. refl) as' i h

reach_at : (as' : List TypedArm) (i : ℕ) (d : TypedArm) → i < length as' → reach (get_or as' i d).body ≤ reach_in_arms (arms_of as') + length (get_or as' i d).names.items
reach_at [] i d h = absurd (omega arith)
reach_at (a ∷ as') zero d h = omega arith
reach_at (a ∷ as') (suc i) d h = omega (arith, reach_at as' i d (omega arith))

pub arm_reaches : (as' : List TypedArm) (i : ℕ) (a : TypedArm) → a ≡ get_or as' i a → i < length as' → reach a.body ≤ reach_in_arms (arms_of as') + length a.names.items
arm_reaches as' i a q h = omega (arith, ap (λ (x : TypedArm). reach x.body) q, ap (λ (x : TypedArm). length x.names.items) q, reach_at as' i a h)

good_at : (as' : List TypedArm) (i : ℕ) (d : TypedArm) → i < length as' → bad_in_arms (arms_of as') ≡ None → bad_in (get_or as' i d).body ≡ None
good_at [] i d h g = absurd (omega arith)
good_at (a ∷ as') zero d h g = first_none (bad_in a.body) (bad_in_arms (arms_of as')) g
good_at (a ∷ as') (suc i) d h g = good_at as' i d (omega arith) (second_none (bad_in a.body) (bad_in_arms (arms_of as')) g)

pub arm_good : (as' : List TypedArm) (i : ℕ) (a : TypedArm) → a ≡ get_or as' i a → i < length as' → bad_in_arms (arms_of as') ≡ None → bad_in a.body ≡ None
arm_good as' i a q h g = ap (λ (x : TypedArm). bad_in x.body) q ∙ good_at as' i a h g

pub ruleset arms = (labels_of_arm, size_of_arm, unbound_locals, unbound_text, bound_arm_locals, bound_arm_text, no_labels_behind, no_locals_behind, no_text_behind, arm_reaches, arm_good)

-- ---- how deep what is lowered is, where the tests are gone down too

abbrev pub tests_size : (ℕ → ℕ) → Decision → ℕ
tests_size f (leaf n bs) = 8 * f n + 5
tests_size f (switch q Ds) = 0
tests_size f (if_truth q D E) = suc (suc (max (tests_size f D) (tests_size f E)))
tests_size f (if_literal q z D E) = suc (suc (max (tests_size f D) (tests_size f E)))

-- from number n on, the arms are these
abbrev FromArm : (ℕ → ℕ) → ℕ → TypedArms → Type 0
FromArm f n as' = (i : ℕ) → f (i + n) ≡ arm_size as' i

next_arm : (f : ℕ → ℕ) (n : ℕ) (p : Pat) (ys : List BoundName) (e : TypedExpr) (as' : TypedArms) → FromArm f n (with_arm p ys e as') → FromArm f (suc n) as'
next_arm f n p ys e as' h i = ap f (let s : i + suc n ≡ suc i + n = omega arith in s) ∙ h (suc i)

first_arm : (f : ℕ → ℕ) (n : ℕ) (p : Pat) (ys : List BoundName) (e : TypedExpr) (as' : TypedArms) → FromArm f n (with_arm p ys e as') → f n ≡ typed_size e
first_arm f n p ys e as' h = ap f (let s : n ≡ 0 + n = omega arith in s) ∙ h 0

-- each tree that there is, is no deeper
abbrev IfDeep : (ℕ → ℕ) → ℕ → Option Decision → Type 0
IfDeep f m o = (D : Decision) → o ≡ Some D → tests_size f D ≤ m

no_tree : (f : ℕ → ℕ) (m : ℕ) → IfDeep f m None
no_tree f m D e = absurd (cc)

leaf_deep : (f : ℕ → ℕ) (n m : ℕ) (bs : List Binding) → 8 * f n + 5 ≤ m → IfDeep f m (Some (leaf n bs))
leaf_deep f n m bs h D e = let same : leaf n bs ≡ D = cc in subst (λ D. tests_size f D ≤ m) same h

literal_deep : (f : ℕ → ℕ) (m k n : ℕ) (z : ℤ) (a b : Bool) (R S : Option Decision) → 8 * f n + 7 ≤ m → k + 2 ≤ m → IfDeep f k R → IfDeep f k S
    → IfDeep f m (cond a R (cond b (Some (leaf n [])) (option_map (if_literal [] z (leaf n [])) S)))
literal_deep f m k n z true b R S h g r s D e = omega (arith, g, r D e)
literal_deep f m k n z false true R S h g r s D e = leaf_deep f n m [] (omega (arith, h)) D e
literal_deep f m k n z false false R None h g r s D e = absurd (cc)
literal_deep f m k n z false false R (Some E) h g r s D e =
    let same : if_literal [] z (leaf n []) E ≡ D = cc in
    subst (λ D. tests_size f D ≤ m) same (omega (arith, h, g, s E refl))

integer_deep : (f : ℕ → ℕ) (k : IntKind) (zs : List ℤ) (n : ℕ) (as' : TypedArms) → FromArm f n as' → IfDeep f (8 * arms_size as') (integer_rows k zs n (patterns_of as'))
integer_deep f k zs n no_arms h = no_tree f 8
integer_deep f k zs n (with_arm (wild s) ys e as') h = leaf_deep f n (8 * arms_size (with_arm (wild s) ys e as')) [] (omega (arith, first_arm f n (wild s) ys e as' h))
integer_deep f k zs n (with_arm (bound s x m) ys e as') h =
    leaf_deep f n (8 * arms_size (with_arm (bound s x m) ys e as')) (bindings (bound s x m)) (omega (arith, first_arm f n (bound s x m) ys e as' h))
integer_deep f k zs n (with_arm (literal s i z) ys e as') h =
    let more = next_arm f n (literal s i z) ys e as' h in
    literal_deep f (8 * arms_size (with_arm (literal s i z) ys e as')) (8 * arms_size as') n z (among z zs) (all_among k (z ∷ zs))
    (integer_rows k zs (suc n) (patterns_of as')) (integer_rows k (z ∷ zs) (suc n) (patterns_of as'))
    (omega (arith, first_arm f n (literal s i z) ys e as' h)) (omega arith)
    (integer_deep f k zs (suc n) as' more) (integer_deep f k (z ∷ zs) (suc n) as' more)
integer_deep f k zs n (with_arm (truth s b) ys e as') h = no_tree f (8 * arms_size (with_arm (truth s b) ys e as'))
integer_deep f k zs n (with_arm (shape s c us) ys e as') h = no_tree f (8 * arms_size (with_arm (shape s c us) ys e as'))

wider : (f : ℕ → ℕ) (k m : ℕ) (o : Option Decision) → k ≤ m → IfDeep f k o → IfDeep f m o
wider f k m o g h D e = omega (arith, g, h D e)

-- two tests stand around no row
truth_deep : (f : ℕ → ℕ) (b : Bool) (n m : ℕ) (as' : TypedArms) → FromArm f n as' → 8 * arms_size as' ≤ m + 2 → IfDeep f m (truth_rows b n (patterns_of as'))
truth_deep f b n m no_arms h g = no_tree f m
truth_deep f b n m (with_arm (wild s) ys e as') h g = leaf_deep f n m [] (omega (arith, g, first_arm f n (wild s) ys e as' h))
truth_deep f b n m (with_arm (bound s x k) ys e as') h g = leaf_deep f n m (bindings (bound s x k)) (omega (arith, g, first_arm f n (bound s x k) ys e as' h))
truth_deep f true n m (with_arm (truth s true) ys e as') h g = leaf_deep f n m [] (omega (arith, g, first_arm f n (truth s true) ys e as' h))
truth_deep f true n m (with_arm (truth s false) ys e as') h g = truth_deep f true (suc n) m as' (next_arm f n (truth s false) ys e as' h) (omega (arith, g))
truth_deep f false n m (with_arm (truth s true) ys e as') h g = truth_deep f false (suc n) m as' (next_arm f n (truth s true) ys e as' h) (omega (arith, g))
truth_deep f false n m (with_arm (truth s false) ys e as') h g = leaf_deep f n m [] (omega (arith, g, first_arm f n (truth s false) ys e as' h))
truth_deep f b n m (with_arm (literal s i z) ys e as') h g = no_tree f m
truth_deep f b n m (with_arm (shape s c us) ys e as') h g = no_tree f m

sides_deep : (f : ℕ → ℕ) (m : ℕ) (A B : Option Decision) → IfDeep f m A → IfDeep f m B → IfDeep f (m + 2) (both_sides A B)
sides_deep f m None B a b D e = absurd (cc)
sides_deep f m (Some D) None a b E e = absurd (cc)
sides_deep f m (Some D) (Some E) a b F e =
    let same : if_truth [] D E ≡ F = cc in
    subst (λ D. tests_size f D ≤ m + 2) same (omega (arith, a D refl, b E refl))

truth_tree_deep : (f : ℕ → ℕ) (as' : TypedArms) → FromArm f 0 as' → IfDeep f (8 * arms_size as') (truth_tree (patterns_of as'))
truth_tree_deep f no_arms h = no_tree f 8
truth_tree_deep f (with_arm (wild s) ys e as') h = leaf_deep f 0 (8 * arms_size (with_arm (wild s) ys e as')) [] (omega (arith, first_arm f 0 (wild s) ys e as' h))
truth_tree_deep f (with_arm (bound s x m) ys e as') h =
    leaf_deep f 0 (8 * arms_size (with_arm (bound s x m) ys e as')) (bindings (bound s x m)) (omega (arith, first_arm f 0 (bound s x m) ys e as' h))
truth_tree_deep f (with_arm (truth s b) ys e as') h =
    let all : TypedArms = with_arm (truth s b) ys e as' in
    let m = 8 * arms_size all - 2 in
    let A = truth_rows true 0 (patterns_of all) in
    let B = truth_rows false 0 (patterns_of all) in
    let a = truth_deep f true 0 m all h (omega arith) in
    let b = truth_deep f false 0 m all h (omega arith) in
    wider f (m + 2) (8 * arms_size all) (both_sides A B) (omega arith) (sides_deep f m A B a b)
truth_tree_deep f (with_arm (literal s i z) ys e as') h = no_tree f (8 * arms_size (with_arm (literal s i z) ys e as'))
truth_tree_deep f (with_arm (shape s c us) ys e as') h = no_tree f (8 * arms_size (with_arm (shape s c us) ys e as'))

first_deep : (f : ℕ → ℕ) (as' : TypedArms) → FromArm f 0 as' → IfDeep f (8 * arms_size as') (first_row (patterns_of as'))
first_deep f no_arms h = no_tree f 8
first_deep f (with_arm p ys e as') h = leaf_deep f 0 (8 * arms_size (with_arm p ys e as')) (bindings p) (omega (arith, first_arm f 0 p ys e as' h))

flat_deep : (f : ℕ → ℕ) (t : Ty) (as' : TypedArms) → FromArm f 0 as' → IfDeep f (8 * arms_size as') (flat_tree t (patterns_of as'))
flat_deep f (int k) as' h = integer_deep f k [] 0 as' h
flat_deep f bool as' h = truth_tree_deep f as' h
flat_deep f t as' h = first_deep f as' h

-- the tests, and the bodies in them, are no deeper than the arms
pub tests_fall : (t : Ty) (as' : TypedArms) (D : Decision) → flat_tree t (patterns_of as') ≡ Some D → tests_size (arm_size as') D ≤ 8 * arms_size as'
tests_fall t as' D e = flat_deep (arm_size as') t as' (λ i. ap (arm_size as') (let s : i + 0 ≡ i = omega arith in s)) D e

pub ruleset accepted = (is_of_scalar, is_flat, has_tree, tests_fall)

-- ---- the whole

-- the place of a value is part of a match
pub more_labels : (s : Span) (e : TypedExpr) (as' : TypedArms) (l : ℕ) → 4096 < l + labels e → 4096 < l + labels (matched unit s e as')
more_labels s e as' l h = omega (arith, h)

-- what is written for the place of a value, for the tests behind it, and at last for the block behind them
pub written_match : (s : Span) (e : TypedExpr) (as' : TypedArms) (c c1 c2 : Around) (l l1 l2 d : ℕ) (T U : Ty) (p : Place) (to : Option Label) (D : Decision) (x x1 x2 x3 x4 : BodyText)
    → p ≡ place_of c.scope (length x.locals) e → x1 ≡ written (text_before e c l (length x.locals)) x → l1 ≡ l + labels e → length x1.locals ≡ length x.locals + temporary_count (is_place e) + locals e → c1 ≡ c
    → T ≡ ty_of e → flat_tree T (patterns_of as') ≡ Some D → to ≡ behind_label (all_arms_leave as') l1 → l2 ≡ l1 + met_labels (all_arms_leave as') → x2 ≡ x1
    → U ≡ ty_of e → x3 ≡ written (tests_text c1 s U p to (arm_labels as') (arm_locals as') (arm_into as' c1 s U p d) D l2 (length x2.locals)) x2 → c2 ≡ c1 → x4 ≡ written (met c2 s to) x3
    → x4 ≡ written (into (matched unit s e as') c l (length x.locals) d) x
written_match s e as' c c1 c2 l l1 l2 d T U p to D x x1 x2 x3 x4 place before labels' locals' around' ty tree behind next same ty' tests around'' end =
    let all = all_arms_leave as' in
    let t = length x.locals in
    let u = t + temporary_count (is_place e) + locals e in
    let V = ty_of e in
    let q = place_of c.scope t e in
    let m = l + labels e in
    let label' : to ≡ behind_label all m = behind ∙ ap (behind_label all) labels' in
    let first : l2 ≡ m + met_labels all = next ∙ ap (λ k. k + met_labels all) labels' in
    let many : length x2.locals ≡ u = ap (λ (y : BodyText). length y.locals) same ∙ locals' in
    let by_tree : Some D ≡ flat_tree V (patterns_of as') = sym tree ∙ ap (λ Z. flat_tree Z (patterns_of as')) ty in
    let lines : Option Decision → List Line = λ o. tests_of c s V q (behind_label all m) (arm_labels as') (arm_locals as') (arm_into as' c s V q d) o (m + met_labels all) u in
    let start = text_before e c l t in
    let third : x3 ≡ written (lines (flat_tree V (patterns_of as'))) (written start x) =
    tests ∙ (λ i. written (tests_text (around' i) s (ty' i) (place i) (label' i) (arm_labels as') (arm_locals as') (arm_into as' (around' i) s (ty' i) (place i) d) D (first i) (many i)) ((same ∙ before) i))
    ∙ (λ i. written (lines (by_tree i)) (written start x)) in
    end
    ∙ (λ i. written (met ((around'' ∙ around') i) s (label' i)) (third i))
    ∙ sym (written-append start (lines (flat_tree V (patterns_of as')) ++ met c s (behind_label all m)) x ∙ written-append (lines (flat_tree V (patterns_of as'))) (met c s (behind_label all m)) (written start x))

-- ---- the end of a binding

-- the place that a name was bound to goes out of scope
pub front_again : (xs : List Place) (x : Place) → length (xs ++ x ∷ []) ≡ length xs + 1
front_again xs x = length-append xs (x ∷ [])

pub last_dies : (s : Span) (xs : List Place) (t : ℕ) → all_die false s (drop (length xs) (xs ++ whole t ∷ [])) ≡ dies_in false s t
last_dies s xs t = one_more false s (length xs) xs (whole t) (omega arith) ∙ ap (λ ys. dies_in false s t ++ all_die false s ys) (drop_all (length xs) xs (omega arith))

pub ruleset binding = (front_again, last_dies, take-append_seam)
