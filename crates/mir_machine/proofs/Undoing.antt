-- What was put at a spot can be taken back, and so can what a step has taken.
use Rattle.std.proofs.Common.{◌≡◌, ◌∙◌, refl, sym, ap, subst, ℕ, zero, suc, ◌-◌, ◌<◌, ◌≤◌, ◌==◌, Bool, true, false, cond, List, [], ◌∷◌, ◌++◌, length, take, option_to_list, Option, Some, None, slice_get, slice_set, inl, inr, arith}
use Rattle.std.proofs.lemmas.Bool.Decides.{eqb_tells}
use Rattle.std.proofs.lemmas.List.{length-append, length-take-le}
use Rattle.std.proofs.lemmas.Bool.{false≢true}
use Rattle.std.specs.Option.{IsSome}
use Rattle.mir_ir.specs.declared.place.Place.{Place}
use Rattle.mir_ir.specs.declared.place.Operand.TheVariants.{Move}
use Rattle.mir_machine.specs.declared.spot.Spot.{Spot}
use Rattle.mir_machine.specs.declared.taken.Taken.{Taken}
use Rattle.mir_machine.specs.Try.{Try, Yields, Panics, Sticks, ◌>>=◌, need}
use Rattle.mir_machine.specs.Tree.{Tree, Trees, Int, Truth, Made, Boxed, Shared, Unique, Gone, no_trees, and_tree, nth_tree, set_nth}
use Rattle.mir_machine.specs.Frame.{Frame, State}
use Rattle.mir_machine.specs.Memory.{child, with_child, tree_in, put_in, frame_at, set_frame, tree_at, put_at, spot_of, is_there, read, write}
use Rattle.mir_machine.specs.Taken.{take_one, put_back, undone, IsEven, Undoes, GoesBack}
use Rattle.mir_machine.proofs.Places.{set_end}
use Rattle.mir_machine.proofs.Tried.{then_then}

-- ---- what a part of a step that yields has come through

pub yields_then : {A B : Type 0} (m : Try A) (k : A → Try B) (b : B) → (m >>= k) ≡ Yields b → (a : A) × (m ≡ Yields a) × (k a ≡ Yields b)
yields_then (Yields a) k b e = (a, refl, e)
yields_then (Panics c s) k b e = absurd (cc)
yields_then Sticks k b e = absurd (cc)

pub yields_same : {A : Type 0} (a b : A) → Yields a ≡ Yields b → a ≡ b
yields_same a b e = cc

pub needed : {A : Type 0} (o : Option A) (a : A) → need o ≡ Yields a → o ≡ Some a
needed (Some c) a e = cc
needed None a e = absurd (cc)

-- ---- a child

nth_set : {K : Type 0} (ts : Trees K) (n : ℕ) (y d : Tree K) → nth_tree ts n ≡ Some y → nth_tree (set_nth ts n d) n ≡ Some d
nth_set no_trees n y d e = absurd (cc)
nth_set (and_tree t ts) zero y d e = refl
nth_set (and_tree t ts) (suc n) y d e = nth_set ts n y d e

set_set : {K : Type 0} (ts : Trees K) (n : ℕ) (y d : Tree K) → nth_tree ts n ≡ Some y → set_nth (set_nth ts n d) n y ≡ ts
set_set no_trees n y d e = refl
set_set (and_tree t ts) zero y d e = ap (λ u. and_tree u ts) (cc)
set_set (and_tree t ts) (suc n) y d e = ap (and_tree t) (set_set ts n y d e)

pub child_set : {K : Type 0} (x : Tree K) (n : ℕ) (y d : Tree K) → child x n ≡ Yields y → child (with_child x n d) n ≡ Yields d
child_set (Made c ts) n y d e = ap need (nth_set ts n y d (needed (nth_tree ts n) y e))
child_set (Boxed t) zero y d e = refl
child_set (Boxed t) (suc n) y d e = absurd (cc)
child_set (Int z) n y d e = absurd (cc)
child_set (Truth b) n y d e = absurd (cc)
child_set (Shared at) n y d e = absurd (cc)
child_set (Unique k at) n y d e = absurd (cc)
child_set Gone n y d e = absurd (cc)

with_with : {K : Type 0} (x : Tree K) (n : ℕ) (y d : Tree K) → child x n ≡ Yields y → with_child (with_child x n d) n y ≡ x
with_with (Made c ts) n y d e = ap (Made c) (set_set ts n y d (needed (nth_tree ts n) y e))
with_with (Boxed t) zero y d e = ap Boxed (sym (yields_same t y e))
with_with (Boxed t) (suc n) y d e = absurd (cc)
with_with (Int z) n y d e = refl
with_with (Truth b) n y d e = refl
with_with (Shared at) n y d e = refl
with_with (Unique k at) n y d e = refl
with_with Gone n y d e = refl

-- ---- a path

put_in-back : {K : Type 0} (path : List ℕ) (u x x' t : Tree K) → put_in path u x ≡ Yields x' → tree_in path x ≡ Yields t → put_in path t x' ≡ Yields x
put_in-back [] u x x' t e h = sym h
put_in-back {K} (n ∷ path) u x x' t e h =
    let (y, is_y, after_y) = yields_then (child x n) (λ c. put_in path u c >>= λ d. Yields (with_child x n d)) x' e in
    let (d, is_d, after_d) = yields_then (put_in path u y) (λ d. Yields (with_child x n d)) x' after_y in
    let (z, is_z, after_z) = yields_then (child x n) (tree_in path) t h in
    let same : z ≡ y = yields_same z y (sym is_z ∙ is_y) in
    let deeper : put_in path t d ≡ Yields y = put_in-back path u y d t is_d (subst (λ w. tree_in path w ≡ Yields t) same after_z) in
    let is_new : with_child x n d ≡ x' = yields_same (with_child x n d) x' after_d in
    subst (λ w. put_in (n ∷ path) t w ≡ Yields x) is_new (
    ap (λ (m : Try (Tree K)). m >>= λ c. put_in path t c >>= λ v. Yields (with_child (with_child x n d) n v)) (child_set x n y d is_y)
    ∙ ap (λ (m : Try (Tree K)). m >>= λ v. Yields (with_child (with_child x n d) n v)) deeper
    ∙ ap Yields (with_with x n y d is_y)
    )

-- ---- lists and frames

pub get_set : {A : Type 0} (xs : List A) (i : ℕ) (x y : A) → slice_get xs i ≡ Some x → slice_get (slice_set xs i y) i ≡ Some y
get_set [] i x y e = absurd (cc)
get_set (z ∷ xs) zero x y e = refl
get_set (z ∷ xs) (suc i) x y e = get_set xs i x y e

slice_set-back : {A : Type 0} (xs : List A) (i : ℕ) (x y : A) → slice_get xs i ≡ Some x → slice_set (slice_set xs i y) i x ≡ xs
slice_set-back [] i x y e = refl
slice_set-back (z ∷ xs) zero x y e = ap (λ w. w ∷ xs) (cc)
slice_set-back (z ∷ xs) (suc i) x y e = ap (λ ws. z ∷ ws) (slice_set-back xs i x y e)

pub set_frame-length : {K : Type 0} (s : State K) (n : ℕ) (g : Frame K) → length (set_frame s n g) ≡ length s
set_frame-length [] n g = refl
set_frame-length {K} (f ∷ fs) n g = by (n == length fs) (set_frame-length fs n g)
  where
    by : (b : Bool) → length (set_frame fs n g) ≡ length fs → length (cond b (g ∷ fs) (f ∷ set_frame fs n g)) ≡ length (f ∷ fs)
    by true rest = refl
    by false rest = omega arith

pub frame_at-set : {K : Type 0} (s : State K) (n : ℕ) (f g : Frame K) → frame_at s n ≡ Yields f → frame_at (set_frame s n g) n ≡ Yields g
frame_at-set [] n f g e = absurd (cc)
frame_at-set {K} (h ∷ fs) n f g e = elim (eqb_tells n (length fs)) [
  | inl (is, same) ↦ ap (λ b. frame_at (cond b (g ∷ fs) (h ∷ set_frame fs n g)) n) is ∙ ap (λ b. cond b (Yields g) (frame_at fs n)) is
  | inr (is, other) ↦
      let deeper : frame_at fs n ≡ Yields f = sym (ap (λ b. cond b (Yields h) (frame_at fs n)) is) ∙ e in
      ap (λ b. frame_at (cond b (g ∷ fs) (h ∷ set_frame fs n g)) n) is
      ∙ ap (λ m. cond (n == m) (Yields h) (frame_at (set_frame fs n g) n)) (set_frame-length fs n g)
      ∙ ap (λ b. cond b (Yields h) (frame_at (set_frame fs n g) n)) is ∙ frame_at-set fs n f g deeper
]

set_frame-back : {K : Type 0} (s : State K) (n : ℕ) (f g : Frame K) → frame_at s n ≡ Yields f → set_frame (set_frame s n g) n f ≡ s
set_frame-back [] n f g e = refl
set_frame-back {K} (h ∷ fs) n f g e = elim (eqb_tells n (length fs)) [
  | inl (is, same) ↦
      ap (λ b. set_frame (cond b (g ∷ fs) (h ∷ set_frame fs n g)) n f) is ∙ ap (λ b. cond b (f ∷ fs) (g ∷ set_frame fs n f)) is
      ∙ ap (λ w. w ∷ fs) (yields_same f h (sym e ∙ ap (λ b. cond b (Yields h) (frame_at fs n)) is))
  | inr (is, other) ↦
      let deeper : frame_at fs n ≡ Yields f = sym (ap (λ b. cond b (Yields h) (frame_at fs n)) is) ∙ e in
      ap (λ b. set_frame (cond b (g ∷ fs) (h ∷ set_frame fs n g)) n f) is
      ∙ ap (λ m. cond (n == m) (f ∷ set_frame fs n g) (h ∷ set_frame (set_frame fs n g) n f)) (set_frame-length fs n g)
      ∙ ap (λ b. cond b (f ∷ set_frame fs n g) (h ∷ set_frame (set_frame fs n g) n f)) is ∙ ap (λ ws. h ∷ ws) (set_frame-back fs n f g deeper)
]

-- ---- a spot

pub put_at-back : {K : Type 0} (s s' : State K) (at : Spot) (u t : Tree K) → put_at s at u ≡ Yields s' → tree_at s at ≡ Yields t → put_at s' at t ≡ Yields s
put_at-back {K} s s' at u t e h =
    let n = at.frame in
    let x = at.local in
    let in_frame : Frame K → Tree K → Try (State K) = λ f l. put_in at.path u l >>= λ l'. Yields (set_frame s n (record f { locals = slice_set f.locals x l' })) in
    let (f, is_f, after_f) = yields_then (frame_at s n) (λ f. need (slice_get f.locals x) >>= in_frame f) s' e in
    let (l, is_l, after_l) = yields_then (need (slice_get f.locals x)) (in_frame f) s' after_f in
    let (l', is_l', after_l') = yields_then (put_in at.path u l) (λ l'. Yields (set_frame s n (record f { locals = slice_set f.locals x l' }))) s' after_l in
    let g : Frame K = record f { locals = slice_set f.locals x l' } in
    let is_new : set_frame s n g ≡ s' = yields_same (set_frame s n g) s' after_l' in
    let (f₁, is_f₁, after_f₁) = yields_then (frame_at s n) (λ f. need (slice_get f.locals x) >>= tree_in at.path) t h in
    let same_frame : f₁ ≡ f = yields_same f₁ f (sym is_f₁ ∙ is_f) in
    let in_same : (need (slice_get f.locals x) >>= tree_in at.path) ≡ Yields t = subst (λ q. (need (slice_get q.locals x) >>= tree_in at.path) ≡ Yields t) same_frame after_f₁ in
    let (l₁, is_l₁, after_l₁) = yields_then (need (slice_get f.locals x)) (tree_in at.path) t in_same in
    let same_local : l₁ ≡ l = yields_same l₁ l (sym is_l₁ ∙ is_l) in
    let got : slice_get f.locals x ≡ Some l = needed (slice_get f.locals x) l is_l in
    let deeper : put_in at.path t l' ≡ Yields l = put_in-back at.path u l l' t is_l' (subst (λ q. tree_in at.path q ≡ Yields t) same_local after_l₁) in
    let S : State K = set_frame s n g in
    let at_frame : Frame K → Try (State K) = λ q. need (slice_get q.locals x) >>= λ w. put_in at.path t w >>= λ w'. Yields (set_frame S n (record q { locals = slice_set q.locals x w' })) in
    subst (λ q. put_at q at t ≡ Yields s) is_new (
    ap (λ (m : Try (Frame K)). m >>= at_frame) (frame_at-set s n f g is_f)
    ∙ ap (λ (o : Option (Tree K)). need o >>= λ w. put_in at.path t w >>= λ w'. Yields (set_frame S n (record g { locals = slice_set g.locals x w' }))) (get_set f.locals x l l' got)
    ∙ ap (λ (m : Try (Tree K)). m >>= λ w'. Yields (set_frame S n (record g { locals = slice_set g.locals x w' }))) deeper
    ∙ ap (λ ls. Yields (set_frame S n (record f { locals = ls }))) (slice_set-back f.locals x l l' got)
    ∙ ap Yields (set_frame-back s n f g is_f)
    )

-- ---- what was taken

then_yields : {A : Type 0} (m : Try A) → (m >>= λ a. Yields a) ≡ m
then_yields (Yields a) = refl
then_yields (Panics c s) = refl
then_yields Sticks = refl

undone-push : {K : Type 0} (ls : List (Option Spot)) (ts : List (Tree K)) (l : Option Spot) (t : Tree K) (s : State K) → length ls ≡ length ts → undone (ls ++ l ∷ []) (ts ++ t ∷ []) s ≡ (put_back s l t >>= undone ls ts)
undone-push [] [] l t s e = sym (then_yields (put_back s l t))
undone-push [] (u ∷ ts) l t s e = absurd (omega arith)
undone-push (k ∷ ls) [] l t s e = absurd (omega arith)
undone-push {K} (k ∷ ls) (u ∷ ts) l t s e =
    ap (λ (m : Try (State K)). m >>= λ s'. put_back s' k u) (undone-push ls ts l t s (omega arith))
    ∙ then_then (put_back s l t) (undone ls ts) (λ s'. put_back s' k u)

undone-more : {K : Type 0} (ls : List (Option Spot)) (ts : List (Tree K)) (t : Tree K) (s : State K) → length ls ≤ length ts → undone ls (ts ++ t ∷ []) s ≡ undone ls ts s
undone-more [] ts t s e = refl
undone-more (k ∷ ls) [] t s e = absurd (omega arith)
undone-more {K} (k ∷ ls) (u ∷ ts) t s e = ap (λ (m : Try (State K)). m >>= λ s'. put_back s' k u) (undone-more ls ts t s (omega arith))

abbrev S : Type 0
S = State (Unit {0})

abbrev T : Type 0
T = Tree (Unit {0})

pub same_taken : (old new : Taken) (s : S) → new.trees.items ≡ old.trees.items → new.left.items ≡ old.left.items → GoesBack old s new s
same_taken old new s is_trees is_left = record {
  back = λ s₀ h. record {
    within = omega (arith, ap length is_trees, ap length is_left, h.within);
    leads = ap (λ ls. undone ls new.trees.items s) is_left ∙ ap (λ ts. undone old.left.items ts s) is_trees ∙ h.leads;
  };
}

-- where nothing is taken
pub none_taken : (old new : Taken) (s s' : S) → new ≡ old → s' ≡ s → GoesBack old s new s'
none_taken old new s s' is_same is_state = subst (λ q. GoesBack old s new q) (sym is_state) (same_taken old new s (ap (λ (t : Taken). t.trees.items) is_same) (ap (λ (t : Taken). t.left.items) is_same))

-- before anything is taken, nothing goes back
pub undoes_none : (taken : Taken) (s : S) → taken.trees.items ≡ [] → taken.left.items ≡ [] → Undoes taken s s
undoes_none taken s no_trees_yet no_left_yet = record {
  within = omega (arith, ap length no_trees_yet, ap length no_left_yet);
  leads = ap (λ ls. undone ls taken.trees.items s) no_left_yet;
}

pub more_trees : (old new : Taken) (s : S) (t : T) → IsEven old → new.trees.items ≡ old.trees.items ++ t ∷ [] → new.left.items ≡ old.left.items → GoesBack old s new s
more_trees old new s t even is_trees is_left = record {
  back = λ s₀ h. record {
    within = omega (arith, ap length is_trees, ap length is_left, length-append old.trees.items (t ∷ []), h.within);
    leads = ap (λ ls. undone ls new.trees.items s) is_left ∙ ap (λ ts. undone old.left.items ts s) is_trees ∙ undone-more old.left.items old.trees.items t s h.within ∙ h.leads;
  };
}

pub one_more : (old new : Taken) (s s' : S) (l : Option Spot) (t : T) → IsEven old → new.trees.items ≡ old.trees.items ++ t ∷ [] → new.left.items ≡ old.left.items ++ l ∷ [] → put_back s' l t ≡ Yields s → GoesBack old s new s'
one_more old new s s' l t even is_trees is_left back = record {
  back = λ s₀ h. record {
    within = omega (arith, ap length is_trees, ap length is_left, length-append old.trees.items (t ∷ []), length-append old.left.items (l ∷ []), even);
    leads =
        ap (λ ls. undone ls new.trees.items s') is_left ∙ ap (λ ts. undone (old.left.items ++ l ∷ []) ts s') is_trees ∙ undone-push old.left.items old.trees.items l t s' even
        ∙ ap (λ (m : Try S). m >>= undone old.left.items old.trees.items) back ∙ h.leads;
  };
}

pub back_along : (a b c : Taken) (s s' s'' : S) → GoesBack a s b s' → GoesBack b s' c s'' → GoesBack a s c s''
back_along a b c s s' s'' first second = record { back = λ s₀ h. second.back s₀ (first.back s₀ h) }

-- the last one goes back
pub undone-step : (ls : List (Option Spot)) (ts : List T) (l : Option Spot) (t : T) (s s₀ : S) → length ls ≡ length ts → undone (ls ++ l ∷ []) (ts ++ t ∷ []) s ≡ Yields s₀ → (s' : S) × (put_back s l t ≡ Yields s') × (undone ls ts s' ≡ Yields s₀)
undone-step ls ts l t s s₀ even e = yields_then (put_back s l t) (undone ls ts) s₀ (sym (undone-push ls ts l t s even) ∙ e)

undone-take : (ls : List (Option Spot)) (ts : List T) (s : S) (n : ℕ) → n ≡ length ls → undone ls (take n ts) s ≡ undone ls ts s
undone-take [] ts s n e = refl
undone-take (k ∷ ls) ts s zero e = absurd (omega arith)
undone-take (k ∷ ls) [] s (suc n) e = refl
undone-take (k ∷ ls) (u ∷ ts) s (suc n) e = ap (λ (m : Try S). m >>= λ s'. put_back s' k u) (undone-take ls ts s n (omega arith))

-- what is over at the end is dropped
pub undone-start : (taken : Taken) (ts : List T) (s s₀ : S) (n : ℕ) → n ≡ length taken.left.items → ts ≡ take n taken.trees.items → Undoes taken s s₀ → (length taken.left.items ≡ length ts) × (undone taken.left.items ts s ≡ Yields s₀)
undone-start taken ts s s₀ n is_n is_ts h = (
  omega (arith, ap length is_ts, length-take-le n taken.trees.items (omega (arith, is_n, h.within))),
  ap (λ us. undone taken.left.items us s) is_ts ∙ undone-take taken.left.items taken.trees.items s n is_n ∙ h.leads,
)

-- where the spot and the tree that are taken off the ends go back
pub undone-next : (ls ls' : List (Option Spot)) (ts ts' : List T) (l : Option Spot) (r : Option T) (s s' s₀ : S) → ls ≡ ls' ++ l ∷ [] → ts ≡ ts' ++ option_to_list r → (0 < length ts → IsSome r) → ((t : T) (q : S) → r ≡ Some t
    → put_back s l t ≡ Yields q → s' ≡ q)
    → (length ls ≡ length ts) × (undone ls ts s ≡ Yields s₀) → (length ls' ≡ length ts') × (undone ls' ts' s' ≡ Yields s₀)
undone-next ls ls' ts ts' l None s s' s₀ is_ls is_ts some after h = absurd (false≢true (some (omega (arith, h.0, ap length is_ls, length-append ls' (l ∷ [])))))
undone-next ls ls' ts ts' l (Some t) s s' s₀ is_ls is_ts some after h =
    let even : length ls' ≡ length ts' = omega (arith, h.0, ap length is_ls, ap length is_ts, length-append ls' (l ∷ []), length-append ts' (t ∷ [])) in
    let whole : undone (ls' ++ l ∷ []) (ts' ++ t ∷ []) s ≡ Yields s₀ = ap (λ ks. undone ks (ts' ++ t ∷ []) s) (sym is_ls) ∙ ap (λ us. undone ls us s) (sym is_ts) ∙ h.1 in
    let (q, is_q, rest) = undone-step ls' ts' l t s s₀ even whole in
    (even, subst (λ x. undone ls' ts' x ≡ Yields s₀) (sym (after t q refl is_q)) rest)

-- ---- a move

pub set_pushed : {A : Type 0} (xs ys : List A) (g y : A) (n : ℕ) → ys ≡ xs ++ g ∷ [] → n ≡ length ys → slice_set ys (n - 1) y ≡ xs ++ y ∷ []
set_pushed {A} xs ys g y n is_ys is_n =
    let at : n - 1 ≡ length xs = omega (arith, ap length is_ys, length-append xs (g ∷ [])) in
    ap (λ i. slice_set ys i y) at ∙ ap (λ zs. slice_set zs (length xs) y) is_ys ∙ set_end xs g y (length xs) refl

pub same_there : (t u : T) → is_there t ≡ Yields u → t ≡ u
same_there (Int z) u e = yields_same (Int z) u e
same_there (Truth b) u e = yields_same (Truth b) u e
same_there (Made c ts) u e = yields_same (Made c ts) u e
same_there (Boxed t) u e = yields_same (Boxed t) u e
same_there (Shared at) u e = yields_same (Shared at) u e
same_there (Unique k at) u e = yields_same (Unique k at) u e
same_there Gone u e = absurd (cc)

pub moved : (s s' : S) (p : Place) (at : Spot) (t u v : T) (ts us : List T) → spot_of s p ≡ Yields at → tree_at s at ≡ Yields t → is_there t ≡ Yields u → tree_at s at ≡ Yields v → put_at s at Gone ≡ Yields s' → us ≡ ts ++ v ∷ []
    → take_one s ts (Move p) ≡ Yields (s', us)
moved s s' p at t u v ts us is_at is_t is_u is_v is_s' is_us =
    let same : u ≡ v = sym (same_there t u is_u) ∙ yields_same t v (sym is_t ∙ is_v) in
    let found : read s p ≡ Yields v = ap (λ (m : Try Spot). m >>= λ a. tree_at s a >>= is_there) is_at ∙ ap (λ (m : Try T). m >>= is_there) is_t ∙ is_u ∙ ap Yields same in
    let written : write s p Gone ≡ Yields s' = ap (λ (m : Try Spot). m >>= λ a. put_at s a Gone) is_at ∙ is_s' in
    let paired : T → S → Try (S × T) = λ w r. Yields (r, w) in
    let added : S × T → Try (S × List T) = λ q. Yields (q.0, ts ++ q.1 ∷ []) in
    ap (λ (m : Try T). (m >>= λ w. write s p Gone >>= paired w) >>= added) found
    ∙ ap (λ (m : Try S). (m >>= paired v) >>= added) written
    ∙ ap (λ ws. Yields (s', ws)) (sym is_us)
