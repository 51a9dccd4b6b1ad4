-- Trees in lists, the parts of trees, and the frames of a state.
use Rattle.std.proofs.Common.{◌≡◌, ◌∙◌, refl, sym, ap, subst, Result, Err, ℕ, zero, suc, ◌<◌, cond, List, [], ◌∷◌, ◌++◌, length, reverse, drop, Some, slice_get, slice_set, inl, inr, eq-eqb, arith}
use Rattle.std.proofs.lemmas.Bool.{ne_eqb}
use Rattle.std.proofs.lemmas.Bool.Decides.{eqb_tells}
use Rattle.std.proofs.lemmas.List.{length-reverse, reverse-append, reverse-reverse}
use Rattle.std.specs.Global.{Box, Vec}
use Rattle.logic_term.specs.declared.kinds.Ctor.{Ctor}
use Rattle.mir_machine.specs.declared.halt.Halt.{Halt}
use Rattle.mir_machine.specs.declared.halt.Halt.TheVariants as halt
use Rattle.mir_machine.specs.declared.spot.Spot.{Spot}
use Rattle.mir_machine.specs.declared.tree.PointerTree.{PointerTree}
use Rattle.mir_machine.specs.declared.tree.TreeNode.{TreeNode}
use Rattle.mir_machine.specs.declared.tree.TreeNode.TheVariants as node
use Rattle.mir_ir.specs.declared.place.Place.{Place}
use Rattle.mir_ir.specs.declared.place.Proj.{Proj}
use Rattle.mir_machine.specs.Halt.{Stops, Comes}
use Rattle.mir_machine.specs.Try.{Try, Yields, Sticks, ◌>>=◌, need}
use Rattle.mir_machine.specs.Tree.{Tree, Made, and_tree, trees_of, nth_tree, set_nth}
use Rattle.mir_machine.specs.TreeView.{tree_of}
use Rattle.mir_machine.specs.Frame.{Frame, State}
use Rattle.mir_machine.specs.Memory.{child, tree_in, put_in, frame_at, set_frame, tree_at, put_at, onward, walk, spot_of}
use Rattle.mir_machine.specs.Places.{tree_in_list, put_in_list, put_in_frame}
use Rattle.mir_machine.proofs.Coming.{stops_then, comes_then, comes_along}
use Rattle.mir_machine.proofs.Tried.{then_then, then_same}

abbrev T : Type 0
T = Tree (Unit {0})

abbrev F : Type 0
F = Frame (Unit {0})

-- ---- the parts of a tree

pub nth_tree-of : {K : Type 0} (ts : List (Tree K)) (n : ℕ) → nth_tree (trees_of ts) n ≡ slice_get ts n
nth_tree-of [] n = refl
nth_tree-of (t ∷ ts) zero = refl
nth_tree-of (t ∷ ts) (suc n) = nth_tree-of ts n

pub set_nth-of : {K : Type 0} (ts : List (Tree K)) (n : ℕ) (u : Tree K) → set_nth (trees_of ts) n u ≡ trees_of (slice_set ts n u)
set_nth-of [] n u = refl
set_nth-of (t ∷ ts) zero u = refl
set_nth-of (t ∷ ts) (suc n) u = ap (and_tree t) (set_nth-of ts n u)

pub child_made : {K : Type 0} (c : Ctor) (ts : List (Tree K)) (n : ℕ) → child (Made c (trees_of ts)) n ≡ need (slice_get ts n)
child_made c ts n = ap need (nth_tree-of ts n)

tree_in_made : {K : Type 0} (c : Ctor) (ts : List (Tree K)) (n : ℕ) (path : List ℕ) → tree_in (n ∷ path) (Made c (trees_of ts)) ≡ tree_in_list ts n path
tree_in_made {K} c ts n path = ap (λ (m : Try (Tree K)). m >>= tree_in path) (child_made c ts n)

put_in_made : {K : Type 0} (c : Ctor) (ts : List (Tree K)) (n : ℕ) (path : List ℕ) (u : Tree K) → put_in (n ∷ path) u (Made c (trees_of ts)) ≡ (put_in_list ts n path u >>= λ us. Yields (Made c (trees_of us)))
put_in_made {K} c ts n path u =
    let made : List (Tree K) → Try (Tree K) = λ us. Yields (Made c (trees_of us)) in
    let set : Tree K → Try (List (Tree K)) = λ d. Yields (slice_set ts n d) in
    ap (λ (m : Try (Tree K)). m >>= λ t. put_in path u t >>= λ d. Yields (Made c (set_nth (trees_of ts) n d))) (child_made c ts n)
    ∙ then_same (need (slice_get ts n)) (λ t. put_in path u t >>= λ d. Yields (Made c (set_nth (trees_of ts) n d))) (λ t. (put_in path u t >>= set) >>= made)
    (λ t.
    then_same (put_in path u t) (λ d. Yields (Made c (set_nth (trees_of ts) n d))) (λ d. set d >>= made) (λ d. ap (λ us. Yields (Made c us)) (set_nth-of ts n d))
    ∙ sym (then_then (put_in path u t) set made))
    ∙ sym (then_then (need (slice_get ts n)) (λ t. put_in path u t >>= set) made)

-- the code's answers at a tree: at one with children, at one that points, and at the others
pub old_made : (r q : Result T Halt) (path rest : List ℕ) (n : ℕ) (here : T) (c : Ctor) (ts : List T) → r ≡ q → path ≡ n ∷ rest → here ≡ Made c (trees_of ts) → Comes q (tree_in_list ts n rest) (λ t. t) → Comes r (tree_in path here) (λ t. t)
old_made r q path rest n here c ts is is_path is_here h =
    subst (λ x. Comes x (tree_in path here) (λ t. t)) (sym is)
    (comes_along q (tree_in path here) (tree_in_list ts n rest) (λ t. t) (ap (λ p. tree_in p here) is_path ∙ ap (tree_in (n ∷ rest)) is_here ∙ tree_in_made c ts n rest) h)

pub new_made : (r q : Result T Halt) (path rest : List ℕ) (n : ℕ) (u here there : T) (c : Ctor) (ts us : List T) → r ≡ q → path ≡ n ∷ rest → here ≡ Made c (trees_of ts) → there ≡ Made c (trees_of us)
    → Comes q (put_in_list ts n rest u) (λ _. us) → Comes r (put_in path u here) (λ _. there)
new_made r q path rest n u here there c ts us is is_path is_here is_there h =
    subst (λ y. Comes y (put_in path u here) (λ _. there)) (sym is)
    (subst (λ x. Comes q (put_in path u here) (λ _. x)) (sym is_there)
    (comes_along q (put_in path u here) (put_in_list ts n rest u >>= λ xs. Yields (Made c (trees_of xs))) (λ _. Made c (trees_of us))
    (ap (λ p. put_in p u here) is_path ∙ ap (put_in (n ∷ rest) u) is_here ∙ put_in_made c ts n rest u)
    (comes_then q (put_in_list ts n rest u) (λ _. us) (λ xs. Made c (trees_of xs)) h)))

pub old_same : (r q : Result T Halt) (path path' : List ℕ) (here here' : T) → r ≡ q → path ≡ path' → here ≡ here' → Comes q (tree_in path' here') (λ t. t) → Comes r (tree_in path here) (λ t. t)
old_same r q path path' here here' is is_path is_here h =
    subst (λ x. Comes x (tree_in path here) (λ t. t)) (sym is) (comes_along q (tree_in path here) (tree_in path' here') (λ t. t) (ap (λ p. tree_in p here) is_path ∙ ap (tree_in path') is_here) h)

pub new_same : (r q : Result T Halt) (path path' : List ℕ) (u here here' there there' : T) → r ≡ q → path ≡ path' → here ≡ here' → there ≡ there' → Comes q (put_in path' u here') (λ _. there') → Comes r (put_in path u here) (λ _. there)
new_same r q path path' u here here' there there' is is_path is_here is_there h =
    subst (λ y. Comes y (put_in path u here) (λ _. there)) (sym is)
    (subst (λ x. Comes q (put_in path u here) (λ _. x)) (sym is_there)
    (comes_along q (put_in path u here) (put_in path' u here') (λ _. there') (ap (λ p. put_in p u here) is_path ∙ ap (put_in path' u) is_here) h))

-- a node with no parts
abbrev pub IsLeaf : TreeNode → Type 0
IsLeaf (node.Int z) = Unit {0}
IsLeaf (node.Bool b) = Unit {0}
IsLeaf (node.Made c ts) = ⊥
IsLeaf (node.Pointer p) = ⊥
IsLeaf node.Gone = Unit {0}

pub is_leaf : (x : TreeNode) → ((c : Ctor) (ts : Vec T) → x ≡ node.Made c ts → ⊥) → ((p : Box PointerTree) → x ≡ node.Pointer p → ⊥) → IsLeaf x
is_leaf (node.Int z) made points = tt
is_leaf (node.Bool b) made points = tt
is_leaf (node.Made c ts) made points = made c ts refl
is_leaf (node.Pointer p) made points = points p refl
is_leaf node.Gone made points = tt

old_leaf : (x : TreeNode) (n : ℕ) (rest : List ℕ) → IsLeaf x → tree_in (n ∷ rest) (tree_of x) ≡ Sticks
old_leaf (node.Int z) n rest h = refl
old_leaf (node.Bool b) n rest h = refl
old_leaf (node.Made c ts) n rest h = absurd h
old_leaf (node.Pointer p) n rest h = absurd h
old_leaf node.Gone n rest h = refl

new_leaf : (x : TreeNode) (n : ℕ) (rest : List ℕ) (u : T) → IsLeaf x → put_in (n ∷ rest) u (tree_of x) ≡ Sticks
new_leaf (node.Int z) n rest u h = refl
new_leaf (node.Bool b) n rest u h = refl
new_leaf (node.Made c ts) n rest u h = absurd h
new_leaf (node.Pointer p) n rest u h = absurd h
new_leaf node.Gone n rest u h = refl

pub old_stuck : (r : Result T Halt) (path rest : List ℕ) (n : ℕ) (here : T) (x : TreeNode) → path ≡ n ∷ rest → here ≡ tree_of x → IsLeaf x → r ≡ Err halt.Stuck → Comes r (tree_in path here) (λ t. t)
old_stuck r path rest n here x is_path is_here leaf is =
    subst (λ q. Comes q (tree_in path here) (λ t. t)) (sym is) (ap (λ p. tree_in p here) is_path ∙ ap (tree_in (n ∷ rest)) is_here ∙ old_leaf x n rest leaf)

pub new_stuck : (r : Result T Halt) (path rest : List ℕ) (n : ℕ) (u here there : T) (x : TreeNode) → path ≡ n ∷ rest → here ≡ tree_of x → IsLeaf x → r ≡ Err halt.Stuck → Comes r (put_in path u here) (λ _. there)
new_stuck r path rest n u here there x is_path is_here leaf is =
    subst (λ q. Comes q (put_in path u here) (λ _. there)) (sym is) (ap (λ p. put_in p u here) is_path ∙ ap (put_in (n ∷ rest) u) is_here ∙ new_leaf x n rest u leaf)

-- ---- the frames of a state

get_push : {A : Type 0} (xs : List A) (x : A) (n : ℕ) → (n ≡ length xs → ⊥) → slice_get (xs ++ x ∷ []) n ≡ slice_get xs n
get_push [] x zero h = absurd (h refl)
get_push [] x (suc n) h = refl
get_push (y ∷ xs) x zero h = refl
get_push (y ∷ xs) x (suc n) h = get_push xs x n (λ e. h (omega arith))

get_end : {A : Type 0} (xs : List A) (x : A) (n : ℕ) → n ≡ length xs → slice_get (xs ++ x ∷ []) n ≡ Some x
get_end [] x zero h = refl
get_end [] x (suc n) h = absurd (omega arith)
get_end (y ∷ xs) x zero h = absurd (omega arith)
get_end (y ∷ xs) x (suc n) h = get_end xs x n (omega arith)

set_push : {A : Type 0} (xs : List A) (x y : A) (n : ℕ) → (n ≡ length xs → ⊥) → slice_set (xs ++ x ∷ []) n y ≡ slice_set xs n y ++ x ∷ []
set_push [] x y zero h = absurd (h refl)
set_push [] x y (suc n) h = refl
set_push (z ∷ xs) x y zero h = refl
set_push (z ∷ xs) x y (suc n) h = ap (λ zs. z ∷ zs) (set_push xs x y n (λ e. h (omega arith)))

reverse-cons : {A : Type 0} (x : A) (xs : List A) → reverse (x ∷ xs) ≡ reverse xs ++ x ∷ []
reverse-cons x xs = reverse-append (x ∷ []) xs

-- frame n is entry n of the frames in the other order
frame_at-entry : {K : Type 0} (s : State K) (n : ℕ) → frame_at s n ≡ need (slice_get (reverse s) n)
frame_at-entry [] n = refl
frame_at-entry {K} (f ∷ fs) n = elim (eqb_tells n (length fs)) [
  | inl (is, same) ↦ ap (λ b. cond b (Yields f) (frame_at fs n)) is ∙ ap need (sym (get_end (reverse fs) f n (same ∙ sym (length-reverse fs)))) ∙ ap (λ xs. need (slice_get xs n)) (sym (reverse-cons f fs))
  | inr (is, other) ↦ ap (λ b. cond b (Yields f) (frame_at fs n)) is ∙ frame_at-entry fs n ∙ ap need (sym (get_push (reverse fs) f n (λ e. other (e ∙ length-reverse fs)))) ∙ ap (λ xs. need (slice_get xs n)) (sym (reverse-cons f fs))
]

pub frame_at-running : {K : Type 0} (f : Frame K) (fs : State K) (n : ℕ) → n ≡ length fs → frame_at (f ∷ fs) n ≡ Yields f
frame_at-running f fs n e = ap (λ b. cond b (Yields f) (frame_at fs n)) (eq-eqb n (length fs) e)

pub frame_at-behind : {K : Type 0} (f : Frame K) (bs : List (Frame K)) (n : ℕ) → (n ≡ length bs → ⊥) → frame_at (f ∷ reverse bs) n ≡ need (slice_get bs n)
frame_at-behind f bs n other =
    ap (λ b. cond b (Yields f) (frame_at (reverse bs) n)) (ne_eqb n (length (reverse bs)) (λ e. other (e ∙ length-reverse bs)))
    ∙ frame_at-entry (reverse bs) n ∙ ap (λ xs. need (slice_get xs n)) (reverse-reverse bs)

set_frame-running : {K : Type 0} (f g : Frame K) (fs : State K) (n : ℕ) → n ≡ length fs → set_frame (f ∷ fs) n g ≡ g ∷ fs
set_frame-running f g fs n e = ap (λ b. cond b (g ∷ fs) (f ∷ set_frame fs n g)) (eq-eqb n (length fs) e)

pub set_end : {A : Type 0} (xs : List A) (x y : A) (n : ℕ) → n ≡ length xs → slice_set (xs ++ x ∷ []) n y ≡ xs ++ y ∷ []
set_end [] x y zero h = refl
set_end [] x y (suc n) h = absurd (omega arith)
set_end (z ∷ xs) x y zero h = absurd (omega arith)
set_end (z ∷ xs) x y (suc n) h = ap (λ zs. z ∷ zs) (set_end xs x y n (omega arith))

set_frame-entry : {K : Type 0} (bs : List (Frame K)) (n : ℕ) (g : Frame K) → reverse (set_frame bs n g) ≡ slice_set (reverse bs) n g
set_frame-entry [] n g = refl
set_frame-entry {K} (f ∷ fs) n g =
    elim (eqb_tells n (length fs)) [
      | inl (is, same) ↦
          ap (λ b. reverse (cond b (g ∷ fs) (f ∷ set_frame fs n g))) is ∙ reverse-cons g fs
          ∙ sym (set_end (reverse fs) f g n (same ∙ sym (length-reverse fs))) ∙ ap (λ xs. slice_set xs n g) (sym (reverse-cons f fs))
      | inr (is, other) ↦
          ap (λ b. reverse (cond b (g ∷ fs) (f ∷ set_frame fs n g))) is ∙ reverse-cons f (set_frame fs n g) ∙ ap (λ xs. xs ++ f ∷ []) (set_frame-entry fs n g)
          ∙ sym (set_push (reverse fs) f g n (λ e. other (e ∙ length-reverse fs))) ∙ ap (λ xs. slice_set xs n g) (sym (reverse-cons f fs))
    ]

set_frame-behind : {K : Type 0} (f g : Frame K) (bs : List (Frame K)) (n : ℕ) → (n ≡ length bs → ⊥) → set_frame (f ∷ reverse bs) n g ≡ f ∷ reverse (slice_set bs n g)
set_frame-behind f g bs n other =
    ap (λ b. cond b (g ∷ reverse bs) (f ∷ set_frame (reverse bs) n g)) (ne_eqb n (length (reverse bs)) (λ e. other (e ∙ length-reverse bs)))
    ∙ ap (λ xs. f ∷ xs) (sym (reverse-reverse (set_frame (reverse bs) n g)) ∙ ap reverse (set_frame-entry (reverse bs) n g ∙ ap (λ xs. slice_set xs n g) (reverse-reverse bs)))

-- ---- spots

-- a spot is read and written in its frame
put_at-frame : {K : Type 0} (s : State K) (at : Spot) (u : Tree K) → put_at s at u ≡ (frame_at s at.frame >>= λ f. put_in_frame f at u >>= λ g. Yields (set_frame s at.frame g))
put_at-frame {K} s at u =
    then_same (frame_at s at.frame)
    (λ f. need (slice_get f.locals at.local) >>= λ t. put_in at.path u t >>= λ d. Yields (set_frame s at.frame (record f { locals = slice_set f.locals at.local d })))
    (λ f. put_in_frame f at u >>= λ g. Yields (set_frame s at.frame g)) (λ f.
    let set : Tree K → Try (List (Tree K)) = λ d. Yields (slice_set f.locals at.local d) in
    let framed : List (Tree K) → Try (Frame K) = λ ls. Yields (record f { locals = ls }) in
    let stated : Frame K → Try (State K) = λ g. Yields (set_frame s at.frame g) in
    then_same (need (slice_get f.locals at.local)) (λ t. put_in at.path u t >>= λ d. Yields (set_frame s at.frame (record f { locals = slice_set f.locals at.local d }))) (λ t. ((put_in at.path u t >>= set) >>= framed) >>= stated)
    (λ t. sym (ap (λ (m : Try (Frame K)). m >>= stated) (then_then (put_in at.path u t) set framed) ∙ then_then (put_in at.path u t) (λ d. set d >>= framed) stated))
    ∙ sym (ap (λ (m : Try (Frame K)). m >>= stated) (then_then (need (slice_get f.locals at.local)) (λ t. put_in at.path u t >>= set) framed) ∙ then_then (need (slice_get f.locals at.local)) (λ t. (put_in at.path u t >>= set) >>= framed) stated))

tree_at-known : {K : Type 0} (s : State K) (at : Spot) (f : Frame K) → frame_at s at.frame ≡ Yields f → tree_at s at ≡ tree_in_list f.locals at.local at.path
tree_at-known {K} s at f e = ap (λ (m : Try (Frame K)). m >>= λ g. need (slice_get g.locals at.local) >>= tree_in at.path) e

pub old_in_frame : (r : Result T Halt) (s : State (Unit {0})) (at : Spot) (f : F) → frame_at s at.frame ≡ Yields f → Comes r (tree_in_list f.locals at.local at.path) (λ t. t) → Comes r (tree_at s at) (λ t. t)
old_in_frame r s at f e h = comes_along r (tree_at s at) (tree_in_list f.locals at.local at.path) (λ t. t) (tree_at-known s at f e) h

pub new_in_frame : (r : Result T Halt) (s s' : State (Unit {0})) (at : Spot) (f g : F) (u : T) → frame_at s at.frame ≡ Yields f → s' ≡ set_frame s at.frame g → Comes r (put_in_frame f at u) (λ _. g) → Comes r (put_at s at u) (λ _. s')
new_in_frame r s s' at f g u e is h =
    subst (λ x. Comes r (put_at s at u) (λ _. x)) (sym is)
    (comes_along r (put_at s at u) (put_in_frame f at u >>= λ g. Yields (set_frame s at.frame g)) (λ _. set_frame s at.frame g)
    (put_at-frame s at u ∙ ap (λ (m : Try F). m >>= λ f. put_in_frame f at u >>= λ g. Yields (set_frame s at.frame g)) e)
    (comes_then r (put_in_frame f at u) (λ _. g) (set_frame s at.frame) h))

pub running_set : (f g : F) (fs : State (Unit {0})) (n : ℕ) → n ≡ length fs → g ∷ fs ≡ set_frame (f ∷ fs) n g
running_set f g fs n e = sym (set_frame-running f g fs n e)

pub behind_set : (f g : F) (bs : List F) (n : ℕ) → (n ≡ length bs → ⊥) → f ∷ reverse (slice_set bs n g) ≡ set_frame (f ∷ reverse bs) n g
behind_set f g bs n other = sym (set_frame-behind f g bs n other)

pub no_frame : (s : State (Unit {0})) (at : Spot) (u : T) → frame_at s at.frame ≡ Sticks → (tree_at s at ≡ Sticks) × (put_at s at u ≡ Sticks)
no_frame s at u e = (
  ap (λ (m : Try F). m >>= λ g. need (slice_get g.locals at.local) >>= tree_in at.path) e,
  put_at-frame s at u ∙ ap (λ (m : Try F). m >>= λ f. put_in_frame f at u >>= λ g. Yields (set_frame s at.frame g)) e,
)

-- ---- places

walk_stops : (h : Halt) (s : State (Unit {0})) (at : Spot) (path : List Proj) (i : ℕ) → i < length path → Stops h (tree_at s at) → Stops h (walk s at (drop i path))
walk_stops h s at [] i within e = absurd (omega arith)
walk_stops h s at (p ∷ ps) zero within e = stops_then h (tree_at s at) (λ t. onward t at p >>= λ next. walk s next ps) e
walk_stops h s at (p ∷ ps) (suc i) within e = walk_stops h s at ps i (omega arith) e

-- where no tree is at the spot that has been come to
pub spot_stops : (h : Halt) (s : State (Unit {0})) (p : Place) (at : Spot) (i : ℕ) → spot_of s p ≡ walk s at (drop i p.path) → i < length p.path → Stops h (tree_at s at) → Stops h (spot_of s p)
spot_stops h s p at i is within e = subst (Stops h) (sym is) (walk_stops h s at p.path i within e)
