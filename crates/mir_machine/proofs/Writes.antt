-- What reading and writing a spot of a state leaves as it was.
use Rattle.std.proofs.Common.{◌≡◌, ◌∙◌, inl, inr, refl, sym, ap, ℕ, zero, suc, ◌+◌, ◌==◌, ◌&&◌, Bool, true, false, cond, List, [], ◌∷◌, length, Option, Some, None, slice_get, slice_set, eq-eqb}
use Rattle.std.proofs.lemmas.Bool.Decides.{eqb_tells}
use Rattle.logic_term.specs.declared.kinds.Label.{Label}
use Rattle.mir_machine.specs.declared.spot.Spot.{Spot}
use Rattle.mir_machine.specs.Try.{Try, Yields, Panics, Sticks, ◌>>=◌, need}
use Rattle.mir_machine.specs.Tree.{Tree, Trees, Int, Truth, Made, Boxed, Shared, Unique, Gone, no_trees, and_tree, nth_tree, set_nth}
use Rattle.mir_machine.specs.Frame.{Frame, State}
use Rattle.mir_machine.specs.Memory.{child, with_child, tree_in, put_in, frame_at, set_frame, tree_at, put_at}
use Rattle.mir_ir.specs.declared.place.Place.{Place}
use Rattle.mir_machine.specs.Step.{past, at_label, whole}
use Rattle.mir_machine.specs.Good.{begins, overlap}
use Rattle.mir_machine.specs.Invariant.{Stop, stop_of, stops, local_at}
use Rattle.mir_machine.proofs.Undoing.{child_set, get_set, frame_at-set, set_frame-length, yields_same, yields_then}

-- ---- trees

-- what is read at a path can be written there, and is then what was put
abbrev Puts : {K : Type 0} → List ℕ → Tree K → Tree K → Type 0
Puts {K} path u t = (t' : Tree K) × (put_in path u t ≡ Yields t') × (tree_in path t' ≡ Yields u)

put_in_child : {K : Type 0} (n : ℕ) (path : List ℕ) (t u w : Tree K) (m : Try (Tree K)) → child t n ≡ m → (m >>= tree_in path) ≡ Yields w → ((c : Tree K) → tree_in path c ≡ Yields w → Puts path u c) → Puts (n ∷ path) u t
put_in_child {K} n path t u w (Yields c) is_c h below =
    let (d, is_d, there) = below c h in (
      with_child t n d,
      ap (λ (m : Try (Tree K)). m >>= λ c. put_in path u c >>= λ d. Yields (with_child t n d)) is_c ∙ ap (λ (m : Try (Tree K)). m >>= λ d. Yields (with_child t n d)) is_d,
      ap (λ (m : Try (Tree K)). m >>= tree_in path) (child_set t n c d is_c) ∙ there,
    )
put_in_child n path t u w (Panics c s) is_c h below = absurd (cc)
put_in_child n path t u w Sticks is_c h below = absurd (cc)

pub put_in_goes : {K : Type 0} (path : List ℕ) (t u w : Tree K) → tree_in path t ≡ Yields w → Puts path u t
put_in_goes [] t u w e = (u, refl, refl)
put_in_goes {K} (n ∷ path) t u w e = put_in_child n path t u w (child t n) refl e (λ c h. put_in_goes path c u w h)

nth_other : {K : Type 0} (ts : Trees K) (n m : ℕ) (d : Tree K) → (m ≡ n → ⊥) → nth_tree (set_nth ts n d) m ≡ nth_tree ts m
nth_other no_trees n m d h = refl
nth_other (and_tree t ts) zero zero d h = absurd (h refl)
nth_other (and_tree t ts) zero (suc m) d h = refl
nth_other (and_tree t ts) (suc n) zero d h = refl
nth_other (and_tree t ts) (suc n) (suc m) d h = nth_other ts n m d (λ e. h (ap suc e))

child_other : {K : Type 0} (x c : Tree K) (n m : ℕ) (d : Tree K) → child x n ≡ Yields c → (m ≡ n → ⊥) → child (with_child x n d) m ≡ child x m
child_other (Made k ts) c n m d e h = ap need (nth_other ts n m d h)
child_other (Boxed t) c zero zero d e h = absurd (h refl)
child_other (Boxed t) c zero (suc m) d e h = refl
child_other (Boxed t) c (suc n) m d e h = absurd (cc)
child_other (Int z) c n m d e h = refl
child_other (Truth b) c n m d e h = refl
child_other (Shared at) c n m d e h = refl
child_other (Unique k at) c n m d e h = refl
child_other Gone c n m d e h = refl

-- what is at a path that neither begins the other nor goes on from it is as it was
put_in_apart : {K : Type 0} (p q : List ℕ) (t u t' : Tree K) → begins p q ≡ false → put_in p u t ≡ Yields t' → tree_in q t' ≡ tree_in q t
put_in_apart [] q t u t' h e = absurd (cc)
put_in_apart (n ∷ p) [] t u t' h e = absurd (cc)
put_in_apart {K} (n ∷ p) (m ∷ q) t u t' h e =
    let (c, is_c, after_c) = yields_then (child t n) (λ c. put_in p u c >>= λ d. Yields (with_child t n d)) t' e in
    let (d, is_d, after_d) = yields_then (put_in p u c) (λ d. Yields (with_child t n d)) t' after_c in
    let is_t : with_child t n d ≡ t' = yields_same (with_child t n d) t' after_d in
    ap (tree_in (m ∷ q)) (sym is_t) ∙ elim (eqb_tells n m) [
      | inl (is, same) ↦
          ap (λ k. child (with_child t n d) k >>= tree_in q) (sym same) ∙ ap (λ (x : Try (Tree K)). x >>= tree_in q) (child_set t n c d is_c)
          ∙ put_in_apart p q c u d (sym (ap (λ b. b && begins p q) is) ∙ h) is_d
          ∙ sym (ap (λ (x : Try (Tree K)). x >>= tree_in q) is_c) ∙ ap (λ k. child t k >>= tree_in q) same
      | inr (is, other) ↦ ap (λ (x : Try (Tree K)). x >>= tree_in q) (child_other t c n m d is_c (λ e. other (sym e)))
    ]

-- ---- frames

get_other : {A : Type 0} (ls : List A) (x : ℕ) (u : A) (y : ℕ) → (y ≡ x → ⊥) → slice_get (slice_set ls x u) y ≡ slice_get ls y
get_other [] x u y h = refl
get_other (l ∷ ls) zero u zero h = absurd (h refl)
get_other (l ∷ ls) zero u (suc y) h = refl
get_other (l ∷ ls) (suc x) u zero h = refl
get_other (l ∷ ls) (suc x) u (suc y) h = get_other ls x u y (λ e. h (ap suc e))

frame_other : {K : Type 0} (s : State K) (n m : ℕ) (g : Frame K) → (m ≡ n → ⊥) → frame_at (set_frame s n g) m ≡ frame_at s m
frame_other [] n m g h = refl
frame_other {K} (f ∷ fs) n m g h = elim (eqb_tells n (length fs)) [
  | inl (is, same) ↦
      elim (eqb_tells m (length fs)) [
        | inl (is_m, same_m) ↦ absurd (h (same_m ∙ sym same))
        | inr (is_m, other) ↦ ap (λ b. frame_at (cond b (g ∷ fs) (f ∷ set_frame fs n g)) m) is ∙ ap (λ b. cond b (Yields g) (frame_at fs m)) is_m ∙ sym (ap (λ b. cond b (Yields f) (frame_at fs m)) is_m)
      ]
  | inr (is, other) ↦
      ap (λ b. frame_at (cond b (g ∷ fs) (f ∷ set_frame fs n g)) m) is
      ∙ ap (λ k. cond (m == k) (Yields f) (frame_at (set_frame fs n g) m)) (set_frame-length fs n g)
      ∙ ap (λ q. cond (m == length fs) (Yields f) q) (frame_other fs n m g h)
]

stops_set : {K : Type 0} (s : State K) (n : ℕ) (f g : Frame K) → frame_at s n ≡ Yields f → stop_of g ≡ stop_of f → stops (set_frame s n g) ≡ stops s
stops_set [] n f g e same = refl
stops_set {K} (h ∷ fs) n f g e same = elim (eqb_tells n (length fs)) [
  | inl (is, at) ↦
      ap (λ b. stops (cond b (g ∷ fs) (h ∷ set_frame fs n g))) is
      ∙ ap (λ k. k ∷ stops fs) (same ∙ ap stop_of (yields_same f h (sym e ∙ ap (λ b. cond b (Yields h) (frame_at fs n)) is)))
  | inr (is, other) ↦
      ap (λ b. stops (cond b (g ∷ fs) (h ∷ set_frame fs n g))) is
      ∙ ap (λ ks. stop_of h ∷ ks) (stops_set fs n f g (sym (ap (λ b. cond b (Yields h) (frame_at fs n)) is) ∙ e) same)
]

pub stops_length : {K : Type 0} (s : State K) → length (stops s) ≡ length s
stops_length [] = refl
stops_length (f ∷ fs) = ap suc (stops_length fs)

-- ---- a write

-- the state after a write: the frames stand at these stops, the tree is at the spot, and what does not overlap the spot is as it was
pub record Written {K : Type 0} (s : State K) (at : Spot) (u : Tree K) (ks : List Stop) (s' : State K) : Type 0 where
  pub stay : stops s' ≡ ks
  pub here : tree_at s' at ≡ Yields u
  pub others : (b : Spot) → overlap at b ≡ false → tree_at s' b ≡ tree_at s b

both_rest : (a b c : Bool) → a ≡ true → b ≡ true → (a && b && c) ≡ false → c ≡ false
both_rest true true c e d h = h
both_rest true false c e d h = absurd (cc)
both_rest false b c e d h = absurd (cc)

no_second : (a c : Bool) → (a && false && c) ≡ false
no_second true c = refl
no_second false c = refl

-- other locals do not overlap
other_local : (a b : Spot) → (b.frame ≡ a.frame → b.local ≡ a.local → ⊥) → overlap a b ≡ false
other_local a b h = elim (eqb_tells a.frame b.frame) [
  | inl (is, same) ↦
      elim (eqb_tells a.local b.local) [
        | inl (is_l, same_l) ↦ absurd (h (sym same) (sym same_l))
        | inr (is_l, other) ↦ ap (λ l. (a.frame == b.frame) && l && begins a.path b.path) is_l ∙ no_second (a.frame == b.frame) (begins a.path b.path)
      ]
  | inr (is, other) ↦ ap (λ f. f && (a.local == b.local) && begins a.path b.path) is
]

pub written_apart : {K : Type 0} {s s' : State K} {at : Spot} {u : Tree K} {ks : List Stop} → Written s at u ks s' → (b : Spot) → (b.frame ≡ at.frame → b.local ≡ at.local → ⊥) → tree_at s' b ≡ tree_at s b
written_apart {at = at} w b h = w.others b (other_local at b h)

module _ {K : Type 0} (s : State K) (at : Spot) (u : Tree K) where
  -- the state in which this frame has the tree in its local
  abbrev changed : Frame K → Tree K → State K
  changed f t = set_frame s at.frame (record f { locals = slice_set f.locals at.local t })

  -- from a frame, what is at a path in its local
  abbrev part : ℕ → List ℕ → Frame K → Try (Tree K)
  part x path f = need (slice_get f.locals x) >>= tree_in path

  written : (f : Frame K) (t t' : Tree K) → frame_at s at.frame ≡ Yields f → slice_get f.locals at.local ≡ Some t → put_in at.path u t ≡ Yields t' → tree_in at.path t' ≡ Yields u → Written s at u (stops s) (changed f t')
  written f t t' is_f is_t is_t' there =
      let g : Frame K = record f { locals = slice_set f.locals at.local t' } in
      let is_g : frame_at (changed f t') at.frame ≡ Yields g = frame_at-set s at.frame f g is_f in
      record {
        stay = stops_set s at.frame f g is_f refl;
        here = ap (λ (m : Try (Frame K)). m >>= part at.local at.path) is_g
            ∙ ap (λ (o : Option (Tree K)). need o >>= tree_in at.path) (get_set f.locals at.local t t' is_t) ∙ there;
        others = λ b apart. elim (eqb_tells at.frame b.frame) [
          | inl (is, same) ↦
              ap (λ n. frame_at (changed f t') n >>= part b.local b.path) (sym same)
              ∙ ap (λ (m : Try (Frame K)). m >>= part b.local b.path) is_g
              ∙ elim (eqb_tells at.local b.local) [
                | inl (is_l, same_l) ↦
                    ap (λ x. part x b.path g) (sym same_l) ∙ ap (λ (o : Option (Tree K)). need o >>= tree_in b.path) (get_set f.locals at.local t t' is_t)
                    ∙ put_in_apart at.path b.path t u t' (both_rest (at.frame == b.frame) (at.local == b.local) (begins at.path b.path) is is_l apart) is_t'
                    ∙ sym (ap (λ (o : Option (Tree K)). need o >>= tree_in b.path) is_t) ∙ ap (λ x. part x b.path f) same_l
                | inr (is_l, other) ↦ ap (λ (o : Option (Tree K)). need o >>= tree_in b.path) (get_other f.locals at.local t' b.local (λ e. other (sym e)))
              ]
              ∙ sym (ap (λ (m : Try (Frame K)). m >>= part b.local b.path) is_f)
              ∙ ap (λ n. frame_at s n >>= part b.local b.path) same
          | inr (is, other) ↦ ap (λ (m : Try (Frame K)). m >>= part b.local b.path) (frame_other s at.frame b.frame g (λ e. other (sym e)))
        ];
      }

  -- where something is, something can be put
  pub put_yields : (w : Tree K) → tree_at s at ≡ Yields w → (s' : State K) × (put_at s at u ≡ Yields s') × Written s at u (stops s) s'
  put_yields w e = in_frame (frame_at s at.frame) refl e
    where
      in_local : (f : Frame K) → frame_at s at.frame ≡ Yields f → (o : Option (Tree K)) → slice_get f.locals at.local ≡ o → (need o >>= tree_in at.path) ≡ Yields w
          → (s' : State K) × ((need o >>= λ t. put_in at.path u t >>= λ t'. Yields (changed f t')) ≡ Yields s') × Written s at u (stops s) s'
      in_local f is_f (Some t) is_t h =
          let (t', is_t', there) = put_in_goes at.path t u w h in
          (changed f t', ap (λ (m : Try (Tree K)). m >>= λ t'. Yields (changed f t')) is_t', written f t t' is_f is_t is_t' there)
      in_local f is_f None is_t h = absurd (cc)

      in_frame : (m : Try (Frame K)) → frame_at s at.frame ≡ m → (m >>= part at.local at.path) ≡ Yields w
          → (s' : State K) × ((m >>= λ f. need (slice_get f.locals at.local) >>= λ t. put_in at.path u t >>= λ t'. Yields (changed f t')) ≡ Yields s') × Written s at u (stops s) s'
      in_frame (Yields f) is_f h = in_local f is_f (slice_get f.locals at.local) refl h
      in_frame (Panics c p) is_f h = absurd (cc)
      in_frame Sticks is_f h = absurd (cc)

-- ---- the running frame goes on

-- each spot has the same in both states
abbrev pub SameTrees : {K : Type 0} → State K → State K → Type 0
SameTrees s u = (at : Spot) → tree_at u at ≡ tree_at s at

-- what is outside of the frame of this number is the same
abbrev pub SameElsewhere : {K : Type 0} → ℕ → State K → State K → Type 0
SameElsewhere n s u = (at : Spot) → (at.frame ≡ n → ⊥) → tree_at u at ≡ tree_at s at

pub written_elsewhere : {K : Type 0} {s s' : State K} {at : Spot} {u : Tree K} {ks : List Stop} (n : ℕ) → at.frame ≡ n → Written s at u ks s' → SameElsewhere n s s'
written_elsewhere n is w b other = written_apart w b (λ e d. other (e ∙ is))

pub written_on : {K : Type 0} {s s' : State K} {at : Spot} {u : Tree K} {ks : List Stop} (ls : List Stop) (s'' : State K) → Written s at u ks s' → stops s'' ≡ ls → SameTrees s' s'' → Written s at u ls s''
written_on {at = at} ls s'' w stay same = record { stay = stay; here = same at ∙ w.here; others = λ b d. same b ∙ w.others b d }

abbrev pub at_next : Stop → Stop
at_next g = record g { statement = g.statement + 1 }

abbrev pub at_start : Label → Stop → Stop
at_start l g = record g { label = l; statement = 0 }

-- a frame with other numbers has the same trees
same_locals : {K : Type 0} (f g : Frame K) (fs : State K) → f.locals ≡ g.locals → SameTrees (f ∷ fs) (g ∷ fs)
same_locals {K} f g fs same at = by (at.frame == length fs)
  where
    by : (c : Bool) → (cond c (Yields g) (frame_at fs at.frame) >>= λ f. need (slice_get f.locals at.local) >>= tree_in at.path) ≡ (cond c (Yields f) (frame_at fs at.frame) >>= λ f. need (slice_get f.locals at.local) >>= tree_in at.path)
    by true = ap (λ ls. need (slice_get ls at.local) >>= tree_in at.path) (sym same)
    by false = refl

first_stop : (h g : Stop) (hs gs : List Stop) → h ∷ hs ≡ g ∷ gs → h ≡ g
first_stop h g hs gs e = cc

other_stops : (h g : Stop) (hs gs : List Stop) → h ∷ hs ≡ g ∷ gs → hs ≡ gs
other_stops h g hs gs e = cc

both_stops : (h g : Stop) (hs gs : List Stop) → h ≡ g → hs ≡ gs → h ∷ hs ≡ g ∷ gs
both_stops h g hs gs e d = ap (λ k. k ∷ hs) e ∙ ap (λ ks. g ∷ ks) d

pub past_yields : {K : Type 0} (s : State K) (g : Stop) (gs : List Stop) → stops s ≡ g ∷ gs → (s' : State K) × (past s ≡ Yields s') × (stops s' ≡ at_next g ∷ gs) × SameTrees s s'
past_yields [] g gs e = absurd (cc)
past_yields {K} (f ∷ fs) g gs e =
    let f' : Frame K = record f { statement = f.statement + 1 } in
    (f' ∷ fs, refl, both_stops (stop_of f') (at_next g) (stops fs) gs (ap at_next (first_stop (stop_of f) g (stops fs) gs e)) (other_stops (stop_of f) g (stops fs) gs e), same_locals f f' fs refl)

pub label_yields : {K : Type 0} (s : State K) (l : Label) (g : Stop) (gs : List Stop) → stops s ≡ g ∷ gs → (s' : State K) × (at_label l s ≡ Yields s') × (stops s' ≡ at_start l g ∷ gs) × SameTrees s s'
label_yields [] l g gs e = absurd (cc)
label_yields {K} (f ∷ fs) l g gs e =
    let f' : Frame K = record f { label = l; statement = 0 } in
    (f' ∷ fs, refl, both_stops (stop_of f') (at_start l g) (stops fs) gs (ap (at_start l) (first_stop (stop_of f) g (stops fs) gs e)) (other_stops (stop_of f) g (stops fs) gs e), same_locals f f' fs refl)

-- ---- a frame more

pub same_behind : {K : Type 0} (f : Frame K) (fs : State K) → SameElsewhere (length fs) fs (f ∷ fs)
same_behind {K} f fs at other = elim (eqb_tells at.frame (length fs)) [
  | inl (is, same) ↦ absurd (other same)
  | inr (is, d) ↦ ap (λ c. cond c (Yields f) (frame_at fs at.frame) >>= λ f. need (slice_get f.locals at.local) >>= tree_in at.path) is
]

need_same : {A : Type 0} (o : Option A) → (need o >>= λ t. Yields t) ≡ need o
need_same (Some a) = refl
need_same None = refl

-- the locals of the first frame
pub first_local : {K : Type 0} (f : Frame K) (fs : State K) (x : ℕ) → tree_at (f ∷ fs) (local_at (length fs) x) ≡ need (slice_get f.locals x)
first_local {K} f fs x =
    ap (λ c. cond c (Yields f) (frame_at fs (length fs)) >>= λ f. need (slice_get f.locals x) >>= tree_in []) (eq-eqb (length fs) (length fs) refl)
    ∙ need_same (slice_get f.locals x)

pub whole-path : (p : Place) → p.path ≡ [] → p ≡ whole p.local
whole-path p e = λ i. record { local = p.local; path = e i }
