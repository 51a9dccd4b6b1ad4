-- Trees without references: what such a tree reads as does not depend on the state, nor on where it stands.
use Rattle.std.proofs.Common.{◌≡◌, ◌∙◌, refl, sym, ap, ap₂, subst, ℕ, zero, suc, ℤ, Bool, true, false, List, [], ◌∷◌, ◌++◌, length, Option, Some, slice_get, true≢false, arith}
use Rattle.std.proofs.lemmas.Option.{same_Some}
use Rattle.logic_term.specs.declared.declaration.AdtDecl.{AdtDecl}
use Rattle.logic_term.specs.declared.kinds.AdtId.{AdtId}
use Rattle.logic_term.specs.declared.kinds.Ctor.{Ctor}
use Rattle.logic_term.specs.declared.kinds.Ctor.TheVariants.{Tuple, Variant, Closure}
use Rattle.logic_term.specs.Sort.{Declarations, HasSort, HaveSorts, instance, instances, nth_ty, of_int as int_sort, of_math_int as math_sort, of_bool as bool_sort, of_tuple as tuple_sort, of_adt as adt_sort, of_closure as closure_sort, of_boxed as boxed_sort, of_shared as shared_sort, of_snapshot as snapshot_sort, of_unique as unique_sort, of_none as none_sort, of_more as more_sorts}
use Rattle.logic_term.specs.Theory.{fields_of, variant_of, declared}
use Rattle.logic_term.specs.TyView.{tys_of}
use Rattle.logic_term.specs.Ty.{Ty, Tys, int, bool, math_int, tuple, adt, boxed, shared, unique, param, closure, viewed, snapshot, no_tys, and_ty}
use Rattle.logic_term.specs.Value.{Value, Values, Number, Flag, nothing, no_values, and_value, nth_value, nth_part}
use Rattle.logic_term.specs.Value as value
use Rattle.mir_ir.specs.declared.body.Bodies.{Bodies}
use Rattle.mir_ir.specs.Declares.{Declares, theory_in}
use Rattle.mir_ir.proofs.Declared.{declared_there}
use Rattle.mir_machine.specs.declared.spot.Spot.{Spot}
use Rattle.mir_machine.specs.Try.{Yields}
use Rattle.mir_machine.specs.Tree.{Tree, Trees, Int, Truth, Made, Boxed, Shared, Unique, Gone, no_trees, and_tree, trees_of, nth_tree}
use Rattle.mir_machine.specs.Frame.{State}
use Rattle.mir_machine.specs.Memory.{tree_at, down}
use Rattle.mir_machine.specs.Reads.{View, Owner, Reads, ReadsAll, of_lent, of_gone, of_int, of_truth, of_made, of_boxed, of_shared as reads_shared, of_unique as reads_unique, of_none, of_more}
use Rattle.mir_machine.specs.Typed.{Met, Typed, AreTyped, is_int, is_truth, is_tuple, is_adt, is_closure, is_boxed, is_shared, is_unique, none_typed, more_typed}
use Rattle.mir_machine.specs.Good.{here, not_lent}
use Rattle.mir_machine.specs.Invariant.{HasType}
use Rattle.mir_machine.proofs.TypedTrees.{typed_same}
use Rattle.mir_machine.proofs.TypedRows.{AreOf}
use Rattle.prophecy_sim.specs.Programs.{IsOwned, AreOwned, HaveOwnedFields}

-- the tree reads as the value in every state and from every place
abbrev pub Shows : {K : Type 0} → Tree K → Value → Type 0
Shows {K = K} t v = (gaps : Bool) (s : State K) (final : K → Spot → Value) (w : View K) (at : Spot) → Reads gaps s final not_lent w at t v

-- ---- values

-- the value of a tree without references
abbrev mutual
  pub tree_value : {K : Type 0} → Tree K → Value
  tree_value (Int z) = Number z
  tree_value (Truth b) = Flag b
  tree_value (Made c ts) = value.Made c (tree_values ts)
  tree_value (Boxed t) = tree_value t
  tree_value (Shared at) = nothing
  tree_value (Unique k at) = nothing
  tree_value Gone = nothing

  pub tree_values : {K : Type 0} → Trees K → Values
  tree_values no_trees = no_values
  tree_values (and_tree t ts) = and_value (tree_value t) (tree_values ts)

first_none : {A : Type 0} (xs ys : List A) → xs ++ ys ≡ [] → xs ≡ []
first_none [] ys e = refl
first_none (x ∷ xs) ys e = absurd (cc)

second_none : {A : Type 0} (xs ys : List A) → xs ++ ys ≡ [] → ys ≡ []
second_none [] ys e = e
second_none (x ∷ xs) ys e = absurd (cc)

some_met : {A : Type 0} (x : A) (xs : List A) → x ∷ xs ≡ [] → ⊥
some_met x xs e = cc

module _ {K : Type 0} (Δ : Declarations) where
  -- ---- a typed tree without references shows its value

  mutual
    typed_shows : {s : State K} {t : Tree K} {ty : Ty} {met : List Met} → Typed Δ s t ty met → met ≡ [] → Shows t (tree_value t)
    typed_shows (is_int e) none = λ gaps s final w at. of_int refl
    typed_shows is_truth none = λ gaps s final w at. of_truth refl
    typed_shows (is_tuple h) none = λ gaps s final w at. of_made refl (all_typed_show h none gaps s final w at 0)
    typed_shows (is_adt e h) none = λ gaps s final w at. of_made refl (all_typed_show h none gaps s final w at 0)
    typed_shows (is_closure h) none = λ gaps s final w at. of_made refl (all_typed_show h none gaps s final w at 0)
    typed_shows (is_boxed h) none = λ gaps s final w at. of_boxed refl (typed_shows h none gaps s final w (down at 0))
    typed_shows (is_shared e h) none = absurd (some_met _ _ none)
    typed_shows (is_unique e h) none = absurd (some_met _ _ none)

    all_typed_show : {u : State K} {ts : Trees K} {tys : Tys} {met : List Met} → AreTyped Δ u ts tys met → met ≡ []
        → (gaps : Bool) (s : State K) (final : K → Spot → Value) (w : View K) (at : Spot) (n : ℕ) → ReadsAll gaps s final not_lent w at n ts (tree_values ts)
    all_typed_show none_typed none gaps s final w at n = of_none
    all_typed_show (more_typed {first = first} {rest = rest} h hs) none gaps s final w at n =
        of_more (typed_shows h (first_none first rest none) gaps s final w (down at n)) (all_typed_show hs (second_none first rest none) gaps s final w at (suc n))

  -- ---- its value has its type

  mutual
    typed_sort : {s : State K} {t : Tree K} {ty : Ty} {met : List Met} → Typed Δ s t ty met → met ≡ [] → HasSort Δ (tree_value t) ty
    typed_sort (is_int e) none = int_sort e
    typed_sort is_truth none = bool_sort
    typed_sort (is_tuple h) none = tuple_sort (all_typed_sorts h none)
    typed_sort (is_adt e h) none = adt_sort e (all_typed_sorts h none)
    typed_sort (is_closure h) none = closure_sort (all_typed_sorts h none)
    typed_sort (is_boxed h) none = boxed_sort (typed_sort h none)
    typed_sort (is_shared e h) none = absurd (some_met _ _ none)
    typed_sort (is_unique e h) none = absurd (some_met _ _ none)

    all_typed_sorts : {s : State K} {ts : Trees K} {tys : Tys} {met : List Met} → AreTyped Δ s ts tys met → met ≡ [] → HaveSorts Δ (tree_values ts) tys
    all_typed_sorts none_typed none = none_sort
    all_typed_sorts (more_typed {first = first} {rest = rest} h hs) none = more_sorts (typed_sort h (first_none first rest none)) (all_typed_sorts hs (second_none first rest none))

  -- ---- what reads as a value reads as the tree's

  reads_int : {gaps : Bool} {s : State K} {final : K → Spot → Value} {w : View K} {at : Spot} {z : ℤ} {v : Value} → Reads gaps s final not_lent w at (Int z) v → v ≡ Number z
  reads_int (of_lent e) = absurd (cc)
  reads_int (of_int e) = refl

  reads_truth : {gaps : Bool} {s : State K} {final : K → Spot → Value} {w : View K} {at : Spot} {b : Bool} {v : Value} → Reads gaps s final not_lent w at (Truth b) v → v ≡ Flag b
  reads_truth (of_lent e) = absurd (cc)
  reads_truth (of_truth e) = refl

  reads_made : {gaps : Bool} {s : State K} {final : K → Spot → Value} {w : View K} {at : Spot} {c : Ctor} {ts : Trees K} {v : Value} → Reads gaps s final not_lent w at (Made c ts) v
      → (vs : Values) × (v ≡ value.Made c vs) × ReadsAll gaps s final not_lent w at 0 ts vs
  reads_made (of_lent e) = absurd (cc)
  reads_made (of_made {vs = vs} e parts) = (vs, refl, parts)

  reads_boxed : {gaps : Bool} {s : State K} {final : K → Spot → Value} {w : View K} {at : Spot} {t : Tree K} {v : Value} → Reads gaps s final not_lent w at (Boxed t) v → Reads gaps s final not_lent w (down at 0) t v
  reads_boxed (of_lent e) = absurd (cc)
  reads_boxed (of_boxed e h) = h

  reads_none : {gaps : Bool} {s : State K} {final : K → Spot → Value} {w : View K} {at : Spot} {n : ℕ} {vs : Values} → ReadsAll gaps s final not_lent w at n no_trees vs → vs ≡ no_values
  reads_none of_none = refl

  reads_more : {gaps : Bool} {s : State K} {final : K → Spot → Value} {w : View K} {at : Spot} {n : ℕ} {t : Tree K} {ts : Trees K} {vs : Values} → ReadsAll gaps s final not_lent w at n (and_tree t ts) vs
      → (v : Value) × (us : Values) × (vs ≡ and_value v us) × Reads gaps s final not_lent w (down at n) t v × ReadsAll gaps s final not_lent w at (suc n) ts us
  reads_more (of_more {v = v} {vs = us} h hs) = (v, us, refl, h, hs)

  mutual
    typed_reads : {u s : State K} {gaps : Bool} {final : K → Spot → Value} {w : View K} {at : Spot} {t : Tree K} {ty : Ty} {met : List Met} {v : Value} → Typed Δ u t ty met → met ≡ []
        → Reads gaps s final not_lent w at t v → v ≡ tree_value t
    typed_reads (is_int e) none r = reads_int r
    typed_reads is_truth none r = reads_truth r
    typed_reads (is_tuple h) none r = let p = reads_made r in p.1 ∙ ap (value.Made Tuple) (all_typed_read h none p.2)
    typed_reads (is_adt {d = d} {k = k} e h) none r = let p = reads_made r in p.1 ∙ ap (value.Made (Variant d k)) (all_typed_read h none p.2)
    typed_reads (is_closure {n = n} h) none r = let p = reads_made r in p.1 ∙ ap (value.Made (Closure n)) (all_typed_read h none p.2)
    typed_reads (is_boxed h) none r = typed_reads h none (reads_boxed r)
    typed_reads (is_shared e h) none r = absurd (some_met _ _ none)
    typed_reads (is_unique e h) none r = absurd (some_met _ _ none)

    all_typed_read : {u s : State K} {gaps : Bool} {final : K → Spot → Value} {w : View K} {at : Spot} {n : ℕ} {ts : Trees K} {tys : Tys} {met : List Met} {vs : Values} → AreTyped Δ u ts tys met → met ≡ []
        → ReadsAll gaps s final not_lent w at n ts vs → vs ≡ tree_values ts
    all_typed_read none_typed none r = reads_none r
    all_typed_read (more_typed {first = first} {rest = rest} h hs) none r =
        let p = reads_more r in p.2 ∙ ap₂ and_value (typed_reads h (first_none first rest none) p.3) (all_typed_read hs (second_none first rest none) p.4)

  -- ---- trees that are of a type in every state

  abbrev pub Fits : Tree K → Ty → Type 0
  Fits t ty = (s : State K) → Typed Δ s t ty []

  pub fit_value : (t : Tree K) (ty : Ty) → Fits t ty → (v : Value) × Shows t v
  fit_value t ty h = (tree_value t, typed_shows (h []) refl)

  pub fit_shows : {gaps : Bool} {s : State K} {final : K → Spot → Value} {w : View K} {at : Spot} (ty : Ty) (t : Tree K) (v : Value) → Fits t ty → Reads gaps s final not_lent w at t v → Shows t v
  fit_shows ty t v h r = subst (Shows t) (sym (typed_reads (h []) refl r)) (typed_shows (h []) refl)

  pub fit_is : (ty : Ty) (t : Tree K) (v : Value) → Fits t ty → Shows t v → v ≡ tree_value t
  fit_is ty t v h shows = typed_reads (h []) refl (shows false [] (λ k at. nothing) Owner here)

  pub fit_sort : (ty : Ty) (t : Tree K) (v : Value) → Fits t ty → Shows t v → HasSort Δ v ty
  fit_sort ty t v h shows = subst (λ u. HasSort Δ u ty) (sym (fit_is ty t v h shows)) (typed_sort (h []) refl)

pub int_shows : (K : Type 0) (z : ℤ) → Shows {K = K} (Int z) (Number z)
int_shows K z gaps s final w at = of_int refl

pub truth_shows : (K : Type 0) (b : Bool) → Shows {K = K} (Truth b) (Flag b)
truth_shows K b gaps s final w at = of_truth refl

pub shows_int : {K : Type 0} (z : ℤ) (v : Value) → Shows {K = K} (Int z) v → v ≡ Number z
shows_int z v h = reads_int (λ d k. Some no_tys) (h false [] (λ k at. nothing) Owner here)

pub shows_truth : {K : Type 0} (b : Bool) (v : Value) → Shows {K = K} (Truth b) v → v ≡ Flag b
shows_truth b v h = reads_truth (λ d k. Some no_tys) (h false [] (λ k at. nothing) Owner here)

-- a box shows what it holds shows
pub box_shows : {K : Type 0} (t : Tree K) (v : Value) → Shows t v → Shows (Boxed t) v
box_shows t v h gaps s final w at = of_boxed refl (h gaps s final w (down at 0))

-- ---- parts

no_tree : {K : Type 0} (to : Spot) (t : Tree K) → tree_at [] to ≡ Yields t → ⊥
no_tree to t e = cc

-- what reads as a value in a state without frames refers to nothing, and so it reads as that value in every state and from every place
module _ {K : Type 0} (alone : State K) (is_alone : alone ≡ []) (exact : Bool) (is_exact : exact ≡ false) (supply : K → Spot → Value) where
  mutual
    reads_anywhere : {gaps : Bool} {s : State K} {final : K → Spot → Value} {w view : View K} {at from : Spot} {t : Tree K} {v : Value} → Reads exact alone supply not_lent view from t v → Reads gaps s final not_lent w at t v
    reads_anywhere (of_lent e) = absurd (cc)
    reads_anywhere (of_gone e f) = absurd (true≢false (sym e ∙ is_exact))
    reads_anywhere (of_int e) = of_int refl
    reads_anywhere (of_truth e) = of_truth refl
    reads_anywhere (of_made e parts) = of_made refl (all_read_anywhere parts)
    reads_anywhere (of_boxed e h) = of_boxed refl (reads_anywhere h)
    reads_anywhere (reads_shared {to = to} {t = t} e is h) = absurd (no_tree to t (subst (λ u. tree_at u to ≡ Yields t) is_alone is))
    reads_anywhere (reads_unique {to = to} {t = t} e is h) = absurd (no_tree to t (subst (λ u. tree_at u to ≡ Yields t) is_alone is))

    all_read_anywhere : {gaps : Bool} {s : State K} {final : K → Spot → Value} {w view : View K} {at from : Spot} {n m : ℕ} {ts : Trees K} {vs : Values} → ReadsAll exact alone supply not_lent view from m ts vs
        → ReadsAll gaps s final not_lent w at n ts vs
    all_read_anywhere of_none = of_none
    all_read_anywhere (of_more h hs) = of_more (reads_anywhere h) (all_read_anywhere hs)

alone_shows : {K : Type 0} (at : Spot) (t : Tree K) (v : Value) → Reads false [] (λ k at. nothing) not_lent Owner at t v → Shows t v
alone_shows at t v h gaps s final w to = reads_anywhere [] refl false refl (λ k at. nothing) h

nth_shows : {K : Type 0} (ts : Trees K) (vs : Values) (at : Spot) (m n : ℕ) (t : Tree K) → ReadsAll false [] (λ k at. nothing) not_lent Owner at m ts vs → nth_tree ts n ≡ Some t → Shows t (nth_value vs n)
nth_shows no_trees vs at m n t h e = absurd (cc)
nth_shows (and_tree u ts) vs at m zero t (of_more {v = v} h hs) e = subst (λ x. Shows x v) (same_Some _ _ e) (alone_shows (down at m) u v h)
nth_shows (and_tree u ts) vs at m (suc n) t (of_more {vs = us} h hs) e = nth_shows ts us at (suc m) n t hs e

-- a part of a made tree shows the part of what the tree shows
pub field_shows : {K : Type 0} (c : Ctor) (ts : Trees K) (n : ℕ) (t : Tree K) (v : Value) → nth_tree ts n ≡ Some t → Shows (Made c ts) v → Shows t (nth_part n v)
field_shows c ts n t v e h =
    let (vs, is, parts) = reads_made (λ d k. Some no_tys) (h false [] (λ k at. nothing) Owner here) in
    subst (λ u. Shows t (nth_part n u)) (sym is) (nth_shows ts vs here 0 n t parts e)

-- a box holds what shows what the box shows
pub held_shows : {K : Type 0} (t : Tree K) (v : Value) → Shows (Boxed t) v → Shows t v
held_shows t v h = alone_shows (down here 0) t v (reads_boxed (λ d k. Some no_tys) (h false [] (λ k at. nothing) Owner here))

-- a value that a made tree shows is made of values that its parts show
pub made_shown : {K : Type 0} (Δ : Declarations) (c : Ctor) (ts : Trees K) (v : Value) → Shows (Made c ts) v → (vs : Values) × (v ≡ value.Made c vs)
made_shown Δ c ts v h = let p = reads_made Δ (h false [] (λ k at. nothing) Owner here) in (p.0, p.1)

-- ---- lists

-- each tree is of its type
abbrev pub AllFit : {K : Type 0} → Declarations → List (Tree K) → List Ty → Type 0
AllFit {K} Δ ts tys = (n : ℕ) (ty : Ty) → slice_get tys n ≡ Some ty → (t : Tree K) × (slice_get ts n ≡ Some t) × Fits Δ t (instance no_tys ty)

first_fits : {K : Type 0} (Δ : Declarations) (t : Tree K) (ts : List (Tree K)) (ty : Ty) (tys : List Ty) → AllFit Δ (t ∷ ts) (ty ∷ tys) → Fits Δ t (instance no_tys ty)
first_fits Δ t ts ty tys fit = let first = fit 0 ty refl in subst (λ u. Fits Δ u (instance no_tys ty)) (sym (same_Some _ _ first.1)) first.2

-- ---- types without references

abbrev pub AllOwned : Bodies → (AdtId → Bool) → List Ty → Type 0
AllOwned bodies owns tys = (i : ℕ) (ty : Ty) → slice_get tys i ≡ Some ty → IsOwned bodies owns ty

module _ (bodies : Bodies) (owns : AdtId → Bool) where
  owned_at : (θ : Tys) (n : ℕ) → AreOwned bodies owns θ → IsOwned bodies owns (nth_ty θ n)
  owned_at no_tys n h = tt
  owned_at (and_ty t ts) zero h = h.0
  owned_at (and_ty t ts) (suc n) h = owned_at ts n h.1

  mutual
    pub owned_instance : (θ : Tys) (ty : Ty) → AreOwned bodies owns θ → IsOwned bodies owns ty → IsOwned bodies owns (instance θ ty)
    owned_instance θ (int k) h o = tt
    owned_instance θ bool h o = tt
    owned_instance θ math_int h o = tt
    owned_instance θ (tuple ts) h o = owned_instances θ ts h o
    owned_instance θ (adt d rs ts) h o = (o.0, o.1, owned_instances θ ts h o.2)
    owned_instance θ (boxed t) h o = owned_instance θ t h o
    owned_instance θ (param n) h o = owned_at θ n h
    owned_instance θ (shared r t) h o = absurd o
    owned_instance θ (unique r t) h o = absurd o
    owned_instance θ (closure n ts cs k ps r) h o = absurd o
    owned_instance θ (viewed t) h o = absurd o
    owned_instance θ (snapshot t) h o = absurd o

    owned_instances : (θ ts : Tys) → AreOwned bodies owns θ → AreOwned bodies owns ts → AreOwned bodies owns (instances θ ts)
    owned_instances θ no_tys h o = tt
    owned_instances θ (and_ty t ts) h o = (owned_instance θ t h o.0, owned_instances θ ts h o.1)

  pub owned_list : (tys : List Ty) → AllOwned bodies owns tys → AreOwned bodies owns (instances no_tys (tys_of tys))
  owned_list [] owned = tt
  owned_list (ty ∷ tys) owned = (owned_instance no_tys ty tt (owned 0 ty refl), owned_list tys (λ i u e. owned (suc i) u e))

  module _ (Δ : Declarations) (declares : Declares Δ bodies) (fields : HaveOwnedFields bodies owns) where
    -- the fields of a variant that is declared
    owned_fields : (d : AdtId) (k : ℕ) (fs args : Tys) (decl : AdtDecl) → owns d ≡ true → slice_get bodies.decls d.0 ≡ Some decl → Δ d k ≡ Some fs → AreOwned bodies owns args → AreOwned bodies owns (instances args fs)
    owned_fields d k fs args decl own is e owned =
        let there : declared (theory_in bodies) d k ≡ Some fs = ap (λ (o : Option AdtDecl). fields_of (variant_of o k)) is ∙ sym (declares d decl is k) ∙ e in
        owned_instances args fs owned (fields d k fs own there)

    mutual
      pub none_met : {K : Type 0} {s : State K} {t : Tree K} {ty : Ty} {met : List Met} → Typed Δ s t ty met → IsOwned bodies owns ty → met ≡ []
      none_met (is_int e) owned = refl
      none_met is_truth owned = refl
      none_met (is_tuple h) owned = none_met_all h owned
      none_met (is_adt {d = d} {k = k} {tys = args} {fields = fs} e h) owned = none_met_all h (owned_fields d k fs args owned.1.0 owned.0 owned.1.1 e owned.2)
      none_met (is_closure h) owned = absurd owned
      none_met (is_boxed h) owned = none_met h owned
      none_met (is_shared e h) owned = absurd owned
      none_met (is_unique e h) owned = absurd owned

      pub none_met_all : {K : Type 0} {s : State K} {ts : Trees K} {tys : Tys} {met : List Met} → AreTyped Δ s ts tys met → AreOwned bodies owns tys → met ≡ []
      none_met_all none_typed owned = refl
      none_met_all (more_typed h hs) owned = ap₂ (λ xs ys. xs ++ ys) (none_met h owned.0) (none_met_all hs owned.1)

    -- what is of such a type is so in every state
    pub fits : {K : Type 0} {s : State K} (ty : Ty) (t : Tree K) → IsOwned bodies owns ty → HasType Δ s (instance no_tys ty) t → Fits Δ t (instance no_tys ty)
    fits {s = s} ty t owned h u =
        let none : h.met ≡ [] = none_met h.typed (owned_instance no_tys ty tt owned) in
        typed_same Δ s u t (instance no_tys ty) [] (subst (Typed Δ s t (instance no_tys ty)) none h.typed) tt

    mutual
      -- what has a sort by what the bodies declare has it
      pub sort_there : {v : Value} {ty : Ty} → HasSort (declared (theory_in bodies)) v ty → HasSort Δ v ty
      sort_there (int_sort e) = int_sort e
      sort_there math_sort = math_sort
      sort_there bool_sort = bool_sort
      sort_there (tuple_sort h) = tuple_sort (sorts_there h)
      sort_there (adt_sort {d = d} {k = k} {fs = fs} e h) = adt_sort (declared_there Δ bodies declares d k fs e) (sorts_there h)
      sort_there (closure_sort h) = closure_sort (sorts_there h)
      sort_there (boxed_sort h) = boxed_sort (sort_there h)
      sort_there (shared_sort h) = shared_sort (sort_there h)
      sort_there (snapshot_sort h) = snapshot_sort (sort_there h)
      sort_there (unique_sort h k) = unique_sort (sort_there h) (sort_there k)

      sorts_there : {vs : Values} {tys : Tys} → HaveSorts (declared (theory_in bodies)) vs tys → HaveSorts Δ vs tys
      sorts_there none_sort = none_sort
      sorts_there (more_sorts h hs) = more_sorts (sort_there h) (sorts_there hs)

    pub all_fit : {K : Type 0} {s : State K} {ts : List (Tree K)} {tys : List Ty} → AllOwned bodies owns tys → AreOf Δ s no_tys ts tys → (length ts ≡ length tys) × AllFit Δ ts tys
    all_fit owned h = (h.count, λ n ty e. let t = h.each n ty e in (t.0, t.1, fits ty t.0 (owned n ty e) t.2))

-- the trees show the values
abbrev pub AllShow : {K : Type 0} → List (Tree K) → Values → Type 0
AllShow [] no_values = Unit {0}
AllShow (t ∷ ts) (and_value v vs) = Shows t v × AllShow ts vs
AllShow _ _ = ⊥

pub all_read : {K : Type 0} (gaps : Bool) (s : State K) (final : K → Spot → Value) (w : View K) (at : Spot) (n : ℕ) (ts : List (Tree K)) (vs : Values) → AllShow ts vs →
    ReadsAll gaps s final not_lent w at n (trees_of ts) vs
all_read gaps s final w at n [] no_values h = of_none
all_read gaps s final w at n [] (and_value v vs) h = absurd h
all_read gaps s final w at n (t ∷ ts) no_values h = absurd h
all_read gaps s final w at n (t ∷ ts) (and_value v vs) h = of_more (h.0 gaps s final w _) (all_read gaps s final w at (suc n) ts vs h.1)

-- what is made of trees shows what is made of their values
pub made_shows : {K : Type 0} (c : Ctor) (ts : List (Tree K)) (vs : Values) → AllShow ts vs → Shows (Made c (trees_of ts)) (value.Made c vs)
made_shows c ts vs h gaps s final w at = of_made refl (all_read gaps s final w at 0 ts vs h)

-- what is read of the trees they show
pub all_shown : {K : Type 0} (Δ : Declarations) {gaps : Bool} {s : State K} {final : K → Spot → Value} {w : View K} {at : Spot} {n : ℕ} {vs : Values} (ts : List (Tree K)) (tys : List Ty) → length ts ≡ length tys →
    AllFit Δ ts tys → ReadsAll gaps s final not_lent w at n (trees_of ts) vs → AllShow ts vs
all_shown Δ [] tys count fit of_none = tt
all_shown Δ (t ∷ ts) [] count fit h = absurd (omega arith)
all_shown Δ (t ∷ ts) (ty ∷ tys) count fit (of_more {v = v} h hs) = (fit_shows Δ (instance no_tys ty) t v (first_fits Δ t ts ty tys fit) h, all_shown Δ ts tys (omega arith) (λ n u e. fit (suc n) u e) hs)

pub all_typed : {K : Type 0} (Δ : Declarations) (s : State K) (ts : List (Tree K)) (tys : List Ty) → length ts ≡ length tys → AllFit Δ ts tys → AreTyped Δ s (trees_of ts) (instances no_tys (tys_of tys)) []
all_typed Δ s [] [] count fit = none_typed
all_typed Δ s [] (ty ∷ tys) count fit = absurd (omega arith)
all_typed Δ s (t ∷ ts) [] count fit = absurd (omega arith)
all_typed Δ s (t ∷ ts) (ty ∷ tys) count fit = more_typed (first_fits Δ t ts ty tys fit s) (all_typed Δ s ts tys (omega arith) (λ n u e. fit (suc n) u e))

pub all_values : {K : Type 0} (Δ : Declarations) (ts : List (Tree K)) (tys : List Ty) → length ts ≡ length tys → AllFit Δ ts tys → (vs : Values) × AllShow ts vs
all_values Δ [] tys count fit = (no_values, tt)
all_values Δ (t ∷ ts) [] count fit = absurd (omega arith)
all_values Δ (t ∷ ts) (ty ∷ tys) count fit =
    let one = fit_value Δ t (instance no_tys ty) (first_fits Δ t ts ty tys fit) in
    let rest = all_values Δ ts tys (omega arith) (λ n u e. fit (suc n) u e) in
    (and_value one.0 rest.0, (one.1, rest.1))
