-- Reading and writing along a path of a typed tree: what is there has the type to which the path leads, and what gets another value of that type there keeps its own.
use Rattle.std.proofs.Common.{◌≡◌, ◌∙◌, refl, sym, ap, subst, ℕ, zero, suc, List, [], ◌∷◌, ◌++◌, append_assoc, append-nil, Some, slice_get}
use Rattle.std.proofs.lemmas.Option.{same_Some}
use Rattle.logic_term.specs.declared.kinds.Ctor.{Ctor}
use Rattle.logic_term.specs.declared.kinds.Ctor.TheVariants.{Tuple, Variant}
use Rattle.logic_term.specs.Sort.{Declarations, instances}
use Rattle.logic_term.specs.Ty.{Ty, Tys, tuple, adt, boxed, no_tys, and_ty}
use Rattle.mir_ir.specs.declared.body.Bodies.{Bodies}
use Rattle.mir_ir.specs.declared.place.Proj.{Proj}
use Rattle.mir_ir.specs.declared.place.Proj.TheVariants.{Field, Deref}
use Rattle.logic_term.specs.Sorted.{sort_at, FieldSort}
use Rattle.logic_term.specs.Theory.{declared}
use Rattle.mir_ir.specs.Declares.{Declares, theory_in}
use Rattle.mir_ir.specs.Paths.{LeadsTo, at_end, in_field, in_box}
use Rattle.mir_ir.proofs.Declared.{declared_same}
use Rattle.mir_machine.specs.declared.spot.Spot.{Spot}
use Rattle.mir_machine.specs.Try.{Try, Yields, ◌>>=◌, need}
use Rattle.mir_machine.specs.Tree.{Tree, Trees, Made, Boxed, no_trees, and_tree, nth_tree, set_nth}
use Rattle.mir_machine.specs.Frame.{Frame, State}
use Rattle.mir_machine.specs.Memory.{child, tree_in, put_in, frame_at, tree_at, down, onward, walk}
use Rattle.mir_machine.specs.Typed.{Met, Typed, AreTyped, is_tuple, is_adt, is_boxed, more_typed}
use Rattle.mir_machine.specs.Good.{Each}
use Rattle.mir_machine.specs.Invariant.{HasType}
use Rattle.mir_machine.proofs.Tried.{then_then, then_same}
use Rattle.mir_machine.proofs.TypedTrees.{each_front, each_behind}

-- ---- spots

-- the spot of these children of children
abbrev pub within_spot : Spot → List ℕ → Spot
within_spot at ns = record at { path = at.path ++ ns }

tree_in-append : {K : Type 0} (xs ys : List ℕ) (t : Tree K) → tree_in (xs ++ ys) t ≡ (tree_in xs t >>= tree_in ys)
tree_in-append [] ys t = refl
tree_in-append (n ∷ xs) ys t = then_same (child t n) (tree_in (xs ++ ys)) (λ c. tree_in xs c >>= tree_in ys) (tree_in-append xs ys) ∙ sym (then_then (child t n) (tree_in xs) (tree_in ys))

-- what is at a spot within is found from what is at the spot
pub tree_within : {K : Type 0} (s : State K) (at : Spot) (ns : List ℕ) → tree_at s (within_spot at ns) ≡ (tree_at s at >>= tree_in ns)
tree_within {K} s at ns =
    let look : Frame K → Try (Tree K) = λ f. need (slice_get f.locals at.local) >>= tree_in at.path in
    then_same (frame_at s at.frame) (λ f. need (slice_get f.locals at.local) >>= tree_in (at.path ++ ns)) (λ f. look f >>= tree_in ns)
    (λ f. then_same (need (slice_get f.locals at.local)) (tree_in (at.path ++ ns)) (λ t. tree_in at.path t >>= tree_in ns) (tree_in-append at.path ns)
    ∙ sym (then_then (need (slice_get f.locals at.local)) (tree_in at.path) (tree_in ns)))
    ∙ sym (then_then (frame_at s at.frame) look (tree_in ns))

-- ---- parts

-- the path leads from the tree to its part
pub data IsAlong {K : Type 0} : Tree K → List Proj → Tree K → Type 0 where
  whole_along : {t : Tree K} → IsAlong t [] t
  field_along : {c : Ctor} {ts : Trees K} {t u : Tree K} {n : ℕ} {path : List Proj} → nth_tree ts n ≡ Some t → IsAlong t path u → IsAlong (Made c ts) (Field n ∷ path) u
  box_along : {t u : Tree K} {path : List Proj} → IsAlong t path u → IsAlong (Boxed t) (Deref ∷ path) u

-- ---- typed parts

abbrev Outer : List Met → Type 0
Outer met = Each (λ r. r.place.frame ≡ 0) met

each_both : {A : Type 0} (P : A → Type 0) (xs ys : List A) → Each P xs → Each P ys → Each P (xs ++ ys)
each_both P [] ys h k = k
each_both P (x ∷ xs) ys h k = (h.0, each_both P xs ys h.1 k)

module _ {K : Type 0} (Δ : Declarations) (s : State K) where
  -- trees of the types, which refer to the outside alone
  pub record Have (ts : Trees K) (tys : Tys) : Type 0 where
    pub met : List Met
    pub typed : AreTyped Δ s ts tys met
    pub outer : Outer met

  have_first : {t : Tree K} {ts : Trees K} {ty : Ty} {tys : Tys} (met : List Met) → AreTyped Δ s (and_tree t ts) (and_ty ty tys) met → Outer met → HasType Δ s ty t × Have ts tys
  have_first met (more_typed {first = first} {rest = rest} h hs) outer = (
    record { met = first; typed = h; outer = each_front (λ r. r.place.frame ≡ 0) first rest outer },
    record { met = rest; typed = hs; outer = each_behind (λ r. r.place.frame ≡ 0) first rest outer },
  )

  pub have_more : {t : Tree K} {ts : Trees K} {ty : Ty} {tys : Tys} → HasType Δ s ty t → Have ts tys → Have (and_tree t ts) (and_ty ty tys)
  have_more h hs = record { met = h.met ++ hs.met; typed = more_typed h.typed hs.typed; outer = each_both (λ r. r.place.frame ≡ 0) h.met hs.met h.outer hs.outer }

  no_more : {ty : Ty} {tys : Tys} (met : List Met) → AreTyped Δ s no_trees (and_ty ty tys) met → ⊥
  no_more met h = elim h [ ]

  -- the part of the number has its type
  part_has : (ts : Trees K) (tys : Tys) (n : ℕ) (ty : Ty) → Have ts tys → sort_at tys n ≡ Some ty → (t : Tree K) × (nth_tree ts n ≡ Some t) × HasType Δ s ty t
  part_has ts no_tys n ty h e = absurd (cc)
  part_has no_trees (and_ty u tys) n ty h e = absurd (no_more h.met h.typed)
  part_has (and_tree t ts) (and_ty u tys) zero ty h e = (t, refl, subst (λ q. HasType Δ s q t) (same_Some _ _ e) (have_first h.met h.typed h.outer).0)
  part_has (and_tree t ts) (and_ty u tys) (suc n) ty h e = part_has ts tys n ty (have_first h.met h.typed h.outer).1 e

  -- another value of the part's type in its place
  part_set : (ts : Trees K) (tys : Tys) (n : ℕ) (ty : Ty) (u : Tree K) → Have ts tys → sort_at tys n ≡ Some ty → HasType Δ s ty u → Have (set_nth ts n u) tys
  part_set ts no_tys n ty u h e has = absurd (cc)
  part_set no_trees (and_ty v tys) n ty u h e has = absurd (no_more h.met h.typed)
  part_set (and_tree t ts) (and_ty v tys) zero ty u h e has = have_more (subst (λ q. HasType Δ s q u) (sym (same_Some _ _ e)) has) (have_first h.met h.typed h.outer).1
  part_set (and_tree t ts) (and_ty v tys) (suc n) ty u h e has =
      let both = have_first h.met h.typed h.outer in
      have_more both.0 (part_set ts tys n ty u both.1 e has)

  -- ---- along paths

  -- the path leads from the tree to a part of it, which has the type; with another value of that type there the tree keeps its own
  pub record Reached (t : Tree K) (ty : Ty) (path : List Proj) (of : Ty) : Type 0 where
    pub children : List ℕ
    pub part : Tree K
    pub along : IsAlong t path part
    pub is_part : tree_in children t ≡ Yields part
    pub walks : (at : Spot) → tree_at s at ≡ Yields t → walk s at path ≡ Yields (within_spot at children)
    pub typed : HasType Δ s of part
    pub puts : (u : Tree K) → HasType Δ s of u → (t' : Tree K) × (put_in children u t ≡ Yields t') × HasType Δ s ty t'

  -- one part further
  made_reached : (c : Ctor) (ts : Trees K) (tys : Tys) (n : ℕ) (ty of : Ty) {whole : Ty} {path : List Proj} → Have ts tys → sort_at tys n ≡ Some ty → ((u : Tree K) → HasType Δ s ty u → Reached u ty path of)
      → ((us : Trees K) → Have us tys → HasType Δ s whole (Made c us)) → Reached (Made c ts) whole (Field n ∷ path) of
  made_reached c ts tys n ty of {path = path} h e rest remade =
      let (t, is_t, has) = part_has ts tys n ty h e in
      let r = rest t has in
      let first : child (Made c ts) n ≡ Yields t = ap need is_t in
      record {
        children = n ∷ r.children;
        part = r.part;
        along = field_along is_t r.along;
        is_part = ap (λ (m : Try (Tree K)). m >>= tree_in r.children) first ∙ r.is_part;
        walks = λ at is_whole.
            let here : tree_at s (down at n) ≡ Yields t = tree_within s at (n ∷ []) ∙ ap (λ (m : Try (Tree K)). m >>= tree_in (n ∷ [])) is_whole ∙ ap (λ (m : Try (Tree K)). m >>= λ v. Yields v) first in
            ap (λ (m : Try (Tree K)). m >>= λ v. onward v at (Field n) >>= λ next. walk s next path) is_whole ∙ r.walks (down at n) here ∙ ap (λ p. Yields (record at { path = p })) (append_assoc at.path (n ∷ []) r.children);
        typed = r.typed;
        puts = λ u of_u.
            let (v, is_v, has_v) = r.puts u of_u in (
              Made c (set_nth ts n v),
              ap (λ (m : Try (Tree K)). m >>= λ w. put_in r.children u w >>= λ d. Yields (Made c (set_nth ts n d))) first ∙ ap (λ (m : Try (Tree K)). m >>= λ d. Yields (Made c (set_nth ts n d))) is_v,
              remade (set_nth ts n v) (part_set ts tys n ty v h e has_v),
            );
      }

  boxed_reached : (t : Tree K) (ty of : Ty) {path : List Proj} → Reached t ty path of → Reached (Boxed t) (boxed ty) (Deref ∷ path) of
  boxed_reached t ty of {path = path} r = record {
    children = 0 ∷ r.children;
    part = r.part;
    along = box_along r.along;
    is_part = r.is_part;
    walks = λ at is_whole.
        let here : tree_at s (down at 0) ≡ Yields t = tree_within s at (0 ∷ []) ∙ ap (λ (m : Try (Tree K)). m >>= tree_in (0 ∷ [])) is_whole in
        ap (λ (m : Try (Tree K)). m >>= λ v. onward v at Deref >>= λ next. walk s next path) is_whole ∙ r.walks (down at 0) here ∙ ap (λ p. Yields (record at { path = p })) (append_assoc at.path (0 ∷ []) r.children);
    typed = r.typed;
    puts = λ u of_u.
        let (v, is_v, has_v) = r.puts u of_u in
        (Boxed v, ap (λ (m : Try (Tree K)). m >>= λ d. Yields (Boxed d)) is_v, record { met = has_v.met; typed = is_boxed has_v.typed; outer = has_v.outer });
  }

-- paths are those of types that the bodies declare
module _ {K : Type 0} (Δ : Declarations) (bodies : Bodies) (declares : Declares Δ bodies) (s : State K) where
  -- through a field of a tuple, or of the one variant of a declared type
  field_reached : (whole ty of : Ty) (n : ℕ) {path : List Proj} → FieldSort (theory_in bodies) whole n ty → (t : Tree K) → (met : List Met) → Typed Δ s t whole met → Outer met
      → ((u : Tree K) → HasType Δ s ty u → Reached Δ s u ty path of) → Reached Δ s t whole (Field n ∷ path) of
  field_reached (tuple tys) ty of n e t met (is_tuple {ts = ts} h) outer rest =
      made_reached Δ s Tuple ts tys n ty of (record { met = met; typed = h; outer = outer }) e rest (λ us has. record { met = has.met; typed = is_tuple has.typed; outer = has.outer })
  field_reached (adt d rs args) ty of n (fields, first, alone, e) t met (is_adt {k = k} {fields = those} {ts = ts} here h) outer rest =
      let is : declared (theory_in bodies) d k ≡ Some those = sym (declared_same Δ bodies declares d 0 fields first k) ∙ here in
      let same : those ≡ fields = same_Some _ _ (sym is ∙ ap (declared (theory_in bodies) d) (alone k those is) ∙ first) in
      made_reached Δ s (Variant d k) ts (instances args those) n ty of (record { met = met; typed = h; outer = outer }) (ap (λ fs. sort_at (instances args fs) n) same ∙ e) rest
      (λ us has. record { met = has.met; typed = is_adt here has.typed; outer = has.outer })
  field_reached whole ty of n field t met h outer rest = absurd field

  pub reached : {ty of : Ty} {path : List Proj} → LeadsTo (theory_in bodies) ty path of → (t : Tree K) → (met : List Met) → Typed Δ s t ty met → Outer met → Reached Δ s t ty path of
  reached at_end t met h outer = record {
    children = [];
    part = t;
    along = whole_along;
    is_part = refl;
    walks = λ at e. ap (λ p. Yields (record at { path = p })) (sym (append-nil at.path));
    typed = record { met = met; typed = h; outer = outer };
    puts = λ u of_u. (u, refl, of_u);
  }
  reached (in_field {u = whole} {part = ty} {t = of} {n = n} field leads) t met h outer =
      field_reached whole ty of n field t met h outer (λ u has. reached leads u has.met has.typed has.outer)
  reached (in_box {u = ty} {t = of} leads) t met (is_boxed {t = v} h) outer = boxed_reached Δ s v ty of (reached leads v met h outer)
