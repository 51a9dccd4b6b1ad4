-- What the rows say of types, for other type parameters and for more rows.
use Rattle.std.proofs.Common.{◌≡◌, ◌≢◌, ℕ, zero, suc, ◌+◌, ◌<◌, ◌≤◌, ◌==◌, ◌&&◌, ◌||◌, not, max, Bool, true, false, List, [], ◌∷◌, drop, get_or, length, map, Option, Some, None, slice_get, slice_set, replicate, if◌then◌else◌, eqb, ◌⊎◌, inl, inr, refl, sym, ap, ap₂, ◌∙◌, subst, true≢false, arith}
use Rattle.std.proofs.lemmas.Bool.Decides.{eqb_tells, nat_tests}
use Rattle.std.proofs.lemmas.List.{get_or-set_other, get_or-set_same}
use Rattle.logic_term.specs.Sort.{instance, instances, nth_ty}
use Rattle.logic_term.specs.Theory.{field_ty}
use Rattle.logic_term.specs.Ty.{Ty, Tys, int, bool, math_int, tuple, adt, boxed, shared, unique, param, closure, viewed, snapshot, no_tys, and_ty}
use Rattle.logic_term.specs.TyView.{tys_of}
use Rattle.logic_term.specs.declared.declaration.AdtDecl.{AdtDecl}
use Rattle.logic_term.specs.declared.declaration.FieldDecl.{FieldDecl}
use Rattle.logic_term.specs.declared.declaration.VariantDecl.{VariantDecl}
use Rattle.rs_types.specs.declared.copy_rows.CopyRow.{CopyRow}
use Rattle.rs_types.specs.CopyRows.{all, all_but, all_copy, copies, needed_copy, none_needed, no_row, row_at, variants_copy, is_new, new_at, unknown, AreNeeded}
use Rattle.rs_types.specs.Growing.{field_width, variant_width}
use Rattle.rs_types.specs.Holding.{all_width, width}
use Rattle.rs_types.specs.Weighing.{field_types, variants_at, variants_in}
use Rattle.rs_types.proofs.Sound.{both}
use Rattle.rs_types.proofs.Tests.{and_true, not_true}

-- ---- arguments one after another

module _ (rows : List CopyRow) (p : ℕ → Bool) where
  nothing_needed : (ts : Tys) → needed_copy rows p [] ts ≡ true
  nothing_needed no_tys = refl
  nothing_needed (and_ty t ts) = refl

  past_all : (k : ℕ) (ts : Tys) → needed_copy rows p (drop k []) ts ≡ true
  past_all zero ts = nothing_needed ts
  past_all (suc k) ts = nothing_needed ts

  first_on : (b c : Bool) → b ≡ true → (b && c) ≡ c
  first_on true c e = refl
  first_on false c e = absurd (true≢false (sym e))

  first_off : (b c : Bool) → b ≡ false → (b && c) ≡ false
  first_off true c e = absurd (true≢false e)
  first_off false c e = refl

  after_one : (needed : List Bool) (ts : List Ty) (i : ℕ) (t : Ty) → t ≡ get_or ts i t → i < length ts → (not (get_or needed i false) || copies rows p t) ≡ true
      → needed_copy rows p (drop i needed) (tys_of (drop i ts)) ≡ needed_copy rows p (drop (suc i) needed) (tys_of (drop (suc i) ts))
  after_one needed [] i t e l on = absurd (omega arith)
  after_one [] (u ∷ ts) i t e l on = past_all i (tys_of (drop i (u ∷ ts))) ∙ sym (past_all (suc i) (tys_of (drop (suc i) (u ∷ ts))))
  after_one (b ∷ needed) (u ∷ ts) zero t e l on =
      ap (λ x. needed_copy rows p (b ∷ needed) (and_ty x (tys_of ts))) (sym e) ∙ first_on (not b || copies rows p t) (needed_copy rows p needed (tys_of ts)) on
  after_one (b ∷ needed) (u ∷ ts) (suc i) t e l on = after_one needed ts i t e (omega arith) on

  -- after an argument that is Copy or is not needed come the others
  pub next_needed : (needed : List Bool) (ts : List Ty) (i : ℕ) (t : Ty) → t ≡ get_or ts i t → i < length ts → (not (get_or needed i false) || copies rows p t) ≡ true
      → needed_copy rows p (drop i needed) (tys_of (drop i ts)) ≡ needed_copy rows p (drop (i + 1) needed) (tys_of (drop (i + 1) ts))
  next_needed needed ts i t e l on =
      let more : suc i ≡ i + 1 = grind arith in
      after_one needed ts i t e l on ∙ ap (λ k. needed_copy rows p (drop k needed) (tys_of (drop k ts))) more

  pub needed_missing : (needed : List Bool) (ts : List Ty) (i : ℕ) (t : Ty) → t ≡ get_or ts i t → i < length ts → (not (get_or needed i false) || copies rows p t) ≡ false
      → needed_copy rows p (drop i needed) (tys_of (drop i ts)) ≡ false
  needed_missing needed [] i t e l off = absurd (omega arith)
  needed_missing [] (u ∷ ts) i t e l off = absurd (true≢false off)
  needed_missing (b ∷ needed) (u ∷ ts) zero t e l off =
      ap (λ x. needed_copy rows p (b ∷ needed) (and_ty x (tys_of ts))) (sym e) ∙ first_off (not b || copies rows p t) (needed_copy rows p needed (tys_of ts)) off
  needed_missing (b ∷ needed) (u ∷ ts) (suc i) t e l off = needed_missing needed ts i t e (omega arith) off

  pub past_needed : (needed : List Bool) (ts : List Ty) (i : ℕ) → length ts ≤ i → needed_copy rows p (drop i needed) (tys_of (drop i ts)) ≡ none_needed (drop i needed)
  past_needed needed [] zero l = refl
  past_needed needed [] (suc i) l = refl
  past_needed needed (u ∷ ts) zero l = absurd (omega arith)
  past_needed [] (u ∷ ts) (suc i) l = nothing_needed (tys_of (drop i ts))
  past_needed (b ∷ needed) (u ∷ ts) (suc i) l = past_needed needed ts i (omega arith)

-- ---- other type parameters

module _ (rows : List CopyRow) (p : ℕ → Bool) where
  itself : (n : ℕ) → (n == n) ≡ true
  itself n = grind (arith, nat_tests)

  -- a type is Copy where p counts if it is where all count, and p has all without which it is not
  abbrev pub Covers : ℕ → ((ℕ → Bool) → Bool) → Type 0
  Covers w copy = (n : ℕ) → n < w → p n ≡ false → copy (all_but n) ≡ true

  is_covered : (n : ℕ) → Covers (suc n) (λ q. q n) → p n ≡ true
  is_covered n h = by (p n) refl
    where
      by : (b : Bool) → p n ≡ b → p n ≡ true
      by true e = e
      by false e = absurd (true≢false (sym (h n (omega arith) e) ∙ ap not (itself n)))

  mutual
    pub joined : (t : Ty) → copies rows all t ≡ true → Covers (width t) (λ q. copies rows q t) → copies rows p t ≡ true
    joined (int k) e h = refl
    joined bool e h = refl
    joined math_int e h = e
    joined (tuple ts) e h = all_joined ts e h
    joined (adt d rs ts) e h =
        let q = both (row_at rows d.0).copy (needed_copy rows all (row_at rows d.0).needed ts) e in
        and_true (row_at rows d.0).copy (needed_copy rows p (row_at rows d.0).needed ts) q.0
        (needed_joined (row_at rows d.0).needed ts q.1 (λ n l f. (both (row_at rows d.0).copy (needed_copy rows (all_but n) (row_at rows d.0).needed ts) (h n l f)).1))
    joined (boxed t) e h = e
    joined (shared r t) e h = refl
    joined (unique r t) e h = e
    joined (param n) e h = is_covered n h
    joined (closure n ts cs k ps r) e h = e
    joined (viewed t) e h = e
    joined (snapshot t) e h = refl

    pub all_joined : (ts : Tys) → all_copy rows all ts ≡ true → Covers (all_width ts) (λ q. all_copy rows q ts) → all_copy rows p ts ≡ true
    all_joined no_tys e h = refl
    all_joined (and_ty t ts) e h =
        let q = both (copies rows all t) (all_copy rows all ts) e in
        and_true (copies rows p t) (all_copy rows p ts)
        (joined t q.0 (λ n l f. (both (copies rows (all_but n) t) (all_copy rows (all_but n) ts) (h n (omega arith) f)).0))
        (all_joined ts q.1 (λ n l f. (both (copies rows (all_but n) t) (all_copy rows (all_but n) ts) (h n (omega arith) f)).1))

    needed_joined : (needed : List Bool) (ts : Tys) → needed_copy rows all needed ts ≡ true → Covers (all_width ts) (λ q. needed_copy rows q needed ts) → needed_copy rows p needed ts ≡ true
    needed_joined needed no_tys e h = e
    needed_joined [] (and_ty t ts) e h = refl
    needed_joined (true ∷ needed) (and_ty t ts) e h =
        let q = both (copies rows all t) (needed_copy rows all needed ts) e in
        and_true (copies rows p t) (needed_copy rows p needed ts)
        (joined t q.0 (λ n l f. (both (copies rows (all_but n) t) (needed_copy rows (all_but n) needed ts) (h n (omega arith) f)).0))
        (needed_joined needed ts q.1 (λ n l f. (both (copies rows (all_but n) t) (needed_copy rows (all_but n) needed ts) (h n (omega arith) f)).1))
    needed_joined (false ∷ needed) (and_ty t ts) e h = needed_joined needed ts e (λ n l f. h n (omega arith) f)

  as_wide : (fs : List FieldDecl) → all_width (tys_of (map field_ty fs)) ≡ field_width fs
  as_wide [] = refl
  as_wide (f ∷ fs) = ap (max (width f.ty)) (as_wide fs)

  pub variants_joined : (vs : List VariantDecl) → variants_copy rows all vs ≡ true → Covers (variant_width vs) (λ q. variants_copy rows q vs) → variants_copy rows p vs ≡ true
  variants_joined [] e h = refl
  variants_joined (v ∷ vs) e h =
      let q = both (all_copy rows all (field_types v)) (variants_copy rows all vs) e in
      let wide = as_wide v.fields in
      and_true (all_copy rows p (field_types v)) (variants_copy rows p vs)
      (all_joined (field_types v) q.0 (λ n l f. (both (all_copy rows (all_but n) (field_types v)) (variants_copy rows (all_but n) vs) (h n (omega arith) f)).0))
      (variants_joined vs q.1 (λ n l f. (both (all_copy rows (all_but n) (field_types v)) (variants_copy rows (all_but n) vs) (h n (omega arith) f)).1))

-- ---- more rows

-- what is known stays so
abbrev pub Keeps : List CopyRow → List CopyRow → Type 0
Keeps rows after = (d : ℕ) → (row_at rows d).copy ≡ true → row_at after d ≡ row_at rows d

module _ (rows after : List CopyRow) (keeps : Keeps rows after) (p : ℕ → Bool) where
  mutual
    stays : (t : Ty) → copies rows all t ≡ true → copies after p t ≡ copies rows p t
    stays (int k) e = refl
    stays bool e = refl
    stays math_int e = refl
    stays (tuple ts) e = all_stay ts e
    stays (adt d rs ts) e =
        let q = both (row_at rows d.0).copy (needed_copy rows all (row_at rows d.0).needed ts) e in
        ap (λ (r : CopyRow). r.copy && needed_copy after p r.needed ts) (keeps d.0 q.0) ∙ ap (λ b. (row_at rows d.0).copy && b) (needed_stay (row_at rows d.0).needed ts q.1)
    stays (boxed t) e = refl
    stays (shared r t) e = refl
    stays (unique r t) e = refl
    stays (param n) e = refl
    stays (closure n ts cs k ps r) e = refl
    stays (viewed t) e = refl
    stays (snapshot t) e = refl

    all_stay : (ts : Tys) → all_copy rows all ts ≡ true → all_copy after p ts ≡ all_copy rows p ts
    all_stay no_tys e = refl
    all_stay (and_ty t ts) e = let q = both (copies rows all t) (all_copy rows all ts) e in ap₂ (λ b c. b && c) (stays t q.0) (all_stay ts q.1)

    needed_stay : (needed : List Bool) (ts : Tys) → needed_copy rows all needed ts ≡ true → needed_copy after p needed ts ≡ needed_copy rows p needed ts
    needed_stay needed no_tys e = refl
    needed_stay [] (and_ty t ts) e = refl
    needed_stay (true ∷ needed) (and_ty t ts) e = let q = both (copies rows all t) (needed_copy rows all needed ts) e in ap₂ (λ b c. b && c) (stays t q.0) (needed_stay needed ts q.1)
    needed_stay (false ∷ needed) (and_ty t ts) e = needed_stay needed ts e

  pub variants_stay : (vs : List VariantDecl) → variants_copy rows all vs ≡ true → variants_copy after p vs ≡ variants_copy rows p vs
  variants_stay [] e = refl
  variants_stay (v ∷ vs) e = let q = both (all_copy rows all (field_types v)) (variants_copy rows all vs) e in ap₂ (λ b c. b && c) (all_stay (field_types v) q.0) (variants_stay vs q.1)

-- ---- more type parameters

module _ (rows : List CopyRow) (p q : ℕ → Bool) (more : (n : ℕ) → p n ≡ true → q n ≡ true) where
  mutual
    grows : (t : Ty) → copies rows p t ≡ true → copies rows q t ≡ true
    grows (int k) e = e
    grows bool e = e
    grows math_int e = e
    grows (tuple ts) e = all_grow ts e
    grows (adt d rs ts) e =
        let f = both (row_at rows d.0).copy (needed_copy rows p (row_at rows d.0).needed ts) e in
        and_true (row_at rows d.0).copy (needed_copy rows q (row_at rows d.0).needed ts) f.0 (needed_grow (row_at rows d.0).needed ts f.1)
    grows (boxed t) e = e
    grows (shared r t) e = e
    grows (unique r t) e = e
    grows (param n) e = more n e
    grows (closure n ts cs k ps r) e = e
    grows (viewed t) e = e
    grows (snapshot t) e = e

    all_grow : (ts : Tys) → all_copy rows p ts ≡ true → all_copy rows q ts ≡ true
    all_grow no_tys e = e
    all_grow (and_ty t ts) e = let f = both (copies rows p t) (all_copy rows p ts) e in and_true (copies rows q t) (all_copy rows q ts) (grows t f.0) (all_grow ts f.1)

    needed_grow : (needed : List Bool) (ts : Tys) → needed_copy rows p needed ts ≡ true → needed_copy rows q needed ts ≡ true
    needed_grow needed no_tys e = e
    needed_grow [] (and_ty t ts) e = e
    needed_grow (true ∷ needed) (and_ty t ts) e =
        let f = both (copies rows p t) (needed_copy rows p needed ts) e in
        and_true (copies rows q t) (needed_copy rows q needed ts) (grows t f.0) (needed_grow needed ts f.1)
    needed_grow (false ∷ needed) (and_ty t ts) e = needed_grow needed ts e

  pub variants_grow : (vs : List VariantDecl) → variants_copy rows p vs ≡ true → variants_copy rows q vs ≡ true
  variants_grow [] e = e
  variants_grow (v ∷ vs) e =
      let f = both (all_copy rows p (field_types v)) (variants_copy rows p vs) e in
      and_true (all_copy rows q (field_types v)) (variants_copy rows q vs) (all_grow (field_types v) f.0) (variants_grow vs f.1)

-- ---- types for type parameters

module _ (rows : List CopyRow) (p : ℕ → Bool) (θ : Tys) where
  -- which type parameters count: those whose types are
  abbrev pub given : ℕ → Bool
  given n = copies rows p (nth_ty θ n)

  mutual
    pub at_types : (t : Ty) → copies rows p (instance θ t) ≡ copies rows given t
    at_types (int k) = refl
    at_types bool = refl
    at_types math_int = refl
    at_types (tuple ts) = all_at_types ts
    at_types (adt d rs ts) = ap (λ b. (row_at rows d.0).copy && b) (needed_at_types (row_at rows d.0).needed ts)
    at_types (boxed t) = refl
    at_types (shared r t) = refl
    at_types (unique r t) = refl
    at_types (param n) = refl
    at_types (closure n ts cs k ps r) = refl
    at_types (viewed t) = refl
    at_types (snapshot t) = refl

    pub all_at_types : (ts : Tys) → all_copy rows p (instances θ ts) ≡ all_copy rows given ts
    all_at_types no_tys = refl
    all_at_types (and_ty t ts) = ap₂ (λ b c. b && c) (at_types t) (all_at_types ts)

    needed_at_types : (needed : List Bool) (ts : Tys) → needed_copy rows p needed (instances θ ts) ≡ needed_copy rows given needed ts
    needed_at_types needed no_tys = refl
    needed_at_types [] (and_ty t ts) = refl
    needed_at_types (b ∷ needed) (and_ty t ts) = ap₂ (λ x y. (not b || x) && y) (at_types t) (needed_at_types needed ts)

-- ---- what is needed

pub none_at : (needed : List Bool) → none_needed needed ≡ true → (i : ℕ) → get_or needed i false ≡ false
none_at [] e i = refl
none_at (true ∷ needed) e i = absurd (true≢false (sym e))
none_at (false ∷ needed) e zero = refl
none_at (false ∷ needed) e (suc i) = none_at needed e i

none_by : (needed : List Bool) → ((i : ℕ) → get_or needed i false ≡ false) → none_needed needed ≡ true
none_by [] f = refl
none_by (true ∷ needed) f = absurd (true≢false (f 0))
none_by (false ∷ needed) f = none_by needed (λ i. f (suc i))

false_by : (b : Bool) → (b ≡ true → false ≡ true) → b ≡ false
false_by true f = absurd (true≢false (sym (f refl)))
false_by false f = refl

-- each argument that is needed is Copy
pub each_needed : (rows : List CopyRow) (p : ℕ → Bool) (needed : List Bool) (ts : Tys) → ((i : ℕ) → get_or needed i false ≡ true → copies rows p (nth_ty ts i) ≡ true) → needed_copy rows p needed ts ≡ true
each_needed rows p needed no_tys f = none_by needed (λ i. false_by (get_or needed i false) (f i))
each_needed rows p [] (and_ty t ts) f = refl
each_needed rows p (true ∷ needed) (and_ty t ts) f = and_true (copies rows p t) (needed_copy rows p needed ts) (f 0 refl) (each_needed rows p needed ts (λ i e. f (suc i) e))
each_needed rows p (false ∷ needed) (and_ty t ts) f = each_needed rows p needed ts (λ i e. f (suc i) e)

-- ---- declared types

-- of each type that is known to be Copy the fields are, and what its row needs they need
abbrev pub IsRight : List AdtDecl → List CopyRow → ℕ → Type 0
IsRight ds rows d = (variants_copy rows all (variants_at ds d) ≡ true) × ((n : ℕ) → get_or (row_at rows d).needed n false ≡ true → variants_copy rows (all_but n) (variants_at ds d) ≡ false)

abbrev pub AreRight : List AdtDecl → List CopyRow → Type 0
AreRight ds rows = (d : ℕ) → (row_at rows d).copy ≡ true → IsRight ds rows d

-- a declared type that is new
pub record IsNew (ds : List AdtDecl) (rows : List CopyRow) (d : ℕ) : Type 0 where
  pub decl : AdtDecl
  pub there : slice_get ds d ≡ Some decl
  pub before : (row_at rows d).copy ≡ false
  pub copy : decl.copy ≡ true
  pub fields : variants_copy rows all decl.variants ≡ true

pub new_there : (ds : List AdtDecl) (rows : List CopyRow) (d : ℕ) → new_at ds rows d ≡ true → IsNew ds rows d
new_there ds rows d e = by (slice_get ds d) refl e
  where
    by : (o : Option AdtDecl) → slice_get ds d ≡ o → is_new rows d o ≡ true → IsNew ds rows d
    by None f g = absurd (true≢false (sym g))
    by (Some c) f g =
        let q = both (not (row_at rows d).copy) (c.copy && variants_copy rows all c.variants) g in
        let r = both c.copy (variants_copy rows all c.variants) q.1 in
        record { decl = c; there = f; before = not_true (row_at rows d).copy q.0; copy = r.0; fields = r.1 }

abbrev pub found_row : List Bool → CopyRow
found_row needed = record { copy = true; needed = needed }

module _ (ds : List AdtDecl) (rows : List CopyRow) (i : ℕ) (needed : List Bool) (within : i < length rows) (new : IsNew ds rows i) where
  abbrev pub after : List CopyRow
  after = slice_set rows i (found_row needed)

  pub here : row_at after i ≡ found_row needed
  here = get_or-set_same rows i (found_row needed) no_row within

  pub elsewhere : (d : ℕ) → d ≢ i → row_at after d ≡ row_at rows d
  elsewhere d other = get_or-set_other rows i d (found_row needed) no_row other

  pub keeps : Keeps rows after
  keeps d e = elsewhere d (λ q. true≢false (sym e ∙ ap (λ k. (row_at rows k).copy) q ∙ new.before))

  pub still_right : AreNeeded rows new.decl.variants needed → AreRight ds rows → AreRight ds after
  still_right n right d e = by (eqb_tells d i)
    where
      variants : variants_at ds i ≡ new.decl.variants
      variants = ap variants_in new.there

      missing : (m : ℕ) → get_or needed m false ≡ true → variants_copy rows (all_but m) new.decl.variants ≡ false
      missing m f = not_true _ (sym (n.each m (in_list needed m f)) ∙ f)
        where
          in_list : (bs : List Bool) (k : ℕ) → get_or bs k false ≡ true → k < length bs
          in_list [] k g = absurd (true≢false (sym g))
          in_list (b ∷ bs) zero g = omega arith
          in_list (b ∷ bs) (suc k) g = let l = in_list bs k g in omega arith

      at_this : IsRight ds after i
      at_this = (
        subst (λ vs. variants_copy after all vs ≡ true) (sym variants) (variants_stay rows after keeps all new.decl.variants new.fields ∙ new.fields),
        λ m f. subst (λ vs. variants_copy after (all_but m) vs ≡ false) (sym variants)
            (variants_stay rows after keeps (all_but m) new.decl.variants new.fields ∙ missing m (sym (ap (λ (r : CopyRow). get_or r.needed m false) here) ∙ f)),
      )

      by : ((eqb d i ≡ true) × (d ≡ i)) ⊎ ((eqb d i ≡ false) × (d ≢ i)) → IsRight ds after d
      by (inl (t, q)) = subst (IsRight ds after) (sym q) at_this
      by (inr (t, q)) =
          let same = elsewhere d q in
          let old = right d (sym (ap (λ (r : CopyRow). r.copy) same) ∙ e) in (
            variants_stay rows after keeps all (variants_at ds d) old.0 ∙ old.0,
            λ m f. variants_stay rows after keeps (all_but m) (variants_at ds d) old.0 ∙ old.1 m (sym (ap (λ (r : CopyRow). get_or r.needed m false) same) ∙ f),
          )

pub none_right : (ds : List AdtDecl) (n : ℕ) → AreRight ds (replicate n no_row)
none_right ds n d e = absurd (true≢false (sym e ∙ unknown_at n d))
  where
    unknown_at : (n d : ℕ) → (row_at (replicate n no_row) d).copy ≡ false
    unknown_at zero d = refl
    unknown_at (suc n) zero = refl
    unknown_at (suc n) (suc d) = unknown_at n d

-- ---- fewer are unknown

pub unknown_falls : (rows : List CopyRow) (i : ℕ) (r : CopyRow) → i < length rows → (row_at rows i).copy ≡ false → r.copy ≡ true → unknown (slice_set rows i r) < unknown rows
unknown_falls [] i r l e f = absurd (omega arith)
unknown_falls (q ∷ rows) zero r l e f =
    let a : unknown (r ∷ rows) ≡ unknown rows = ap (λ b. if b then unknown rows else suc (unknown rows)) f in
    let b : unknown (q ∷ rows) ≡ suc (unknown rows) = ap (λ b. if b then unknown rows else suc (unknown rows)) e in
    omega arith
unknown_falls (q ∷ rows) (suc i) r l e f = by q.copy refl (unknown_falls rows i r (omega arith) e f)
  where
    by : (b : Bool) → q.copy ≡ b → unknown (slice_set rows i r) < unknown rows → unknown (q ∷ slice_set rows i r) < unknown (q ∷ rows)
    by true g h =
        let a : unknown (q ∷ slice_set rows i r) ≡ unknown (slice_set rows i r) = ap (λ b. if b then unknown (slice_set rows i r) else suc (unknown (slice_set rows i r))) g in
        let b : unknown (q ∷ rows) ≡ unknown rows = ap (λ b. if b then unknown rows else suc (unknown rows)) g in
        omega arith
    by false g h =
        let a : unknown (q ∷ slice_set rows i r) ≡ suc (unknown (slice_set rows i r)) = ap (λ b. if b then unknown (slice_set rows i r) else suc (unknown (slice_set rows i r))) g in
        let b : unknown (q ∷ rows) ≡ suc (unknown rows) = ap (λ b. if b then unknown rows else suc (unknown rows)) g in
        omega arith

-- ---- looking for what is new

pub there_is : (ds : List AdtDecl) (i : ℕ) (c : AdtDecl) → c ≡ get_or ds i c → i < length ds → slice_get ds i ≡ Some c
there_is [] i c e l = absurd (omega arith)
there_is (d ∷ ds) zero c e l = ap Some (sym e)
there_is (d ∷ ds) (suc i) c e l = there_is ds i c e (omega arith)
