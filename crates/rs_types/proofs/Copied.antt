-- Which types are Copy: what the rows say is so, and all that is so is said where there is nothing new.
use Rattle.std.proofs.Common.{◌≡◌, ◌≢◌, ℕ, zero, suc, ◌<◌, ◌&&◌, not, Bool, true, false, List, [], ◌∷◌, get_or, length, Some, slice_get, slice_set, replicate, ◌⊎◌, inl, inr, refl, sym, ap, ◌∙◌, subst, true≢false, eqb, arith}
use Rattle.std.proofs.lemmas.Bool.Decides.{eqb_tells}
use Rattle.std.proofs.lemmas.List.{length-set}
use Rattle.logic_term.specs.Sort.{instance, instances, nth_ty}
use Rattle.logic_term.specs.Ty.{Ty, Tys, int, bool, math_int, tuple, adt, boxed, shared, unique, param, closure, viewed, snapshot, no_tys, and_ty}
use Rattle.logic_term.specs.declared.declaration.AdtDecl.{AdtDecl}
use Rattle.logic_term.specs.declared.declaration.VariantDecl.{VariantDecl}
use Rattle.logic_term.specs.declared.kinds.AdtId.{AdtId}
use Rattle.logic_term.specs.declared.kinds.Region.{Region}
use Rattle.rs_types.specs.declared.copy_rows.CopyRow.{CopyRow}
use Rattle.rs_types.specs.Copied.{IsCopy, AreCopy, of_int, of_bool, of_tuple, of_shared, of_snapshot, of_declared, none_copy, more_copy}
use Rattle.rs_types.specs.CopyRows.{all, all_but, all_copy, copies, needed_copy, no_row, row_at, unknown, variants_copy, is_new, new_at, AreNeeded, Decide}
use Rattle.rs_types.specs.Holding.{none}
use Rattle.rs_types.specs.Weighing.{field_types, variants_at, variants_in}
use Rattle.rs_types.proofs.Cases.{fields_are, fields_at}
use Rattle.rs_types.proofs.CopyRows.{AreRight, IsNew, new_there, none_right, still_right, there_is, unknown_falls, all_at_types, each_needed, elsewhere, found_row, given, here, none_at, variants_grow, variants_joined}
use Rattle.rs_types.proofs.Sound.{both}
use Rattle.rs_types.proofs.Tests.{and_true, not_false}

-- a declared type that is known to be Copy is, where the arguments are that it needs
abbrev pub AreSound : List AdtDecl → List CopyRow → Type 0
AreSound ds rows =
    (d : AdtId) (rs : List Region) (ts : Tys) → (row_at rows d.0).copy ≡ true → ((i : ℕ) → get_or (row_at rows d.0).needed i false ≡ true → IsCopy ds (nth_ty ts i)) → IsCopy ds (adt d rs ts)

pub none_sound : (ds : List AdtDecl) (n : ℕ) → AreSound ds (replicate n no_row)
none_sound ds n d rs ts e h = absurd (true≢false (sym e ∙ unknown_at n d.0))
  where
    unknown_at : (n d : ℕ) → (row_at (replicate n no_row) d).copy ≡ false
    unknown_at zero d = refl
    unknown_at (suc n) zero = refl
    unknown_at (suc n) (suc d) = unknown_at n d

-- ---- what the rows say is so

module _ (ds : List AdtDecl) (rows : List CopyRow) (up : AreSound ds rows) where
  -- of the types of fields, at types for type parameters
  module _ (p : ℕ → Bool) (θ : Tys) (h : (n : ℕ) → p n ≡ true → IsCopy ds (nth_ty θ n)) where
    mutual
      field_sound : (t : Ty) → copies rows p t ≡ true → IsCopy ds (instance θ t)
      field_sound (int k) e = of_int
      field_sound bool e = of_bool
      field_sound math_int e = absurd (true≢false (sym e))
      field_sound (tuple ts) e = of_tuple (fields_sound ts e)
      field_sound (adt d rs ts) e =
          let q = both (row_at rows d.0).copy (needed_copy rows p (row_at rows d.0).needed ts) e in
          up d rs (instances θ ts) q.0 (λ i f. needed_sound (row_at rows d.0).needed ts q.1 i f)
      field_sound (boxed t) e = absurd (true≢false (sym e))
      field_sound (shared r t) e = of_shared
      field_sound (unique r t) e = absurd (true≢false (sym e))
      field_sound (param n) e = h n e
      field_sound (closure n ts cs k ps r) e = absurd (true≢false (sym e))
      field_sound (viewed t) e = absurd (true≢false (sym e))
      field_sound (snapshot t) e = of_snapshot

      fields_sound : (ts : Tys) → all_copy rows p ts ≡ true → AreCopy ds (instances θ ts)
      fields_sound no_tys e = none_copy
      fields_sound (and_ty t ts) e = let q = both (copies rows p t) (all_copy rows p ts) e in more_copy (field_sound t q.0) (fields_sound ts q.1)

      needed_sound : (needed : List Bool) (ts : Tys) → needed_copy rows p needed ts ≡ true → (i : ℕ) → get_or needed i false ≡ true → IsCopy ds (nth_ty (instances θ ts) i)
      needed_sound needed no_tys e i f = absurd (true≢false (sym f ∙ none_at needed e i))
      needed_sound [] (and_ty t ts) e i f = absurd (true≢false (sym f))
      needed_sound (true ∷ needed) (and_ty t ts) e zero f = field_sound t (both (copies rows p t) (needed_copy rows p needed ts) e).0
      needed_sound (true ∷ needed) (and_ty t ts) e (suc i) f = needed_sound needed ts (both (copies rows p t) (needed_copy rows p needed ts) e).1 i f
      needed_sound (false ∷ needed) (and_ty t ts) e zero f = absurd (true≢false (sym f))
      needed_sound (false ∷ needed) (and_ty t ts) e (suc i) f = needed_sound needed ts e i f

    variant_sound : (vs : List VariantDecl) → variants_copy rows p vs ≡ true → (k : ℕ) (v : VariantDecl) → slice_get vs k ≡ Some v → AreCopy ds (instances θ (field_types v))
    variant_sound [] e k v f = absurd (nothing k f)
      where
        nothing : (n : ℕ) → slice_get [] n ≡ Some v → ⊥
        nothing zero q = grind (arith, q)
        nothing (suc n) q = grind (arith, q)
    variant_sound (u ∷ vs) e zero v f =
        let q = both (all_copy rows p (field_types u)) (variants_copy rows p vs) e in
        subst (λ w. AreCopy ds (instances θ (field_types w))) (same f) (fields_sound (field_types u) q.0)
      where
        same : Some u ≡ Some v → u ≡ v
        same q = cc
    variant_sound (u ∷ vs) e (suc k) v f = variant_sound vs (both (all_copy rows p (field_types u)) (variants_copy rows p vs) e).1 k v f

  -- of a type itself
  mutual
    sound : (t : Ty) → copies rows none t ≡ true → IsCopy ds t
    sound (int k) e = of_int
    sound bool e = of_bool
    sound math_int e = absurd (true≢false (sym e))
    sound (tuple ts) e = of_tuple (all_sound ts e)
    sound (adt d rs ts) e =
        let q = both (row_at rows d.0).copy (needed_copy rows none (row_at rows d.0).needed ts) e in
        up d rs ts q.0 (λ i f. argument_sound (row_at rows d.0).needed ts q.1 i f)
    sound (boxed t) e = absurd (true≢false (sym e))
    sound (shared r t) e = of_shared
    sound (unique r t) e = absurd (true≢false (sym e))
    sound (param n) e = absurd (true≢false (sym e))
    sound (closure n ts cs k ps r) e = absurd (true≢false (sym e))
    sound (viewed t) e = absurd (true≢false (sym e))
    sound (snapshot t) e = of_snapshot

    all_sound : (ts : Tys) → all_copy rows none ts ≡ true → AreCopy ds ts
    all_sound no_tys e = none_copy
    all_sound (and_ty t ts) e = let q = both (copies rows none t) (all_copy rows none ts) e in more_copy (sound t q.0) (all_sound ts q.1)

    argument_sound : (needed : List Bool) (ts : Tys) → needed_copy rows none needed ts ≡ true → (i : ℕ) → get_or needed i false ≡ true → IsCopy ds (nth_ty ts i)
    argument_sound needed no_tys e i f = absurd (true≢false (sym f ∙ none_at needed e i))
    argument_sound [] (and_ty t ts) e i f = absurd (true≢false (sym f))
    argument_sound (true ∷ needed) (and_ty t ts) e zero f = sound t (both (copies rows none t) (needed_copy rows none needed ts) e).0
    argument_sound (true ∷ needed) (and_ty t ts) e (suc i) f = argument_sound needed ts (both (copies rows none t) (needed_copy rows none needed ts) e).1 i f
    argument_sound (false ∷ needed) (and_ty t ts) e zero f = absurd (true≢false (sym f))
    argument_sound (false ∷ needed) (and_ty t ts) e (suc i) f = argument_sound needed ts e i f

  -- with one row more
  pub still_sound : (i : ℕ) (needed : List Bool) → i < length rows → (new : IsNew ds rows i) → AreNeeded rows new.decl.variants needed → AreSound ds (slice_set rows i (found_row needed))
  still_sound i needed within new n d rs ts e h = by (eqb_tells d.0 i)
    where
      p : ℕ → Bool
      p m = get_or needed m false

      fields : variants_copy rows p new.decl.variants ≡ true
      fields = variants_joined rows p new.decl.variants new.fields (λ m l f. not_false _ (sym (n.each m (omega (arith, n.long))) ∙ f))

      by : ((eqb d.0 i ≡ true) × (d.0 ≡ i)) ⊎ ((eqb d.0 i ≡ false) × (d.0 ≢ i)) → IsCopy ds (adt d rs ts)
      by (inl (t, q)) =
          let row : row_at (slice_set rows i (found_row needed)) d.0 ≡ found_row needed = ap (row_at (slice_set rows i (found_row needed))) q ∙ here ds rows i needed within new in
          let there : slice_get ds d.0 ≡ Some new.decl = ap (slice_get ds) q ∙ new.there in
          of_declared there new.copy (λ k fs f.
          let v = fields_at ds d k fs f in
          subst (λ x. AreCopy ds (instances ts x)) (sym v.2)
          (variant_sound p ts (λ m g. h m (ap (λ (r : CopyRow). get_or r.needed m false) row ∙ g)) new.decl.variants fields k v.0 (sym (ap (λ o. slice_get (variants_in o) k) there) ∙ v.1)))
      by (inr (t, q)) =
          let same = elsewhere ds rows i needed within new d.0 q in
          up d rs ts (sym (ap (λ (r : CopyRow). r.copy) same) ∙ e) (λ m f. h m (ap (λ (r : CopyRow). get_or r.needed m false) same ∙ f))

-- ---- all that is so is said

module _ (ds : List AdtDecl) (rows : List CopyRow) (right : AreRight ds rows) (nothing_new : (d : ℕ) → new_at ds rows d ≡ false) where
  variants_found : (p : ℕ → Bool) (vs : List VariantDecl) → ((k : ℕ) (v : VariantDecl) → slice_get vs k ≡ Some v → all_copy rows p (field_types v) ≡ true) → variants_copy rows p vs ≡ true
  variants_found p [] f = refl
  variants_found p (v ∷ vs) f = and_true (all_copy rows p (field_types v)) (variants_copy rows p vs) (f 0 v refl) (variants_found p vs (λ k u e. f (suc k) u e))

  known : (d : ℕ) (c : AdtDecl) → slice_get ds d ≡ Some c → c.copy ≡ true → variants_copy rows all c.variants ≡ true → (row_at rows d).copy ≡ true
  known d c there copy fields = by (row_at rows d).copy refl
    where
      by : (b : Bool) → (row_at rows d).copy ≡ b → (row_at rows d).copy ≡ true
      by true e = e
      by false e = absurd (true≢false (sym is ∙ nothing_new d))
        where
          is : new_at ds rows d ≡ true
          is = ap (is_new rows d) there ∙ and_true (not (row_at rows d).copy) (c.copy && variants_copy rows all c.variants) (ap not e) (and_true c.copy (variants_copy rows all c.variants) copy fields)

  declared_found : (d : AdtId) (ts : Tys) (c : AdtDecl) → slice_get ds d.0 ≡ Some c → c.copy ≡ true → variants_copy rows (given rows none ts) c.variants ≡ true
      → ((row_at rows d.0).copy && needed_copy rows none (row_at rows d.0).needed ts) ≡ true
  declared_found d ts c there copy fields =
      let is : (row_at rows d.0).copy ≡ true = known d.0 c there copy (variants_grow rows (given rows none ts) all (λ n e. refl) c.variants fields) in
      and_true (row_at rows d.0).copy (needed_copy rows none (row_at rows d.0).needed ts) is (each_needed rows none (row_at rows d.0).needed ts (λ i e. argument i ((right d.0 is).1 i e)))
    where
      argument : (i : ℕ) → variants_copy rows (all_but i) (variants_at ds d.0) ≡ false → given rows none ts i ≡ true
      argument i off = by (given rows none ts i) refl
        where
          apart : given rows none ts i ≡ false → (n : ℕ) → given rows none ts n ≡ true → all_but i n ≡ true
          apart e n f = other (eqb_tells n i)
            where
              other : ((eqb n i ≡ true) × (n ≡ i)) ⊎ ((eqb n i ≡ false) × (n ≢ i)) → all_but i n ≡ true
              other (inl (t, q)) = absurd (true≢false (sym f ∙ ap (given rows none ts) q ∙ e))
              other (inr (t, q)) = ap not t

          by : (b : Bool) → given rows none ts i ≡ b → given rows none ts i ≡ true
          by true e = e
          by false e = absurd (true≢false (sym (ap (variants_copy rows (all_but i)) (ap variants_in there) ∙ variants_grow rows (given rows none ts) (all_but i) (apart e) c.variants fields) ∙ off))

  mutual
    complete : (t : Ty) → IsCopy ds t → copies rows none t ≡ true
    complete t of_int = refl
    complete t of_bool = refl
    complete t (of_tuple {ts} a) = all_complete ts a
    complete t of_shared = refl
    complete t of_snapshot = refl
    complete t (of_declared {d} {rs} {ts} {decl} there copy fields) =
        declared_found d ts decl there copy (variants_found (given rows none ts) decl.variants (λ k v e.
        sym (all_at_types rows none ts (field_types v)) ∙ all_complete (instances ts (field_types v)) (fields k (field_types v) (fields_are ds d k v (ap (λ o. slice_get (variants_in o) k) there ∙ e)))))

    all_complete : (ts : Tys) → AreCopy ds ts → all_copy rows none ts ≡ true
    all_complete ts none_copy = refl
    all_complete ts (more_copy {t} {ts = us} a more) = and_true (copies rows none t) (all_copy rows none us) (complete t a) (all_complete us more)

pub decided : (ds : List AdtDecl) (rows : List CopyRow) → AreSound ds rows → AreRight ds rows → ((d : ℕ) → new_at ds rows d ≡ false) → Decide ds rows
decided ds rows up right nothing_new t = (sound ds rows up t, complete ds rows right nothing_new t)

-- ---- one round

-- what holds of the rows round by round
abbrev pub AreRows : List AdtDecl → List CopyRow → Type 0
AreRows ds rows = (length rows ≡ length ds) × AreSound ds rows × AreRight ds rows

pub first_rows : (ds : List AdtDecl) (rows : List CopyRow) → rows ≡ replicate (length ds) no_row → AreRows ds rows
first_rows ds rows e = subst (AreRows ds) (sym e) (long (length ds), none_sound ds (length ds), none_right ds (length ds))
  where
    long : (n : ℕ) → length (replicate n no_row) ≡ n
    long zero = refl
    long (suc n) = ap suc (long n)

module _ (ds : List AdtDecl) (rows : List CopyRow) (i : ℕ) (is : new_at ds rows i ≡ true) where
  pub fewer_unknown : (needed : List Bool) → i < length ds → length rows ≡ length ds → unknown (slice_set rows i (found_row needed)) < unknown rows
  fewer_unknown needed l long = unknown_falls rows i (found_row needed) (omega arith) (new_there ds rows i is).before refl

  pub next_rows : (needed : List Bool) (c : AdtDecl) → i < length ds → AreRows ds rows → c ≡ get_or ds i c → AreNeeded rows c.variants needed → AreRows ds (slice_set rows i (found_row needed))
  next_rows needed c l h e n =
      let new = new_there ds rows i is in
      let within : i < length rows = subst (λ m. i < m) (sym h.0) l in
      let some : Some c ≡ Some new.decl = sym (there_is ds i c e l) ∙ new.there in
      let those : AreNeeded rows new.decl.variants needed = subst (λ x. AreNeeded rows x.variants needed) (same some) n in
      (length-set rows i (found_row needed) ∙ h.0, still_sound ds rows h.1 i needed within new those, still_right ds rows i needed within new those h.2)
    where
      same : {x y : AdtDecl} → Some x ≡ Some y → x ≡ y
      same q = cc
