-- The branches of the variants, one after another.
use Rattle.std.proofs.Common.{take_all, ◌≡◌, refl, sym, ap, ◌∙◌, subst, ℕ, zero, suc, ◌+◌, ◌≤◌, ◌<◌, true, false, nat_lt, Some, None, List, [], ◌∷◌, ◌++◌, length, get_or, take, slice_get, map, arith}
use Rattle.std.proofs.lemmas.Bool.{ltb-true, ltb-false}
use Rattle.logic_term.specs.Theory.{field_ty}
use Rattle.logic_term.specs.Ty.{Tys}
use Rattle.logic_term.specs.TyView.{tys_of}
use Rattle.logic_term.specs.declared.declaration.AdtDecl.{AdtDecl}
use Rattle.logic_term.specs.declared.declaration.FieldDecl.{FieldDecl}
use Rattle.logic_term.specs.declared.declaration.VariantDecl.{VariantDecl}
use Rattle.logic_term.specs.declared.kinds.AdtId.{AdtId}
use Rattle.logic_term.specs.declared.kinds.Ctor.TheVariants.{Variant}
use Rattle.logic_term.specs.declared.pattern.PatStep.{PatStep}
use Rattle.pat_check.specs.Branches.{variants_in, field_tys, variant_branches}
use Rattle.pat_check.specs.Known.{Known, built, all_anything, put}
use Rattle.pat_check.specs.Typed.{count_tys}

pub count_fields : (fs : List FieldDecl) → count_tys (tys_of (map field_ty fs)) ≡ length fs
count_fields [] = refl
count_fields (f ∷ fs) = ap suc (count_fields fs)

pub got : {A : Type 0} (xs : List A) (n : ℕ) (a : A) → n < length xs → a ≡ get_or xs n a → slice_get xs n ≡ Some a
got [] n a l e = absurd (omega arith)
got (x ∷ xs) zero a l e = ap Some (sym e)
got (x ∷ xs) (suc n) a l e = got xs n a (omega arith) e

pub none_past : {A : Type 0} (xs : List A) (n : ℕ) → length xs ≤ n → slice_get xs n ≡ None
none_past [] n l = refl
none_past (x ∷ xs) zero l = absurd (omega arith)
none_past (x ∷ xs) (suc n) l = none_past xs n (omega arith)

pub listed_at : (vs : List VariantDecl) (n : ℕ) (v : VariantDecl) → v ≡ get_or vs n v → n < length vs → slice_get (map field_tys vs) n ≡ Some (field_tys v)
listed_at [] n v e l = absurd (omega arith)
listed_at (w ∷ vs) zero v e l = ap (λ x. Some (field_tys x)) (sym e)
listed_at (w ∷ vs) (suc n) v e l = listed_at vs n v e (omega arith)

more_from : (k : Known) (q : List PatStep) (d : AdtId) (j m i : ℕ) (fss : List Tys) (fs : Tys) → m ≡ j + i → slice_get fss i ≡ Some fs
    → variant_branches k q d j (take (suc i) fss) ≡ variant_branches k q d j (take i fss) ++ put k q (built (Variant d m) (all_anything (count_tys fs))) ∷ []
more_from k q d j m i [] fs e g = absurd (cc)
more_from k q d j m zero (gs ∷ fss) fs e g =
    let same : gs ≡ fs = cc in
    let at : j ≡ m = omega (arith, e) in
    λ i. put k q (built (Variant d (at i)) (all_anything (count_tys (same i)))) ∷ []
more_from k q d j m (suc i) (gs ∷ fss) fs e g = ap (λ xs. put k q (built (Variant d j) (all_anything (count_tys gs))) ∷ xs) (more_from k q d (suc j) m i fss fs (omega (arith, e)) g)

pub variant_more : (k : Known) (q : List PatStep) (d : AdtId) (i : ℕ) (vs : List VariantDecl) (v : VariantDecl) (n : ℕ) (x : Known) (xs : List Known) → v ≡ get_or vs i v → i < length vs
    → n ≡ length v.fields → x ≡ put k q (built (Variant d i) (all_anything n)) → xs ≡ variant_branches k q d 0 (take i (map field_tys vs)) → xs ++ x ∷ [] ≡ variant_branches k q d 0 (take (i + 1) (map field_tys vs))
variant_more k q d i vs v n x xs e l c is h =
    let count : n ≡ count_tys (field_tys v) = c ∙ sym (count_fields v.fields) in
    let one = more_from k q d 0 i i (map field_tys vs) (field_tys v) (omega arith) (listed_at vs i v e l) in
    let at : suc i ≡ i + 1 = omega arith in
    (λ j. h j ++ is j ∷ []) ∙ ap (λ m. variant_branches k q d 0 (take i (map field_tys vs)) ++ put k q (built (Variant d i) (all_anything m)) ∷ []) count ∙ sym one ∙ ap (λ m. variant_branches k q d 0 (take m (map field_tys vs))) at

pub all_variants_taken : (k : Known) (q : List PatStep) (d : AdtId) (i : ℕ) (vs : List VariantDecl) → length vs ≤ i → variant_branches k q d 0 (take i (map field_tys vs)) ≡ variant_branches k q d 0 (map field_tys vs)
all_variants_taken k q d i vs l = ap (variant_branches k q d 0) (whole (map field_tys vs) i (subst (λ n. n ≤ i) (sym (map_length vs)) l))
  where
    whole : (xs : List Tys) (i : ℕ) → length xs ≤ i → take i xs ≡ xs
    whole xs i l = take_all i xs l

    map_length : (vs : List VariantDecl) → length (map field_tys vs) ≡ length vs
    map_length [] = refl
    map_length (v ∷ vs) = ap suc (map_length vs)

pub variants_got : (ds : List AdtDecl) (n : ℕ) (a : AdtDecl) → true ≡ nat_lt n (length ds) → a ≡ get_or ds n a → a.variants ≡ variants_in (slice_get ds n)
variants_got ds n a l e = ap variants_in (sym (got ds n a (ltb-true n (length ds) (sym l)) e))

pub no_variants : (ds : List AdtDecl) (n : ℕ) → false ≡ nat_lt n (length ds) → [] ≡ variants_in (slice_get ds n)
no_variants ds n l = ap variants_in (sym (none_past ds n (ltb-false n (length ds) (sym l))))
