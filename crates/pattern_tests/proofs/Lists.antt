-- Types of lists, and patterns of lists.
use Rattle.std.proofs.Common.{◌≡◌, refl, sym, ap, ◌∙◌, subst, ℕ, zero, suc, ◌+◌, ◌<◌, ◌≤◌, Some, List, [], ◌∷◌, ◌++◌, length, get_or, slice_get, take, map, take_all, arith}
use Rattle.logic_term.specs.Pattern.{Pat}
use Rattle.logic_term.specs.PatternView.{pats_of}
use Rattle.logic_term.specs.Theory.{field_ty, fields_of, variant_of}
use Rattle.logic_term.specs.declared.declaration.AdtDecl.{AdtDecl}
use Rattle.logic_term.specs.declared.declaration.FieldDecl.{FieldDecl}
use Rattle.logic_term.specs.declared.declaration.VariantDecl.{VariantDecl}
use Rattle.logic_term.specs.declared.kinds.AdtId.{AdtId}
use Rattle.logic_term.specs.Sort.{Declarations, instance, instances}
use Rattle.logic_term.specs.Ty.{Ty, Tys}
use Rattle.logic_term.specs.TyView.{tys_of}
use Rattle.rs_types.proofs.Lists.{instances_front}
use Rattle.pat_check.specs.Typed.{fields_in, IsPat, ArePats, AllPats}

-- ---- patterns

-- one more is a pattern of the type
pub all_pats_more : (Δ : Declarations) (i : ℕ) (ps : List Pat) (p : Pat) (t : Ty) → p ≡ get_or ps i p → i < length ps → IsPat Δ p t → AllPats Δ (take i ps) t → AllPats Δ (take (i + 1) ps) t
all_pats_more Δ i ps p t e l h a = subst (λ m. AllPats Δ (take m ps) t) (let f : suc i ≡ i + 1 = omega arith in f) (more i ps e l a)
  where
    more : (i : ℕ) (ps : List Pat) → p ≡ get_or ps i p → i < length ps → AllPats Δ (take i ps) t → AllPats Δ (take (suc i) ps) t
    more i [] e l a = absurd (omega arith)
    more zero (q ∷ ps) e l a = (subst (λ x. IsPat Δ x t) e h, tt)
    more (suc i) (q ∷ ps) e l a = (a.0, more i ps e (omega arith) a.1)

pub all_pats_taken : (Δ : Declarations) (i : ℕ) (ps : List Pat) (t : Ty) → length ps ≤ i → AllPats Δ (take i ps) t → AllPats Δ ps t
all_pats_taken Δ i ps t l a = subst (λ qs. AllPats Δ qs t) (take_all i ps l) a

-- one more is a pattern of its type
pub are_pats_more : (Δ : Declarations) (i : ℕ) (ps : List Pat) (p : Pat) (ts : List Ty) (t : Ty) → p ≡ get_or ps i p → t ≡ get_or ts i t → i < length ps → length ps ≡ length ts → IsPat Δ p t
    → ArePats Δ (pats_of (take i ps)) (tys_of (take i ts)) → ArePats Δ (pats_of (take (i + 1) ps)) (tys_of (take (i + 1) ts))
are_pats_more Δ i ps p ts t e f l s h a = subst (λ m. ArePats Δ (pats_of (take m ps)) (tys_of (take m ts))) (let g : suc i ≡ i + 1 = omega arith in g) (more i ps ts e f l s a)
  where
    more : (i : ℕ) (ps : List Pat) (ts : List Ty) → p ≡ get_or ps i p → t ≡ get_or ts i t → i < length ps → length ps ≡ length ts → ArePats Δ (pats_of (take i ps)) (tys_of (take i ts))
        → ArePats Δ (pats_of (take (suc i) ps)) (tys_of (take (suc i) ts))
    more i [] ts e f l s a = absurd (omega arith)
    more i (q ∷ ps) [] e f l s a = absurd (omega (arith, s))
    more zero (q ∷ ps) (u ∷ ts) e f l s a = (subst (λ x. IsPat Δ x u) e (subst (λ y. IsPat Δ p y) f h), tt)
    more (suc i) (q ∷ ps) (u ∷ ts) e f l s a = (a.0, more i ps ts e f (omega arith) (omega (arith, s)) a.1)

pub are_pats_taken : (Δ : Declarations) (i : ℕ) (ps : List Pat) (ts : List Ty) → length ps ≤ i → length ps ≡ length ts → ArePats Δ (pats_of (take i ps)) (tys_of (take i ts)) → ArePats Δ (pats_of ps) (tys_of ts)
are_pats_taken Δ i ps ts l s a = subst (λ us. ArePats Δ (pats_of ps) (tys_of us)) (take_all i ts (omega (arith, l, s))) (subst (λ qs. ArePats Δ (pats_of qs) (tys_of (take i ts))) (take_all i ps l) a)

-- ---- fields

-- one more field at the types
pub field_more : (θ : Tys) (i : ℕ) (fs : List FieldDecl) (f : FieldDecl) (t : Ty) (us vs : List Ty) → f ≡ get_or fs i f → i < length fs → t ≡ instance θ f.ty
    → us ≡ map (instance θ) (take i (map field_ty fs)) → vs ≡ us ++ t ∷ [] → vs ≡ map (instance θ) (take (i + 1) (map field_ty fs))
field_more θ i fs f t us vs e l is h made = made ∙ (λ j. h j ++ is j ∷ []) ∙ sym (subst (λ m. map (instance θ) (take m (map field_ty fs)) ≡ map (instance θ) (take i (map field_ty fs)) ++
    instance θ f.ty ∷ []) (let g : suc i ≡ i + 1 = omega arith in g) (more i fs e l))
  where
    more : (i : ℕ) (fs : List FieldDecl) → f ≡ get_or fs i f → i < length fs → map (instance θ) (take (suc i) (map field_ty fs)) ≡ map (instance θ) (take i (map field_ty fs)) ++ instance θ f.ty ∷ []
    more i [] e l = absurd (omega arith)
    more zero (g ∷ fs) e l = ap (λ x. instance θ x.ty ∷ []) (sym e)
    more (suc i) (g ∷ fs) e l = ap (λ us. instance θ g.ty ∷ us) (more i fs e (omega arith))

map_length : (fs : List FieldDecl) → length (map field_ty fs) ≡ length fs
map_length [] = refl
map_length (f ∷ fs) = ap suc (map_length fs)

-- the fields of a declared variant at the types
pub fields_found : (ds : List AdtDecl) (d : AdtId) (k i : ℕ) (a : AdtDecl) (v : VariantDecl) (fs : List FieldDecl) (θ : Tys) (us : List Ty) → slice_get ds d.0 ≡ Some a
    → slice_get a.variants k ≡ Some v → fs ≡ v.fields → us ≡ map (instance θ) (take i (map field_ty fs)) → length fs ≤ i → (gs : Tys) × (fields_in ds d k ≡ Some gs) × (instances θ gs ≡ tys_of us)
fields_found ds d k i a v fs θ us e f g h l = (
  tys_of (map field_ty v.fields),
  ap (λ o. fields_of (variant_of o k)) e ∙ ap fields_of f,
  ap (λ xs. instances θ (tys_of (map field_ty xs))) (sym g) ∙ sym (instances_front θ i (map field_ty fs) us h (subst (λ n. n ≤ i) (sym (map_length fs)) l)),
)
