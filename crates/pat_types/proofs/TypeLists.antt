-- Lists of types, one behind another.
use Rattle.std.proofs.Common.{◌≡◌, ℕ, zero, suc, ◌+◌, ◌<◌, ◌≤◌, ◌++◌, List, [], ◌∷◌, length, get_or, drop, map, refl, ap, ◌∙◌, add-one, drop-cons, arith}
use Rattle.std.proofs.Math.ListN.{drop_of_length-le}
use Rattle.logic_term.specs.declared.declaration.FieldDecl.{FieldDecl}
use Rattle.logic_term.specs.Sort.{instance, instances, nth_ty}
use Rattle.logic_term.specs.Theory.{field_ty}
use Rattle.logic_term.specs.Ty.{Ty, Tys, no_tys, and_ty}
use Rattle.logic_term.specs.TyView.{tys_of}

-- these types, and then those
abbrev pub after : List Ty → Tys → Tys
after [] us = us
after (t ∷ ts) us = and_ty t (after ts us)

pub after_more : (ts : List Ty) (t : Ty) (us : Tys) → after (ts ++ t ∷ []) us ≡ after ts (and_ty t us)
after_more [] t us = refl
after_more (s ∷ ts) t us = ap (and_ty s) (after_more ts t us)

pub after_all : (ts : List Ty) → after ts no_tys ≡ tys_of ts
after_all [] = refl
after_all (t ∷ ts) = ap (and_ty t) (after_all ts)

-- one more field
pub next_field : (θ : Tys) (fs : List FieldDecl) (i : ℕ) (f : FieldDecl) (ts us : List Ty) (u : Ty) → i < length fs → u ≡ instance θ (get_or fs i f).ty → us ≡ ts ++ u ∷ []
    → after us (instances θ (tys_of (map field_ty (drop (i + 1) fs)))) ≡ after ts (instances θ (tys_of (map field_ty (drop i fs))))
next_field θ fs i f ts us u h e p =
    rw (add-one, drop-cons fs i f h)
    (ap (λ vs. after vs (instances θ (tys_of (map field_ty (drop (suc i) fs))))) p
    ∙ after_more ts u (instances θ (tys_of (map field_ty (drop (suc i) fs))))
    ∙ ap (λ v. after ts (and_ty v (instances θ (tys_of (map field_ty (drop (suc i) fs)))))) e)

-- the type of a number
pub nth_of : (ts : List Ty) (i : ℕ) (t : Ty) → i < length ts → nth_ty (tys_of ts) i ≡ get_or ts i t
nth_of [] i t h = absurd (omega arith)
nth_of (u ∷ ts) zero t h = refl
nth_of (u ∷ ts) (suc i) t h = nth_of ts i t (omega arith)

-- ---- the end

pub fields_end : (θ : Tys) (fs : List FieldDecl) (i : ℕ) (ts : List Ty) → length fs ≤ i → after ts (instances θ (tys_of (map field_ty (drop i fs)))) ≡ tys_of ts
fields_end θ fs i ts h = ap (λ (gs : List FieldDecl). after ts (instances θ (tys_of (map field_ty gs)))) (drop_of_length-le fs h) ∙ after_all ts
