-- Fields and parts: what is found has its type.
use Rattle.std.proofs.Common.{◌≡◌, ◌∙◌, ℕ, suc, ◌+◌, Bool, true, false, List, [], ◌∷◌, Option, Some, None, refl, ap, sym, subst, arith}
use Rattle.std.specs.Option.{option_map}
use Rattle.std.specs.Prelude.{slice_get, ◌==◌, if◌then◌else◌}
use Rattle.text_core.specs.declared.name.Name.{Name}
use Rattle.logic_term.specs.declared.declaration.AdtDecl.{AdtDecl}
use Rattle.logic_term.specs.declared.declaration.FieldDecl.{FieldDecl}
use Rattle.logic_term.specs.declared.kinds.TyUnary.{TyUnary}
use Rattle.logic_term.specs.declared.kinds.TyUnary.TheVariants as unary
use Rattle.logic_term.specs.Sorted.{sort_at}
use Rattle.logic_term.specs.Ty.{Ty, Tys, tuple, adt}
use Rattle.logic_term.specs.TyView.{made_by}
use Rattle.constructors.specs.FieldNames.{numbered}
use Rattle.type_parts.specs.Parts.{field_at, field_from, field_of, part_of, part_if, struct_fields, with_number}
use Rattle.type_check.specs.Makers.{arguments_from}
use Rattle.type_check.specs.WellTyped.{part_ty}

pub no_unary_arguments : (n : ℕ) (op : TyUnary) (t : Ty) → arguments_from n (Some (made_by op t)) ≡ None
no_unary_arguments n unary.Boxed t = refl
no_unary_arguments n (unary.Shared r) t = refl
no_unary_arguments n (unary.Unique r) t = refl
no_unary_arguments n unary.View t = refl
no_unary_arguments n unary.Snapshot t = refl

-- ---- what is found has its type

-- it is the field of number m behind number k
abbrev IsFound : Tys → ℕ → List FieldDecl → ℕ × Ty → Type 0
IsFound ts k fs p = (m : ℕ) × (p.0 ≡ m + k) × (option_map (field_at ts) (slice_get fs m) ≡ Some p.1)

by_name : (x : Name) (ts : Tys) (k : ℕ) (f : FieldDecl) (fs : List FieldDecl) (p : ℕ × Ty) (b : Bool) → (field_from (suc k) x ts fs ≡ Some p → IsFound ts (suc k) fs p)
    → (if b then Some (k, field_at ts f) else field_from (suc k) x ts fs) ≡ Some p → IsFound ts k (f ∷ fs) p
by_name x ts k f fs p true rest h = let q : (k, field_at ts f) ≡ p = cc in let e : k ≡ p.0 = ap (λ (p : ℕ × Ty). p.0) q in (0, omega (arith, e), ap (λ (p : ℕ × Ty). Some p.1) q)
by_name x ts k f fs p false rest h = let r = rest h in (suc r.0, r.1 ∙ omega arith, r.2)

from_found : (x : Name) (ts : Tys) (k : ℕ) (fs : List FieldDecl) (p : ℕ × Ty) → field_from k x ts fs ≡ Some p → IsFound ts k fs p
from_found x ts k [] p h = absurd (cc)
from_found x ts k (f ∷ fs) p h = by_name x ts k f fs p (f.name.0 == x.0) (λ g. from_found x ts (suc k) fs p g) h

first_found : (x : Name) (ts : Tys) (fs : List FieldDecl) (p : ℕ × Ty) → field_from 0 x ts fs ≡ Some p → option_map (field_at ts) (slice_get fs p.0) ≡ Some p.1
first_found x ts fs p h =
    let r = from_found x ts 0 fs p h in
    let e : r.0 ≡ p.0 = omega (arith, r.1) in
    subst (λ m. option_map (field_at ts) (slice_get fs m) ≡ Some p.1) e r.2

pub field_has_type : (ds : List AdtDecl) (x : Name) (t : Ty) (p : ℕ × Ty) → field_of ds x t ≡ Some p → part_ty ds t p.0 ≡ Some p.1
field_has_type ds x (adt d rs ts) p h = first_found x ts (struct_fields (slice_get ds d.0)) p h
field_has_type ds x t p h = absurd (cc)

numbered_has_type : (n : ℕ) (o : Option Ty) (p : ℕ × Ty) → with_number n o ≡ Some p → (p.0 ≡ n) × (o ≡ Some p.1)
numbered_has_type n None p h = absurd (cc)
numbered_has_type n (Some t) p h = let q : (n, t) ≡ p = cc in (sym (ap (λ (p : ℕ × Ty). p.0) q), ap (λ (p : ℕ × Ty). Some p.1) q)

part_has_type : (ds : List AdtDecl) (t : Ty) (n : ℕ) (p : ℕ × Ty) → part_of ds t n ≡ Some p → part_ty ds t p.0 ≡ Some p.1
part_has_type ds (tuple ts) n p h =
    let r = numbered_has_type n (sort_at ts n) p h in
    subst (λ m. sort_at ts m ≡ Some p.1) (sym r.0) r.1
part_has_type ds (adt d rs ts) n p h = field_has_type ds (numbered n) (adt d rs ts) p h
part_has_type ds t n p h = absurd (cc)

pub number_has_type : (ds : List AdtDecl) (t : Ty) (n : Option ℕ) (p : ℕ × Ty) → part_if ds t n ≡ Some p → part_ty ds t p.0 ≡ Some p.1
number_has_type ds t None p h = absurd (cc)
number_has_type ds t (Some n) p h = part_has_type ds t n p h
