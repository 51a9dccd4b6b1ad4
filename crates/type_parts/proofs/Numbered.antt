-- Parts by numbers: where there are none, and as the code finds them.
use Rattle.std.proofs.Common.{◌≡◌, ◌∙◌, ℕ, zero, suc, ◌+◌, ◌^◌, List, [], ◌∷◌, Option, Some, None, refl, ap, sym}
use Rattle.std.specs.Prelude.{MatchOption, slice_get}
use Rattle.text_core.specs.declared.name.Name.{Name}
use Rattle.logic_term.specs.declared.declaration.AdtDecl.{AdtDecl}
use Rattle.logic_term.specs.declared.kinds.TyUnary.{TyUnary}
use Rattle.logic_term.specs.declared.kinds.TyUnary.TheVariants as unary
use Rattle.logic_term.specs.declared.ty.CompoundTy.{CompoundTy}
use Rattle.logic_term.specs.declared.ty.CompoundTy.TheVariants as compound
use Rattle.logic_term.specs.Sorted.{sort_at}
use Rattle.logic_term.specs.Ty.{Ty, tuple}
use Rattle.logic_term.specs.TyView.{compound_of, made_by, tys_of}
use Rattle.constructors.specs.FieldNames.{numbered}
use Rattle.type_parts.specs.Parts.{field_of, part_of, with_number}

pub unary_field : (ds : List AdtDecl) (x : Name) (op : TyUnary) (t : Ty) → field_of ds x (made_by op t) ≡ None
unary_field ds x unary.Boxed t = refl
unary_field ds x (unary.Shared r) t = refl
unary_field ds x (unary.Unique r) t = refl
unary_field ds x unary.View t = refl
unary_field ds x unary.Snapshot t = refl

pub unary_part : (ds : List AdtDecl) (n : ℕ) (op : TyUnary) (t : Ty) → part_of ds (made_by op t) n ≡ field_of ds (numbered n) (made_by op t)
unary_part ds n unary.Boxed t = refl
unary_part ds n (unary.Shared r) t = refl
unary_part ds n (unary.Unique r) t = refl
unary_part ds n unary.View t = refl
unary_part ds n unary.Snapshot t = refl

closure_part : (ds : List AdtDecl) (n : ℕ) (c : CompoundTy) → part_of ds (compound_of c) n ≡ field_of ds (numbered n) (compound_of c)
closure_part ds n (compound.Adt d rs ts) = refl
closure_part ds n (compound.Unary op t) = unary_part ds n op t
closure_part ds n (compound.Closure k ts cs b) = refl

-- in what is no tuple the part is that of the number's name
pub numbered_part : (ds : List AdtDecl) (n : ℕ) (c : CompoundTy) (x : Name) → x.0 ≡ 2 ^ 63 + n → field_of ds x (compound_of c) ≡ part_of ds (compound_of c) n
unfolding numbered
numbered_part ds n c x e = ap (λ k. field_of ds (record { 0 = k }) (compound_of c)) e ∙ sym (closure_part ds n c)

pub ruleset no_unary_field = (unary_field, unary_part)

-- ---- tuples

sort_listed : (ts : List Ty) (n : ℕ) → sort_at (tys_of ts) n ≡ slice_get ts n
sort_listed [] n = refl
sort_listed (t ∷ ts) zero = refl
sort_listed (t ∷ ts) (suc n) = sort_listed ts n

-- the part of a tuple of these, as the code finds it
pub tuple_part : (ds : List AdtDecl) (ts : List Ty) (n : ℕ) (o : Option (ℕ × Ty)) → MatchOption o (slice_get ts n ≡ None) (λ p. (p.0 ≡ n) × (slice_get ts n ≡ Some p.1)) → o ≡ part_of ds (tuple (tys_of ts)) n
tuple_part ds ts n None h = sym (ap (with_number n) (sort_listed ts n ∙ h))
tuple_part ds ts n (Some p) h = ap (λ k. Some (k, p.1)) h.0 ∙ sym (ap (with_number n) (sort_listed ts n ∙ h.1))
