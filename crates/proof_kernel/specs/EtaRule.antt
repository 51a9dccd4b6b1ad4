-- That a tuple or a struct is made of its parts (Klop and de Vrijer 1989, surjective pairing).
use Rattle.std.specs.Prelude.{ℕ, zero, suc, List, [], ◌∷◌, length, Option, Some, None, slice_get, if◌then◌else◌}
use Rattle.std.specs.Option.{option_map}
use Rattle.logic_term.specs.declared.declaration.AdtDecl.{AdtDecl}
use Rattle.logic_term.specs.declared.declaration.VariantDecl.{VariantDecl}
use Rattle.logic_term.specs.declared.kinds.AdtId.{AdtId}
use Rattle.logic_term.specs.declared.kinds.Ctor.{Ctor}
use Rattle.logic_term.specs.declared.kinds.Ctor.TheVariants.{Tuple, Variant}
use Rattle.logic_term.specs.Term.{Term, apply, made, part, is_equal}
use Rattle.logic_term.specs.TermView.{terms_of}
use Rattle.logic_term.specs.Ty.{Ty, Tys, tuple, adt, no_tys, and_ty}
use Rattle.logic_elab.specs.declared.sorted.SortedTerm.{SortedTerm}

-- ---- what makes all values of a sort

-- a constructor, and of how many parts
pub record Shape : Type 0 where
  pub ctor : Ctor
  pub parts : ℕ

abbrev pub count_tys : Tys → ℕ
count_tys no_tys = 0
count_tys (and_ty t ts) = suc (count_tys ts)

abbrev pub only_variant : AdtId → List VariantDecl → Option Shape
only_variant d (v ∷ []) = Some (record { ctor = Variant d 0; parts = length v.fields })
only_variant d vs = None

abbrev pub struct_shape : AdtId → Option AdtDecl → Option Shape
struct_shape d None = None
struct_shape d (Some decl) = if decl.is_struct then only_variant d decl.variants else None

-- of a tuple, and of a struct
abbrev pub shape_of : List AdtDecl → Ty → Option Shape
shape_of adts (tuple ts) = Some (record { ctor = Tuple; parts = count_tys ts })
shape_of adts (adt d rs ts) = struct_shape d (slice_get adts d.0)
shape_of adts s = None

-- ---- the equation

-- so many parts of the term, from number k on
abbrev pub parts_from : ℕ → ℕ → Term → List Term
parts_from k zero t = []
parts_from k (suc n) t = part k t ∷ parts_from (suc k) n t

-- the term is made of its parts
abbrev pub made_of_parts : Term → Shape → List Term
made_of_parts t p = is_equal t (apply (made p.ctor) (terms_of (parts_from 0 p.parts t))) ∷ []

abbrev pub eta_at : List AdtDecl → SortedTerm → Option (List Term)
eta_at adts a = option_map (made_of_parts a.term) (shape_of adts a.sort)
