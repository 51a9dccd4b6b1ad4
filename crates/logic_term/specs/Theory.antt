-- What a program declares, as far as terms speak of it.
use Rattle.std.specs.Prelude.{ℕ, List, [], Option, Some, None, map, slice_get}
use Rattle.logic_term.specs.declared.declaration.AdtDecl.{AdtDecl}
use Rattle.logic_term.specs.declared.declaration.FieldDecl.{FieldDecl}
use Rattle.logic_term.specs.declared.declaration.VariantDecl.{VariantDecl}
use Rattle.logic_term.specs.Sort.{Declarations}
use Rattle.logic_term.specs.Ty.{Ty, Tys}
use Rattle.logic_term.specs.TyView.{tys_of}

pub record Theory : Type 0 where
  -- the declared types, by their numbers
  pub adts : List AdtDecl

-- of a program that declares nothing
abbrev pub nothing_declared : Theory
nothing_declared = record { adts = [] }

abbrev pub field_ty : FieldDecl → Ty
field_ty f = f.ty

-- the types of the fields of a variant
abbrev pub fields_of : Option VariantDecl → Option Tys
fields_of None = None
fields_of (Some v) = Some (tys_of (map field_ty v.fields))

abbrev pub variant_of : Option AdtDecl → ℕ → Option VariantDecl
variant_of None k = None
variant_of (Some d) k = slice_get d.variants k

-- the types of the fields of variant k of the declared type d, over its parameters
abbrev pub declared : Theory → Declarations
declared Θ d k = fields_of (variant_of (slice_get Θ.adts d.0) k)
