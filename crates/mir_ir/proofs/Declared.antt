-- Declarations that agree with those of bodies.
use Rattle.std.proofs.Common.{◌≡◌, ◌∙◌, refl, sym, ap, ℕ, ◌<◌, List, length, Option, Some, None, slice_get}
use Rattle.std.proofs.lemmas.Option.{slice_get_within}
use Rattle.logic_term.specs.declared.declaration.AdtDecl.{AdtDecl}
use Rattle.logic_term.specs.declared.declaration.VariantDecl.{VariantDecl}
use Rattle.logic_term.specs.declared.kinds.AdtId.{AdtId}
use Rattle.logic_term.specs.Sort.{Declarations}
use Rattle.logic_term.specs.Theory.{fields_of, variant_of, declared}
use Rattle.logic_term.specs.Ty.{Tys}
use Rattle.mir_ir.specs.declared.body.Bodies.{Bodies}
use Rattle.mir_ir.specs.Declares.{Declares, theory_in}

-- the declaration of a type with variants
pub declaration_of : (bodies : Bodies) (d : AdtId) (k : ℕ) (fs : Tys) → declared (theory_in bodies) d k ≡ Some fs → (decl : AdtDecl) × (slice_get bodies.decls d.0 ≡ Some decl) × (fields_of (slice_get decl.variants k) ≡ Some fs)
declaration_of bodies d k fs e = by (slice_get bodies.decls d.0) refl e
  where
    by : (o : Option AdtDecl) → slice_get bodies.decls d.0 ≡ o → fields_of (variant_of o k) ≡ Some fs → (decl : AdtDecl) × (slice_get bodies.decls d.0 ≡ Some decl) × (fields_of (slice_get decl.variants k) ≡ Some fs)
    by (Some decl) is h = (decl, is, h)
    by None is h = absurd (cc)

-- what the bodies declare is declared
pub declared_there : (Δ : Declarations) (bodies : Bodies) → Declares Δ bodies → (d : AdtId) (k : ℕ) (fs : Tys) → declared (theory_in bodies) d k ≡ Some fs → Δ d k ≡ Some fs
declared_there Δ bodies declares d k fs e = let w = declaration_of bodies d k fs e in declares d w.0 w.1 k ∙ w.2

-- of a type that the bodies declare nothing else is declared
pub declared_same : (Δ : Declarations) (bodies : Bodies) → Declares Δ bodies → (d : AdtId) (k : ℕ) (fs : Tys) → declared (theory_in bodies) d k ≡ Some fs → (j : ℕ) → Δ d j ≡ declared (theory_in bodies) d j
declared_same Δ bodies declares d k fs e j = let w = declaration_of bodies d k fs e in declares d w.0 w.1 j ∙ sym (ap (λ (o : Option AdtDecl). fields_of (variant_of o j)) w.1)

variant_within : (vs : List VariantDecl) (k : ℕ) (fs : Tys) → fields_of (slice_get vs k) ≡ Some fs → k < length vs
variant_within vs k fs e = by (slice_get vs k) refl e
  where
    by : (o : Option VariantDecl) → slice_get vs k ≡ o → fields_of o ≡ Some fs → k < length vs
    by (Some v) is h = slice_get_within vs k v is
    by None is h = absurd (cc)

-- a variant that is declared is one of the declaration's
pub variant_counts : (Δ : Declarations) (bodies : Bodies) → Declares Δ bodies → (d : AdtId) (decl : AdtDecl) (k : ℕ) (fs : Tys) → slice_get bodies.decls d.0 ≡ Some decl → Δ d k ≡ Some fs → k < length decl.variants
variant_counts Δ bodies declares d decl k fs is e = variant_within decl.variants k fs (sym (declares d decl is k) ∙ e)
