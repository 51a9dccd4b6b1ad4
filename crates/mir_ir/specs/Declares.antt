-- What the bodies of a program declare, and which declarations agree with it.
use Rattle.std.specs.Prelude.{◌≡◌, ℕ, Some, slice_get}
use Rattle.logic_term.specs.declared.declaration.AdtDecl.{AdtDecl}
use Rattle.logic_term.specs.declared.kinds.AdtId.{AdtId}
use Rattle.logic_term.specs.Sort.{Declarations}
use Rattle.logic_term.specs.Theory.{Theory, fields_of}
use Rattle.mir_ir.specs.declared.body.Bodies.{Bodies}

abbrev pub theory_in : Bodies → Theory
theory_in bodies = record { adts = bodies.decls }

-- the declarations say of each type that the bodies declare what the bodies say. Where these declare none, all do
abbrev pub Declares : Declarations → Bodies → Type 0
Declares Δ bodies = (d : AdtId) (decl : AdtDecl) → slice_get bodies.decls d.0 ≡ Some decl → (k : ℕ) → Δ d k ≡ fields_of (slice_get decl.variants k)
