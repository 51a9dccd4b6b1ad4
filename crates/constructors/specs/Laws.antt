-- What holds of all declared types.
use Rattle.std.specs.Prelude.{◌≡◌, List, Some, Ok, map}
use Rattle.text_core.specs.declared.span.Span.{Span}
use Rattle.logic_term.specs.declared.declaration.AdtDecl.{AdtDecl}
use Rattle.logic_term.specs.Theory.{declared, field_ty}
use Rattle.logic_term.specs.TyView.{tys_of}
use Rattle.source_trees.specs.declared.path.PathNode.{PathNode}
use Rattle.constructors.specs.Constructors.{Constructor, constructor_of}

-- the variant of its declared type has these fields
abbrev pub IsDeclared : List AdtDecl → Constructor → Type 0
IsDeclared ds c = declared (record { adts = ds }) c.number c.variant ≡ Some (tys_of (map field_ty c.fields))

abbrev pub ConstructorsAreDeclared : Type 0
ConstructorsAreDeclared = (ds : List AdtDecl) (s : Span) (p : PathNode) (c : Constructor) → constructor_of ds s p ≡ Ok c → IsDeclared ds c
