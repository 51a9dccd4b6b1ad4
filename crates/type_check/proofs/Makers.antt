-- What makes a value is a struct or a variant of the declared types, with its fields.
use Rattle.std.proofs.Common.{◌≡◌, ◌==◌, ◌&&◌, [], Option, Some, None, Ok, map, subst}
use Rattle.text_core.specs.declared.span.Span.{Span}
use Rattle.logic_term.specs.declared.declaration.VariantKind.{VariantKind}
use Rattle.logic_term.specs.Theory.{declared as decls, field_ty}
use Rattle.logic_term.specs.Ty.{Ty, Tys, adt}
use Rattle.logic_term.specs.TyView.{tys_of}
use Rattle.source_trees.specs.declared.path.PathNode.{PathNode}
use Rattle.type_check.specs.Answers.{mismatch, unbuilt}
use Rattle.constructors.proofs.Declaration.{constructor_found}
use Rattle.constructors.specs.Constructors.{Constructor, constructor_of, same_kind}
use Rattle.constructors.specs.Laws.{IsDeclared}
use Rattle.type_check.specs.Makers.{Maker, arguments_for, maker_at, maker_by, maker_if, maker_of}
use Rattle.type_check.specs.Setting.{Setting}
use Rattle.type_check.specs.Types.{is_built}
use Rattle.type_check.specs.WellTyped.{IsBuilt}
use Rattle.type_check.proofs.Bound.{bound, held, same_ok}
use Rattle.type_check.proofs.BuiltTypes.{both, built_is_built}

-- the struct is declared with these fields, and its type is built
pub record IsMaker (σ : Setting) (m : Maker) : Type 0 where
  pub built : IsBuilt (adt m.number [] m.arguments)
  pub declares : decls (record { adts = σ.types }) m.number m.variant ≡ Some (tys_of (map field_ty m.fields))

maker_built : (σ : Setting) (s : Span) (c : Constructor) (ts : Option Tys) (m : Maker) → IsDeclared σ.types c → maker_by σ.types s c ts ≡ Ok m → IsMaker σ m
maker_built σ s c None m h p = absurd (cc)
maker_built σ s c (Some ts) m h p =
    let d = held ((c.regions == 0) && is_built σ.types (adt c.number [] ts)) (Ok (maker_at c ts)) (unbuilt s) m p in
    subst (IsMaker σ) (same_ok (maker_at c ts) m d.1) (record { built = built_is_built σ.types (adt c.number [] ts) (both (c.regions == 0) (is_built σ.types (adt c.number [] ts)) d.0).1; declares = h })

pub maker_sound : (σ : Setting) (k : VariantKind) (t : Option Ty) (s : Span) (w : PathNode) (m : Maker) → maker_of σ.types k t s w ≡ Ok m → IsMaker σ m
unfolding maker_of
maker_sound σ k t s w m p =
    let c = bound (constructor_of σ.types s w) (maker_if σ.types k t s) m p in
    maker_built σ s c.0 (arguments_for c.0.params c.0.number.0 t) m (constructor_found σ.types s w c.0 c.1)
    (held (same_kind k c.0.kind) (maker_by σ.types s c.0 (arguments_for c.0.params c.0.number.0 t)) (mismatch s) m c.2).1
