-- What holds of every program.
use Rattle.std.specs.Prelude.{◌≡◌, ◌↔◌, ℕ, true, IsTrue, List, map, None, Some, slice_get}
use Rattle.logic_term.specs.declared.declaration.AdtDecl.{AdtDecl}
use Rattle.logic_term.specs.declared.declaration.VariantDecl.{VariantDecl}
use Rattle.logic_term.specs.Sort.{instance}
use Rattle.logic_term.specs.Theory.{field_ty}
use Rattle.logic_term.specs.Ty.{Ty, no_tys}
use Rattle.logic_term.specs.TyView.{tys_of}
use Rattle.source_trees.specs.declared.item.Item.{Item}
use Rattle.rs_types.specs.Checked.{AllPass}
use Rattle.rs_types.specs.Copied.{IsCopy}
use Rattle.rs_types.specs.Growing.{declared_by}
use Rattle.rs_types.specs.Inhabited.{HasValue}
use Rattle.declared_types.specs.DeclaredTypes.{declared_types}
use Rattle.declared_types.specs.Declaring.{checks}
use Rattle.type_check.specs.declared.program.TypedProgram.{TypedProgram}
use Rattle.runnable.specs.CopyDecided.{is_copied}
use Rattle.runnable.specs.Plain.{ProgramIsPlain}
use Rattle.runnable.specs.Runs.{is_owned, are_owned}
use Rattle.runnable.specs.Unrun.{first_unrun}

-- a program is plain where nothing in it does not run yet, and only there
abbrev pub PlainProgramsRun : Type 0
PlainProgramsRun = (ds : List AdtDecl) (p : TypedProgram) → ProgramIsPlain ds p → first_unrun ds p ≡ None

abbrev pub ProgramsThatRunArePlain : Type 0
ProgramsThatRunArePlain = (ds : List AdtDecl) (p : TypedProgram) → first_unrun ds p ≡ None → ProgramIsPlain ds p

-- what a declared type of a source without lifetimes has in its fields holds no references
abbrev pub FieldsAreOwned : Type 0
FieldsAreOwned = (is : List Item) (d : ℕ) (c : AdtDecl) (k : ℕ) (v : VariantDecl) → slice_get (declared_types is) d ≡ Some c → c.regions ≡ 0 → slice_get c.variants k ≡ Some v
    → are_owned (declared_types is) (tys_of (map field_ty v.fields)) ≡ true

-- where what the source declares is in order, each type that holds no references has a value
abbrev pub OwnedTypesHaveValues : Type 0
OwnedTypesHaveValues = (is : List Item) → AllPass (declared_types is) (checks is) → (t : Ty) → is_owned (declared_types is) t ≡ true → HasValue (declared_by (declared_types is)) (instance no_tys t)

-- the types that rows say to be Copy are those that are
abbrev pub CopyTypesAreTold : Type 0
CopyTypesAreTold = (ds : List AdtDecl) (t : Ty) → IsTrue (is_copied ds t) ↔ IsCopy ds t
