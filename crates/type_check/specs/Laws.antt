-- What holds of every source.
use Rattle.std.specs.Prelude.{◌≡◌, List, Option, Ok}
use Rattle.logic_term.specs.declared.declaration.AdtDecl.{AdtDecl}
use Rattle.logic_term.specs.Ty.{Ty}
use Rattle.source_trees.specs.declared.item.Item.{Item}
use Rattle.source_trees.specs.Expr.{Expr}
use Rattle.type_check.specs.declared.program.TypedProgram.{TypedProgram}
use Rattle.type_check.specs.declared.scope.Variable.{Variable}
use Rattle.type_check.specs.Around.{Around, MayAsk, surroundings, types}
use Rattle.type_check.specs.Checked.{AllGood, checked}
use Rattle.type_check.specs.Setting.{Setting}
use Rattle.type_check.specs.TypedExpr.{TypedExpr}
use Rattle.type_check.specs.Typing.{typed}
use Rattle.type_check.specs.WellTyped.{IsWellTyped, ProgramFits}

-- the program that a source comes to fits
abbrev pub CheckedProgramsFit : Type 0
CheckedProgramsFit = (ds : List AdtDecl) (is : List Item) (p : TypedProgram) → checked ds is ≡ Ok p → ProgramFits ds p

-- and no formula of it is refused, nor a match
abbrev pub CheckedProgramsAreGood : Type 0
CheckedProgramsAreGood = (ds : List AdtDecl) (is : List Item) (p : TypedProgram) → checked ds is ≡ Ok p → AllGood p

-- what an expression comes to, where the types around it are built and one that is expected is, fits
abbrev pub ExpressionsFit : Type 0
ExpressionsFit = (σ : Setting) (Γ : List Variable) (e : Expr) (t : Option Ty) (r : TypedExpr) → Around σ Γ → MayAsk t → typed σ Γ e t ≡ Ok r → IsWellTyped (surroundings σ) (types Γ) r
