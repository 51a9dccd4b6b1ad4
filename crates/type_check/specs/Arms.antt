-- The arms of a `match`: the patterns, and the scopes of their bodies (Rust Reference, "match expressions", "if let expressions", "Patterns").
use Rattle.std.specs.Prelude.{List, [], ◌∷◌, ◌++◌, map, Option, Some, None, Result, Ok, if◌then◌else◌}
use Rattle.text_core.specs.declared.refusal.SourceError.{SourceError}
use Rattle.text_core.specs.declared.span.Span.{Span}
use Rattle.logic_term.specs.declared.declaration.AdtDecl.{AdtDecl}
use Rattle.logic_term.specs.Pattern.{Pat, wild}
use Rattle.logic_term.specs.Ty.{Ty}
use Rattle.source_trees.specs.Pat.{Pat as Written}
use Rattle.pat_types.specs.declared.names.BoundName.{BoundName}
use Rattle.pat_types.specs.PatternTyping.{pattern_typed}
use Rattle.type_check.specs.declared.scope.Variable.{Variable}
use Rattle.type_check.specs.declared.typed.TypedArm.{TypedArm as RustArm}
use Rattle.type_check.specs.Answers.{◌>>=◌, absent}
use Rattle.type_check.specs.TypedExpr.{TypedExpr, TypedArms, no_arms, with_arm}
use Rattle.type_check.specs.Types.{is_built}

-- a pattern at its type, and the names that it binds
abbrev pub Binding : Type 0
Binding = Pat × List BoundName

pub record TypedArm : Type 0 where
  pub pattern : Pat
  pub names : List BoundName
  pub body : TypedExpr

abbrev pub arm_of : Binding → TypedExpr → TypedArm
arm_of b e = record { pattern = b.0; names = b.1; body = e }

abbrev pub variable_of : BoundName → Variable
variable_of x = record { name = x.name; ty = x.ty; mutable = x.mutable }

-- where names of a pattern are in scope
abbrev pub in_arm : List Variable → List BoundName → List Variable
in_arm Γ xs = Γ ++ map variable_of xs

-- the first name whose type is not built
abbrev pub unbuilt_name : List AdtDecl → List BoundName → Option Span
unbuilt_name ds [] = None
unbuilt_name ds (x ∷ xs) = if is_built ds x.ty then unbuilt_name ds xs else Some x.span

abbrev pub with_built_names : List AdtDecl → Binding → Result Binding SourceError
with_built_names ds b = do
  z ← absent (unbuilt_name ds b.1)
  Ok b

-- a pattern at a value of the type
unfoldable pub pattern_at : List AdtDecl → Ty → Written → Result Binding SourceError
pattern_at ds u p = pattern_typed ds p u >>= with_built_names ds

-- an arm of this pattern, and of what its body comes to where its names are bound
abbrev pub arm_from : Result Binding SourceError → (Binding → Result TypedExpr SourceError) → Result TypedArm SourceError
arm_from m body = do
  b ← m
  y ← body b
  Ok (arm_of b y)

-- an arm behind others
abbrev pub and_arm : TypedArms → TypedArm → TypedArms
and_arm no_arms x = with_arm x.pattern x.names x.body no_arms
and_arm (with_arm p xs e as') x = with_arm p xs e (and_arm as' x)

-- the arm, and one of anything else, of type u
abbrev pub or_else_arm : (u : Ty) → TypedArm → (other : TypedExpr) → TypedArms
or_else_arm u x e = with_arm x.pattern x.names x.body (with_arm (wild u) [] e no_arms)

-- what the code answers, as the definition has it
abbrev pub arm_by : RustArm → TypedArm
arm_by a = record { pattern = a.pattern; names = a.names.items; body = a.body }
