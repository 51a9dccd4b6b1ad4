-- Fields whose types weigh too much, by cases.
use Rattle.std.specs.Prelude.{List, [], ◌∷◌, Option, Some, None, nat_lt, if◌then◌else◌}
use Rattle.text_core.specs.declared.span.Span.{Span}
use Rattle.logic_term.specs.declared.declaration.FieldDecl.{FieldDecl}
use Rattle.rs_types.specs.declared.weighing.Case.{Case}
use Rattle.rs_types.specs.declared.weighing.Question.TheVariants.{References}
use Rattle.rs_types.specs.Weighing.{weight}

-- where the first of the fields is whose type has two references in one another
abbrev pub nested_at : List Case → List FieldDecl → Option Span
nested_at cs [] = None
nested_at cs (f ∷ fs) = if nat_lt 1 (weight References cs [] f.ty) then Some f.span else nested_at cs fs
