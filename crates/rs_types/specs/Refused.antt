-- What a declared type, and what a check, is refused for, by cases.
use Rattle.std.specs.Prelude.{ℕ, ◌&&◌, nat_lt, Bool, true, false, List, [], ◌∷◌, Option, Some, None, get_or, if◌then◌else◌}
use Rattle.text_core.specs.declared.refusal.SourceError.{SourceError}
use Rattle.text_core.specs.declared.span.Span.{Span}
use Rattle.logic_term.specs.declared.declaration.AdtDecl.{AdtDecl}
use Rattle.rs_types.specs.declared.checks.Check.{Check}
use Rattle.rs_types.specs.declared.checks.Check.TheVariants as check
use Rattle.rs_types.specs.declared.weighing.Case.{Case}
use Rattle.rs_types.specs.declared.weighing.Question.{Question}
use Rattle.rs_types.specs.declared.weighing.Question.TheVariants.{References}
use Rattle.rs_types.specs.Accepted.{all_fields, nested_reference, recursive}
use Rattle.rs_types.specs.Heavy.{nested_at}
use Rattle.rs_types.specs.Weighing.{known, weight, IsAsked}

abbrev pub unless_good : Bool → Span → Option SourceError
unless_good true s = None
unless_good false s = Some (recursive s)

abbrev pub refused_at : Option Span → Bool → Span → Option SourceError
refused_at (Some n) good s = Some (nested_reference n)
refused_at None good s = unless_good good s

-- good: whether it is bounded and has a value
abbrev pub refused_by : List Case → Bool → AdtDecl → Option SourceError
refused_by cs good c = refused_at (nested_at cs (all_fields c.variants)) good c.span

-- ---- checks

-- the declared type of this number is bounded, which is known, and has a value by the cases
abbrev pub finite_by : List Bool → List Case → ℕ → Bool
finite_by bounded values d = get_or bounded d false && nat_lt 0 (known d [] values)

abbrev pub failing_by : List Bool → List Case → List Case → Check → Option SourceError
failing_by bounded values cs (check.Plain e) = e
failing_by bounded values cs (check.Flat s t) = if nat_lt 1 (weight References cs [] t) then Some (nested_reference s) else None
failing_by bounded values cs (check.Finite d s) = unless_good (finite_by bounded values d) s

abbrev pub unless_failing : Option SourceError → Option SourceError → Option SourceError
unless_failing (Some e) m = Some e
unless_failing None m = m

abbrev pub first_by : List Bool → List Case → List Case → List Check → Option SourceError
first_by bounded values cs [] = None
first_by bounded values cs (c ∷ left) = unless_failing (failing_by bounded values cs c) (first_by bounded values cs left)

-- each declared type in the type that is to be flat has its case
abbrev pub CheckIsAsked : Question → List Case → Check → Type 0
CheckIsAsked q cs (check.Flat s t) = IsAsked q cs [] t
CheckIsAsked q cs (check.Plain e) = Unit {0}
CheckIsAsked q cs (check.Finite d s) = Unit {0}

abbrev pub ChecksAreAsked : Question → List Case → List Check → Type 0
ChecksAreAsked q cs [] = Unit {0}
ChecksAreAsked q cs (c ∷ left) = CheckIsAsked q cs c × ChecksAreAsked q cs left
