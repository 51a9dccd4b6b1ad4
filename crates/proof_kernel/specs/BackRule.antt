-- Equal unbounded integers of one machine type are of equal machine integers.
use Rattle.std.specs.Prelude.{Bool, true, false, List, Option, Some, None, if◌then◌else◌}
use Rattle.text_core.specs.declared.name.Name.{Name}
use Rattle.logic_term.specs.Term.{modeled, equal, Term, var, lit, apply, no_terms, and_term, is_equal}
use Rattle.logic_term.specs.Ty.{Ty, int}
use Rattle.logic_elab.specs.Sorts.{same_ty}
use Rattle.proof_kernel.specs.Rules.{sort_of}

abbrev pub if_machine : Option Ty → Option Ty
if_machine (Some (int k)) = Some (int k)
if_machine _ = None

-- the machine type of the term, by its form, and of a variable by its sort
abbrev pub machine_sort : List (Name × Ty) → Term → Option Ty
machine_sort vars (var x) = if_machine (sort_of x vars)
machine_sort vars (lit z s) = if_machine (Some s)
machine_sort vars t = None

abbrev pub is_one_sort : Option Ty → Option Ty → Bool
is_one_sort (Some s) (Some t) = same_ty s t
is_one_sort _ _ = false

-- `a` of `a@`
abbrev pub modeled_by : Term → Option Term
modeled_by (apply modeled (and_term a no_terms)) = Some a
modeled_by t = None

-- the equation of both, where they are of one machine type
abbrev pub equated : List (Name × Ty) → Option Term → Option Term → Option Term
equated vars (Some a) (Some b) = if is_one_sort (machine_sort vars a) (machine_sort vars b) then Some (is_equal a b) else None
equated vars _ _ = None

-- what `a@ == b@` says of a and b
abbrev pub back_of : List (Name × Ty) → Term → Option Term
back_of vars (apply equal (and_term t (and_term u no_terms))) = equated vars (modeled_by t) (modeled_by u)
back_of vars t = None
