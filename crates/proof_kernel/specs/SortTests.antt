-- Terms of the sorts bool and Int, by their forms and the sorts of the variables.
use Rattle.std.specs.Prelude.{◌&&◌, Bool, true, false, List, Option, Some, None}
use Rattle.text_core.specs.declared.name.Name.{Name}
use Rattle.logic_term.specs.Ty.{Ty, bool}
use Rattle.logic_term.specs.Term.{denied, less, at_most, equal, both, either, implied, choice, Term, var, truth, apply, bind, no_terms, and_term}
use Rattle.proof_kernel.specs.Linear.{is_integer}
use Rattle.proof_kernel.specs.Rules.{sort_of}

abbrev pub is_bool : Ty → Bool
is_bool bool = true
is_bool t = false

abbrev pub is_bool_var : Option Ty → Bool
is_bool_var None = false
is_bool_var (Some t) = is_bool t

-- the term has the sort bool; an `if` where both its sides do
abbrev pub is_formula : List (Name × Ty) → Term → Bool
is_formula vars (var x) = is_bool_var (sort_of x vars)
is_formula vars (truth b) = true
is_formula vars (apply denied ts) = true
is_formula vars (apply less ts) = true
is_formula vars (apply at_most ts) = true
is_formula vars (apply equal ts) = true
is_formula vars (apply both ts) = true
is_formula vars (apply either ts) = true
is_formula vars (apply implied ts) = true
is_formula vars (apply choice (and_term c (and_term a (and_term b no_terms)))) = is_formula vars a && is_formula vars b
is_formula vars (bind q x s t) = true
is_formula vars t = false

abbrev pub are_formulas : List (Name × Ty) → Term → Term → Bool
are_formulas vars a b = is_formula vars a && is_formula vars b

abbrev pub are_integers : List (Name × Ty) → Term → Term → Bool
are_integers vars a b = is_integer vars a && is_integer vars b
