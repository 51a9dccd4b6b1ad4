-- What the steps by terms give. A term is elaborated at the sequent: its names are those of the sequent's variables, and its fields those of the types that
-- are declared (adts).
use Rattle.std.specs.Prelude.{ℕ, pos, List, [], ◌∷◌, map, Option, Some, None, Result, Ok, Err, if◌then◌else◌}
use Rattle.std.specs.Option.{option_map}
use Rattle.text_core.specs.declared.name.Name.{Name}
use Rattle.text_core.specs.declared.refusal.SourceError.{SourceError}
use Rattle.source_kinds.specs.declared.kinds.ArithOp.TheVariants.{Add, Mul, Div, Rem}
use Rattle.source_kinds.specs.declared.kinds.IntKind.{IntKind}
use Rattle.source_kinds.specs.Range.{lowest, highest}
use Rattle.source_trees.specs.Pterm.{Pterm}
use Rattle.logic_term.specs.declared.declaration.AdtDecl.{AdtDecl}
use Rattle.logic_term.specs.Normal.{reduced}
use Rattle.logic_term.specs.Subst.{with_terms}
use Rattle.logic_term.specs.Term.{some, Term, lit, bind, model, negative, not, calculate, is_less, is_at_most, is_equal, and, implies}
use Rattle.logic_term.specs.Ty.{Ty, int, math_int}
use Rattle.logic_elab.specs.declared.scope.Symbol.{Symbol}
use Rattle.logic_elab.specs.declared.sorted.SortedTerm.{SortedTerm}
use Rattle.logic_elab.specs.Elaborated.{elaborated}
use Rattle.logic_elab.specs.Scope.{Scope}
use Rattle.logic_elab.specs.Sorts.{is_bool, is_math_int, same_ty}
use Rattle.proof_kernel.specs.Sequent.{Sequent}
use Rattle.proof_kernel.specs.declared.step.TermRule.{TermRule}
use Rattle.proof_kernel.specs.declared.step.TermRule.TheVariants.{Cut, On, Range, Witness, Eta}
use Rattle.proof_kernel.specs.EtaRule.{eta_at}
use Rattle.proof_kernel.specs.GoalRules.{to_show}
use Rattle.proof_kernel.specs.Rules.{sort_of, with_goal, with_hyps}

-- ---- terms

abbrev pub symbol : Name → Ty → Symbol
symbol x s = record { name = x; sort = s }

-- the variables, each under its own name
abbrev pub scope_of : List AdtDecl → List (Name × Ty) → Scope
scope_of adts vars = record { variable = λ x. option_map (symbol x) (sort_of x vars); answer = None; types = adts }

abbrev pub if_sorted : Result SortedTerm SourceError → Option SortedTerm
if_sorted (Err e) = None
if_sorted (Ok a) = Some a

-- what the term is at the sequent
abbrev pub term_at : List AdtDecl → Sequent → Pterm → Option SortedTerm
term_at adts q t = if_sorted (elaborated (scope_of adts q.vars) t)

-- ---- formulas as hypotheses

-- the formulas, in normal form, as the hypotheses of step s
abbrev pub assuming_all : ℕ → Sequent → Option (List Term) → Option (List Sequent)
assuming_all s q None = None
assuming_all s q (Some ts) = Some (with_hyps s q (map reduced ts) ∷ [])

-- ---- one term: what step s gives

-- the formula at another term for the variable, in normal form
abbrev pub at_term : Name → Term → Term → Term
at_term x u t = reduced (with_terms (record { name = x; by = u } ∷ []) t)

-- the body of an existential formula at the term, if it has the sort of the bound variable
abbrev pub witnessed : SortedTerm → Term → Option Term
witnessed a (bind some x s t) = if same_ty a.sort s then Some (at_term x a.term t) else None
witnessed a t = None

-- a formula in normal form
abbrev pub formula : SortedTerm → Option Term
formula a = if is_bool a.sort then Some (reduced a.term) else None

-- it is shown, and then had
abbrev pub shown_first : ℕ → Sequent → Term → List Sequent
shown_first s q f = with_goal q f ∷ with_hyps s q (f ∷ []) ∷ []

-- it is true, and then false
abbrev pub true_or_false : ℕ → Sequent → Term → List Sequent
true_or_false s q f = with_hyps s q (f ∷ []) ∷ with_hyps s q (not f ∷ []) ∷ []

-- the bounds of `t@`
abbrev pub bounds : IntKind → Term → List Term
bounds k t = is_at_most (lit (lowest k) math_int) (model t) ∷ is_at_most (model t) (lit (highest k) math_int) ∷ []

-- the same where t is of a machine type
abbrev pub bounds_at : Ty → Term → Option (List Term)
bounds_at (int k) t = Some (bounds k t)
bounds_at s t = None

abbrev pub by_term : List AdtDecl → TermRule → ℕ → Sequent → SortedTerm → Option (List Sequent)
by_term adts Cut s q a = option_map (shown_first s q) (formula a)
by_term adts On s q a = option_map (true_or_false s q) (formula a)
by_term adts Range s q a = assuming_all s q (bounds_at a.sort a.term)
by_term adts Witness s q a = to_show q (witnessed a q.goal)
by_term adts Eta s q a = assuming_all s q (eta_at adts a)

abbrev pub by_term_if : List AdtDecl → TermRule → ℕ → Sequent → Option SortedTerm → Option (List Sequent)
by_term_if adts r s q None = None
by_term_if adts r s q (Some a) = by_term adts r s q a

abbrev pub term_rule : List AdtDecl → TermRule → ℕ → Sequent → Pterm → Option (List Sequent)
term_rule adts r s q t = by_term_if adts r s q (term_at adts q t)

-- ---- division, which truncates toward zero

abbrev pub zero_term : Term
zero_term = lit (pos 0) math_int

abbrev pub is_not_zero : Term → Term
is_not_zero b = not (is_equal b zero_term)

-- the quotient and the remainder give the number back
abbrev pub divides_back : Term → Term → Term
divides_back a b = implies (is_not_zero b) (is_equal a (calculate Add (calculate Mul b (calculate Div a b)) (calculate Rem a b)))

-- the remainder is on the side of the number
abbrev pub remainder_not_below : Term → Term → Term
remainder_not_below a b = implies (and (is_at_most zero_term a) (is_not_zero b)) (is_at_most zero_term (calculate Rem a b))

abbrev pub remainder_not_above : Term → Term → Term
remainder_not_above a b = implies (and (is_at_most a zero_term) (is_not_zero b)) (is_at_most (calculate Rem a b) zero_term)

-- it is nearer to zero than the divisor
abbrev pub remainder_near : Term → Term → Term
remainder_near a b = implies (is_less zero_term b) (and (is_less (negative b) (calculate Rem a b)) (is_less (calculate Rem a b) b))

abbrev pub remainder_near_negative : Term → Term → Term
remainder_near_negative a b = implies (is_less b zero_term) (and (is_less b (calculate Rem a b)) (is_less (calculate Rem a b) (negative b)))

abbrev pub division : Term → Term → List Term
division a b = divides_back a b ∷ remainder_not_below a b ∷ remainder_not_above a b ∷ remainder_near a b ∷ remainder_near_negative a b ∷ []

-- an unbounded integer
abbrev pub number : SortedTerm → Option Term
number a = if is_math_int a.sort then Some a.term else None

abbrev pub number_if : Option SortedTerm → Option Term
number_if None = None
number_if (Some a) = number a

abbrev pub division_of : Option Term → Option Term → Option (List Term)
division_of None o = None
division_of (Some a) None = None
division_of (Some a) (Some b) = Some (division a b)

abbrev pub division_rule : List AdtDecl → ℕ → Sequent → Pterm → Pterm → Option (List Sequent)
division_rule adts s q t u = assuming_all s q (division_of (number_if (term_at adts q t)) (number_if (term_at adts q u)))
