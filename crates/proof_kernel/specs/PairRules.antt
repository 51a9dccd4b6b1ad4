-- What a step by the forms of two hypotheses gives.
use Rattle.std.specs.Prelude.{ℕ, Bool, false, List, [], ◌∷◌, Option, Some, None, pos, if◌then◌else◌}
use Rattle.source_kinds.specs.declared.kinds.ArithOp.TheVariants.{Sub, Mul}
use Rattle.logic_term.specs.declared.kinds.Label2.{Label2}
use Rattle.logic_term.specs.Ty.{math_int}
use Rattle.logic_term.specs.Term.{denied, at_most, implied, Term, lit, apply, no_terms, and_term, calculate, is_at_most}
use Rattle.proof_kernel.specs.Sequent.{Sequent}
use Rattle.proof_kernel.specs.declared.step.PairRule.{PairRule}
use Rattle.proof_kernel.specs.declared.step.PairRule.TheVariants.{ModusPonens, Contradiction, Product}
use Rattle.proof_kernel.specs.Rules.{hypothesis, same_up_to_names, with_hyps, closed_if}

-- ---- forms

-- what the implication says where its premise is this formula, up to bound names
abbrev pub concluded : Term → Term → Option Term
concluded (apply implied (and_term a (and_term b no_terms))) k = if same_up_to_names a k then Some b else None
concluded t k = None

-- the second denies the first, up to bound names
abbrev pub is_denied_by : Term → Term → Bool
is_denied_by h (apply denied (and_term a no_terms)) = same_up_to_names a h
is_denied_by h t = false

-- `b - a` of `a <= b`
abbrev pub distance : Term → Option Term
distance (apply at_most (and_term a (and_term b no_terms))) = Some (calculate Sub b a)
distance t = None

-- `0 <= x * y`
abbrev pub product : Option Term → Option Term → Option Term
product None y = None
product (Some x) None = None
product (Some x) (Some y) = Some (is_at_most (lit (pos 0) math_int) (calculate Mul x y))

-- ---- what step s gives

-- one more hypothesis
abbrev pub adding : ℕ → Sequent → Option Term → Option (List Sequent)
adding s q None = None
adding s q (Some t) = Some (with_hyps s q (t ∷ []) ∷ [])

-- by the rule on the hypotheses h and k
abbrev pub on_two : PairRule → ℕ → Sequent → Term → Term → Option (List Sequent)
on_two ModusPonens s q h k = adding s q (concluded h k)
on_two Contradiction s q h k = closed_if (is_denied_by h k)
on_two Product s q h k = adding s q (product (distance h) (distance k))

abbrev pub if_both_there : PairRule → ℕ → Sequent → Option Term → Option Term → Option (List Sequent)
if_both_there r s q None k = None
if_both_there r s q (Some h) None = None
if_both_there r s q (Some h) (Some k) = on_two r s q h k

abbrev pub pair_rule : PairRule → ℕ → Label2 → Label2 → Sequent → Option (List Sequent)
pair_rule r s l m q = if_both_there r s q (hypothesis l q.hyps) (hypothesis m q.hyps)
