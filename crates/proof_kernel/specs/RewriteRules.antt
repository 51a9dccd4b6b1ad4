-- What a step gives that puts an equation into the goal, or into a hypothesis.
use Rattle.std.specs.Prelude.{ℕ, max, List, [], ◌∷◌, Option, Some, None, if◌then◌else◌}
use Rattle.std.specs.Option.{option_map}
use Rattle.logic_term.specs.Canonical.{above_free}
use Rattle.logic_term.specs.Same.{same_term}
use Rattle.logic_term.specs.Subst.{subst}
use Rattle.logic_term.specs.Term.{equal, Term, apply, no_terms, and_term}
use Rattle.proof_kernel.specs.Sequent.{Sequent}
use Rattle.proof_kernel.specs.declared.step.Direction.{Direction}
use Rattle.proof_kernel.specs.declared.step.Direction.TheVariants.{Forward, Backward}
use Rattle.proof_kernel.specs.declared.step.Rewriting.{Rewriting}
use Rattle.proof_kernel.specs.declared.step.Target.{Target}
use Rattle.proof_kernel.specs.declared.step.Target.TheVariants.{Goal, Hyp}
use Rattle.proof_kernel.specs.Exchanged.{Exchange, put, changed_from}
use Rattle.proof_kernel.specs.PairRules.{adding}
use Rattle.proof_kernel.specs.Rules.{hypothesis, with_goal}

-- ---- terms

-- b for a at depth n, the names that a binds being numbered from n on
abbrev pub for_each : Term → Term → Exchange
for_each a b n t = if same_term t (subst n [] a) then Some (put b) else None

-- past all names that are free in the terms
abbrev pub past : Term → Term → Term → ℕ
past a b t = max (above_free [] t) (max (above_free [] a) (above_free [] b))

-- the normal form of t with b in the place of each free a. The names that t binds are first numbered by their depth, from past all free names
-- on, and those of a from the depth at which it is looked for, so that terms which differ in bound names alone are one. No quantifier of
-- t then binds a name that is free in a: each a that is found is free. And none binds one of b: no name is captured, and a free a is found
-- whatever the quantifiers around it call their variables.
abbrev pub rewritten : Term → Term → Term → Term
rewritten a b t = changed_from (for_each a b) (past a b t) t

-- the sides of an equation: what is replaced, and by what
abbrev pub sides : Direction → Term → Option (Term × Term)
sides Forward (apply equal (and_term a (and_term b no_terms))) = Some (a, b)
sides Backward (apply equal (and_term a (and_term b no_terms))) = Some (b, a)
sides direction t = None

abbrev pub sides_of : Direction → Option Term → Option (Term × Term)
sides_of direction None = None
sides_of direction (Some t) = sides direction t

-- ---- what step s gives

-- the changed goal instead, or the changed hypothesis as one more
abbrev pub changing : ℕ → Sequent → Target → (Term → Term) → Option (List Sequent)
changing s q Goal f = Some (with_goal q (f q.goal) ∷ [])
changing s q (Hyp l) f = adding s q (option_map f (hypothesis l q.hyps))

abbrev pub by_sides : ℕ → Sequent → Target → Option (Term × Term) → Option (List Sequent)
by_sides s q target None = None
by_sides s q target (Some ab) = changing s q target (rewritten ab.0 ab.1)

abbrev pub rewrite_rule : Rewriting → ℕ → Sequent → Option (List Sequent)
rewrite_rule r s q = by_sides s q r.target (sides_of r.direction (hypothesis r.equation q.hyps))
