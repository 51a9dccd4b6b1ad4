-- The walk that exchanges subterms, with stacks of what is to be done and of the terms that are made.
use Rattle.std.specs.Prelude.{ℕ, suc, ◌+◌, ◌*◌, Bool, true, List, [], ◌∷◌, ◌++◌, length, map, reverse, Option, Some, None, if◌then◌else◌}
use Rattle.text_core.specs.declared.name.Name.{Name}
use Rattle.logic_term.specs.Tasks.{with_last}
use Rattle.logic_term.specs.Term.{Operator, Quantifier, choice, Term, truth, apply, bind, no_terms, and_term}
use Rattle.logic_term.specs.TermView.{terms_of}
use Rattle.logic_term.specs.Ty.{Ty}
use Rattle.logic_term.specs.Walk.{parts, weight}
use Rattle.proof_kernel.specs.declared.exchange.Task.{Task}
use Rattle.proof_kernel.specs.declared.exchange.Task.TheVariants as task
use Rattle.proof_kernel.specs.Exchanged.{Exchange, Instead, put, side, exchanged}

-- a term at a depth is next; the last terms, one for each direct part of a term, become its parts
pub data Step : Type 0 where
  enter : ℕ → Term → Step
  remake : Term → Step

abbrev pub step : Task → Step
step (task.Enter n t) = enter n t.now
step (task.Remake t) = remake t.now

-- those on a stack, the next one first
abbrev pub steps : List Task → List Step
steps ts = reverse (map step ts)

-- the depth of the direct parts of a term
abbrev pub depth_in : ℕ → Term → ℕ
depth_in n (bind q x s t) = suc n
depth_in n t = n

-- what there is to do for the parts of a term, and for the term itself
abbrev pub part_steps : ℕ → Term → List Step
part_steps n t = map (enter (depth_in n t)) (parts t) ++ remake t ∷ []

-- for a side of an `if`
abbrev pub side_steps : Bool → ℕ → Term → List Step
side_steps first n (apply choice (and_term c (and_term a (and_term b no_terms)))) = enter n (if first then a else b) ∷ []
side_steps first n t = part_steps n t

-- for a term in whose place there may be something else, and what is made at once
abbrev pub steps_of : Option Instead → ℕ → Term → List Step
steps_of None n t = part_steps n t
steps_of (Some (put u)) n t = []
steps_of (Some (side first)) n t = side_steps first n t

abbrev pub made_of : Option Instead → List Term
made_of None = []
made_of (Some (put u)) = u ∷ []
made_of (Some (side first)) = []

abbrev pub applied : Operator → List Term → Term
applied op us = apply op (terms_of us)

abbrev pub bound : Quantifier → Name → Ty → List Term → Term
bound q x s [] = truth true
bound q x s (u ∷ us) = bind q x s u

-- the term with other direct parts
abbrev pub with_parts : Term → List Term → Term
with_parts (apply op ts) = applied op
with_parts (bind q x s t) = bound q x s
with_parts t = λ us. t

-- the terms at the end
abbrev pub after : Exchange → List Step → List Term → List Term
after h [] ts = ts
after h (enter n t ∷ ss) ts = after h ss (ts ++ exchanged h n t ∷ [])
after h (remake t ∷ ss) ts = after h ss (with_last (with_parts t) (length (parts t)) ts)

-- how much there is to do
abbrev pub steps_weight : List Step → ℕ
steps_weight [] = 0
steps_weight (enter n t ∷ ss) = 2 * weight t + steps_weight ss
steps_weight (remake t ∷ ss) = 1 + steps_weight ss
