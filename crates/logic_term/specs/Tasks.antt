-- A walk that makes a term of the parts that it has made before, with stacks of what is to be done, of bound names and of terms.
use Rattle.std.specs.Prelude.{ℕ, suc, ◌+◌, ◌-◌, Bool, true, List, [], ◌∷◌, ◌++◌, length, take, drop, map, reverse}
use Rattle.logic_term.specs.declared.placed.Form.{Form}
use Rattle.logic_term.specs.declared.placed.Form.TheVariants as form
use Rattle.logic_term.specs.declared.placed.Task.{Task}
use Rattle.logic_term.specs.declared.placed.Task.TheVariants as task
use Rattle.logic_term.specs.declared.subst.Renaming.{Renaming}
use Rattle.logic_term.specs.declared.subst.Replacement.{Replacement}
use Rattle.logic_term.specs.Placed.{placed}
use Rattle.logic_term.specs.Simplified.{formed}
use Rattle.logic_term.specs.Subst.{look, numbers_before, placing}
use Rattle.logic_term.specs.Term.{Operator, choice, made, Quantifier, Term, var, lit, truth, apply, bind, count}
use Rattle.logic_term.specs.TermOperator.{unary_operator, binary_operator, quantifier}
use Rattle.logic_term.specs.TermView.{terms_of}
use Rattle.logic_term.specs.Ty.{Ty}
use Rattle.logic_term.specs.Walk.{listed, weight}

-- a term is placed; the last terms, so many, become the arguments of an operator; the last term becomes the body of a quantifier
pub data Step : Type 0 where
  enter : Term → Step
  apply_last : Operator → ℕ → Step
  bind_last : Quantifier → ℕ → Ty → Step

abbrev pub form_operator : Form → Operator
form_operator (form.Unary op) = unary_operator op
form_operator (form.Binary op) = binary_operator op
form_operator form.Choice = choice
form_operator (form.Make c n) = made c

abbrev pub form_count : Form → ℕ
form_count (form.Unary op) = 1
form_count (form.Binary op) = 2
form_count form.Choice = 3
form_count (form.Make c n) = n

abbrev pub step : Task → Step
step (task.Enter t) = enter t.now
step (task.Form f) = apply_last (form_operator f) (form_count f)
step (task.Quantify q n s) = bind_last (quantifier q) n s.now

-- those on a stack, the next one first
abbrev pub steps : List Task → List Step
steps ts = reverse (map step ts)

-- ---- what there is to do for a term: steps, names that are bound, the number of bound names around, and terms that are made at once

abbrev pub steps_of : ℕ → Term → List Step
steps_of n (var x) = []
steps_of n (lit z s) = []
steps_of n (truth b) = []
steps_of n (apply op ts) = map enter (listed ts) ++ apply_last op (count ts) ∷ []
steps_of n (bind q x s t) = enter t ∷ bind_last q n s ∷ []

abbrev pub binds_of : ℕ → Term → List Renaming
binds_of n (var x) = []
binds_of n (lit z s) = []
binds_of n (truth b) = []
binds_of n (apply op ts) = []
binds_of n (bind q x s t) = record { from = x; to = record { 0 = n } } ∷ []

abbrev pub depth_in : ℕ → Term → ℕ
depth_in n (var x) = n
depth_in n (lit z s) = n
depth_in n (truth b) = n
depth_in n (apply op ts) = n
depth_in n (bind q x s t) = suc n

abbrev pub made_of : List Replacement → Term → List Term
made_of σ (var x) = look σ x ∷ []
made_of σ (lit z s) = lit z s ∷ []
made_of σ (truth b) = truth b ∷ []
made_of σ (apply op ts) = []
made_of σ (bind q x s t) = []

-- ---- what comes of steps

-- one term in the place of the last ones
abbrev pub with_last : (List Term → Term) → ℕ → List Term → List Term
with_last f n ts = take (length ts - n) ts ++ f (drop (length ts - n) ts) ∷ []

abbrev pub applied : Bool → Operator → List Term → Term
applied r op ts = formed r op (terms_of ts)

abbrev pub bound_over : Quantifier → ℕ → Ty → List Term → Term
bound_over q n s [] = truth true
bound_over q n s (t ∷ ts) = bind q (record { 0 = n }) s t

-- the bound names and the terms at the end
abbrev pub after : Bool → List Replacement → List Step → List Renaming → ℕ → List Term → List Renaming × List Term
after r σ [] bs n ts = (bs, ts)
after r σ (enter t ∷ ss) bs n ts = after r σ ss bs n (ts ++ placed r n (placing (numbers_before bs σ)) t ∷ [])
after r σ (apply_last op k ∷ ss) bs n ts = after r σ ss bs n (with_last (applied r op) k ts)
after r σ (bind_last q m s ∷ ss) bs n ts = after r σ ss (take (length bs - 1) bs) m (with_last (bound_over q m s) 1 ts)

-- how much there is to do
abbrev pub steps_weight : List Step → ℕ
steps_weight [] = 0
steps_weight (enter t ∷ ss) = weight t + steps_weight ss
steps_weight (apply_last op k ∷ ss) = 1 + steps_weight ss
steps_weight (bind_last q m s ∷ ss) = 1 + steps_weight ss
