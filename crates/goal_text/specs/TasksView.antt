-- What is still to be printed, the next task first.
use Rattle.std.specs.Prelude.{ℕ, ◌+◌, List, [], ◌∷◌, ◌++◌, codes, flat_map, map, reverse}
use Rattle.text_core.specs.declared.name.Name.{Name}
use Rattle.logic_term.specs.Term.{Term, Terms, var, lit, truth, apply, bind, no_terms, and_term}
use Rattle.logic_term.specs.TermView.{terms_of}
use Rattle.logic_term.specs.Ty.{Ty}
use Rattle.goal_text.specs.GoalText.{text_in}
use Rattle.goal_text.specs.SortText.{numbered}
use Rattle.goal_text.specs.Spelling.{Spelling, labelled}
use Rattle.goal_text.specs.declared.term.Task.{Task}
use Rattle.goal_text.specs.declared.term.Task.TheVariants as task

-- bound names with their sorts, the innermost first
abbrev pub Around : Type 0
Around = List (Name × Ty)

-- the names around the innermost one
abbrev pub outer : Around → Around
outer [] = []
outer (b ∷ bs) = bs

-- each after a comma
abbrev pub after_commas : List (List ℕ) → List ℕ
after_commas texts = flat_map (λ text. codes ", " ++ text) texts

-- the text of the tasks, where these names are bound around the first
abbrev pub left_text : Spelling → Around → List Task → List ℕ
left_text w bs [] = []
left_text w bs (task.Term t ∷ ts) = text_in w bs t.now ++ left_text w bs ts
left_text w bs (task.Text text ∷ ts) = text.now ++ left_text w bs ts
left_text w bs (task.Field n ∷ ts) = numbered (codes ".") n ++ left_text w bs ts
left_text w bs (task.Others us ∷ ts) = after_commas (map (text_in w bs) us.now) ++ left_text w bs ts
left_text w bs (task.OtherFields numbered fields us ∷ ts) = after_commas (labelled w numbered fields.now (map (text_in w bs) us.now)) ++ left_text w bs ts
left_text w bs (task.Left ∷ ts) = left_text w (outer bs) ts

-- the text so far with that of the tasks on a stack, of which the last is next
abbrev pub all_text : Spelling → List ℕ → Around → List Task → List ℕ
all_text w out bs ts = out ++ left_text w bs (reverse ts)

-- the same with a text before that of the tasks
abbrev pub with_text : Spelling → List ℕ → List ℕ → Around → List Task → List ℕ
with_text w out text bs ts = out ++ (text ++ left_text w bs (reverse ts))

-- how much there is to go over
abbrev mutual
  pub load : Term → ℕ
  load (var x) = 1
  load (lit z s) = 1
  load (truth b) = 1
  load (apply op ts) = 4 + loads ts
  load (bind q x s t) = 4 + load t

  pub loads : Terms → ℕ
  loads no_terms = 1
  loads (and_term t ts) = 1 + load t + loads ts

abbrev pub left_load : List Task → ℕ
left_load [] = 0
left_load (task.Term t ∷ ts) = load t.now + left_load ts
left_load (task.Text text ∷ ts) = 1 + left_load ts
left_load (task.Field n ∷ ts) = 1 + left_load ts
left_load (task.Others us ∷ ts) = loads (terms_of us.now) + left_load ts
left_load (task.OtherFields numbered fields us ∷ ts) = loads (terms_of us.now) + left_load ts
left_load (task.Left ∷ ts) = 1 + left_load ts
