-- A walk over a term with a stack of the terms that it has yet to go over.
use Rattle.std.specs.Prelude.{ℕ, suc, ◌+◌, ◌==◌, Bool, false, List, [], ◌∷◌, map, reverse}
use Rattle.std.specs.Borrow.{Bor}
use Rattle.text_core.specs.declared.name.Name.{Name}
use Rattle.logic_term.specs.Term.{Term, Terms, var, lit, truth, apply, bind, no_terms, and_term}

-- the direct parts of a term
abbrev pub listed : Terms → List Term
listed no_terms = []
listed (and_term t ts) = t ∷ listed ts

abbrev pub parts : Term → List Term
parts (var x) = []
parts (lit z s) = []
parts (truth b) = []
parts (apply op ts) = listed ts
parts (bind q x s t) = t ∷ []

-- the terms on a stack, the next one first
abbrev pub to_do : List (Bor Term) → List Term
to_do ts = reverse (map (λ t. t.now) ts)

-- how much there is to do: the nodes of a term, twice where it has parts
abbrev mutual
  pub weight : Term → ℕ
  weight (var x) = 1
  weight (lit z s) = 1
  weight (truth b) = 1
  weight (apply op ts) = 2 + weights ts
  weight (bind q x s t) = 2 + weight t

  pub weights : Terms → ℕ
  weights no_terms = 0
  weights (and_term t ts) = weight t + weights ts

-- one past the name at the top of the term, where there is one
abbrev pub above_top : Term → ℕ
above_top (var x) = suc x.0
above_top (lit z s) = 0
above_top (truth b) = 0
above_top (apply op ts) = 0
above_top (bind q x s t) = suc x.0

-- whether the term is the name, and whether it binds the name
abbrev pub is_name : Name → Term → Bool
is_name x (var y) = x.0 == y.0
is_name x (lit z s) = false
is_name x (truth b) = false
is_name x (apply op ts) = false
is_name x (bind q y s t) = false

abbrev pub is_bound_by : Name → Term → Bool
is_bound_by x (var y) = false
is_bound_by x (lit z s) = false
is_bound_by x (truth b) = false
is_bound_by x (apply op ts) = false
is_bound_by x (bind q y s t) = x.0 == y.0
