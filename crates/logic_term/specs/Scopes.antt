-- A walk over a term, and through the scopes of the names that it binds.
use Rattle.std.specs.Prelude.{ℕ, suc, max, List, [], ◌∷◌, ◌-◌, ◌+◌, length, take, map, reverse, Option, Some, None, if◌then◌else◌}
use Rattle.text_core.specs.declared.name.Name.{Name}
use Rattle.logic_term.specs.declared.canonical.Scoped.{Scoped}
use Rattle.logic_term.specs.declared.canonical.Scoped.TheVariants as scoped
use Rattle.logic_term.specs.Canonical.{is_one_of, above_free}
use Rattle.logic_term.specs.Term.{Term, var, lit, truth, apply, bind}
use Rattle.logic_term.specs.Walk.{parts, weight}

-- a term that is next, or nothing where the scope ends of the name that was bound last
abbrev pub scope : Scoped → Option Term
scope (scoped.Within t) = Some t.now
scope scoped.Left = None

-- those on a stack, the next one first
abbrev pub scopes : List Scoped → List (Option Term)
scopes ss = reverse (map scope ss)

-- the name that the term binds
abbrev pub binds : Term → List Name
binds (var x) = []
binds (lit z s) = []
binds (truth b) = []
binds (apply op ts) = []
binds (bind q x s t) = x ∷ []

-- the parts of the term, with the end of the scope that it opens
abbrev pub within : Term → List (Option Term)
within (var x) = []
within (lit z s) = []
within (truth b) = []
within (apply op ts) = map Some (parts (apply op ts))
within (bind q x s t) = Some t ∷ None ∷ []

-- what is free in the terms is below this, where these names are bound, the innermost last
abbrev pub above_scopes : List Name → List (Option Term) → ℕ
above_scopes ys [] = 0
above_scopes ys (Some t ∷ ss) = max (above_free ys t) (above_scopes ys ss)
above_scopes ys (None ∷ ss) = above_scopes (take (length ys - 1) ys) ss

-- one past the term, where it is a name that is none of these
abbrev pub above_free_top : List Name → Term → ℕ
above_free_top ys (var x) = if is_one_of x ys then 0 else suc x.0
above_free_top ys (lit z s) = 0
above_free_top ys (truth b) = 0
above_free_top ys (apply op ts) = 0
above_free_top ys (bind q x s t) = 0

-- how much there is to do
abbrev pub scopes_weight : List (Option Term) → ℕ
scopes_weight [] = 0
scopes_weight (Some t ∷ ss) = weight t + scopes_weight ss
scopes_weight (None ∷ ss) = 1 + scopes_weight ss
