-- The canonical form of a term up to the names that it binds. It is the same for terms that differ in bound names alone, and
-- no other term has a say in it.
use Rattle.std.specs.Prelude.{◌≡◌, ℕ, suc, ◌==◌, ◌||◌, Bool, false, max, List, [], ◌∷◌, if◌then◌else◌}
use Rattle.text_core.specs.declared.name.Name.{Name}
use Rattle.logic_term.specs.Term.{Term, Terms, var, lit, truth, apply, bind, no_terms, and_term}
use Rattle.logic_term.specs.Subst.{subst}

abbrev pub is_one_of : Name → List Name → Bool
is_one_of x [] = false
is_one_of x (y ∷ ys) = x.0 == y.0 || is_one_of x ys

-- one past the largest name in the term that is free there and none of these
abbrev mutual
  pub above_free : List Name → Term → ℕ
  above_free ys (var x) = if is_one_of x ys then 0 else suc x.0
  above_free ys (lit z s) = 0
  above_free ys (truth b) = 0
  above_free ys (apply op ts) = all_above_free ys ts
  above_free ys (bind q x s t) = above_free (x ∷ ys) t

  pub all_above_free : List Name → Terms → ℕ
  all_above_free ys no_terms = 0
  all_above_free ys (and_term t ts) = max (above_free ys t) (all_above_free ys ts)

-- the term with its bound names numbered from one past its largest free name on
unfoldable pub canonical : Term → Term
canonical t = subst (above_free [] t) [] t

-- the terms are equal up to the names that they bind
abbrev pub SameUpToNames : Term → Term → Type 0
SameUpToNames t u = canonical t ≡ canonical u
