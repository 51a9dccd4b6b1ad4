-- A term with other terms in the place of some of its subterms.
use Rattle.std.specs.Prelude.{ℕ, suc, Bool, [], Option, Some, None, if◌then◌else◌}
use Rattle.logic_term.specs.Normal.{reduced}
use Rattle.logic_term.specs.Subst.{subst}
use Rattle.logic_term.specs.Term.{choice, Term, Terms, var, lit, truth, apply, bind, no_terms, and_term}

-- what may stand in a term's place: another term; or the first side of an `if`, or its second
pub data Instead : Type 0 where
  put : Term → Instead
  side : Bool → Instead

-- what a term may have, at each depth, in its place
abbrev pub Exchange : Type 0
Exchange = ℕ → Term → Option Instead

abbrev pub side_of : Bool → Term → Term
side_of first (apply choice (and_term c (and_term a (and_term b no_terms)))) = if first then a else b
side_of first t = t

-- what stands in the place of the term, where there is such
abbrev pub or_else : Option Instead → Term → Term
or_else None t = t
or_else (Some (put u)) t = u
or_else (Some (side first)) t = side_of first t

-- the term at depth n: each subterm that has something else at its depth becomes that, outermost first. A term that is put is not looked into, and
-- the side of an `if` is
abbrev mutual
  pub exchanged : Exchange → ℕ → Term → Term
  exchanged h n (var x) = or_else (h n (var x)) (var x)
  exchanged h n (lit z s) = or_else (h n (lit z s)) (lit z s)
  exchanged h n (truth b) = or_else (h n (truth b)) (truth b)
  exchanged h n (apply op ts) = or_else (h n (apply op ts)) (apply op (all_exchanged h n ts))
  exchanged h n (bind q x s t) = or_else (h n (bind q x s t)) (bind q x s (exchanged h (suc n) t))

  pub all_exchanged : Exchange → ℕ → Terms → Terms
  all_exchanged h n no_terms = no_terms
  all_exchanged h n (and_term t ts) = and_term (exchanged h n t) (all_exchanged h n ts)

-- the normal form of the term so, the names that it binds being numbered from n on
abbrev pub changed_from : Exchange → ℕ → Term → Term
changed_from h n t = reduced (exchanged h n (subst n [] t))
