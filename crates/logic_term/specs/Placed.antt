-- A term with terms for its free names, its bound names being numbered by their depth, and reduced where that is asked: substitution
-- and the normal form in one. A name stands for a term at each depth at which it may be put, so that no term has to be numbered again
-- where it is put deeper (normalisation by evaluation: Berger and Schwichtenberg 1991).
use Rattle.std.specs.Prelude.{ℕ, suc, ◌==◌, Bool, cond}
use Rattle.text_core.specs.declared.name.Name.{Name}
use Rattle.logic_term.specs.Term.{Term, Terms, var, lit, truth, apply, bind, no_terms, and_term}
use Rattle.logic_term.specs.Simplified.{formed}

-- what names stand for, at each depth
abbrev pub Placing : Type 0
Placing = Name → ℕ → Term

-- each name stands for itself
abbrev pub itself : Placing
itself x depth = var x

-- the placing with something else for one name
abbrev pub put : Name → (ℕ → Term) → Placing → Placing
put x u σ y depth = cond (y.0 == x.0) (u depth) (σ y depth)

-- the same name at each depth
abbrev pub name_at : ℕ → ℕ → Term
name_at n depth = var (record { 0 = n })

-- the term at depth n, where σ says what its names stand for
abbrev mutual
  pub placed : (reduces : Bool) → ℕ → Placing → Term → Term
  placed r n σ (var x) = σ x n
  placed r n σ (lit z s) = lit z s
  placed r n σ (truth b) = truth b
  placed r n σ (apply op ts) = formed r op (all_placed r n σ ts)
  placed r n σ (bind q x s t) = bind q (record { 0 = n }) s (placed r (suc n) (put x (name_at n) σ) t)

  pub all_placed : (reduces : Bool) → ℕ → Placing → Terms → Terms
  all_placed r n σ no_terms = no_terms
  all_placed r n σ (and_term t ts) = and_term (placed r n σ t) (all_placed r n σ ts)
