-- Which names are free in a term.
use Rattle.std.specs.Prelude.{Bool, false, ◌||◌, ◌&&◌, not, ◌==◌}
use Rattle.text_core.specs.declared.name.Name.{Name}
use Rattle.logic_term.specs.Term.{Term, Terms, var, lit, truth, apply, bind, no_terms, and_term}

abbrev mutual
  pub free : Name → Term → Bool
  free x (var y) = x.0 == y.0
  free x (lit z s) = false
  free x (truth b) = false
  free x (apply op ts) = free_in_some x ts
  free x (bind q y s t) = not (x.0 == y.0) && free x t

  pub free_in_some : Name → Terms → Bool
  free_in_some x no_terms = false
  free_in_some x (and_term t ts) = free x t || free_in_some x ts
