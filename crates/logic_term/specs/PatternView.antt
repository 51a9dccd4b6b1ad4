-- What nodes of patterns stand for, and how deep patterns are.
use Rattle.std.specs.Prelude.{ℕ, suc, max, List, [], ◌∷◌}
use Rattle.logic_term.specs.Ty.{Ty}
use Rattle.logic_term.specs.Pattern.{Pat, Pats, wild, bound, literal, truth, shape, no_pats, and_pat}
use Rattle.logic_term.specs.declared.pattern.PatNode.{PatNode}
use Rattle.logic_term.specs.declared.pattern.PatNode.TheVariants as node

abbrev pub pats_of : List Pat → Pats
pats_of [] = no_pats
pats_of (t ∷ ts) = and_pat t (pats_of ts)

abbrev pub pat_of : Ty → PatNode → Pat
pat_of t node.Wild = wild t
pat_of t (node.Bound a b) = bound t a b
pat_of t (node.Literal a b) = literal t a b
pat_of t (node.Truth a) = truth t a
pat_of t (node.Made a b) = shape t a (pats_of b.items)

abbrev mutual
  pub pat_size : Pat → ℕ
  pat_size (wild a) = 1
  pat_size (bound a b c) = 1
  pat_size (literal a b c) = 1
  pat_size (truth a b) = 1
  pat_size (shape a b c) = suc (pats_size c)

  pub pats_size : Pats → ℕ
  pats_size no_pats = 0
  pats_size (and_pat t ts) = max (suc (pat_size t)) (pats_size ts)
