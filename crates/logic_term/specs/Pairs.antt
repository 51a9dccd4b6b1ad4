-- A walk over two terms at once, with a stack of the pairs of parts that it has yet to compare.
use Rattle.std.specs.Prelude.{ℕ, ℤ, Bool, List, map, reverse}
use Rattle.std.specs.Borrow.{Bor}
use Rattle.text_core.specs.declared.name.Name.{Name}
use Rattle.logic_term.specs.Term.{Operator, Quantifier, Term, var, lit, truth, apply, bind, count}
use Rattle.logic_term.specs.Ty.{Ty}

-- what stands at the top of a term, with the number of its parts
pub data Top : Type 0 where
  name : Name → Top
  number : ℤ → Ty → Top
  flag : Bool → Top
  operator : Operator → ℕ → Top
  quantifier : Quantifier → Name → Ty → Top

abbrev pub top : Term → Top
top (var x) = name x
top (lit z s) = number z s
top (truth b) = flag b
top (apply op ts) = operator op (count ts)
top (bind q x s t) = quantifier q x s

-- both sides of the pairs on a stack, the next pair first
abbrev pub firsts : List (Bor Term × Bor Term) → List Term
firsts ps = reverse (map (λ p. p.0.now) ps)

abbrev pub seconds : List (Bor Term × Bor Term) → List Term
seconds ps = reverse (map (λ p. p.1.now) ps)
