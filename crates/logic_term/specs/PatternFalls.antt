-- The parts of a pattern are smaller than it.
use Rattle.std.specs.Prelude.{◌≡◌, ℕ, zero, suc, ◌+◌, ◌≤◌, ◌<◌, length, get_or, max, List, [], ◌∷◌}
use Rattle.std.proofs.Common.{arith}
use denote.Param.Weighed.{most}
use Rattle.logic_term.specs.Ty.{Ty}
use Rattle.logic_term.specs.Pattern.{Pat}
use Rattle.logic_term.specs.PatternView.{pat_of, pat_size, pats_size, pats_of}
use Rattle.logic_term.specs.declared.pattern.PatNode.{PatNode}
use Rattle.logic_term.specs.declared.pattern.PatNode.TheVariants as node
use Rattle.logic_term.specs.declared.pattern.TypedPat.TheDeep.{deep-PatNode}

most_all : (ts : List Pat) → most (λ t. pat_size t + 1) ts ≤ pats_size (pats_of ts)
most_all [] = omega arith
most_all (t ∷ ts) = omega (arith, most_all ts)

smaller : (ts : List Pat) (i : ℕ) (d : Pat) → i < length ts → pat_size (get_or ts i d) < pats_size (pats_of ts)
smaller [] i d h = absurd (omega arith)
smaller (t ∷ ts) zero d h = omega arith
smaller (t ∷ ts) (suc i) d h = omega (arith, smaller ts i d (omega arith))

pub each_smaller : (ts : List Pat) (i : ℕ) (t : Pat) → t ≡ get_or ts i t → i < length ts → pat_size t < pats_size (pats_of ts)
each_smaller ts i t e h = rw e (smaller ts i t h)

pub falls : (t : Ty) (n : PatNode) → max (deep-PatNode n) 0 ≤ pat_size (pat_of t n)
falls t node.Wild = omega arith
falls t (node.Bound a b) = omega arith
falls t (node.Literal a b) = omega arith
falls t (node.Truth a) = omega arith
falls t (node.Made a b) = omega (arith, most_all b.items)
