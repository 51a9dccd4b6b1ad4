-- The parts of what is known are smaller than it.
use Rattle.std.specs.Prelude.{◌≡◌, ℕ, zero, suc, ◌+◌, ◌≤◌, ◌<◌, length, get_or, max, List, [], ◌∷◌}
use Rattle.std.proofs.Common.{arith}
use denote.Param.Weighed.{most}
use Rattle.pat_check.specs.Known.{Known}
use Rattle.pat_check.specs.KnownView.{known_of, known_size, knowns_size, knowns_of}
use Rattle.pat_check.specs.declared.known.KnownNode.{KnownNode}
use Rattle.pat_check.specs.declared.known.KnownNode.TheVariants as node
use Rattle.pat_check.specs.declared.known.Known.TheDeep.{deep-KnownNode}

most_all : (ts : List Known) → most (λ t. known_size t + 1) ts ≤ knowns_size (knowns_of ts)
most_all [] = omega arith
most_all (t ∷ ts) = omega (arith, most_all ts)

smaller : (ts : List Known) (i : ℕ) (d : Known) → i < length ts → known_size (get_or ts i d) < knowns_size (knowns_of ts)
smaller [] i d h = absurd (omega arith)
smaller (t ∷ ts) zero d h = omega arith
smaller (t ∷ ts) (suc i) d h = omega (arith, smaller ts i d (omega arith))

pub each_smaller : (ts : List Known) (i : ℕ) (t : Known) → t ≡ get_or ts i t → i < length ts → known_size t < knowns_size (knowns_of ts)
each_smaller ts i t e h = rw e (smaller ts i t h)

pub falls : (n : KnownNode) → max (deep-KnownNode n) 0 ≤ known_size (known_of n)
falls node.Anything = omega arith
falls (node.Other a b) = omega arith
falls (node.Number a) = omega arith
falls (node.Flag a) = omega arith
falls (node.Built a b) = omega (arith, most_all b.items)
