-- The parts of a pattern value are smaller than it.
use Rattle.std.specs.Prelude.{◌≡◌, ℕ, zero, suc, ◌+◌, ◌≤◌, ◌<◌, length, get_or, max, List, [], ◌∷◌}
use Rattle.std.proofs.Common.{arith}
use denote.Param.Weighed.{most}
use Rattle.pat_check.specs.PatValue.{PatValue}
use Rattle.pat_check.specs.PatValueView.{pat_value_of, pat_value_size, pat_values_size, pat_values_of}
use Rattle.pat_check.specs.declared.pat_value.PatValueNode.{PatValueNode}
use Rattle.pat_check.specs.declared.pat_value.PatValueNode.TheVariants as node
use Rattle.pat_check.specs.declared.pat_value.PatValue.TheDeep.{deep-PatValueNode}

most_all : (ts : List PatValue) → most (λ t. pat_value_size t + 1) ts ≤ pat_values_size (pat_values_of ts)
most_all [] = omega arith
most_all (t ∷ ts) = omega (arith, most_all ts)

smaller : (ts : List PatValue) (i : ℕ) (d : PatValue) → i < length ts → pat_value_size (get_or ts i d) < pat_values_size (pat_values_of ts)
smaller [] i d h = absurd (omega arith)
smaller (t ∷ ts) zero d h = omega arith
smaller (t ∷ ts) (suc i) d h = omega (arith, smaller ts i d (omega arith))

pub each_smaller : (ts : List PatValue) (i : ℕ) (t : PatValue) → t ≡ get_or ts i t → i < length ts → pat_value_size t < pat_values_size (pat_values_of ts)
each_smaller ts i t e h = rw e (smaller ts i t h)

pub falls : (n : PatValueNode) → max (deep-PatValueNode n) 0 ≤ pat_value_size (pat_value_of n)
falls node.Any = omega arith
falls (node.Int a) = omega arith
falls (node.Bool a) = omega arith
falls (node.Made a b) = omega (arith, most_all b.items)
