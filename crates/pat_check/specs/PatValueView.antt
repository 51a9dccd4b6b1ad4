-- What nodes of pattern values stand for, and how deep pattern values are.
use Rattle.std.specs.Prelude.{ℕ, suc, max, List, [], ◌∷◌}
use Rattle.pat_check.specs.PatValue.{PatValue, PatValues, any, integer, truth, made, no_parts, and_part}
use Rattle.pat_check.specs.declared.pat_value.PatValueNode.{PatValueNode}
use Rattle.pat_check.specs.declared.pat_value.PatValueNode.TheVariants as node

abbrev pub pat_values_of : List PatValue → PatValues
pat_values_of [] = no_parts
pat_values_of (t ∷ ts) = and_part t (pat_values_of ts)

abbrev pub pat_value_of : PatValueNode → PatValue
pat_value_of node.Any = any
pat_value_of (node.Int a) = integer a
pat_value_of (node.Bool a) = truth a
pat_value_of (node.Made a b) = made a (pat_values_of b.items)

abbrev mutual
  pub pat_value_size : PatValue → ℕ
  pat_value_size any = 1
  pat_value_size (integer a) = 1
  pat_value_size (truth a) = 1
  pat_value_size (made a b) = suc (pat_values_size b)

  pub pat_values_size : PatValues → ℕ
  pat_values_size no_parts = 0
  pat_values_size (and_part t ts) = max (suc (pat_value_size t)) (pat_values_size ts)
