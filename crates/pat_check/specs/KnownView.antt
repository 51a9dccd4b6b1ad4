-- What nodes of what may be known stand for, and how deep what may be known are.
use Rattle.std.specs.Prelude.{ℕ, suc, max, List, [], ◌∷◌}
use Rattle.pat_check.specs.Known.{Known, Knowns, anything, other, number, flag, built, no_knowns, and_known}
use Rattle.pat_check.specs.declared.known.KnownNode.{KnownNode}
use Rattle.pat_check.specs.declared.known.KnownNode.TheVariants as node

abbrev pub knowns_of : List Known → Knowns
knowns_of [] = no_knowns
knowns_of (t ∷ ts) = and_known t (knowns_of ts)

abbrev pub known_of : KnownNode → Known
known_of node.Anything = anything
known_of (node.Other a b) = other a b.items
known_of (node.Number a) = number a
known_of (node.Flag a) = flag a
known_of (node.Built a b) = built a (knowns_of b.items)

abbrev mutual
  pub known_size : Known → ℕ
  known_size anything = 1
  known_size (other a b) = 1
  known_size (number a) = 1
  known_size (flag a) = 1
  known_size (built a b) = suc (knowns_size b)

  pub knowns_size : Knowns → ℕ
  knowns_size no_knowns = 0
  knowns_size (and_known t ts) = max (suc (known_size t)) (knowns_size ts)
