-- Which obligations a node owes.
use Rattle.std.specs.Prelude.{◌<◌, ◌==◌, Bool, List, length, map}
use Rattle.std.specs.List.{filter}
use Rattle.logic_term.specs.declared.obligation.Obligation.{Obligation}
use Rattle.mir_ir.specs.declared.body.Bodies.{Bodies}
use Rattle.mir_machine.specs.Good.{Each}
use Rattle.prophecy_sim.specs.declared.node.Node.{Node}
use Rattle.prophecy_sim.specs.declared.node.Node.TheVariants.{Function}
use Rattle.verify_core.specs.declared.owed.Owed.{Owed}

-- the nodes are one
abbrev pub same_node : Node → Node → Bool
same_node (Function n) (Function m) = n == m

abbrev pub obligations_in : List Owed → List Obligation
obligations_in os = map (λ o. o.obligation) os

-- those that the node owes, in their order
abbrev pub owed_by : Node → List Owed → List Obligation
owed_by n os = obligations_in (filter (λ o. same_node n o.by) os)

-- the obligations, all of them owed by the node
abbrev pub owing : Node → List Obligation → List Owed
owing n os = map (λ o. record { by = n; obligation = o }) os

-- the node has a body
abbrev pub HasBody : Bodies → Node → Type 0
HasBody bodies (Function n) = n < length bodies.bodies

-- each obligation is owed by a node that has a body
abbrev pub HaveOwners : Bodies → List Owed → Type 0
HaveOwners bodies os = Each (λ o. HasBody bodies o.by) os
