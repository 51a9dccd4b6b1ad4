-- What a callee is looked up in: the bodies, and their contracts.
use Rattle.std.specs.Prelude.{ℕ, Option, Some, option_and_then, slice_get}
use Rattle.logic_term.specs.declared.obligation.Contract.{Contract}
use Rattle.mir_ir.specs.declared.terminator.FnId.TheVariants as fn_id
use Rattle.mir_ir.specs.declared.terminator.Callee.{Callee}
use Rattle.mir_ir.specs.declared.terminator.Callee.TheVariants.{Function}
use Rattle.mir_ir.specs.declared.body.Body.{Body}
use Rattle.mir_ir.specs.declared.body.Bodies.{Bodies}
use Rattle.mir_ir.specs.declared.body.Contracts.{Contracts}

-- the number of the body that a call runs
abbrev pub callee_of : Bodies → Callee → Option ℕ
callee_of bodies (Function (fn_id.Body n)) = Some n

-- that body
abbrev pub callee_body : Bodies → Callee → Option Body
callee_body bodies callee = option_and_then (slice_get bodies.bodies) (callee_of bodies callee)

-- the contract by which a call is reasoned about
abbrev pub contract_at : Contracts → Callee → Option Contract
contract_at contracts (Function (fn_id.Body n)) = slice_get contracts.of n
