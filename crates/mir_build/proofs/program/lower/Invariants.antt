use Rattle.std.proofs.Common.{◌≤◌, length, take}
use Rattle.std.specs.List.{All}
use Rattle.mir_ir.specs.declared.body.Body.{Body}
use Rattle.type_check.specs.WellTyped.{signatures}
use Rattle.mir_build.specs.Lowering.{EachLowersTo}
use Rattle.mir_build.proofs.program.lower.Given as goal

abbrev pub invariant-loop-f : goal.invariant-loop-f
invariant-loop-f l = record {
  lowered : EachLowersTo l.fn.names l.fn.decls (signatures l.fn.program.functions) 0 (take l.f-index l.fn.program.functions) l.bodies l.contracts l.gone;
  few : All (λ (b : Body). length b.blocks ≤ 4096) l.bodies;
}
