use Rattle.std.proofs.Common.{◌≡◌, ◌++◌, drop}
use Rattle.mir_build.specs.Lowering.{places_for}
use Rattle.mir_build.proofs.around.places_for.Given as goal

abbrev pub invariant-loop-place : goal.invariant-loop-place
invariant-loop-place l = l.all.items ++ places_for l.variable (drop l.place-index l.scope) ≡ places_for 0 l.scope
