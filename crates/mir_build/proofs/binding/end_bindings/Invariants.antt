use Rattle.std.proofs.Common.{◌≡◌, take, drop, length}
use Rattle.mir_build.specs.Built.{written}
use Rattle.mir_build.specs.Bindings.{all_die}
use Rattle.mir_build.proofs.binding.end_bindings.Given as goal

abbrev pub invariant-loop-span : goal.invariant-loop-span
invariant-loop-span l = record {
  text : written (all_die l.outer l.span (drop l.before l.c.scope.items)) l.b.text ≡ written (all_die l.outer l.span (drop l.before l.initial.c.scope.items)) l.initial.b.text;
  labels : l.b.labels ≡ l.initial.b.labels;
  locals : length l.b.text.locals ≡ length l.initial.b.text.locals;
  scope : take l.before l.c.scope.items ≡ take l.before l.initial.c.scope.items;
  types : l.c.types ≡ l.initial.c.types;
  loops : l.c.loops ≡ l.initial.c.loops;
}

abbrev pub decreases-loop-span : goal.decreases-loop-span
decreases-loop-span l = length l.c.scope.items
