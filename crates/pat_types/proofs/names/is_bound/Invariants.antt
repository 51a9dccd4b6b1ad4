use Rattle.std.proofs.Common.{◌≡◌, drop}
use Rattle.pat_types.specs.PatternTyping.{is_bound}
use Rattle.pat_types.proofs.names.is_bound.Given as goal

abbrev pub invariant-loop-bound : goal.invariant-loop-bound
invariant-loop-bound l = is_bound l.name (drop l.bound-index l.names) ≡ is_bound l.name l.names
