use Rattle.std.proofs.Common.{◌≡◌, ◌++◌, drop}
use Rattle.rs_types.specs.Weighing.{roots_from}
use Rattle.rs_types.proofs.settling.roots.Given as goal

abbrev pub invariant-loop-d : goal.invariant-loop-d
invariant-loop-d l = l.cases.items ++ roots_from l.d (drop l.d l.decls) ≡ roots_from 0 l.decls
