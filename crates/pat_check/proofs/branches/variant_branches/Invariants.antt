use Rattle.std.proofs.Common.{◌≡◌, take, map}
use Rattle.pat_check.specs.Branches.{field_tys, variant_branches}
use Rattle.pat_check.proofs.branches.variant_branches.Given as goal

abbrev pub invariant-loop-j : goal.invariant-loop-j
invariant-loop-j l = l.branches.items ≡ variant_branches l.known l.path l.adt 0 (take l.j (map field_tys l.variants))
