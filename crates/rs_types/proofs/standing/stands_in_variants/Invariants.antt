use Rattle.std.proofs.Common.{◌≡◌, drop}
use Rattle.rs_types.specs.Holding.{in_some_variant}
use Rattle.rs_types.specs.Wanting.{wants_adt, wants_param}
use Rattle.rs_types.proofs.standing.stands_in_variants.Given as goal

abbrev pub invariant-loop-i : goal.invariant-loop-i
invariant-loop-i l = in_some_variant l.rows (wants_param l.wanted) (wants_adt l.wanted) l.variants ≡ in_some_variant l.rows (wants_param l.wanted) (wants_adt l.wanted) (drop l.i l.variants)
