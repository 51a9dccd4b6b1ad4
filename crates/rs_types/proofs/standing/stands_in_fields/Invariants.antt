use Rattle.std.proofs.Common.{◌≡◌, drop}
use Rattle.rs_types.specs.Holding.{in_some_field}
use Rattle.rs_types.specs.Wanting.{wants_adt, wants_param}
use Rattle.rs_types.proofs.standing.stands_in_fields.Given as goal

abbrev pub invariant-loop-i : goal.invariant-loop-i
invariant-loop-i l = in_some_field l.rows (wants_param l.wanted) (wants_adt l.wanted) l.fields ≡ in_some_field l.rows (wants_param l.wanted) (wants_adt l.wanted) (drop l.i l.fields)
