use Rattle.std.proofs.Common.{◌≡◌, drop, map}
use Rattle.logic_term.specs.Theory.{field_ty}
use Rattle.logic_term.specs.TyView.{tys_of}
use Rattle.rs_types.specs.CopyRows.{all_copy, counted}
use Rattle.rs_types.proofs.copy_rows.fields_copy.Given as goal

abbrev pub invariant-loop-i : goal.invariant-loop-i
invariant-loop-i l = all_copy l.rows (counted l.assumed) (tys_of (map field_ty l.fields)) ≡ all_copy l.rows (counted l.assumed) (tys_of (map field_ty (drop l.i l.fields)))
